-- What the pass finds is what the rules speak of: the live slot at a place, and the greatest live rank before it.
--     Holds rs ss p          slot p is live, and at the place
--     Held rs ss o           what is known of the answer o of `holder`
--     Greatest rs ss low     low is the greatest rank before the key
use Rattle.std.proofs.Common.{◌≡◌, ℕ, zero, suc, ◌<◌, ◌≤◌, max, Bool, true, false, cond, ◌&&◌, eqb, ltb, ◌≢◌, ◌⊎◌, List, [], ◌∷◌, length, get_or, Some, None, Option, Result, Ok, Err, sym, refl, ap, ◌∙◌, ap₂, inl, inr, ⊎_elim, arith}
use Rattle.std.proofs.lemmas.Bool.{cases_eq, cases_lt, cases_order}
use Rattle.std.proofs.lemmas.Bool.Decides.{nat_tests}
use Rattle.leaf.specs.Rules.{further, holder, floor, taken_from}
use Rattle.leaf.specs.Seeks.{Level, Inside, taken, Parted, Sought}
use Rattle.leaf.specs.declared.seek.Gap.{Gap}
use Rattle.leaf.proofs.Sides.{Arranged, live_within}

abbrev pub Holds : List ℕ → List ℕ → ℕ → Type 0
Holds rs ss p = (0 < get_or rs p 0) × (get_or ss p 0 ≡ 1)

abbrev pub Held : List ℕ → List ℕ → Option ℕ → Type 0
Held rs ss None = (p : ℕ) → Holds rs ss p → ⊥
Held rs ss (Some p) = Holds rs ss p

none_further : (r s : ℕ) (rs ss : List ℕ) → (0 < r → s ≡ 1 → ⊥) → Held rs ss None → Held (r ∷ rs) (s ∷ ss) None
none_further r s rs ss n h zero k = n k.0 k.1
none_further r s rs ss n h (suc p) k = h p k

held_further : (r s : ℕ) (rs ss : List ℕ) (o : Option ℕ) → (0 < r → s ≡ 1 → ⊥) → Held rs ss o → Held (r ∷ rs) (s ∷ ss) (further o)
held_further r s rs ss None n h = none_further r s rs ss n h
held_further r s rs ss (Some p) n h = h

pub held : (rs ss : List ℕ) → Held rs ss (holder rs ss)
held [] ss = λ p h. omega (arith, h.0)
held (r ∷ rs) [] = λ p h. omega (arith, h.1)
held (r ∷ rs) (s ∷ ss) = go (ltb 0 r && eqb s 1) refl (held rs ss)
  where
    go : (t : Bool) → (ltb 0 r && eqb s 1) ≡ t → Held rs ss (holder rs ss) → Held (r ∷ rs) (s ∷ ss) (cond t (Some 0) (further (holder rs ss)))
    go true e h = (grind (arith, nat_tests), grind (arith, nat_tests))
    go false e h = held_further r s rs ss (holder rs ss) (λ l k. grind (arith, nat_tests)) h

pub record Greatest (rs ss : List ℕ) (low : ℕ) : Type 0 where
  pub most : (p : ℕ) → p < length ss → get_or ss p 0 ≡ 0 → get_or rs p 0 ≤ low
  pub some : (low ≡ 0) ⊎ ((p : ℕ) × (p < length ss) × (get_or ss p 0 ≡ 0) × (get_or rs p 0 ≡ low))

pub greatest : (rs ss : List ℕ) → Greatest rs ss (floor rs ss)
greatest [] ss = record { most = λ p h e. omega arith; some = inl refl }
greatest (r ∷ rs) [] = record { most = λ p h e. absurd (omega arith); some = inl refl }
greatest (r ∷ rs) (s ∷ ss) =
    let g = greatest rs ss in
    record {
      most = most_of r s rs ss (floor rs ss) g.most;
      some = ⊎_elim
          (λ h. inr (0, omega arith, h.0, sym (first r s (floor rs ss) h.0 h.1)))
          (λ h. let e = rest r s (floor rs ss) h in elim g.some [ inl z ↦ inl (e ∙ z) | inr q ↦ inr (suc q.0, omega (arith, q.1), q.2, q.3 ∙ sym e) ])
          (either r s (floor rs ss));
    }
  where
    first : (r s m : ℕ) → s ≡ 0 → m < r → max (cond (eqb s 0) r 0) m ≡ r
    first r s m z l = grind (arith, nat_tests)

    rest : (r s m : ℕ) → (s ≢ 0) ⊎ (r ≤ m) → max (cond (eqb s 0) r 0) m ≡ m
    rest r s m h = grind (arith, nat_tests)

    either : (r s m : ℕ) → ((s ≡ 0) × (m < r)) ⊎ ((s ≢ 0) ⊎ (r ≤ m))
    either r s m = ⊎_elim (λ z. ⊎_elim (λ l. inl (z, l)) (λ l. inr (inr l)) (cases_lt m r)) (λ z. inr (inl z)) (cases_eq s 0)

    most_of : (r s : ℕ) (rs ss : List ℕ) (m : ℕ) → ((p : ℕ) → p < length ss → get_or ss p 0 ≡ 0 → get_or rs p 0 ≤ m) → (p : ℕ) → p < suc (length ss) → get_or (s ∷ ss) p 0 ≡ 0 → get_or (r ∷ rs) p 0 ≤ max (cond (eqb s 0) r 0) m
    most_of r s rs ss m h zero l e = grind (arith, nat_tests)
    most_of r s rs ss m h (suc p) l e = let k = h p (omega arith) e in grind (arith, nat_tests)

-- ---- where ranks order keys

module _ (rs ss : List ℕ) (nr : length rs ≡ 15) (ns : length ss ≡ 15) (ord : Arranged rs ss) where
  -- one live slot at most is at a place
  pub one_at_most : (p q : ℕ) → Holds rs ss p → Holds rs ss q → p ≡ q
  one_at_most p q a b = ⊎_elim
      (λ e. ord.apart p q a.0 e)
      (⊎_elim
      (λ l. absurd (omega (arith, ord.rises p q (live_within rs nr p a.0) (live_within rs nr q b.0) a.0 l (omega (arith, a.1)), b.1)))
      (λ l. absurd (omega (arith, ord.rises q p (live_within rs nr q b.0) (live_within rs nr p a.0) b.0 l (omega (arith, b.1)), a.1))))
      (cases_order (get_or rs p 0) (get_or rs q 0))

  pub holder_same : (p : ℕ) → 0 < get_or rs p 0 → get_or ss p 0 ≡ 1 → holder rs ss ≡ Some p
  holder_same p l e = found (holder rs ss) (held rs ss)
    where
      found : (o : Option ℕ) → Held rs ss o → o ≡ Some p
      found None h = absurd (h p (l, e))
      found (Some q) h = ap Some (one_at_most q p h (l, e))

  module _ {low : ℕ} {next : Option ℕ} (level : Level rs low) (part : Parted rs ss low next) where
    pub holder_between : holder rs ss ≡ None
    holder_between = none (holder rs ss) (held rs ss)
      where
        none : (o : Option ℕ) → Held rs ss o → o ≡ None
        none None h = refl
        none (Some p) h = absurd (⊎_elim
            (λ up. omega (arith, part.above p (live_within rs nr p h.0) up, h.1))
            (λ up. omega (arith, part.below p (live_within rs nr p h.0) h.0 up, h.1))
            (cases_lt low (get_or rs p 0)))

    pub floor_between : floor rs ss ≡ low
    floor_between =
        let g = greatest rs ss in
        let up : floor rs ss ≤ low = elim g.some [
          | inl z ↦ omega arith
          | inr q ↦ ⊎_elim (λ l. absurd (omega (arith, part.above q.0 (omega (arith, q.1)) (omega (arith, q.3)), q.2))) (λ l. omega (arith, q.3)) (cases_lt low (get_or rs q.0 0))
        ] in
        elim level [
          | inl z ↦ omega arith
          | inr (p, h, e) ↦ ⊎_elim (λ z. omega arith) (λ z. omega (arith, g.most p (omega arith) (part.below p h (omega arith) (omega arith)))) (cases_eq low 0)
        ]

  pub taken_filed : (spot : Result ℕ Gap) (f : ℕ) → Inside rs spot → Sought rs ss spot → taken rs spot f ≡ taken_from (holder rs ss) rs (floor rs ss) f
  taken_filed (Ok p) f i s = ap (λ o. taken_from o rs (floor rs ss) f) (sym (holder_same p i.1 s))
  taken_filed (Err gap) f i s = ap₂ (λ o l. taken_from o rs l f) (sym (holder_between i.0 s)) (sym (floor_between i.0 s))
