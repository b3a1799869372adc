-- What a key that takes the free slot f does to the ranks, slot by slot: the same for a new key and for one that is replaced.
--     Took     whatever the slots hold
--     Effect   where ranks order keys; ss are the sides seen from the key
use Rattle.std.proofs.Common.{◌≡◌, ℕ, ◌+◌, ◌<◌, ◌≤◌, ◌≢◌, ◌⊎◌, List, length, get_or, set, Result, Ok, Err, sym, ap, ◌∙◌, subst, inl, inr, ⊎_elim, arith}
use Rattle.std.proofs.lemmas.List.{length-set, get_or-set_same, get_or-set_other}
use Rattle.std.proofs.lemmas.Bool.{cases_eq, cases_lt, cases_order}
use Rattle.ranks.specs.Words.{lifted}
use Rattle.ranks.specs.Indexes.{Apart}
use Rattle.ranks.proofs.Lifts.{lift_up, lift_flat, length_lifted, get_or_lifted, lifted_same}
use Rattle.leaf.specs.Seeks.{Level, Inside, taken, Sought}
use Rattle.leaf.specs.declared.seek.Gap.{Gap}
use Rattle.leaf.proofs.Sides.{Arranged}

pub record Took (rs rs' : List ℕ) (u f : ℕ) : Type 0 where
  pub bound : (p : ℕ) → get_or rs' p 0 ≤ u + 1
  pub dead : (p : ℕ) → p ≢ f → get_or rs p 0 ≡ 0 → get_or rs' p 0 ≡ 0
  pub live : (p : ℕ) → p ≢ f → 0 < get_or rs' p 0 → 0 < get_or rs p 0
  pub mono : (p q : ℕ) → p ≢ f → q ≢ f → 0 < get_or rs' p 0 → get_or rs' p 0 < get_or rs' q 0 → get_or rs p 0 < get_or rs q 0
  pub apart : Apart rs'

pub record Effect (ss rs' : List ℕ) (f : ℕ) : Type 0 where
  pub kept : (p : ℕ) → p < 15 → p ≢ f → 0 < get_or rs' p 0 → ((get_or ss p 0 ≡ 0) × (get_or rs' p 0 < get_or rs' f 0)) ⊎ ((2 ≤ get_or ss p 0) × (get_or rs' f 0 < get_or rs' p 0))

-- ranks that differ away from f, and from that at f
apart_by : (rs' : List ℕ) (f : ℕ) → ((p : ℕ) → p ≢ f → 0 < get_or rs' p 0 → get_or rs' p 0 ≢ get_or rs' f 0) → ((p q : ℕ) → p ≢ f → q ≢ f → 0 < get_or rs' p 0 → get_or rs' p 0 ≡ get_or rs' q 0 → p ≡ q) → Apart rs'
apart_by rs' f one two p q l e = ⊎_elim
    (λ (pf : p ≡ f). ⊎_elim (λ qf. pf ∙ sym qf) (λ qn. absurd (one q qn (omega arith) (sym e ∙ ap (λ i. get_or rs' i 0) pf))) (cases_eq q f))
    (λ pn. ⊎_elim (λ (qf : q ≡ f). absurd (one p pn l (e ∙ ap (λ i. get_or rs' i 0) qf))) (λ qn. two p q pn qn l e) (cases_eq q f))
    (cases_eq p f)

-- ---- a new key

module _ (rs : List ℕ) (nr : length rs ≡ 15) (low f : ℕ) (hf : f < 15) where
  abbrev new : List ℕ
  new = set (lifted low rs) f (low + 1)

  new_f : get_or new f 0 ≡ low + 1
  new_f = get_or-set_same (lifted low rs) f (low + 1) 0 (omega (arith, length_lifted low rs))

  abbrev Turn : ℕ → Type 0
  Turn p = ((get_or rs p 0 ≤ low) × (get_or new p 0 ≡ get_or rs p 0)) ⊎ ((low < get_or rs p 0) × (get_or new p 0 ≡ get_or rs p 0 + 1))

  turns : (p : ℕ) → p ≢ f → Turn p
  turns p n =
      let e = get_or-set_other (lifted low rs) f p (low + 1) 0 n ∙ get_or_lifted low rs p in
      ⊎_elim (λ h. inr (h, e ∙ lift_up low _ h)) (λ h. inl (h, omega (arith, e, lift_flat low (get_or rs p 0) h))) (cases_lt low (get_or rs p 0))

  pub took_new : (u : ℕ) → low ≤ u → ((i : ℕ) → get_or rs i 0 ≤ u) → Apart rs → Took rs new u f
  took_new u h b apart = record {
    bound = λ p. ⊎_elim (λ e. omega (arith, ap (λ i. get_or new i 0) e ∙ new_f)) (λ n. elim (turns p n) [ inl c ↦ omega (arith, b p) | inr c ↦ omega (arith, b p) ]) (cases_eq p f);
    dead = λ p n z. elim (turns p n) [ inl c ↦ omega arith | inr c ↦ absurd (omega arith) ];
    live = λ p n l. elim (turns p n) [ inl c ↦ omega arith | inr c ↦ omega arith ];
    mono = λ p q np nq l e. elim (turns p np) [ inl c ↦ elim (turns q nq) [ inl d ↦ omega arith | inr d ↦ omega arith ] | inr c ↦ elim (turns q nq) [ inl d ↦ absurd (omega arith) | inr d ↦ omega arith ] ];
    apart = apart_by new f
        (λ p n l e. elim (turns p n) [ inl c ↦ omega (arith, new_f) | inr c ↦ omega (arith, new_f) ])
        (λ p q np nq l e. elim (turns p np) [
          | inl c ↦ elim (turns q nq) [ inl d ↦ apart p q (omega arith) (omega arith) | inr d ↦ absurd (omega arith) ]
          | inr c ↦ elim (turns q nq) [ inl d ↦ absurd (omega arith) | inr d ↦ apart p q (omega arith) (omega arith) ]
        ]);
  }

  pub effect_new : (ss : List ℕ) → ((p : ℕ) → p < 15 → 0 < get_or rs p 0 → get_or rs p 0 ≤ low → get_or ss p 0 ≡ 0) → ((p : ℕ) → p < 15 → low < get_or rs p 0 → 2 ≤ get_or ss p 0) → Effect ss new f
  effect_new ss below above = record {
    kept = λ p h n l. elim (turns p n) [ inl c ↦ inl (below p h (omega arith) c.0, omega (arith, new_f)) | inr c ↦ inr (above p h c.0, omega (arith, new_f)) ];
  }

-- ---- a key that is replaced: slot o hands its rank over

module _ (rs : List ℕ) (nr : length rs ≡ 15) (o f : ℕ) (ho : o < 15) (lo : 0 < get_or rs o 0) (hf : f < 15) where
  abbrev moved : List ℕ
  moved = set (set rs o 0) f (get_or rs o 0)

  moved_f : get_or moved f 0 ≡ get_or rs o 0
  moved_f = get_or-set_same (set rs o 0) f (get_or rs o 0) 0 (omega (arith, length-set rs o 0))

  hands : (p : ℕ) → p ≢ f → ((p ≡ o) × (get_or moved p 0 ≡ 0)) ⊎ ((p ≢ o) × (get_or moved p 0 ≡ get_or rs p 0))
  hands p n =
      let e = get_or-set_other (set rs o 0) f p (get_or rs o 0) 0 n in
      ⊎_elim (λ z. inl (z, e ∙ ap (λ i. get_or (set rs o 0) i 0) z ∙ get_or-set_same rs o 0 0 (omega arith))) (λ m. inr (m, e ∙ get_or-set_other rs o p 0 0 m)) (cases_eq p o)

  pub took_moved : (u : ℕ) → ((i : ℕ) → get_or rs i 0 ≤ u) → Apart rs → Took rs moved u f
  took_moved u b apart = record {
    bound = λ p. ⊎_elim (λ e. omega (arith, ap (λ i. get_or moved i 0) e ∙ moved_f, b o)) (λ n. elim (hands p n) [ inl c ↦ omega arith | inr c ↦ omega (arith, b p) ]) (cases_eq p f);
    dead = λ p n z. elim (hands p n) [ inl c ↦ c.1 | inr c ↦ omega arith ];
    live = λ p n l. elim (hands p n) [ inl c ↦ absurd (omega arith) | inr c ↦ omega arith ];
    mono = λ p q np nq l e. elim (hands p np) [ inl c ↦ absurd (omega arith) | inr c ↦ elim (hands q nq) [ inl d ↦ absurd (omega arith) | inr d ↦ omega arith ] ];
    apart = apart_by moved f
        (λ p n l e. elim (hands p n) [ inl c ↦ omega arith | inr c ↦ c.0 (apart p o (omega arith) (omega (arith, moved_f))) ])
        (λ p q np nq l e. elim (hands p np) [ inl c ↦ absurd (omega arith) | inr c ↦ elim (hands q nq) [ inl d ↦ absurd (omega arith) | inr d ↦ apart p q (omega arith) (omega arith) ] ]);
  }

  pub effect_moved : (ss : List ℕ) → Arranged rs ss → get_or ss o 0 ≡ 1 → Effect ss moved f
  effect_moved ss ord one = record {
    kept = λ p h n l. elim (hands p n) [
      | inl c ↦ absurd (omega arith)
      | inr c ↦ ⊎_elim
          (λ e. absurd (c.0 (ord.apart p o (omega arith) e)))
          (⊎_elim
          (λ b. inl (⊎_elim (λ y. absurd (omega (arith, ord.rises p o h ho (omega arith) b y))) (λ y. omega arith) (cases_lt 0 (get_or ss p 0)), omega (arith, moved_f)))
          (λ b. inr (ord.rises o p ho h lo b (omega arith), omega (arith, moved_f))))
          (cases_order (get_or rs p 0) (get_or rs o 0))
    ];
  }

-- ---- a key after all others

pub took_last : (rs : List ℕ) (u f : ℕ) → length rs ≡ 15 → f < 15 → ((i : ℕ) → get_or rs i 0 ≤ u) → Apart rs → Took rs (set rs f (u + 1)) u f
took_last rs u f nr hf b apart = subst (λ ds. Took rs (set ds f (u + 1)) u f) (lifted_same u rs b) (took_new rs nr u f hf u (omega arith) b apart)

-- ---- both

level_le : (rs : List ℕ) (low u : ℕ) → Level rs low → ((i : ℕ) → get_or rs i 0 ≤ u) → low ≤ u
level_le rs low u (inl e) b = omega arith
level_le rs low u (inr (x, h, e)) b = omega (arith, b x)

pub took : (rs : List ℕ) (spot : Result ℕ Gap) (u f : ℕ) → length rs ≡ 15 → f < 15 → Inside rs spot → ((i : ℕ) → get_or rs i 0 ≤ u) → Apart rs → Took rs (taken rs spot f) u f
took rs (Ok o) u f nr hf i b apart = took_moved rs nr o f i.0 i.1 hf u b apart
took rs (Err gap) u f nr hf i b apart = took_new rs nr gap.low f hf u (level_le rs gap.low u i.0 b) b apart

pub effect : (rs ss : List ℕ) (spot : Result ℕ Gap) (f : ℕ) → length rs ≡ 15 → f < 15 → Inside rs spot → Arranged rs ss → Sought rs ss spot → Effect ss (taken rs spot f) f
effect rs ss (Ok o) f nr hf i ord s = effect_moved rs nr o f i.0 i.1 hf ss ord s
effect rs ss (Err gap) f nr hf i ord s = effect_new rs nr gap.low f hf ss s.below s.above

-- the free slot becomes live
pub taken_live : (rs : List ℕ) (spot : Result ℕ Gap) (f : ℕ) → length rs ≡ 15 → f < 15 → Inside rs spot → 0 < get_or (taken rs spot f) f 0
taken_live rs (Ok o) f nr hf i = omega (arith, i.1, get_or-set_same (set rs o 0) f (get_or rs o 0) 0 (omega (arith, length-set rs o 0)))
taken_live rs (Err gap) f nr hf i = omega (arith, get_or-set_same (lifted gap.low rs) f (gap.low + 1) 0 (omega (arith, length_lifted gap.low rs)))
