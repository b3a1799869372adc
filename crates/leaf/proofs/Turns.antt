-- The pass over the slots of a leaf that looks for a key, over ranks and sides alone.
--     Seen rs ss low high pos     what is known after the slots below pos: ranks up to low are before the key, those from high on after it
--     Tame rs low high next       what holds whatever the slots hold
use Rattle.std.proofs.Common.{◌≡◌, ℕ, ◌+◌, ◌<◌, ◌≤◌, ◌⊎◌, List, get_or, Some, None, Option, MatchOption, Err, sym, refl, ap, ◌∙◌, subst, inl, inr, ⊎_elim, arith, below_more}
use Rattle.std.proofs.lemmas.Bool.{cases_eq, cases_lt}
use Rattle.ranks.proofs.Words.{NoneLeft}
use Rattle.leaf.specs.Seeks.{Level, Inside, Parted}
use Rattle.leaf.proofs.Sides.{Arranged}

-- ---- one turn

pub record Seen (rs ss : List ℕ) (low high pos : ℕ) : Type 0 where
  pub below : (q : ℕ) → q < 15 → 0 < get_or rs q 0 → get_or rs q 0 ≤ low → get_or ss q 0 ≡ 0
  pub above : (q : ℕ) → q < 15 → high ≤ get_or rs q 0 → 2 ≤ get_or ss q 0
  pub known : (q : ℕ) → q < pos → low < get_or rs q 0 → high ≤ get_or rs q 0
  pub mine : (q : ℕ) → q < 15 → get_or rs q 0 ≡ high → q < pos

pub seen_none : (rs ss : List ℕ) → ((i : ℕ) → get_or rs i 0 < 16) → Seen rs ss 0 255 0
seen_none rs ss u = record {
  below = λ q h l e. absurd (omega arith);
  above = λ q h l. absurd (omega (arith, u q));
  known = λ q h l. absurd (omega arith);
  mine = λ q h e. absurd (omega (arith, u q));
}

module _ {rs ss : List ℕ} {low high pos : ℕ} (in_leaf : pos < 15) (o : Arranged rs ss) (s : Seen rs ss low high pos) where
  pub seen_skip : (get_or rs pos 0 ≤ low) ⊎ (high ≤ get_or rs pos 0) → Seen rs ss low high (pos + 1)
  seen_skip w = record {
    below = s.below;
    above = s.above;
    known = below_more (λ q. low < get_or rs q 0 → high ≤ get_or rs q 0) pos s.known (λ l. omega arith);
    mine = λ q h e. omega (arith, s.mine q h e);
  }

  pub seen_before : low < get_or rs pos 0 → get_or ss pos 0 ≡ 0 → Seen rs ss (get_or rs pos 0) high (pos + 1)
  seen_before l z = record {
    below = λ q h p e. ⊎_elim
        (λ same. ap (λ i. get_or ss i 0) (o.apart q pos p same) ∙ z)
        (λ ne. ⊎_elim (λ one. absurd (omega (arith, o.rises q pos h in_leaf p (omega arith) one))) (λ z. omega arith) (cases_lt 0 (get_or ss q 0)))
        (cases_eq (get_or rs q 0) (get_or rs pos 0));
    above = s.above;
    known = below_more (λ q. get_or rs pos 0 < get_or rs q 0 → high ≤ get_or rs q 0) pos (λ q h r. s.known q h (omega arith)) (λ r. absurd (omega arith));
    mine = λ q h e. omega (arith, s.mine q h e);
  }

  pub seen_after : low < get_or rs pos 0 → get_or rs pos 0 < high → 2 ≤ get_or ss pos 0 → Seen rs ss low (get_or rs pos 0) (pos + 1)
  seen_after l r z = record {
    below = s.below;
    above = λ q h e. ⊎_elim
        (λ same. subst (λ i. 2 ≤ get_or ss i 0) (o.apart pos q (omega arith) same) z)
        (λ ne. o.rises pos q in_leaf h (omega arith) (omega arith) (omega arith))
        (cases_eq (get_or rs pos 0) (get_or rs q 0));
    known = below_more (λ q. low < get_or rs q 0 → get_or rs pos 0 ≤ get_or rs q 0) pos (λ q h p. omega (arith, s.known q h p)) (λ p. omega arith);
    mine = λ q h e. omega (arith, o.apart pos q (omega arith) (sym e));
  }

-- ---- the end: no rank is left from slot pos on

seen_all : {rs ss : List ℕ} {low high pos : ℕ} → NoneLeft rs pos → Seen rs ss low high pos → (q : ℕ) → low < get_or rs q 0 → high ≤ get_or rs q 0
seen_all {rs} {ss} {low} {high} {pos} n s q l = ⊎_elim (λ h. s.known q h l) (λ h. absurd (omega (arith, n q h))) (cases_lt q pos)

-- ---- what holds whatever the slots hold

pub record Tame (rs : List ℕ) (low high : ℕ) (next : Option ℕ) : Type 0 where
  pub level : Level rs low
  pub under : low < high
  pub found : MatchOption next (16 ≤ high) (λ best. (best < 15) × (get_or rs best 0 ≡ high))

pub tame_none : (rs : List ℕ) → Tame rs 0 255 None
tame_none rs = record { level = inl refl; under = omega arith; found = omega arith }

module _ {rs : List ℕ} {low high pos rank : ℕ} {next : Option ℕ} (t : Tame rs low high next) (in_leaf : pos < 15) (r : rank ≡ get_or rs pos 0) where
  pub tame_less : low < rank → Tame rs low rank (Some pos)
  tame_less l = record { level = t.level; under = l; found = (in_leaf, sym r) }

  pub tame_greater : rank < high → Tame rs rank high next
  tame_greater l = record { level = inr (pos, in_leaf, sym r); under = l; found = t.found }

pub tame_inside : {rs : List ℕ} {low high : ℕ} (next : Option ℕ) → Tame rs low high next → Inside rs (Err (record { low = low; next = next }))
tame_inside None t = (t.level, tt)
tame_inside (Some best) t = (t.level, (t.found.0, omega (arith, t.found.1, t.under)))

pub parted : {rs ss : List ℕ} {low high pos : ℕ} (next : Option ℕ) → NoneLeft rs pos → ((i : ℕ) → get_or rs i 0 < 16) → Tame rs low high next → Seen rs ss low high pos → Parted rs ss low next
parted {rs} {ss} {low} {high} next n u t s = record {
  below = s.below;
  above = λ p h l. s.above p h (seen_all n s p l);
  least = least next t;
}
  where
    least : (o : Option ℕ) → Tame rs low high o → MatchOption o ((p : ℕ) → p < 15 → get_or rs p 0 ≤ low) (λ best. (low < get_or rs best 0) × ((p : ℕ) → p < 15 → low < get_or rs p 0 → get_or rs best 0 ≤ get_or rs p 0))
    least None t = λ p h. ⊎_elim (λ l. absurd (omega (arith, u p, t.found, seen_all n s p l))) (λ l. l) (cases_lt low (get_or rs p 0))
    least (Some best) t = (omega (arith, t.found.1, t.under), λ p h l. omega (arith, t.found.1, seen_all n s p l))
