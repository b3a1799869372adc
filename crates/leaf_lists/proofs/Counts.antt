-- How many slots of a leaf there are, and how many are live.
use Rattle.std.proofs.Common.{◌≡◌, ℕ, zero, suc, ◌+◌, ◌<◌, ◌≤◌, true, false, not, ◌&&◌, eqb, ◌⊎◌, List, [], ◌∷◌, length, get_or, sym, refl, ap, ◌∙◌, ap₂, inl, inr, ⊎_elim, arith}
use lib.Count.{ones}
use Rattle.std.proofs.lemmas.Bool.{cases_eq, cases_lt}
use Rattle.std.proofs.lemmas.Bool.Decides.{nat_tests}
use Rattle.ranks.specs.Boundaries.{by_use, live_count}
use Rattle.ranks.specs.Dimensions.{slot_pos}
use Rattle.ranks.specs.Words.{ranks_of, is_empty}
use Rattle.ranks.proofs.Uses.{use_of, use_lt, slot_use}
use Rattle.ranks.proofs.Words.{length_digits}
use Rattle.lists.specs.Leaves.{lives, empty, spent, retired}
use Rattle.leaf.specs.declared.array.Array.{Array}
use Rattle.leaf.specs.declared.data_block.Slot.{Slot}
use Rattle.leaf.proofs.Sides.{live_within}
use Rattle.leaf.proofs.Wholes.{whole_out}
use Rattle.leaf_lists.specs.Stands.{leaf_from, leaf_of}
use Rattle.leaf_lists.proofs.Uses.{step}

counted_dead : (r : ℕ) (rs : List ℕ) → r ≡ 0 → live_count rs ≡ live_count (r ∷ rs)
counted_dead r rs z = grind (arith, nat_tests)

counted_live : (r : ℕ) (rs : List ℕ) → 0 < r → suc (live_count rs) ≡ live_count (r ∷ rs)
counted_live r rs h = grind (arith, nat_tests)

module _ {K V : Type 0} (rs : List ℕ) (slots : List (Slot K V)) (n : length slots ≡ 15) where
  pub length_from : (b m : ℕ) → b + m ≤ 15 → length (leaf_from rs slots b m) ≡ m
  length_from b zero h = refl
  length_from b (suc m) h =
      let ih = length_from (b + 1) m (omega arith) in
      elim (step rs slots n b m (omega arith)).mark [ inl d ↦ ap length d.is ∙ ap suc ih | inr l ↦ ap length l.is ∙ ap suc ih ]

  pub lives_from : (b m : ℕ) → b + m ≤ 15 → length (lives (leaf_from rs slots b m)) ≡ live_count (by_use rs b m)
  lives_from b zero h = refl
  lives_from b (suc m) h =
      let ih = lives_from (b + 1) m (omega arith) in
      elim (step rs slots n b m (omega arith)).mark [
        | inl d ↦ ap (λ l. length (lives l)) d.is ∙ ih ∙ counted_dead (get_or rs (slot_pos b) 0) (by_use rs (b + 1) m) d.rank
        | inr l ↦ ap (λ l. length (lives l)) l.is ∙ ap suc ih ∙ counted_live (get_or rs (slot_pos b) 0) (by_use rs (b + 1) m) l.rank
      ]

  none_from : (b m : ℕ) → b + m ≤ 15 → ((p : ℕ) → get_or rs p 0 ≡ 0) → lives (leaf_from rs slots b m) ≡ []
  none_from b zero h z = refl
  none_from b (suc m) h z = elim (step rs slots n b m (omega arith)).mark [
    | inl d ↦ ap lives d.is ∙ none_from (b + 1) m (omega arith) z
    | inr l ↦ absurd (omega (arith, l.rank, z (slot_pos b)))
  ]

  some_from : (b m i : ℕ) → b + m ≤ 15 → b ≤ i → i < b + m → 0 < get_or rs (slot_pos i) 0 → spent (leaf_from rs slots b m) ≡ false
  some_from b zero i h x y l = absurd (omega arith)
  some_from b (suc m) i h x y l = elim (step rs slots n b m (omega arith)).mark [
    | inl d ↦ ap spent d.is ∙ some_from (b + 1) m i (omega arith) (⊎_elim (λ e. absurd (omega (arith, d.rank, ap (λ j. get_or rs (slot_pos j) 0) e))) (λ e. omega arith) (cases_eq b i)) (omega arith) l
    | inr v ↦ ap spent v.is
  ]

empty_length : {A : Type 0} (xs : List A) → empty xs ≡ eqb (length xs) 0
empty_length [] = refl
empty_length (x ∷ xs) = grind (arith, nat_tests)

-- no rank is live, or some is
pub empty_cases : (rs : List ℕ) → ((is_empty rs ≡ true) × ((p : ℕ) → get_or rs p 0 ≡ 0)) ⊎ ((is_empty rs ≡ false) × ((p : ℕ) × (0 < get_or rs p 0)))
empty_cases [] = inl (refl, λ p. refl)
empty_cases (r ∷ rs) = ⊎_elim
    (λ l. inr (grind (arith, nat_tests), (0, l)))
    (λ z. elim (empty_cases rs) [ inl e ↦ inl (grind (arith, nat_tests), all r rs (omega arith) e.1) | inr e ↦ inr (grind (arith, nat_tests), (suc e.1.0, e.1.1)) ])
    (cases_lt 0 r)
  where
    all : (r : ℕ) (rs : List ℕ) → r ≡ 0 → ((p : ℕ) → get_or rs p 0 ≡ 0) → (p : ℕ) → get_or (r ∷ rs) p 0 ≡ 0
    all r rs z h zero = z
    all r rs z h (suc p) = h p

-- a live slot is one of the fifteen, and used
pub live_in : (a : Array) (p : ℕ) → 0 < get_or (ranks_of a.metadata) p 0 → p < 15
live_in a = live_within (ranks_of a.metadata) (length_digits 15 a.metadata)

pub few_uses : (a : Array) → 0 + ones a.bitmap ≤ 15
few_uses a = omega (arith, (whole_out a.whole).few)

pub live_used : (a : Array) (p : ℕ) → 0 < get_or (ranks_of a.metadata) p 0 → use_of p < ones a.bitmap
live_used a p l =
    let h = live_in a p l in
    ⊎_elim
    (λ u. u)
    (λ u. absurd (omega (arith, (whole_out a.whole).unused (use_of p) u (use_lt p h), ap (λ i. get_or (ranks_of a.metadata) i 0) (slot_use p h))))
    (cases_lt (use_of p) (ones a.bitmap))

module _ {K V : Type 0} (a : Array) (slots : List (Slot K V)) (n : length slots ≡ 15) where
  abbrev rs : List ℕ
  rs = ranks_of a.metadata

  pub length_of : length (leaf_of a slots) ≡ ones a.bitmap
  length_of = length_from rs slots n 0 (ones a.bitmap) (few_uses a)

  pub lives_of : length (lives (leaf_of a slots)) ≡ live_count (by_use rs 0 (ones a.bitmap))
  lives_of = lives_from rs slots n 0 (ones a.bitmap) (few_uses a)

  pub none_of : spent (leaf_of a slots) ≡ is_empty rs
  none_of = elim (empty_cases rs) [
    | inl e ↦ ap empty (none_from rs slots n 0 (ones a.bitmap) (few_uses a) e.1) ∙ sym e.0
    | inr e ↦
        let p = e.1.0 in
        let l = e.1.1 in
        some_from rs slots n 0 (ones a.bitmap) (use_of p) (few_uses a) (omega arith) (omega (arith, live_used a p l)) (omega (arith, ap (λ i. get_or rs i 0) (slot_use p (live_in a p l)))) ∙ sym e.0
  ]

  pub retires_of : retired (leaf_of a slots) ≡ (not (eqb (ones a.bitmap) 0) && is_empty rs)
  retires_of = ap₂ (λ e t. not e && t) (empty_length (leaf_of a slots) ∙ ap (λ k. eqb k 0) length_of) none_of
