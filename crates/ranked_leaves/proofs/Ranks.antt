-- The ranked leaf of some uses: its slots, the rank at a place, and the greatest rank before one.
use Rattle.std.proofs.Common.{◌≡◌, ℕ, zero, suc, ◌+◌, ◌<◌, ◌≤◌, max, true, false, cond, ◌&&◌, eqb, ltb, ◌≢◌, List, ◌∷◌, length, get_or, Some, sym, refl, ap, ◌∙◌, ap₂, inl, inr, ⊎_elim, arith}
use lib.Count.{ones}
use Rattle.std.specs.List.{slice_get}
use Rattle.std.proofs.lemmas.List.{length-map}
use Rattle.std.proofs.lemmas.Bool.{cases_eq, cases_lt, cond-true, cond-false}
use Rattle.std.proofs.lemmas.Bool.Decides.{nat_tests}
use Rattle.keys.specs.Orders.{Order, Ordered, Way, before, same, after, is_before, is_same, precedes, stands}
use Rattle.keys.specs.Places.{ways, same_back}
use Rattle.ranks.specs.Dimensions.{slot_pos}
use Rattle.ranks.specs.Words.{ranks_of}
use Rattle.ranks.proofs.Uses.{use_of, slot_lt, slot_use}
use Rattle.leaf.specs.Rules.{floor}
use Rattle.leaf.specs.Slots.{side_of, side, sides}
use Rattle.leaf.specs.declared.array.Array.{Array}
use Rattle.leaf.specs.declared.data_block.Slot.{Slot}
use Rattle.leaf.proofs.Holders.{Holds, greatest}
use Rattle.leaf.proofs.Sides.{nth_in, side_at}
use Rattle.ranked_leaves.specs.Ranked.{Ranked, rank_of, below}
use Rattle.leaf_lists.specs.Stands.{entry_of}
use Rattle.ranked_leaves.specs.RanksStand.{onto_ranked, ranked_from, ranked_of}
use Rattle.leaf_lists.proofs.Counts.{live_in, live_used, few_uses}

-- ---- its slots

-- slot s of use b
abbrev pub ranked_at : {K V : Type 0} → List ℕ → ℕ → Slot K V → Ranked K V
ranked_at rs b s = record { rank = get_or rs (slot_pos b) 0; entry = entry_of s }

module _ {K V : Type 0} (rs : List ℕ) (slots : List (Slot K V)) where
  pub record First (b m : ℕ) : Type 0 where
    pub slot : Slot K V
    pub here : slice_get slots (slot_pos b) ≡ Some slot
    pub is : ranked_from rs slots b (suc m) ≡ ranked_at rs b slot ∷ ranked_from rs slots (b + 1) m

  pub first : length slots ≡ 15 → (b m : ℕ) → b < 15 → First b m
  first n b m h =
      let s = nth_in slots (slot_pos b) (omega (arith, slot_lt b h)) in
      record { slot = s.0; here = s.1; is = ap (λ o. onto_ranked (get_or rs (slot_pos b) 0) o (ranked_from rs slots (b + 1) m)) s.1 }

  length_from : length slots ≡ 15 → (b m : ℕ) → b + m ≤ 15 → length (ranked_from rs slots b m) ≡ m
  length_from n b zero h = refl
  length_from n b (suc m) h = ap length (first n b m (omega arith)).is ∙ ap suc (length_from n (b + 1) m (omega arith))

  -- use i
  pub nth_from : length slots ≡ 15 → (b m i j : ℕ) (s : Slot K V) → b + m ≤ 15 → i < m → j ≡ b + i → slice_get slots (slot_pos j) ≡ Some s → slice_get (ranked_from rs slots b m) i ≡ Some (ranked_at rs j s)
  nth_from n b zero i j s h l e at = absurd (omega arith)
  nth_from n b (suc m) zero j s h l e at =
      let f = first n b m (omega arith) in
      let g = f.here in
      let k : j ≡ b = omega arith in
      let z : f.slot ≡ s = cc in
      ap (λ l. slice_get l 0) f.is ∙ ap₂ (λ b s. Some (ranked_at rs b s)) (sym k) z
  nth_from n b (suc m) (suc i) j s h l e at = ap (λ l. slice_get l (suc i)) (first n b m (omega arith)).is ∙ nth_from n (b + 1) m i j s (omega arith) (omega arith) (omega arith) at

pub length_ranked : {K V : Type 0} (a : Array) (slots : List (Slot K V)) → length slots ≡ 15 → length (ranked_of a slots) ≡ ones a.bitmap
length_ranked a slots n = length_from (ranks_of a.metadata) slots n 0 (ones a.bitmap) (few_uses a)

-- ---- the rank at a place

holds_not : (r : ℕ) (w : Way) → (0 < r → side_of w ≡ 1 → ⊥) → (ltb 0 r && is_same w) ≡ false
holds_not r before h = grind (arith, nat_tests)
holds_not r same h = ⊎_elim (λ l. absurd (h l refl)) (λ z. grind (arith, nat_tests)) (cases_lt 0 r)
holds_not r after h = grind (arith, nat_tests)

holds_one : (r : ℕ) (w : Way) → 0 < r → side_of w ≡ 1 → (ltb 0 r && is_same w) ≡ true
holds_one r before l h = absurd (omega arith)
holds_one r same l h = grind (arith, nat_tests)
holds_one r after l h = absurd (omega arith)

module _ {K V : Type 0} (O : Order K) (rs : List ℕ) (slots : List (Slot K V)) (n : length slots ≡ 15) (x : K) where
  abbrev ss : List ℕ
  ss = sides O x slots

  pub rank_none : (b m : ℕ) → b + m ≤ 15 → ((p : ℕ) → Holds rs ss p → ⊥) → rank_of O (O.place x) (ranked_from rs slots b m) ≡ 0
  rank_none b zero h miss = refl
  rank_none b (suc m) h miss =
      let f = first rs slots n b m (omega arith) in
      let at = side_at O slots n x (slot_pos b) f.slot (slot_lt b (omega arith)) f.here in
      ap (rank_of O (O.place x)) f.is
      ∙ cond-false _ _ _ (holds_not (get_or rs (slot_pos b) 0) (stands O x f.slot.key) (λ l w. miss (slot_pos b) (l, at ∙ w)))
      ∙ rank_none (b + 1) m (omega arith) miss

  pub rank_one : (b m i : ℕ) → b + m ≤ 15 → b ≤ i → i < b + m → Holds rs ss (slot_pos i) → ((p : ℕ) → Holds rs ss p → p ≡ slot_pos i) → rank_of O (O.place x) (ranked_from rs slots b m) ≡ get_or rs (slot_pos i) 0
  rank_one b zero i h lo hi k only = absurd (omega arith)
  rank_one b (suc m) i h lo hi k only =
      let f = first rs slots n b m (omega arith) in
      let p = slot_pos b in
      let at = side_at O slots n x p f.slot (slot_lt b (omega arith)) f.here in
      let w = stands O x f.slot.key in
      ap (rank_of O (O.place x)) f.is
      ∙ ⊎_elim
      (λ (e : p ≡ slot_pos i). cond-true _ _ _ (holds_one (get_or rs p 0) w (omega (arith, k.0, ap (λ j. get_or rs j 0) e)) (sym at ∙ ap (λ j. get_or ss j 0) e ∙ k.1)) ∙ ap (λ j. get_or rs j 0) e)
      (λ (e : p ≢ slot_pos i).
      cond-false _ _ _ (holds_not (get_or rs p 0) w (λ l z. e (only p (l, at ∙ z))))
      ∙ rank_one (b + 1) m i (omega arith) (⊎_elim (λ z. absurd (e (ap slot_pos z))) (λ z. omega arith) (cases_eq b i)) (omega arith) k only)
      (cases_eq p (slot_pos i))

  -- ---- the greatest rank before a place

  module _ (L : Ordered O) where
    precedes_side : (p : ℕ) (s : Slot K V) → p < 15 → slice_get slots p ≡ Some s → precedes O (O.place s.key) (O.place x) ≡ eqb (get_or ss p 0) 0
    precedes_side p s h e =
        let at = side_at O slots n x p s h e in
        let y = s.key in
        elim (ways (stands O x y)) [
          | inl w ↦ ap is_before (L.flip _ _ w) ∙ sym (ap (λ k. eqb k 0) (at ∙ ap side_of w))
          | inr (inl w) ↦ ap is_before (same_back O L _ _ w) ∙ sym (ap (λ k. eqb k 0) (at ∙ ap side_of w))
          | inr (inr w) ↦ ap is_before (L.flop _ _ w) ∙ sym (ap (λ k. eqb k 0) (at ∙ ap side_of w))
        ]

    below_first : (b m : ℕ) → b + suc m ≤ 15 → below O (O.place x) (ranked_from rs slots b (suc m)) ≡ max (cond (eqb (get_or ss (slot_pos b) 0) 0) (get_or rs (slot_pos b) 0) 0) (below O (O.place x) (ranked_from rs slots (b + 1) m))
    below_first b m h =
        let f = first rs slots n b m (omega arith) in
        ap (below O (O.place x)) f.is ∙ ap (λ c. max (cond c (get_or rs (slot_pos b) 0) 0) (below O (O.place x) (ranked_from rs slots (b + 1) m))) (precedes_side (slot_pos b) f.slot (slot_lt b (omega arith)) f.here)

    below_le : (b m low : ℕ) → b + m ≤ 15 → ((p : ℕ) → p < 15 → get_or ss p 0 ≡ 0 → get_or rs p 0 ≤ low) → below O (O.place x) (ranked_from rs slots b m) ≤ low
    below_le b zero low h up = omega arith
    below_le b (suc m) low h up =
        let p = slot_pos b in
        let e = below_first b m h in
        let ih = below_le (b + 1) m low (omega arith) up in
        let here = up p (slot_lt b (omega arith)) in
        grind (arith, nat_tests)

    below_ge : (b m i : ℕ) → b + m ≤ 15 → b ≤ i → i < b + m → get_or ss (slot_pos i) 0 ≡ 0 → get_or rs (slot_pos i) 0 ≤ below O (O.place x) (ranked_from rs slots b m)
    below_ge b zero i h lo hi z = absurd (omega arith)
    below_ge b (suc m) i h lo hi z =
        let e = below_first b m h in
        ⊎_elim
        (λ (k : b ≡ i). let s = ap (λ j. get_or ss (slot_pos j) 0) k ∙ z in let r = ap (λ j. get_or rs (slot_pos j) 0) k in grind (arith, nat_tests))
        (λ (k : b ≢ i). let ih = below_ge (b + 1) m i (omega arith) (omega arith) (omega arith) z in grind (arith, nat_tests))
        (cases_eq b i)

pub below_floor : {K V : Type 0} (O : Order K) (L : Ordered O) (a : Array) (slots : List (Slot K V)) → length slots ≡ 15 → (x : K) → below O (O.place x) (ranked_of a slots) ≡ floor (ranks_of a.metadata) (sides O x slots)
below_floor O L a slots n x =
    let rs = ranks_of a.metadata in
    let u = ones a.bitmap in
    let ss = sides O x slots in
    let g = greatest rs ss in
    let le = below_le O rs slots n x L 0 u (floor rs ss) (few_uses a) (λ p h z. g.most p (omega (arith, length-map slots (side O x))) z) in
    let ge : floor rs ss ≤ below O (O.place x) (ranked_of a slots) = elim g.some [
      | inl z ↦ omega arith
      | inr q ↦ ⊎_elim
          (λ (l : 0 < get_or rs q.0 0).
          let e = slot_use q.0 (live_in a q.0 l) in
          omega (arith, q.3, ap (λ i. get_or rs i 0) e, below_ge O rs slots n x L 0 u (use_of q.0) (few_uses a) (omega arith) (omega (arith, live_used a q.0 l)) (ap (λ i. get_or ss i 0) e ∙ q.2)))
          (λ l. omega (arith, q.3))
          (cases_lt 0 (get_or rs q.0 0))
    ] in
    omega arith
