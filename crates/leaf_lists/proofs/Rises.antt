-- The rises of the ranks in order of use are the rises of the live entries.
use Rattle.std.proofs.Common.{◌≡◌, ℕ, zero, suc, ◌+◌, ◌<◌, ◌≤◌, Bool, cond, ◌&&◌, eqb, ltb, ◌≢◌, List, [], ◌∷◌, length, get_or, Some, sym, refl, ap, ◌∙◌, ap₂, inl, inr, ⊎_elim, arith}
use lib.Count.{ones}
use Rattle.std.specs.List.{slice_get}
use Rattle.std.proofs.lemmas.Bool.{cases_order, lt-ltb, le-ltb}
use Rattle.std.proofs.lemmas.Bool.Decides.{nat_tests}
use Rattle.keys.specs.Orders.{Order, Ordered, is_before, precedes}
use Rattle.ranks.specs.Boundaries.{by_use, rises}
use Rattle.ranks.specs.Dimensions.{slot_pos}
use Rattle.ranks.specs.Words.{ranks_of}
use Rattle.lists.specs.Leaves.{Entry, live, dead, Leaf, lives, placed, ascends}
use Rattle.lists.specs.Leaves as list
use Rattle.leaf.specs.Slots.{Sorted}
use Rattle.leaf.specs.declared.array.Array.{Array}
use Rattle.leaf.specs.declared.data_block.Slot.{Slot}
use Rattle.leaf.proofs.Wholes.{whole_out}
use Rattle.leaf_lists.specs.Stands.{entry_of, leaf_from, leaf_of}
use Rattle.leaf_lists.proofs.Uses.{slot_other, step}
use Rattle.leaf_lists.proofs.Counts.{length_of, few_uses}

rises_dead : (prev r : ℕ) (rs : List ℕ) → r ≡ 0 → rises prev (r ∷ rs) ≡ rises prev rs
rises_dead prev r rs z = grind (arith, nat_tests)

rises_first : (r : ℕ) (rs : List ℕ) → 0 < r → rises 0 (r ∷ rs) ≡ rises r rs
rises_first r rs l = grind (arith, nat_tests)

rises_next : (prev r : ℕ) (rs : List ℕ) → 0 < prev → 0 < r → rises prev (r ∷ rs) ≡ cond (ltb prev r) 1 0 + rises r rs
rises_next prev r rs h l = grind (arith, nat_tests)

module _ {K V : Type 0} (O : Order K) (L : Ordered O) (a : Array) (slots : List (Slot K V)) (n : length slots ≡ 15) (so : Sorted O (ranks_of a.metadata) slots) where
  abbrev rs : List ℕ
  rs = ranks_of a.metadata

  -- of two live slots
  precedes_rank : (p q : ℕ) (s t : Slot K V) → slice_get slots p ≡ Some s → slice_get slots q ≡ Some t → 0 < get_or rs p 0 → 0 < get_or rs q 0 → p ≢ q → ltb (get_or rs p 0) (get_or rs q 0) ≡ precedes O (O.place s.key) (O.place t.key)
  precedes_rank p q s t ep eq lp lq ne = ⊎_elim
      (λ e. absurd (ne ((whole_out a.whole).apart p q lp e)))
      (⊎_elim
      (λ h. lt-ltb _ _ h ∙ sym (ap is_before (so p q s t ep eq lp h)))
      (λ h. le-ltb _ _ (omega arith) ∙ sym (ap is_before (L.flip _ _ (so q p t s eq ep lq h)))))
      (cases_order (get_or rs p 0) (get_or rs q 0))

  -- after the live use i
  rises_after : (b m i : ℕ) (s : Slot K V) → b + m ≤ 15 → i < b → slice_get slots (slot_pos i) ≡ Some s → 0 < get_or rs (slot_pos i) 0 → rises (get_or rs (slot_pos i) 0) (by_use rs b m) ≡ list.rises O (entry_of s ∷ lives (leaf_from rs slots b m))
  rises_after b zero i s h lt e l = refl
  rises_after b (suc m) i s h lt e l =
      let t = step rs slots n b m (omega arith) in
      elim t.mark [
        | inl d ↦
            rises_dead (get_or rs (slot_pos i) 0) (get_or rs (slot_pos b) 0) (by_use rs (b + 1) m) d.rank
            ∙ rises_after (b + 1) m i s (omega arith) (omega arith) e l
            ∙ sym (ap (λ k. list.rises O (entry_of s ∷ lives k)) d.is)
        | inr v ↦
            rises_next (get_or rs (slot_pos i) 0) (get_or rs (slot_pos b) 0) (by_use rs (b + 1) m) l v.rank
            ∙ ap₂ (λ c k. cond c 1 0 + k)
            (precedes_rank (slot_pos i) (slot_pos b) s t.slot e t.here l v.rank (slot_other b i (omega arith) lt))
            (rises_after (b + 1) m b t.slot (omega arith) (omega arith) t.here v.rank)
            ∙ sym (ap (λ k. list.rises O (entry_of s ∷ lives k)) v.is)
      ]

  rises_from : (b m : ℕ) → b + m ≤ 15 → rises 0 (by_use rs b m) ≡ list.rises O (lives (leaf_from rs slots b m))
  rises_from b zero h = refl
  rises_from b (suc m) h =
      let t = step rs slots n b m (omega arith) in
      elim t.mark [
        | inl d ↦ rises_dead 0 (get_or rs (slot_pos b) 0) (by_use rs (b + 1) m) d.rank ∙ rises_from (b + 1) m (omega arith) ∙ sym (ap (λ k. list.rises O (lives k)) d.is)
        | inr v ↦ rises_first (get_or rs (slot_pos b) 0) (by_use rs (b + 1) m) v.rank ∙ rises_after (b + 1) m b t.slot (omega arith) (omega arith) t.here v.rank ∙ sym (ap (λ k. list.rises O (lives k)) v.is)
      ]

  pub rises_of : rises 0 (by_use rs 0 (ones a.bitmap)) ≡ list.rises O (lives (leaf_of a slots))
  rises_of = rises_from 0 (ones a.bitmap) (few_uses a)

-- ---- a list that ascends has one rise fewer than entries

module _ {K V : Type 0} (O : Order K) where
  most_rises : (x : Entry K V) (es : List (Entry K V)) → list.rises O (x ∷ es) ≤ length es
  most_rises x [] = omega arith
  most_rises x (y ∷ ys) = let ih = most_rises y ys in grind (arith, nat_tests)

  ascends_rises : (x : Entry K V) (es : List (Entry K V)) → ascends O (x ∷ es) ≡ eqb (list.rises O (x ∷ es)) (length es)
  ascends_rises x [] = refl
  ascends_rises x (y ∷ ys) = step_up (precedes O (placed O x) (placed O y)) (ascends O (y ∷ ys)) (list.rises O (y ∷ ys)) (length ys) (most_rises y ys) (ascends_rises y ys)
    where
      step_up : (b c : Bool) (r k : ℕ) → r ≤ k → c ≡ eqb r k → (b && c) ≡ eqb (cond b 1 0 + r) (suc k)
      step_up b c r k h e = grind (arith, nat_tests)

  full_rises : (es : List (Entry K V)) → length es ≤ 15 → eqb (list.rises O es + 1) 15 ≡ (eqb (length es) 15 && ascends O es)
  full_rises [] h = refl
  full_rises (x ∷ es) h = whole (ascends O (x ∷ es)) (list.rises O (x ∷ es)) (length es) h (most_rises x es) (ascends_rises x es)
    where
      whole : (c : Bool) (r k : ℕ) → suc k ≤ 15 → r ≤ k → c ≡ eqb r k → eqb (r + 1) 15 ≡ (eqb (suc k) 15 && c)
      whole c r k h l e = grind (arith, nat_tests)

lives_fewer : {K V : Type 0} (l : Leaf K V) → length (lives l) ≤ length l
lives_fewer [] = omega arith
lives_fewer (live e ∷ l) = omega (arith, lives_fewer l)
lives_fewer (dead e ∷ l) = omega (arith, lives_fewer l)

pub full_of : {K V : Type 0} (O : Order K) (L : Ordered O) (a : Array) (slots : List (Slot K V)) → length slots ≡ 15 → Sorted O (ranks_of a.metadata) slots → eqb (rises 0 (by_use (ranks_of a.metadata) 0 (ones a.bitmap)) + 1) 15 ≡ (eqb (length (lives (leaf_of a slots))) 15 && ascends O (lives (leaf_of a slots)))
full_of O L a slots n so = ap (λ k. eqb (k + 1) 15) (rises_of O L a slots n so) ∙ full_rises O (lives (leaf_of a slots)) (omega (arith, lives_fewer (leaf_of a slots), length_of a slots n, few_uses a))
