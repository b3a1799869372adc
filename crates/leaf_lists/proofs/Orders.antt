-- The live slots of an array in order of rank hold the live entries of its leaf in order of key.
use Rattle.std.proofs.Common.{◌≡◌, ℕ, zero, suc, ◌+◌, ◌<◌, ◌≤◌, List, [], ◌∷◌, length, get_or, Some, None, Option, sym, refl, ap, ◌∙◌, subst, inl, inr, arith}
use mathlib.Core.List.{Memᴰ}
use mathlib.Core.Option.{none}
use lib.Count.{ones}
use Rattle.std.specs.List.{slice_get, AllByRecursion}
use Rattle.std.proofs.lemmas.Bool.{cond-false}
use Rattle.keys.specs.Orders.{Order, Ordered, before, stands}
use Rattle.keys.specs.Places.{same_place}
use Rattle.ranks.specs.Dimensions.{slot_pos}
use Rattle.ranks.specs.Words.{ranks_of}
use Rattle.ranks.specs.Indexes.{Rising, InOrder}
use Rattle.ranks.proofs.Uses.{slot_lt}
use Rattle.lists.specs.Leaves.{Entry, lives, placed, lookup, Ascending, ordered}
use Rattle.lists.proofs.Looks.{look_sorted, up_sorted, Apart, member_look}
use Rattle.lists.proofs.Same.{same_ascending}
use Rattle.leaf.specs.Rules.{holder}
use Rattle.leaf.specs.Slots.{side_of, sides, Sorted}
use Rattle.leaf.specs.Calls.{entry_at}
use Rattle.leaf.specs.declared.array.Array.{Array}
use Rattle.leaf.specs.declared.data_block.Slot.{Slot}
use Rattle.leaf.proofs.Finds.{only_one}
use Rattle.leaf.proofs.Holders.{Holds, Held, held}
use Rattle.leaf.proofs.Sides.{nth_in, side_at}
use Rattle.leaf_lists.specs.Stands.{entry_of, leaf_from, leaf_of, found_in, added, entries_at}
use Rattle.leaf_lists.proofs.Uses.{slot_other, step}
use Rattle.leaf_lists.proofs.Counts.{live_in, few_uses}
use Rattle.leaf_lists.proofs.Looks.{meets_one, meets_not, look_none, look_of}

module _ {K V : Type 0} where
  member_added : {e : Entry K V} (o : Option (Slot K V)) (es : List (Entry K V)) → Memᴰ e es → Memᴰ e (added o es)
  member_added None es m = m
  member_added (Some s) es m = Memᴰ.tail m

  member_at : (slots : List (Slot K V)) (s : Slot K V) (ps : List ℕ) (i : ℕ) → i < length ps → slice_get slots (get_or ps i 0) ≡ Some s → Memᴰ (entry_of s) (entries_at ps slots)
  member_at slots s [] i h e = absurd (omega arith)
  member_at slots s (p ∷ ps) zero h e = subst (λ o. Memᴰ (entry_of s) (added o (entries_at ps slots))) (sym e) (Memᴰ.head refl)
  member_at slots s (p ∷ ps) (suc i) h e = member_added (slice_get slots p) (entries_at ps slots) (member_at slots s ps i (omega arith) e)

module _ {K V : Type 0} (O : Order K) (L : Ordered O) (a : Array) (slots : List (Slot K V)) (n : length slots ≡ 15) (so : Sorted O (ranks_of a.metadata) slots) where
  abbrev rs : List ℕ
  rs = ranks_of a.metadata

  slot_of : (p : ℕ) → 0 < get_or rs p 0 → (s : Slot K V) × (slice_get slots p ≡ Some s)
  slot_of p l = nth_in slots p (omega (arith, live_in a p l))

  -- a slot of a lower rank is before all of the higher ones
  above : (s : Slot K V) (p : ℕ) → slice_get slots p ≡ Some s → 0 < get_or rs p 0 → (r : ℕ) (ps : List ℕ) → get_or rs p 0 ≤ r → Rising rs r ps → AllByRecursion (λ e. O.way (placed O (entry_of s)) (placed O e) ≡ before) (entries_at ps slots)
  above s p e l r [] h up = tt
  above s p e l r (q ∷ qs) h up =
      let t = slot_of q (omega (arith, up.0)) in
      subst (λ o. AllByRecursion (λ y. O.way (placed O (entry_of s)) (placed O y) ≡ before) (added o (entries_at qs slots))) (sym t.1)
      (so p q s t.0 e t.1 l (omega (arith, up.0)), above s p e l (get_or rs q 0) qs (omega (arith, up.0)) up.1)

  ascending_at : (r : ℕ) (ps : List ℕ) → Rising rs r ps → Ascending O (entries_at ps slots)
  ascending_at r [] up = tt
  ascending_at r (p ∷ ps) up =
      let l : 0 < get_or rs p 0 = omega (arith, up.0) in
      let s = slot_of p l in
      subst (λ o. Ascending O (added o (entries_at ps slots))) (sym s.1) (above s.0 p s.1 l (get_or rs p 0) ps (omega arith) up.1, ascending_at (get_or rs p 0) ps up.1)

  -- live slots have places of their own
  apart_from : (b m : ℕ) → b + m ≤ 15 → Apart O L (lives (leaf_from rs slots b m))
  apart_from b zero h = tt
  apart_from b (suc m) h =
      let t = step rs slots n b m (omega arith) in
      let x = t.slot.key in
      let ih = apart_from (b + 1) m (omega arith) in
      let mine = side_at O slots n x (slot_pos b) t.slot (slot_lt b (omega arith)) t.here ∙ ap side_of (L.self (O.place x)) in
      elim t.mark [
        | inl d ↦ subst (λ l. Apart O L (lives l)) (sym d.is) ih
        | inr v ↦ subst (λ l. Apart O L (lives l)) (sym v.is)
            (look_none O rs slots n x (b + 1) m (omega arith) (λ i lo hi k. slot_other i b (omega arith) (omega arith) (only_one O L a slots n so x (slot_pos b) (slot_pos i) (v.rank, mine) k)), ih)
      ]

  module _ (ps : List ℕ) (io : InOrder rs ps) (x : K) where
    none_at : ((p : ℕ) → Holds rs (sides O x slots) p → ⊥) → (r : ℕ) (qs : List ℕ) → Rising rs r qs → lookup O (O.place x) (entries_at qs slots) ≡ none
    none_at miss r [] up = refl
    none_at miss r (q ∷ qs) up =
        let l : 0 < get_or rs q 0 = omega (arith, up.0) in
        let s = slot_of q l in
        ap (λ o. lookup O (O.place x) (added o (entries_at qs slots))) s.1
        ∙ cond-false _ _ _ (meets_not (stands O x s.0.key) (λ w. miss q (l, side_at O slots n x q s.0 (live_in a q l) s.1 ∙ w)))
        ∙ none_at miss (get_or rs q 0) qs up.1

    look_at : (o : Option ℕ) → Held rs (sides O x slots) o → lookup O (O.place x) (entries_at ps slots) ≡ found_in (entry_at o slots)
    look_at None h = none_at h 0 ps io.rising
    look_at (Some p) h =
        let s = slot_of p h.0 in
        let i = io.all p h.0 in
        let w = meets_one (stands O x s.0.key) (sym (side_at O slots n x p s.0 (live_in a p h.0) s.1) ∙ h.1) in
        ap (λ q. lookup O q (entries_at ps slots)) (same_place O L (O.place x) (O.place s.0.key) w)
        ∙ member_look O L (member_at slots s.0 ps i.0 i.1 (ap (slice_get slots) i.2 ∙ s.1)) (ascending_at 0 ps io.rising)
        ∙ sym (ap found_in s.1)

  pub ascending_of : Ascending O (ordered O (leaf_of a slots))
  ascending_of = up_sorted O L (lives (leaf_of a slots)) (apart_from 0 (ones a.bitmap) (few_uses a))

  pub order_of : (ps : List ℕ) → InOrder rs ps → entries_at ps slots ≡ ordered O (leaf_of a slots)
  order_of ps io =
      let look : (k : K) → lookup O (O.place k) (entries_at ps slots) ≡ lookup O (O.place k) (ordered O (leaf_of a slots)) = λ k.
      look_at ps io k (holder rs (sides O k slots)) (held rs (sides O k slots)) ∙ look_of O L a slots n so k ∙ sym (look_sorted O L (O.place k) (lives (leaf_of a slots))) in
      same_ascending O L (entries_at ps slots) (ordered O (leaf_of a slots)) (ascending_at 0 ps io.rising) ascending_of look
