-- The leaf with ranks that a leaf array and its slots stand for, and that the array's rules for ranks are the rules of such leaves.
--     ranked_of a slots    the uses in order, each with the entry and the rank of the slot that it took
use Rattle.std.specs.Prelude.{◌≡◌, ℕ, zero, suc, ◌+◌, ◌<◌, List, [], ◌∷◌, ◌++◌, map, length, Some, None, Option, slice_index, slice_set}
use Rattle.std.specs.List.{slice_get}
use Rattle.keys.specs.Orders.{Order}
use Rattle.ranks.specs.Dimensions.{leaf_length, slot_pos}
use Rattle.lists.specs.Leaves.{Entry, live, Ascending, kill, append}
use Rattle.leaf.specs.Calls.{pushed}
use Rattle.leaf.specs.Rules.{State, state_of, holder, filed, struck}
use Rattle.leaf.specs.Slots.{sides, Sorted}
use Rattle.leaf.specs.declared.array.Array.{Array}
use Rattle.leaf.specs.declared.data_block.Slot.{Slot}
use Rattle.leaf_lists.specs.Stands.{entry_of, leaf_of}
use Rattle.ranked_leaves.specs.Ranked.{RankedLeaf, plain, numbered, anew, cleared, taken}

module _ {K V : Type 0} where
  abbrev pub onto_ranked : ℕ → Option (Slot K V) → RankedLeaf K V → RankedLeaf K V
  onto_ranked r None l = l
  onto_ranked r (Some s) l = record { rank = r; entry = entry_of s } ∷ l

  abbrev pub ranked_from : List ℕ → List (Slot K V) → ℕ → ℕ → RankedLeaf K V
  ranked_from rs slots b zero = []
  ranked_from rs slots b (suc n) = onto_ranked (slice_index rs (slot_pos b)) (slice_get slots (slot_pos b)) (ranked_from rs slots (b + 1) n)

  abbrev pub ranked_in : State → List (Slot K V) → RankedLeaf K V
  ranked_in s slots = ranked_from s.ranks slots 0 s.uses

  abbrev pub ranked_of : Array → List (Slot K V) → RankedLeaf K V
  ranked_of a slots = ranked_in (state_of a) slots

-- What holds of every array, whatever its slots hold.
pub record RankedCounts {K V : Type 0} (a : Array) (slots : List (Slot K V)) : Type 0 where
  -- without its ranks the ranked leaf is the leaf, and it has as many slots as uses
  pub unranked : plain (ranked_of a slots) ≡ leaf_of a slots
  pub uses_ranked : length (ranked_of a slots) ≡ (state_of a).uses
  -- a filing with the greatest rank leaves the other ranks as they are
  pub push_ranked : (new : Slot K V) (a' : Array) (slots' : List (Slot K V)) → (state_of a).uses < leaf_length → state_of a' ≡ pushed None (state_of a) → slots' ≡ slice_set slots (slot_pos (state_of a).uses) new → ranked_of a' slots' ≡ ranked_of a slots ++ record { rank = (state_of a).uses + 1; entry = entry_of new } ∷ []
  -- the array has no more to it than its ranked leaf and its flags
  pub pinned : (b : Array) (slots' : List (Slot K V)) → length slots' ≡ leaf_length → ranked_of a slots ≡ ranked_of b slots' → (state_of a).flags ≡ (state_of b).flags → state_of a ≡ state_of b

-- What holds where ranks order keys. In a change, a' and slots' are the array and the slots after it.
pub record RankedAgrees {K V : Type 0} (O : Order K) (a : Array) (slots : List (Slot K V)) : Type 0 where
  -- a filing's ranks are those of the entry that takes the next use
  pub file_ranked : (new : Slot K V) (a' : Array) (slots' : List (Slot K V)) → (state_of a).uses < leaf_length → state_of a' ≡ filed (sides O new.key slots) (state_of a) → slots' ≡ slice_set slots (slot_pos (state_of a).uses) new → ranked_of a' slots' ≡ taken O (entry_of new) (ranked_of a slots)
  -- a strike of the live slot at a place leaves the other ranks as they are
  pub strike_ranked : (x : K) (p : ℕ) (a' : Array) → holder (state_of a).ranks (sides O x slots) ≡ Some p → state_of a' ≡ struck p (state_of a) → ranked_of a' slots ≡ cleared O (O.place x) (ranked_of a slots)

pub record RanksStand (V : Type 0) {K : Type 0} (O : Order K) : Type 0 where
  pub counts : (a : Array) (slots : List (Slot K V)) → length slots ≡ leaf_length → RankedCounts a slots
  pub agrees : (a : Array) (slots : List (Slot K V)) → length slots ≡ leaf_length → Sorted O (state_of a).ranks slots → RankedAgrees O a slots
  -- in a leaf made anew of ascending entries ranks order keys
  pub anew_sorted : (a : Array) (slots : List (Slot K V)) → length slots ≡ leaf_length → (es : List (Entry K V)) → ranked_of a slots ≡ anew es → Ascending O es → Sorted O (state_of a).ranks slots
  -- without the ranks: a leaf made anew is all live, an entry that takes the next use is appended, and slots that are cleared die
  pub plain_anew : (es : List (Entry K V)) → plain (anew es) ≡ map live es
  pub plain_taken : (e : Entry K V) (l : RankedLeaf K V) → plain (taken O e l) ≡ append O e (plain l)
  pub plain_cleared : (p : O.Place) (l : RankedLeaf K V) → plain (cleared O p l) ≡ kill O p (plain l)
  -- one more entry takes the next number
  pub numbered_push : (n : ℕ) (es : List (Entry K V)) (e : Entry K V) → numbered n (es ++ e ∷ []) ≡ numbered n es ++ record { rank = n + length es; entry = e } ∷ []
  -- the state of an array is its rank word and its bitmap
  pub words : (a b : Array) → state_of a ≡ state_of b → (a.metadata ≡ b.metadata) × (a.bitmap ≡ b.bitmap)
