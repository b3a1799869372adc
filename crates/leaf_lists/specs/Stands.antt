-- The leaf that a leaf array and its slots stand for, and that the array's rules for ranks are the leaf lists' functions.
--     leaf_of a slots        the uses in order, each with the entry of the slot that it took, live exactly if that slot's rank is not 0
--     entries_at ps slots    the entries of the slots ps
--     Becomes O a slots l    the array and its slots stand for l, and ranks order keys
use Rattle.std.specs.Prelude.{◌≡◌, ℕ, zero, suc, ◌+◌, ◌<◌, cond, not, ◌&&◌, List, [], ◌∷◌, ◌++◌, length, Some, None, Option, ◌==◌, nat_eq, slice_index, slice_set}
use Rattle.std.proofs.Math.Option as lists
use Rattle.std.proofs.Math.Option.{some, none}
use Rattle.std.specs.List.{slice_get, AllByRecursion}
use Rattle.keys.specs.Orders.{Order, before}
use Rattle.ranks.specs.Boundaries.{by_use, live_count, rises}
use Rattle.ranks.specs.Dimensions.{leaf_length, slot_pos}
use Rattle.ranks.specs.Indexes.{InOrder}
use Rattle.ranks.specs.Words.{is_empty}
use Rattle.lists.specs.Leaves as list
use Rattle.lists.specs.Leaves.{Entry, live, dead, Leaf, lives, spent, retired, placed, lookup, Ascending, ordered, kill, append, ascends}
use Rattle.leaf.specs.Calls.{fresh, entry_at, pushed}
use Rattle.leaf.specs.Rules.{State, state_of, holder, filed, struck}
use Rattle.leaf.specs.Slots.{sides, Sorted}
use Rattle.leaf.specs.declared.array.Array.{Array}
use Rattle.leaf.specs.declared.data_block.Slot.{Slot}

module _ {K V : Type 0} where
  abbrev pub entry_of : Slot K V → Entry K V
  entry_of s = record { key = s.key; value = s.val }

  abbrev pub marked : ℕ → Slot K V → list.Slot K V
  marked r s = cond (r == 0) (dead (entry_of s)) (live (entry_of s))

  -- a slot of rank r, and the leaf l after it
  abbrev pub onto : ℕ → Option (Slot K V) → Leaf K V → Leaf K V
  onto r None l = l
  onto r (Some s) l = marked r s ∷ l

  -- n uses from use b on
  abbrev pub leaf_from : List ℕ → List (Slot K V) → ℕ → ℕ → Leaf K V
  leaf_from rs slots b zero = []
  leaf_from rs slots b (suc n) = onto (slice_index rs (slot_pos b)) (slice_get slots (slot_pos b)) (leaf_from rs slots (b + 1) n)

  abbrev pub leaf_in : State → List (Slot K V) → Leaf K V
  leaf_in s slots = leaf_from s.ranks slots 0 s.uses

  abbrev pub leaf_of : Array → List (Slot K V) → Leaf K V
  leaf_of a slots = leaf_in (state_of a) slots

  -- a slot that was found, as an entry
  abbrev pub found_in : Option (Slot K V) → lists.Option (Entry K V)
  found_in None = none
  found_in (Some s) = some (entry_of s)

  abbrev pub added : Option (Slot K V) → List (Entry K V) → List (Entry K V)
  added None es = es
  added (Some s) es = entry_of s ∷ es

  abbrev pub entries_at : List ℕ → List (Slot K V) → List (Entry K V)
  entries_at [] slots = []
  entries_at (p ∷ ps) slots = added (slice_get slots p) (entries_at ps slots)

pub record Becomes {K V : Type 0} (O : Order K) (a : Array) (slots : List (Slot K V)) (l : Leaf K V) : Type 0 where
  pub leaf : leaf_of a slots ≡ l
  pub sorted : Sorted O (state_of a).ranks slots

-- What holds of an array a and its slots, whatever they hold.
pub record Counts {K V : Type 0} (a : Array) (slots : List (Slot K V)) : Type 0 where
  -- as many slots as uses, as many live as live ranks, and none live exactly if no rank is
  pub uses : length (leaf_of a slots) ≡ (state_of a).uses
  pub lives : length (lives (leaf_of a slots)) ≡ live_count (by_use (state_of a).ranks 0 (state_of a).uses)
  pub none : spent (leaf_of a slots) ≡ is_empty (state_of a).ranks
  -- retired is a leaf that has a use and no live rank
  pub retires : retired (leaf_of a slots) ≡ (not ((state_of a).uses == 0) && is_empty (state_of a).ranks)

-- What holds where ranks order keys. In a change, a' and slots' are the array and the slots after it.
pub record Agrees {K V : Type 0} (O : Order K) (a : Array) (slots : List (Slot K V)) : Type 0 where
  -- what is found is what stands at the place
  pub look : (x : K) → found_in (entry_at (holder (state_of a).ranks (sides O x slots)) slots) ≡ lookup O (O.place x) (lives (leaf_of a slots))
  -- the live slots in order of rank hold the live entries in order of key
  pub order : (ps : List ℕ) → InOrder (state_of a).ranks ps → entries_at ps slots ≡ ordered O (leaf_of a slots)
  pub ascending : Ascending O (ordered O (leaf_of a slots))
  -- a filing appends
  pub file : (new : Slot K V) (a' : Array) (slots' : List (Slot K V)) → (state_of a).uses < leaf_length → state_of a' ≡ filed (sides O new.key slots) (state_of a) → slots' ≡ slice_set slots (slot_pos (state_of a).uses) new → Becomes O a' slots' (append O (entry_of new) (leaf_of a slots))
  -- a filing with the greatest rank appends a key that is after all the live ones
  pub push : (new : Slot K V) (a' : Array) (slots' : List (Slot K V)) → (state_of a).uses < leaf_length → AllByRecursion (λ e. O.way (placed O e) (O.place new.key) ≡ before) (lives (leaf_of a slots)) → state_of a' ≡ pushed None (state_of a) → slots' ≡ slice_set slots (slot_pos (state_of a).uses) new → Becomes O a' slots' (leaf_of a slots ++ live (entry_of new) ∷ [])
  -- a strike of the live slot at a place kills it
  pub strike : (x : K) (p : ℕ) (a' : Array) → holder (state_of a).ranks (sides O x slots) ≡ Some p → state_of a' ≡ struck p (state_of a) → Becomes O a' slots (kill O (O.place x) (leaf_of a slots))
  -- ranks rise in order of use as often as the live entries do, once less than a leaf has slots exactly if all of them are live and ascend
  pub rising : rises 0 (by_use (state_of a).ranks 0 (state_of a).uses) ≡ list.rises O (lives (leaf_of a slots))
  pub full : nat_eq (rises 0 (by_use (state_of a).ranks 0 (state_of a).uses) + 1) leaf_length ≡ (length (lives (leaf_of a slots)) == leaf_length && ascends O (lives (leaf_of a slots)))

-- Of every array and its fifteen slots.
pub record Stands (V : Type 0) {K : Type 0} (O : Order K) : Type 0 where
  pub fresh : (a : Array) (slots : List (Slot K V)) → state_of a ≡ fresh → Becomes O a slots []
  pub counts : (a : Array) (slots : List (Slot K V)) → length slots ≡ leaf_length → Counts a slots
  pub agrees : (a : Array) (slots : List (Slot K V)) → length slots ≡ leaf_length → Sorted O (state_of a).ranks slots → Agrees O a slots
