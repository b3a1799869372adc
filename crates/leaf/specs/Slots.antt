-- The slots of a leaf array, seen from a key, and the order in which their ranks put them.
--     side O x s         where the key of slot s lies, seen from x: 0 before it, 1 at its place, 2 after it
--     Sorted O rs slots  ranks order keys: of two live slots the one of the lower rank has the key that comes before
use Rattle.std.specs.Prelude.{◌≡◌, ℕ, ◌<◌, List, map, Some, slice_index}
use Rattle.std.specs.List.{slice_get}
use Rattle.keys.specs.Orders.{Order, Way, before, same, after, stands}
use Rattle.leaf.specs.declared.data_block.Slot.{Slot}

abbrev pub side_of : Way → ℕ
side_of before = 2
side_of same = 1
side_of after = 0

module _ {K V : Type 0} (O : Order K) where
  abbrev pub side : K → Slot K V → ℕ
  side x s = side_of (stands O x s.key)

  abbrev pub sides : K → List (Slot K V) → List ℕ
  sides x slots = map (side x) slots

  abbrev pub Sorted : List ℕ → List (Slot K V) → Type 0
  Sorted rs slots =
      (p q : ℕ) (a b : Slot K V) → slice_get slots p ≡ Some a → slice_get slots q ≡ Some b → 0 < slice_index rs p → slice_index rs p < slice_index rs q → stands O a.key b.key ≡ before
