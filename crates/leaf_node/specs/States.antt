-- What a node keeps with its 270 slots.
use Rattle.std.specs.Prelude.{ℕ, ◌<◌, List}
use Rattle.keys.specs.Orders.{Order}
use Rattle.leaf.specs.Rules.{state_of}
use Rattle.leaf.specs.Slots.{Sorted}
use Rattle.leaf.specs.declared.data_block.Slot.{Slot}
use Rattle.leaf_table.specs.Records.{state_no}
use Rattle.leaf_table.specs.States.{part}
use Rattle.leaf_table.specs.declared.table.Table.{Table}

-- in every leaf, the spare too, and among the bounds, ranks order keys
pub record Kept {K V : Type 0} (O : Order K) (rec : Table) (slots : List (Slot K V)) : Type 0 where
  pub leaves : (n : ℕ) → n < 17 → Sorted O (state_no rec.leaves n).ranks (part n slots)
  pub bounds : Sorted O (state_of rec.children).ranks (part 17 slots)
