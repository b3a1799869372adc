-- Strikes of a node as steps of the leaf lists.
--     StruckAt           what a strike answers and leaves before a leaf with no live slot goes
use Rattle.std.specs.Prelude.{Result, Ok, Err, ◌≡◌, Bool, true, false, List}
use Rattle.std.proofs.Math.Option.{some}
use Rattle.keys.specs.Orders.{Order}
use Rattle.keys.specs.declared.refusal.Refusal.{Refusal}
use Rattle.keys.specs.declared.refusal.Refusal.TheVariants.{NotStruck}
use Rattle.lists.specs.Leaves.{Entry, spent, kill}
use Rattle.lists.specs.Rows.{target, changed, one}
use Rattle.lists.specs.Nodes.{struck, refusing, held, strike}
use Rattle.leaf.specs.declared.data_block.Slot.{Slot}
use Rattle.leaf.specs.declared.result.RemoveOutcome.{RemoveOutcome}
use Rattle.leaf.specs.declared.result.RemoveOutcome.TheVariants.{Success, Retired}
use Rattle.leaf_table.specs.States.{row_of, node_of}
use Rattle.leaf_table.specs.declared.table.Table.{Table}

module _ {K V : Type 0} (O : Order K) (says : V → Bool) (rec : Table) (slots : List (Slot K V)) (p : O.Place) (rec' : Table) where
  -- the entry that is struck was its leaf's last live one; that leaf is still in the row
  pub record Emptied : Type 0 where
    pub entry : Entry K V
    pub held : held O p (row_of rec slots) ≡ some entry
    pub said : says entry.value ≡ true
    pub row : row_of rec' slots ≡ changed O p (one (kill O p (target O p (row_of rec slots))) 0) (row_of rec slots)
    pub last : spent (kill O p (target O p (row_of rec slots))) ≡ true

  abbrev pub StruckAt : Result RemoveOutcome Refusal → Type 0
  StruckAt (Ok Success) = strike O p says (node_of rec slots) ≡ record { node = node_of rec' slots; answer = struck false }
  StruckAt (Ok Retired) = Emptied
  StruckAt (Err r) = (r ≡ NotStruck) × (strike O p says (node_of rec slots) ≡ refusing (node_of rec slots) NotStruck)
