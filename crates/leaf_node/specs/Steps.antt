-- Calls of a node as steps of the leaf lists.
--     Appended            what a filing answers and leaves that only looks for room in the target
use Rattle.std.specs.Prelude.{Result, Ok, Err, OnErr, ◌⊎◌, ◌≡◌, Bool, true, false, List}
use Rattle.std.proofs.Math.Option.{none}
use Rattle.keys.specs.Orders.{Order}
use Rattle.keys.specs.declared.refusal.Refusal.{Refusal}
use Rattle.keys.specs.declared.refusal.Refusal.TheVariants.{Duplicate, Full}
use Rattle.lists.specs.Leaves.{Entry, placed}
use Rattle.lists.specs.Rows.{target}
use Rattle.lists.specs.Nodes.{filed, refusing, held}
use Rattle.leaf.specs.declared.data_block.Slot.{Slot}
use Rattle.leaf_table.specs.States.{row_of, node_of}
use Rattle.leaf_table.specs.Changes.{roomy}
use Rattle.leaf_table.specs.Filings.{call}
use Rattle.leaf_table.specs.declared.table.Table.{Table}
use Rattle.leaf_node.specs.States.{Kept}

module _ {K V : Type 0} (O : Order K) where
  -- the target has no room, and where that counts the place is not held: the call goes on
  pub record Crowded (rec : Table) (slots : List (Slot K V)) (e : Entry K V) (upsert : Bool) : Type 0 where
    pub full : roomy (target O (placed O e) (row_of rec slots)) ≡ false
    pub absent : upsert ≡ false → held O (placed O e) (row_of rec slots) ≡ none

  module _ (rec : Table) (slots : List (Slot K V)) (e : Entry K V) (upsert : Bool) (rec' : Table) (slots' : List (Slot K V)) where
    abbrev pub Appended : Result (Unit {0}) Refusal → Type 0
    Appended (Ok u) = (call O e upsert (node_of rec slots) ≡ record { node = node_of rec' slots'; answer = filed 0 }) × Kept O rec' slots'
    Appended (Err r) =
        ((r ≡ Duplicate) × (call O e upsert (node_of rec slots) ≡ refusing (node_of rec slots) Duplicate))
        ⊎ ((r ≡ Full)
        × (rec.gone ≡ true → call O e upsert (node_of rec slots) ≡ refusing (node_of rec slots) Full)
        × (rec.gone ≡ false → Crowded rec slots e upsert))

-- a refused filing changes nothing, whatever the slots hold
abbrev pub Unchanged : {K V : Type 0} → Table → List (Slot K V) → Table → List (Slot K V) → Result (Unit {0}) Refusal → Type 0
Unchanged rec slots rec' slots' r = OnErr r ((rec' ≡ rec) × (slots' ≡ slots))
