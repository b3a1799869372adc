-- What a strike answers and leaves: the node by the leaf lists, and each array by the rules for ranks.
--     held_in O p n      the entry that holds the place p in the node n
use Rattle.std.specs.Prelude.{Result, OnOk, ◌≡◌, ℕ, ◌≤◌, Bool, cond, not, ◌&&◌, ◌≢◌, List, ◌==◌}
use Rattle.std.proofs.Math.Option.{Option, none}
use Rattle.keys.specs.Orders.{Order}
use Rattle.lists.specs.Leaves.{Entry, spent}
use Rattle.lists.specs.Nodes.{Node, gone, sheet, held, strike}
use Rattle.leaf.specs.Rules.{state_of, struck}
use Rattle.leaf.specs.Slots.{sides}
use Rattle.leaf.specs.declared.data_block.Slot.{Slot}
use Rattle.keys.specs.declared.refusal.Refusal.{Refusal}
use Rattle.leaf.specs.declared.result.RemoveOutcome.{RemoveOutcome}
use Rattle.ranked_leaves.specs.Ranked.{cleared}
use Rattle.leaf_table.specs.States.{part, state_at, slots_at, leaf_at, ranked_at, node_of, Kept, Aimed}
use Rattle.leaf_table.specs.declared.table.Table.{Table}
use Rattle.leaf_table.specs.Answers.{strike_answer}

abbrev pub held_in : {K V : Type 0} (O : Order K) → O.Place → Node K V → Option (Entry K V)
held_in O p gone = none
held_in O p (sheet r used closed) = held O p r

module _ {K V : Type 0} (O : Order K) (says : V → Bool) (rec : Table) (slots : List (Slot K V)) (x : K) (rec' : Table) (r : Result RemoveOutcome Refusal) where
  -- An accepted strike, seen in the arrays: the slot of the place loses its rank, and with the last live slot of a bounded child the child
  -- loses its own.
  pub record Ranks : Type 0 where
    pub target : ℕ
    pub aimed : Aimed (state_of rec.children).ranks (sides O x (part 17 slots)) target
    pub here : ranked_at rec' slots target ≡ cleared O (O.place x) (ranked_at rec slots target)
    pub states : (s : ℕ) → s ≤ 15 → s ≢ target → state_at rec' s ≡ state_at rec s
    pub contents : (s : ℕ) → s ≤ 15 → s ≢ target → slots_at rec' slots s ≡ slots_at rec slots s
    pub children : state_of rec'.children ≡ cond (not (target == 15) && spent (leaf_at rec' slots target)) (struck target (state_of rec.children)) (state_of rec.children)

  pub record Struck : Type 0 where
    pub node : strike O (O.place x) says (node_of rec slots) ≡ record { node = node_of rec' slots; answer = strike_answer r }
    pub ranks : OnOk r Ranks
    pub kept : Kept O rec' slots
