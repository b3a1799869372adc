-- What a filing or a replacement answers and leaves: the node by the leaf lists, and each array by the rules for ranks.
--     call O e upsert n   what filing e does to the node n, or replacing it if upsert is set
--     fitting             what the entry makes of its target, which is at place t
--     Parted              a new child place has the low leaf, and place t the high one
--     Made                what a change of the target leaves at each place
--     Filed               all of it
use Rattle.std.specs.Prelude.{◌≡◌, ℕ, ◌≤◌, Bool, true, false, not, ◌&&◌, ◌≢◌, List, Result, ◌==◌, nat_lt, slice_set}
use Rattle.keys.specs.Orders.{Order}
use Rattle.keys.specs.declared.refusal.Refusal.{Refusal}
use Rattle.ranks.specs.Dimensions.{slot_pos}
use Rattle.ranks.specs.Words.{is_retired}
use Rattle.lists.specs.Leaves.{Entry}
use Rattle.lists.specs.Rows.{Change, one, two, no_room}
use Rattle.lists.specs.Nodes.{child_places, Node, Done, file, replace}
use Rattle.ranked_leaves.specs.Keepings.{fit_by}
use Rattle.lists.specs.Histories.{accepted}
use Rattle.leaf.specs.Rules.{state_of, filed}
use Rattle.leaf.specs.Slots.{sides}
use Rattle.leaf.specs.declared.data_block.Slot.{Slot}
use Rattle.ranked_leaves.specs.Ranked.{RankedLeaf, ranking}
use Rattle.leaf_table.specs.States.{part, state_at, slots_at, ranked_at, node_of, Kept, Aimed}
use Rattle.leaf_table.specs.Changes.{Elsewhere}
use Rattle.leaf_table.specs.declared.table.Table.{Table}
use Rattle.leaf_table.specs.Answers.{filing_answer}

abbrev pub call : {K V : Type 0} (O : Order K) → Entry K V → Bool → Node K V → Done K V
call O e true n = replace O e n
call O e false n = file O e n

-- a child place is left, and children are not closed
abbrev pub open_children : Table → Bool
open_children rec = nat_lt (state_of rec.children).uses child_places && not (is_retired (state_of rec.children).flags)

-- the child place that the next child takes
abbrev pub new_child : Table → ℕ
new_child rec = slot_pos (state_of rec.children).uses

module _ {K V : Type 0} (O : Order K) (rec : Table) (slots : List (Slot K V)) (t : ℕ) where
  abbrev pub fitting : Entry K V → Change K (RankedLeaf K V)
  fitting e = fit_by O (ranking O) e (t == 15) (open_children rec) (ranked_at rec slots t)

  module _ (rec' : Table) (slots' : List (Slot K V)) where
    pub record Parted (low : RankedLeaf K V) (b : K) (high : RankedLeaf K V) : Type 0 where
      -- the bound takes the next use of the children's array; the value beside it means nothing
      pub children : state_of rec'.children ≡ filed (sides O b (part 17 slots)) (state_of rec.children)
      pub bound : Slot K V
      pub key : bound.key ≡ b
      pub bounds : part 17 slots' ≡ slice_set (part 17 slots) (new_child rec) bound
      pub gone : rec'.gone ≡ rec.gone
      pub at_new : ranked_at rec' slots' (new_child rec) ≡ low
      pub at_target : ranked_at rec' slots' t ≡ high
      pub states : (s : ℕ) → s ≤ 15 → s ≢ t → s ≢ new_child rec → state_at rec' s ≡ state_at rec s
      pub contents : (s : ℕ) → s ≤ 15 → s ≢ t → s ≢ new_child rec → slots_at rec' slots' s ≡ slots_at rec slots s

    abbrev pub Made : Change K (RankedLeaf K V) → Type 0
    Made (one l m) = Elsewhere rec slots t rec' slots' × (ranked_at rec' slots' t ≡ l)
    Made (two low b high m) = Parted low b high
    Made no_room = (rec' ≡ rec) × (slots' ≡ slots)

module _ {K V : Type 0} (O : Order K) (rec : Table) (slots : List (Slot K V)) (e : Entry K V) (upsert : Bool) (rec' : Table) (slots' : List (Slot K V)) (r : Result ℕ Refusal) where
  -- An accepted filing, seen in the arrays. The flags of an array follow from its ranks: it is retired exactly if it has uses and none is live.
  pub record Ranks : Type 0 where
    pub target : ℕ
    pub aimed : Aimed (state_of rec.children).ranks (sides O e.key (part 17 slots)) target
    pub made : Made O rec slots target rec' slots' (fitting O rec slots target e)

  pub record Filed : Type 0 where
    pub node : call O e upsert (node_of rec slots) ≡ record { node = node_of rec' slots'; answer = filing_answer r }
    pub ranks : accepted {K = K} {V = V} (filing_answer r) ≡ true → Ranks
    pub kept : Kept O rec' slots'
