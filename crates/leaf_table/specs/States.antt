-- The node that a record and its 270 slots stand for.
--     part n slots             the fifteen slots of leaf n; part 17 has the bounds
--     pick rs bs f r           the child of rank r: its bound, and what f has for its place
--     row_on kid last r n      the row of the children of the ranks r to r + n - 1, and last the unbounded leaf
--     leaf_at rec slots t      the leaf of place t: 0 to 14 are child places, 15 is the unbounded leaf, 16 the spare
--     ranked_at rec slots t    the same with its ranks
--     node_of rec slots        the node
--     TableSorted              in the leaf of every place, and among the bounds, ranks order keys
--     Kept                     the same, and the node is one that calls make
--     Aimed rs ss t            place t is that of the child of the least rank that is not before a key, or 15 if there is none
use Rattle.std.specs.Prelude.{◌≡◌, ℕ, zero, suc, ◌+◌, ◌-◌, ◌*◌, ◌<◌, ◌≤◌, cond, List, [], ◌∷◌, take, drop, Some, None, Option, ◌==◌, slice_index}
use Rattle.keys.specs.Orders.{Order}
use Rattle.ranks.specs.Words.{is_retired}
use Rattle.lists.specs.Leaves.{Leaf}
use Rattle.lists.specs.Rows.{Row, edge, child}
use Rattle.lists.specs.Nodes.{Node, gone, sheet}
use Rattle.lists.specs.Histories.{Call, state_after}
use Rattle.leaf.specs.Rules.{State, state_of, Least}
use Rattle.leaf.specs.Slots.{Sorted}
use Rattle.leaf.specs.declared.data_block.Slot.{Slot}
use Rattle.ranked_leaves.specs.Ranked.{RankedLeaf}
use Rattle.leaf_lists.specs.Stands.{leaf_in}
use Rattle.ranked_leaves.specs.RanksStand.{ranked_in}
use Rattle.leaf_table.specs.Records.{state_no}
use Rattle.leaf_table.specs.declared.table.Table.{Table}

-- how many slots a node has
abbrev pub node_length : ℕ
node_length = 270

abbrev pub part : {A : Type 0} → ℕ → List A → List A
part n slots = take ((15 * n + 15) - 15 * n) (drop (15 * n) slots)

module _ {K V L : Type 0} where
  abbrev pub pick : List ℕ → List (Slot K V) → (ℕ → L) → ℕ → Option (K × L)
  pick [] bs f r = None
  pick (x ∷ rs) [] f r = None
  pick (x ∷ rs) (b ∷ bs) f r = cond (x == r) (Some (b.key, f 0)) (pick rs bs (λ i. f (suc i)) r)

module _ {K L : Type 0} where
  abbrev pub linked : Option (K × L) → Row K L → Row K L
  linked None row = row
  linked (Some x) row = child x.0 x.1 row

  abbrev pub row_on : (ℕ → Option (K × L)) → L → ℕ → ℕ → Row K L
  row_on kid last r zero = edge last
  row_on kid last r (suc n) = linked (kid r) (row_on kid last (suc r) n)

-- the array of place t
abbrev pub state_at : Table → ℕ → State
state_at rec t = state_no rec.leaves (slice_index rec.seats t)

module _ {K V : Type 0} (rec : Table) (slots : List (Slot K V)) where
  -- leaf n of the table
  abbrev pub leaf_no : ℕ → Leaf K V
  leaf_no n = leaf_in (state_no rec.leaves n) (part n slots)

  abbrev pub leaf_at : ℕ → Leaf K V
  leaf_at t = leaf_no (slice_index rec.seats t)

  abbrev pub slots_at : ℕ → List (Slot K V)
  slots_at t = part (slice_index rec.seats t) slots

  abbrev pub ranked_at : ℕ → RankedLeaf K V
  ranked_at t = ranked_in (state_at rec t) (slots_at t)

  -- the bounds with their ranks; the values beside them mean nothing
  abbrev pub bounds_in : RankedLeaf K V
  bounds_in = ranked_in (state_of rec.children) (part 17 slots)

  -- the child of rank r
  abbrev pub kid : ℕ → Option (K × Leaf K V)
  kid r = pick (state_of rec.children).ranks (part 17 slots) leaf_at r

  unfoldable pub row_of : Row K (Leaf K V)
  row_of = row_on kid (leaf_at 15) 1 15

  -- the uses of the child places are counted, and children are closed once the children's array is retired
  abbrev pub node_of : Node K V
  node_of = cond rec.gone gone (sheet row_of (state_of rec.children).uses (is_retired (state_of rec.children).flags))

-- a node that calls make of a fresh one
abbrev pub Reached : {K V : Type 0} (O : Order K) → Node K V → Type 0
Reached {K} {V} O n = (cs : List (Call K V O.Place)) × ((state_after O cs).node ≡ n)

module _ {K V : Type 0} (O : Order K) (rec : Table) (slots : List (Slot K V)) where
  pub record TableSorted : Type 0 where
    pub leaves : (t : ℕ) → t ≤ 15 → Sorted O (state_at rec t).ranks (slots_at rec slots t)
    pub bounds : Sorted O (state_of rec.children).ranks (part 17 slots)

  pub record Kept : Type 0 where
    pub table_sorted : TableSorted
    pub reached : Reached O (node_of rec slots)

pub record Aimed (rs ss : List ℕ) (t : ℕ) : Type 0 where
  pub child : t < 15 → Least rs ss t
  pub none : 15 ≤ t → (q : ℕ) → 0 < slice_index rs q → slice_index ss q ≡ 0
