-- What a step in the leaf of one place answers and leaves.
--     OnlyLeaf           nothing has changed but leaf n of the table
--     Elsewhere          nothing has changed but the leaf of the place
--     roomy l            the leaf takes one slot more
--     FiledAt            an entry is filed in the leaf
--     StruckAt           a place is struck in the leaf
--     asked after c o    the condition c once it was asked of the entry o, if there is one
use Rattle.std.specs.Prelude.{Result, Ok, Err, ◌≡◌, ℕ, ◌<◌, ◌≤◌, Bool, true, false, not, ◌&&◌, ◌≢◌, ◌⊎◌, List, length, nat_lt}
use Rattle.std.proofs.Math.Option.{Option, some, none}
use Rattle.keys.specs.Orders.{Order}
use Rattle.keys.specs.declared.refusal.Refusal.{Refusal}
use Rattle.keys.specs.declared.refusal.Refusal.TheVariants.{Duplicate, Full, NotStruck}
use Rattle.ranks.specs.Dimensions.{leaf_length}
use Rattle.lists.specs.Leaves.{Entry, Leaf, lives, spent, retired, placed, lookup}
use Rattle.leaf.specs.Slots.{Sorted}
use Rattle.leaf.specs.declared.data_block.Slot.{Slot}
use Rattle.leaf.specs.declared.result.RemoveOutcome.{RemoveOutcome}
use Rattle.leaf.specs.declared.result.RemoveOutcome.TheVariants.{Success, Retired}
use Rattle.ranked_leaves.specs.Ranked.{cleared, taken}
use Rattle.leaf_table.specs.Records.{state_no}
use Rattle.leaf_table.specs.States.{part, state_at, slots_at, leaf_at, ranked_at}
use Rattle.leaf_table.specs.declared.table.Table.{Table}

abbrev pub roomy : {K V : Type 0} → Leaf K V → Bool
roomy l = not (retired l) && nat_lt (length l) leaf_length

abbrev pub asked : {K V C : Type 0} → (C → V → C) → C → Option (Entry K V) → C
asked after c none = c
asked after c (some e) = after c e.value

-- the spare's array and slots are as they were too
pub record OnlyLeaf {K V : Type 0} (rec : Table) (slots : List (Slot K V)) (n : ℕ) (rec' : Table) (slots' : List (Slot K V)) : Type 0 where
  pub children : rec'.children ≡ rec.children
  pub seats : rec'.seats ≡ rec.seats
  pub gone : rec'.gone ≡ rec.gone
  pub states : (m : ℕ) → m ≢ n → state_no rec'.leaves m ≡ state_no rec.leaves m
  pub parts : (m : ℕ) → m < 18 → m ≢ n → part m slots' ≡ part m slots

-- Which leaf of the table serves a place is free: what counts is the array and the slots of each place.
pub record Elsewhere {K V : Type 0} (rec : Table) (slots : List (Slot K V)) (t : ℕ) (rec' : Table) (slots' : List (Slot K V)) : Type 0 where
  pub children : rec'.children ≡ rec.children
  pub bounds : part 17 slots' ≡ part 17 slots
  pub gone : rec'.gone ≡ rec.gone
  pub states : (s : ℕ) → s ≤ 15 → s ≢ t → state_at rec' s ≡ state_at rec s
  pub contents : (s : ℕ) → s ≤ 15 → s ≢ t → slots_at rec' slots' s ≡ slots_at rec slots s

module _ {K V : Type 0} (O : Order K) (rec : Table) (slots : List (Slot K V)) (t : ℕ) (e : Entry K V) (upsert : Bool) (rec' : Table) (slots' : List (Slot K V)) where
  -- where that counts, the place is not held
  abbrev pub Unheld : Type 0
  Unheld = upsert ≡ false → lookup O (placed O e) (lives (leaf_at rec slots t)) ≡ none

  pub record Grown : Type 0 where
    pub room : roomy (leaf_at rec slots t) ≡ true
    pub unheld : Unheld
    pub elsewhere : Elsewhere rec slots t rec' slots'
    pub here : ranked_at rec' slots' t ≡ taken O e (ranked_at rec slots t)
    pub sorted : Sorted O (state_at rec' t).ranks (slots_at rec' slots' t)

  abbrev pub FiledAt : Result (Unit {0}) Refusal → Type 0
  FiledAt (Ok u) = Grown
  FiledAt (Err r) =
      ((r ≡ Duplicate) × (upsert ≡ false) × ((x : Entry K V) × (lookup O (placed O e) (lives (leaf_at rec slots t)) ≡ some x)))
      ⊎ ((r ≡ Full) × (roomy (leaf_at rec slots t) ≡ false) × Unheld)

module _ {K V : Type 0} (O : Order K) (says : V → Bool) (rec : Table) (slots : List (Slot K V)) (t : ℕ) (p : O.Place) (rec' : Table) where
  abbrev pub held_at : Option (Entry K V)
  held_at = lookup O p (lives (leaf_at rec slots t))

  -- the entry that is struck, and whether it was its leaf's last live one
  pub record Struck (last : Bool) : Type 0 where
    pub entry : Entry K V
    pub held : held_at ≡ some entry
    pub said : says entry.value ≡ true
    pub elsewhere : Elsewhere rec slots t rec' slots
    pub here : ranked_at rec' slots t ≡ cleared O p (ranked_at rec slots t)
    pub sorted : Sorted O (state_at rec' t).ranks (slots_at rec' slots t)
    pub left : spent (leaf_at rec' slots t) ≡ last

  abbrev pub StruckAt : Result RemoveOutcome Refusal → Type 0
  StruckAt (Ok Success) = Struck false
  StruckAt (Ok Retired) = Struck true
  StruckAt (Err r) = (r ≡ NotStruck) × ((held_at ≡ none) ⊎ ((x : Entry K V) × (held_at ≡ some x) × (says x.value ≡ false)))
