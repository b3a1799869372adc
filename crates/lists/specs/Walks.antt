-- Walks over a node: a cursor, its moves, and what a full walk meets.
use Rattle.std.specs.Prelude.{ℕ, zero, suc, ◌-◌, Bool, true, false, cond, List, [], ◌∷◌, map, reverse, length, drop, nat_lt}
use Rattle.std.proofs.Math.Option.{Option, some, none}
use Rattle.std.specs.List.{flat_map}
use Rattle.keys.specs.Orders.{Order}
use Rattle.lists.specs.Leaves.{Entry, ordered}
use Rattle.lists.specs.Rows.{leaves}
use Rattle.lists.specs.Nodes.{Node, gone, sheet}

pub data Direction : Type 0 where
  forth : Direction
  back : Direction

pub data Move : Type 0 where
  next : Move
  jump : Move
  get : Move
  rewind : Move

-- The leaf, counted from 0 in the walk's direction, and how many of its entries were passed: with 0 the cursor is before the first.
pub record Cursor : Type 0 where
  pub leaf : ℕ
  pub passed : ℕ

abbrev pub start : Cursor
start = record { leaf = 0; passed = 0 }

-- where a move leaves the cursor, and the entry that it gives, if any
pub record Landing (A : Type 0) : Type 0 where
  pub at : Cursor
  pub entry : Option A

abbrev pub first : {A : Type 0} → List A → Option A
first [] = none
first (x ∷ xs) = some x

-- the entries of the first leaf
abbrev pub front : {A : Type 0} → List (List A) → List A
front [] = []
front (es ∷ ls) = es

-- the first entry of the first leaf that has one, and the leaf's number, counted from i
abbrev pub seek : {A : Type 0} → ℕ → List (List A) → Option (ℕ × A)
seek i [] = none
seek i ([] ∷ ls) = seek (suc i) ls
seek i ((e ∷ es) ∷ ls) = some (i, e)

abbrev pub after_next : {A : Type 0} → Cursor → Option A → Landing A
after_next c none = record { at = c; entry = none }
after_next c (some e) = record { at = record { leaf = c.leaf; passed = suc c.passed }; entry = some e }

-- With no entry ahead, the cursor goes before the first entry of the last of n leaves, or stays if it is in that leaf.
abbrev pub after_jump : {A : Type 0} → ℕ → Cursor → Option (ℕ × A) → Landing A
after_jump n c none = record { at = cond (nat_lt (suc c.leaf) n) (record { leaf = n - 1; passed = 0 }) c; entry = none }
after_jump n c (some x) = record { at = record { leaf = x.0; passed = 1 }; entry = some x.1 }

-- the entry last given in a leaf of which n were passed
abbrev pub latest : {A : Type 0} → ℕ → List A → Option A
latest zero es = none
latest (suc n) es = first (drop n es)

-- `next` gives the next entry of the leaf; `jump` the first entry of the leaves after it; `get` the entry last given; `rewind` goes
-- back before the first entry of the leaf.
abbrev pub goes : {A : Type 0} → Move → List (List A) → Cursor → Landing A
goes next ls c = after_next c (first (drop c.passed (front (drop c.leaf ls))))
goes jump ls c = after_jump (length ls) c (seek (suc c.leaf) (drop (suc c.leaf) ls))
goes get ls c = record { at = c; entry = latest c.passed (front (drop c.leaf ls)) }
goes rewind ls c = record { at = record { leaf = c.leaf; passed = 0 }; entry = none }

-- What is met from the cursor on: `next` until it gives none, then `jump`, and so on until `jump` gives none; at most n entries.
abbrev pub meetings : {A : Type 0} → ℕ → List (List A) → Cursor → List A
meetings zero ls c = []
meetings {A} (suc n) ls c =
    let stepping : Landing A = goes next ls c in
    let jumping : Landing A = goes jump ls stepping.at in
    elim stepping.entry [
      | some e ↦ e ∷ meetings n ls stepping.at
      | none ↦ elim jumping.entry [ some e ↦ e ∷ meetings n ls jumping.at | none ↦ [] ]
    ]

-- What a full walk meets. The limit is one more than there are entries, so that it cuts no walk short, and an entry given twice would show.
abbrev pub full_walk : {A : Type 0} → List (List A) → List A
full_walk ls = meetings (suc (length (flat_map (λ es. es) ls))) ls start

abbrev pub back_to_front : {A : Type 0} → List (List A) → List (List A)
back_to_front ls = reverse (map reverse ls)

module _ {K V : Type 0} (O : Order K) where
  -- the leaves in a direction, each its live entries in that direction
  abbrev pub route : Direction → Node K V → List (List (Entry K V))
  route d gone = []
  route forth (sheet r used closed) = map (ordered O) (leaves r)
  route back (sheet r used closed) = back_to_front (map (ordered O) (leaves r))

  abbrev pub walked : Direction → Node K V → List (Entry K V)
  walked d n = full_walk (route d n)

-- the first call of a walk gives a cursor, unless the node is gone
abbrev pub walkable : {K V : Type 0} → Node K V → Bool
walkable gone = false
walkable (sheet r used closed) = true
