-- A node of leaf lists, and what filing, replacing, striking and finding make of it and answer.
use Rattle.std.specs.Prelude.{ℕ, suc, Bool, true, false, cond, not, ◌&&◌, ◌||◌, List, [], ◌∷◌, ◌++◌, map, length, take, drop, ◌==◌, nat_le, nat_lt}
use Rattle.std.proofs.Math.Option.{Option, some, none}
use Rattle.keys.specs.declared.refusal.Refusal.{Refusal}
use Rattle.keys.specs.declared.refusal.Refusal.TheVariants.{Duplicate, Full, NotStruck, NotFound}
use Rattle.keys.specs.Orders.{Order, precedes}
use Rattle.ranks.specs.Dimensions.{leaf_length, remake_limit, boundary}
use Rattle.lists.specs.Leaves.{Entry, live, Leaf, lives, spent, retired, last_or, placed, lookup, ordered, kill, append, rises, ascends}
use Rattle.lists.specs.Rows.{Row, edge, child, Change, one, two, no_room, bounded, target, at_edge, changed, lessened}

-- how many children a node can have in all its time
abbrev pub child_places : ℕ
child_places = leaf_length

-- A node whose unbounded leaf is gone has nothing left. Any other has its row, the number of child places ever used, and the mark that
-- children are closed.
pub data Node (K V : Type 0) : Type 0 where
  gone : Node K V
  sheet : Row K (Leaf K V) → ℕ → Bool → Node K V

abbrev pub fresh : {K V : Type 0} → Node K V
fresh = sheet (edge []) 0 false

-- What a call answers: the moved count of an accepted filing or replacement; of an accepted strike whether the node is now retired; a
-- value that was found; whether a walk began; what a move of a walk gave; or a refusal.
pub data Answer (K V : Type 0) : Type 0 where
  filed : ℕ → Answer K V
  struck : Bool → Answer K V
  found : V → Answer K V
  began : Bool → Answer K V
  gave : Option (Entry K V) → Answer K V
  refused : Refusal → Answer K V

pub record Done (K V : Type 0) : Type 0 where
  pub node : Node K V
  pub answer : Answer K V

-- the node as it was, and a refusal
abbrev pub refusing : {K V : Type 0} → Node K V → Refusal → Done K V
refusing n r = record { node = n; answer = refused r }

module _ {K V : Type 0} (O : Order K) where
  -- The B least of the entries es form the low leaf and the rest the high leaf. The bound is the greatest of the low, and the new entry goes
  -- to the high leaf if it is after the bound.
  abbrev pub split : Entry K V → List (Entry K V) → ℕ → Change K (Leaf K V)
  split e es B =
      let low : Leaf K V = map live (take B es) in
      let high : Leaf K V = map live (drop B es) in
      let bound : K = (last_or e (take B es)).key in
      cond (precedes O (O.place bound) (placed O e))
      (two low bound (append O e high) (length es))
      (two (append O e low) bound high (length es))

  -- What an entry makes of its target l, where `last` says that l is unbounded, and `room` that a child place is left and children are not
  -- closed. In turn: it takes the next slot; the leaf is made anew from its live entries in order of key; there is no room; a full leaf that
  -- ascends up to the entry becomes a child bounded by its greatest key; a two-way split.
  abbrev pub fit : Entry K V → Bool → Bool → Leaf K V → Change K (Leaf K V)
  fit e last room l =
      let L : ℕ = length (lives l) in
      cond (not (retired l) && nat_lt (length l) leaf_length) (one (append O e l) 0)
      (cond (nat_le L remake_limit) (one (append O e (map live (ordered O l))) L)
      (cond (not room) no_room
      (cond (last && (L == leaf_length && ascends O (lives l ++ e ∷ []))) (two l (last_or e (lives l)).key (live e ∷ []) 0)
      (split e (ordered O l) (boundary L (rises O (lives l)))))))

  -- what an entry makes of its target in a row
  abbrev pub fitted : Entry K V → Row K (Leaf K V) → ℕ → Bool → Change K (Leaf K V)
  fitted e r used closed = fit e (at_edge O (placed O e) r) (nat_lt used child_places && not closed) (target O (placed O e) r)

  abbrev pub filing : O.Place → Change K (Leaf K V) → Row K (Leaf K V) → ℕ → Bool → Done K V
  filing p (one l m) r used closed = record { node = sheet (changed O p (one l m) r) used closed; answer = filed m }
  filing p (two low b high m) r used closed = record { node = sheet (changed O p (two low b high m) r) (suc used) closed; answer = filed m }
  filing p no_room r used closed = refusing (sheet r used closed) Full

  abbrev pub replace : Entry K V → Node K V → Done K V
  replace e gone = refusing gone Full
  replace e (sheet r used closed) = filing (placed O e) (fitted e r used closed) r used closed

  -- the live entry of a place in its target
  abbrev pub held : O.Place → Row K (Leaf K V) → Option (Entry K V)
  held p r = lookup O p (lives (target O p r))

  abbrev pub unless_held : Option (Entry K V) → Node K V → Done K V → Done K V
  unless_held none n d = d
  unless_held (some x) n d = refusing n Duplicate

  -- as a replacement, unless the place is held
  abbrev pub file : Entry K V → Node K V → Done K V
  file e gone = refusing gone Full
  file e (sheet r used closed) = unless_held (held (placed O e) r) (sheet r used closed) (replace e (sheet r used closed))

  -- the value of an entry, or that none is there
  abbrev pub told : Option (Entry K V) → Answer K V
  told none = refused NotFound
  told (some e) = found e.value

  abbrev pub find : O.Place → Node K V → Answer K V
  find p gone = refused NotFound
  find p (sheet r used closed) = told (held p r)

  -- the live slot of the place dies, and a bounded child leaves with its last live slot
  abbrev pub killed : O.Place → Row K (Leaf K V) → Row K (Leaf K V)
  killed p r = lessened O (kill O p) spent p r

  -- With no bounded child left, children are closed if there were any, and an unbounded leaf with no live slot goes too.
  abbrev pub settled : Bool → Row K (Leaf K V) → ℕ → Bool → Done K V
  settled had (edge l) used closed =
      cond (spent l) (record { node = gone; answer = struck true }) (record { node = sheet (edge l) used (closed || had); answer = struck false })
  settled had (child b l r) used closed = record { node = sheet (child b l r) used closed; answer = struck false }

  abbrev pub strike_held : Option (Entry K V) → O.Place → (V → Bool) → Row K (Leaf K V) → ℕ → Bool → Done K V
  strike_held none p says r used closed = refusing (sheet r used closed) NotStruck
  strike_held (some e) p says r used closed = cond (says e.value) (settled (bounded r) (killed p r) used closed) (refusing (sheet r used closed) NotStruck)

  -- strikes the entry that holds the place, if the condition says yes of its value
  abbrev pub strike : O.Place → (V → Bool) → Node K V → Done K V
  strike p says gone = refusing gone NotStruck
  strike p says (sheet r used closed) = strike_held (held p r) p says r used closed
