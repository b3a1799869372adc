-- Histories: calls on a node and a walk over it, what each does, and what stands, was moved and was split by the calls and answers alone.
use Rattle.std.specs.Prelude.{◌≡◌, ℕ, ◌+◌, Bool, true, false, cond, ◌⊎◌, List, [], ◌∷◌, nat_lt}
use Rattle.std.proofs.Math.Option.{Option, some, none}
use Rattle.keys.specs.declared.refusal.Refusal.{Refusal}
use Rattle.keys.specs.declared.refusal.Refusal.TheVariants.{SlotCount, StoredLength}
use Rattle.keys.specs.Orders.{Order, meets}
use Rattle.ranks.specs.Dimensions.{remake_limit}
use Rattle.lists.specs.Leaves.{Entry, placed}
use Rattle.lists.specs.Nodes.{Node, Answer, filed, struck, found, began, gave, refused, Done, fresh}
use Rattle.lists.specs.Nodes as nodes
use Rattle.lists.specs.Walks.{Direction, Move, Cursor, start, goes, route, walkable}

pub record Walk : Type 0 where
  pub direction : Direction
  pub cursor : Cursor

-- a node, and the walk over it that goes on, if one does
pub record State (K V : Type 0) : Type 0 where
  pub node : Node K V
  pub walk : Option Walk

abbrev pub opening : {K V : Type 0} → State K V
opening = record { node = fresh; walk = none }

-- What turns a call away before it looks at the node: the number of slots, or the bytes of a stored key.
pub data Flaw : Type 0 where
  of_slots : Flaw
  of_bytes : Flaw

abbrev pub refusal_for : Flaw → Refusal
refusal_for of_slots = SlotCount
refusal_for of_bytes = StoredLength

-- A strike has its condition as it stands at the call: what it says of each value. `begin` is the first call of a walk.
pub data Call (K V P : Type 0) : Type 0 where
  file : Entry K V → Call K V P
  replace : Entry K V → Call K V P
  strike : P → (V → Bool) → Call K V P
  find : P → Call K V P
  begin : Direction → Call K V P
  move : Move → Call K V P
  turned_away : Flaw → Call K V P

pub record Outcome (K V : Type 0) : Type 0 where
  pub state : State K V
  pub answer : Answer K V

-- a filing, a replacement and a strike end the walk
abbrev pub ended : {K V : Type 0} → Done K V → Outcome K V
ended d = record { state = record { node = d.node; walk = none }; answer = d.answer }

module _ {K V : Type 0} (O : Order K) where
  -- the walk after a move, and what the move gives; with no walk going on, none
  abbrev pub onward : Move → Node K V → Option Walk → Option Walk
  onward m n none = none
  onward m n (some w) = some (record { direction = w.direction; cursor = (goes m (route O w.direction n) w.cursor).at })

  abbrev pub given : Move → Node K V → Option Walk → Option (Entry K V)
  given m n none = none
  given m n (some w) = (goes m (route O w.direction n) w.cursor).entry

  -- what a call does
  abbrev pub does : Call K V O.Place → State K V → Outcome K V
  does (file e) s = ended (nodes.file O e s.node)
  does (replace e) s = ended (nodes.replace O e s.node)
  does (strike p says) s = ended (nodes.strike O p says s.node)
  does (find p) s = record { state = s; answer = nodes.find O p s.node }
  does (begin d) s =
      let w : Walk = record { direction = d; cursor = start } in
      record { state = record { node = s.node; walk = cond (walkable s.node) (some w) none }; answer = began (walkable s.node) }
  does (move m) s = record { state = record { node = s.node; walk = onward m s.node s.walk }; answer = gave (given m s.node s.walk) }
  does (turned_away f) s = record { state = s; answer = refused (refusal_for f) }

pub record Event (K V P : Type 0) : Type 0 where
  pub call : Call K V P
  pub answer : Answer K V

-- a history, its latest event first
abbrev pub Past : {K : Type 0} → Type 0 → Order K → Type 0
Past {K} V O = List (Event K V O.Place)

-- the state and the history of calls, latest first, each on the state that the one before left
module _ {K V : Type 0} (O : Order K) where
  abbrev pub state_after : List (Call K V O.Place) → State K V
  state_after [] = opening
  state_after (c ∷ cs) = (does O c (state_after cs)).state

  abbrev pub history : List (Call K V O.Place) → Past V O
  history [] = []
  history (c ∷ cs) = record { call = c; answer = (does O c (state_after cs)).answer } ∷ history cs

-- `Ran s h`: the history h led to s. The states may be of any type S, where each stands for a node and a walk. The first stands for the
-- opening, and each call takes the state and gives the answer that `does` defines.
module _ {K V : Type 0} (O : Order K) {S : Type 0} (of : S → State K V) where
  -- the step from s to t by the event x
  pub record Stepped (s : S) (x : Event K V O.Place) (t : S) : Type 0 where
    pub state : of t ≡ (does O x.call (of s)).state
    pub answer : x.answer ≡ (does O x.call (of s)).answer

  pub data Ran : S → Past V O → Type 0 where
    opened : {s : S} → of s ≡ opening → Ran s []
    called : {s t : S} {x : Event K V O.Place} {h : Past V O} → Ran s h → Stepped s x t → Ran t (x ∷ h)

-- Of an answer: it is no refusal; the entries moved; the two-way splits, which move more than a leaf made anew; the node is retired.
module _ {K V : Type 0} where
  abbrev pub accepted : Answer K V → Bool
  accepted (filed m) = true
  accepted (struck b) = true
  accepted (found v) = true
  accepted (began b) = true
  accepted (gave o) = true
  accepted (refused r) = false

  abbrev pub moved_by : Answer K V → ℕ
  moved_by (filed m) = m
  moved_by (struck b) = 0
  moved_by (found v) = 0
  moved_by (began b) = 0
  moved_by (gave o) = 0
  moved_by (refused r) = 0

  abbrev pub splits_by : Answer K V → ℕ
  splits_by a = cond (nat_lt remake_limit (moved_by a)) 1 0

  abbrev pub retires : Answer K V → Bool
  retires (filed m) = false
  retires (struck b) = b
  retires (found v) = false
  retires (began b) = false
  retires (gave o) = false
  retires (refused r) = false

-- Of a history: the entries moved, the accepted filings and replacements, the two-way splits, and that a strike answered Retired.
module _ {K V P : Type 0} where
  abbrev pub put_by : Call K V P → Answer K V → ℕ
  put_by (file e) a = cond (accepted a) 1 0
  put_by (replace e) a = cond (accepted a) 1 0
  put_by (strike p says) a = 0
  put_by (find p) a = 0
  put_by (begin d) a = 0
  put_by (move m) a = 0
  put_by (turned_away f) a = 0

  abbrev pub moved : List (Event K V P) → ℕ
  moved [] = 0
  moved (x ∷ h) = moved_by x.answer + moved h

  abbrev pub put : List (Event K V P) → ℕ
  put [] = 0
  put (x ∷ h) = put_by x.call x.answer + put h

  abbrev pub splits : List (Event K V P) → ℕ
  splits [] = 0
  splits (x ∷ h) = splits_by x.answer + splits h

  abbrev pub Over : List (Event K V P) → Type 0
  Over [] = ⊥
  Over (x ∷ h) = (retires x.answer ≡ true) ⊎ Over h

module _ {K V : Type 0} (O : Order K) where
  -- what a call and its answer leave at p, where o stood
  abbrev pub left : O.Place → Call K V O.Place → Answer K V → Option (Entry K V) → Option (Entry K V)
  left p (file e) a o = cond (accepted a) (cond (meets O p (placed O e)) (some e) o) o
  left p (replace e) a o = cond (accepted a) (cond (meets O p (placed O e)) (some e) o) o
  left p (strike q says) a o = cond (accepted a) (cond (meets O p q) none o) o
  left p (find q) a o = o
  left p (begin d) a o = o
  left p (move m) a o = o
  left p (turned_away f) a o = o

  -- The entry that stands at p: it came with the last accepted filing or replacement of p, with no accepted strike of p later.
  abbrev pub standing : O.Place → Past V O → Option (Entry K V)
  standing p [] = none
  standing p (x ∷ h) = left p x.call x.answer (standing p h)
