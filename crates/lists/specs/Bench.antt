-- Nine cases on plain numbers, which the definitions alone decide.
use Rattle.std.specs.Prelude.{◌≡◌, ℕ, zero, suc, Bool, true, false, ◌&&◌, List, [], ◌∷◌, ◌++◌, map, reverse}
use Rattle.keys.specs.declared.refusal.Refusal.TheVariants.{Duplicate, Full}
use Rattle.keys.specs.Orders.{numbers}
use Rattle.keys.specs.Refusals.{number}
use Rattle.lists.specs.Leaves.{Entry}
use Rattle.lists.specs.Rows.{edge, child}
use Rattle.lists.specs.Nodes.{Node, gone, sheet, Answer, filed, struck, found, began, gave, refused}
use Rattle.lists.specs.Walks.{forth, front, route}
use Rattle.lists.specs.Histories.{Call, file, replace, strike, find, does, Past, state_after, history, accepted}

abbrev pub Calls : Type 0
Calls = List (Call ℕ ℕ ℕ)

-- n numbers from a on
abbrev pub from : ℕ → ℕ → List ℕ
from a zero = []
from a (suc n) = a ∷ from (suc a) n

abbrev pub down : ℕ → ℕ → List ℕ
down a n = reverse (from a n)

-- the entry with the key x
abbrev pub entry : ℕ → Entry ℕ ℕ
entry x = record { key = x; value = 0 }

abbrev pub files : List ℕ → Calls
files xs = map (λ x. file (entry x)) xs

-- a strike with a condition that says yes to all
abbrev pub struck_at : ℕ → Call ℕ ℕ ℕ
struck_at x = strike x (λ v. true)

abbrev pub strikes : List ℕ → Calls
strikes xs = map struck_at xs

-- the node after calls on a fresh one, in order, and the answer to one more
abbrev pub node_after : Calls → Node ℕ ℕ
node_after cs = (state_after numbers (reverse cs)).node

abbrev pub answer : Calls → Call ℕ ℕ ℕ → Answer ℕ ℕ
answer cs c = (does numbers c (state_after numbers (reverse cs))).answer

abbrev pub none_refused : Past ℕ numbers → Bool
none_refused [] = true
none_refused (x ∷ h) = accepted x.answer && none_refused h

abbrev pub all_accepted : Calls → Bool
all_accepted cs = none_refused (history numbers (reverse cs))

-- the first bound, and the live keys of the first leaf in order
abbrev pub first_bound : Node ℕ ℕ → ℕ
first_bound gone = 0
first_bound (sheet (edge l) used closed) = 0
first_bound (sheet (child b l r) used closed) = b

abbrev pub first_keys : Node ℕ ℕ → List ℕ
first_keys n = map (λ (e : Entry ℕ ℕ). e.key) (front (route numbers forth n))

-- the number of a refusal, and 0 of any other answer
abbrev pub refusal_number : Answer ℕ ℕ → ℕ
refusal_number (filed m) = 0
refusal_number (struck b) = 0
refusal_number (found v) = 0
refusal_number (began b) = 0
refusal_number (gave o) = 0
refusal_number (refused r) = number r

pub record Cases : Type 0 where
  -- a full ascending leaf becomes a child, and nothing moves
  pub ascending : answer (files (from 1 15)) (file (entry 16)) ≡ filed 0
  -- a full descending leaf splits after its least entry
  pub descending : answer (files (down 1 15)) (file (entry 0)) ≡ filed 15
  pub descending_bound : first_bound (node_after (files (down 1 15 ++ 0 ∷ []))) ≡ 1
  pub descending_low : first_keys (node_after (files (down 1 15 ++ 0 ∷ []))) ≡ 0 ∷ 1 ∷ []
  -- a full ascending leaf splits before its greatest entry
  pub least : answer (files (from 2 15)) (file (entry 1)) ≡ filed 15
  pub least_bound : first_bound (node_after (files (from 2 15 ++ 1 ∷ []))) ≡ 15
  pub least_low : first_keys (node_after (files (from 2 15 ++ 1 ∷ []))) ≡ from 1 15
  -- with eleven live a leaf is made anew
  pub made_anew : answer (files (from 1 15) ++ strikes (from 12 4)) (file (entry 16)) ≡ filed 11
  -- with twelve live a leaf splits
  pub twelve_split : answer (files (from 1 15) ++ strikes (from 13 3)) (file (entry 16)) ≡ filed 12
  pub twelve_split_bound : first_bound (node_after (files (from 1 15) ++ (strikes (from 13 3) ++ files (16 ∷ [])))) ≡ 11
  -- fifteen children and the unbounded leaf, all full, have no room for more
  pub filled : all_accepted (files (from 1 240)) ≡ true
  pub filled_file : answer (files (from 1 240)) (file (entry 241)) ≡ refused Full
  pub filled_replace : answer (files (from 1 240)) (replace (entry 1)) ≡ refused Full
  pub filled_duplicate : answer (files (from 1 240)) (file (entry 1)) ≡ refused Duplicate
  -- a node whose only entry is struck is retired, for good
  pub retired : answer (files (1 ∷ [])) (struck_at 1) ≡ struck true
  pub retired_file : refusal_number (answer (files (1 ∷ []) ++ strikes (1 ∷ [])) (file (entry 1))) ≡ 2
  pub retired_find : refusal_number (answer (files (1 ∷ []) ++ strikes (1 ∷ [])) (find 1)) ≡ 5
  pub retired_strike : refusal_number (answer (files (1 ∷ []) ++ strikes (1 ∷ [])) (struck_at 1)) ≡ 3
  -- a retired unbounded leaf stays beside a bounded child, and is made anew
  pub edge_stays : answer (files (from 1 16)) (struck_at 16) ≡ struck false
  pub edge_stays_file : answer (files (from 1 16) ++ strikes (16 ∷ [])) (file (entry 17)) ≡ filed 0
  -- once the last bounded child has left there are no more children: the unbounded leaf fills, and that is all
  pub closed : all_accepted (files (from 1 16) ++ (strikes (from 1 15) ++ files (from 17 14))) ≡ true
  pub closed_file : answer (files (from 1 16) ++ (strikes (from 1 15) ++ files (from 17 14))) (file (entry 31)) ≡ refused Full
