-- A leaf: its slots in order of use, each live or dead, with its entries in order of key and what one more entry makes of it.
use Rattle.std.specs.Prelude.{◌≡◌, ℕ, ◌+◌, Bool, true, false, cond, not, ◌&&◌, List, [], ◌∷◌, ◌++◌}
use Rattle.std.proofs.Math.Option.{Option, some, none}
use Rattle.std.specs.List.{AllByRecursion}
use Rattle.keys.specs.Orders.{Order, before, precedes, meets}

pub record Entry (K V : Type 0) : Type 0 where
  pub key : K
  pub value : V

pub data Slot (K V : Type 0) : Type 0 where
  live : Entry K V → Slot K V
  dead : Entry K V → Slot K V

-- the slots in order of use, at most `leaf_length` of them
abbrev pub Leaf : Type 0 → Type 0 → Type 0
Leaf K V = List (Slot K V)

-- the live entries, in order of use
abbrev pub lives : {K V : Type 0} → Leaf K V → List (Entry K V)
lives [] = []
lives (live e ∷ l) = e ∷ lives l
lives (dead e ∷ l) = lives l

abbrev pub empty : {A : Type 0} → List A → Bool
empty [] = true
empty (x ∷ xs) = false

-- no slot is live
abbrev pub spent : {K V : Type 0} → Leaf K V → Bool
spent l = empty (lives l)

-- A leaf whose last live slot died is retired: it has slots, and none is live.
abbrev pub retired : {K V : Type 0} → Leaf K V → Bool
retired l = not (empty l) && spent l

-- the last of a list, or d if there is none
abbrev pub last_or : {A : Type 0} → A → List A → A
last_or d [] = d
last_or d (x ∷ xs) = last_or x xs

module _ {K V : Type 0} (O : Order K) where
  -- the place of an entry's key
  abbrev pub placed : Entry K V → O.Place
  placed e = O.place e.key

  -- the first entry of a place
  abbrev pub lookup : O.Place → List (Entry K V) → Option (Entry K V)
  lookup p [] = none
  lookup p (e ∷ es) = cond (meets O p (placed e)) (some e) (lookup p es)

  -- strictly ascending
  abbrev pub Ascending : List (Entry K V) → Type 0
  Ascending [] = Unit {0}
  Ascending (x ∷ xs) = AllByRecursion (λ y. O.way (placed x) (placed y) ≡ before) xs × Ascending xs

  -- a new entry goes before the first entry that does not precede it
  abbrev pub insert : Entry K V → List (Entry K V) → List (Entry K V)
  insert e [] = e ∷ []
  insert e (x ∷ xs) = cond (precedes O (placed x) (placed e)) (x ∷ insert e xs) (e ∷ x ∷ xs)

  abbrev pub sorted : List (Entry K V) → List (Entry K V)
  sorted [] = []
  sorted (e ∷ es) = insert e (sorted es)

  -- the live entries, in order of key
  abbrev pub ordered : Leaf K V → List (Entry K V)
  ordered l = sorted (lives l)

  -- each live slot of the place dies
  abbrev pub kill : O.Place → Leaf K V → Leaf K V
  kill p [] = []
  kill p (live e ∷ l) = cond (meets O p (placed e)) (dead e) (live e) ∷ kill p l
  kill p (dead e ∷ l) = dead e ∷ kill p l

  -- the entry takes the next slot; a live slot of its place dies
  abbrev pub append : Entry K V → Leaf K V → Leaf K V
  append e l = kill (placed e) l ++ live e ∷ []

  -- how many entries come after the one before them
  abbrev pub rises : List (Entry K V) → ℕ
  rises [] = 0
  rises (x ∷ []) = 0
  rises (x ∷ (y ∷ ys)) = cond (precedes O (placed x) (placed y)) 1 0 + rises (y ∷ ys)

  -- each entry comes after the one before it
  abbrev pub ascends : List (Entry K V) → Bool
  ascends [] = true
  ascends (x ∷ []) = true
  ascends (x ∷ (y ∷ ys)) = precedes O (placed x) (placed y) && ascends (y ∷ ys)
