-- The law: what holds after every history of calls on a fresh node, for every order of keys, all values and whatever the conditions say.
use Rattle.std.specs.Prelude.{◌≡◌, ℕ, ◌+◌, ◌*◌, ◌≤◌, Bool, true, false, ◌⊎◌, ◌↔◌, List, [], ◌∷◌, reverse, length}
use mathlib.Core.List.{Memᴰ}
use Rattle.std.proofs.Math.Option.{Option, some, none}
use Rattle.std.specs.List.{AllByRecursion}
use Rattle.keys.specs.declared.refusal.Refusal.TheVariants.{Duplicate, Full, NotFound}
use Rattle.keys.specs.Orders.{Order}
use Rattle.ranks.specs.Dimensions.{leaf_length}
use Rattle.lists.specs.Leaves.{Entry, Leaf, placed, Ascending}
use Rattle.lists.specs.Rows.{Row, bounds, leaves, target, Rising, Targets}
use Rattle.lists.specs.Nodes.{child_places, Node, gone, sheet, Answer, struck, found, began, gave, refused}
use Rattle.lists.specs.Walks.{forth, back, walked}
use Rattle.lists.specs.Histories.{State, Call, file, replace, strike, find, begin, move, turned_away, refusal_for, Event, Past, state_after, history, Stepped, Ran, accepted, moved, put, splits, Over, standing}

module _ {K V : Type 0} (O : Order K) where
  abbrev pub Stands : Past V O → Entry K V → Type 0
  Stands h e = standing O (placed O e) h ≡ some e

  -- some entry stands
  abbrev pub Alive : Past V O → Type 0
  Alive h = (e : Entry K V) × Stands h e

  -- es are exactly the standing entries, each once, strictly ascending
  pub record Exactly (h : Past V O) (es : List (Entry K V)) : Type 0 where
    pub ascend : Ascending O es
    pub stand : (e : Entry K V) → Memᴰ e es → Stands h e
    pub all : (e : Entry K V) → Stands h e → Memᴰ e es

  -- some entry stands, and the condition says yes of its value
  abbrev pub agreed : (V → Bool) → Option (Entry K V) → Bool
  agreed says none = false
  agreed says (some e) = says e.value

  -- the answer of a find, where o stands at its place
  abbrev pub Tells : Option (Entry K V) → Answer K V → Type 0
  Tells none a = a ≡ refused NotFound
  Tells (some e) a = a ≡ found e.value

  -- What is right of the answer a to a call after the history h.
  abbrev pub Right : Past V O → Call K V O.Place → Answer K V → Type 0
  -- a filing is Duplicate exactly if its place stood; once a strike has answered Retired, it is Full
  Right h (file e) a = ((a ≡ refused Duplicate) ↔ ((x : Entry K V) × (standing O (placed O e) h ≡ some x))) × (Over h → a ≡ refused Full)
  -- once a strike has answered Retired, a replacement is Full
  Right h (replace e) a = Over h → a ≡ refused Full
  -- A strike is accepted exactly if an entry stood at its place and the condition said yes of its value. It answers Retired exactly if an
  -- entry stood before it and none stands after it.
  Right h (strike p says) a =
      (accepted a ≡ agreed says (standing O p h))
      × ((a ≡ struck true) ↔ (Alive h × (Alive (record { call = strike p says; answer = a } ∷ h) → ⊥)))
  -- a find answers the value of the entry that stands at its place, or NotFound if none does; so always once a strike has answered Retired
  Right h (find p) a = Tells (standing O p h) a × (Over h → a ≡ refused NotFound)
  -- the first call of a walk answers none exactly once a strike has answered Retired
  Right h (begin d) a = (a ≡ began false) ↔ Over h
  -- each entry that a move of a walk gives stands
  Right h (move m) a = (e : Entry K V) → a ≡ gave (some e) → Stands h e
  Right h (turned_away f) a = a ≡ refused (refusal_for f)

  abbrev pub AllRight : Past V O → Type 0
  AllRight [] = Unit {0}
  AllRight (x ∷ h) = Right h x.call x.answer × AllRight h

  -- what holds of a row of which so many child places were ever used
  pub record Arranged (r : Row K (Leaf K V)) (used : ℕ) : Type 0 where
    -- the target of a place is the child with the least bound not before it, or the unbounded leaf if every bound is before it
    pub aims : (p : O.Place) → Targets O p r (target O p r)
    -- the bounds ascend strictly, and there are no more children than places used, nor more of these than there are
    pub rising : Rising O (bounds r)
    pub fewer : length (bounds r) ≤ used
    pub few : used ≤ child_places
    -- no leaf has more slots than it can
    pub small : AllByRecursion (λ l. length l ≤ leaf_length) (leaves r)

  abbrev pub InOrder : Node K V → Type 0
  InOrder gone = Unit {0}
  InOrder (sheet r used closed) = Arranged r used

  -- What holds of a history h and the state s that it led to.
  pub record Lawful (h : Past V O) (s : State K V) : Type 0 where
    -- the full forward walk meets exactly the standing entries, and the full backward walk meets them reversed
    pub forward : Exactly h (walked O forth s.node)
    pub backward : walked O back s.node ≡ reverse (walked O forth s.node)
    -- each answer so far was right
    pub answers : AllRight h
    -- Four times the entries moved is at most eleven for each accepted filing or replacement and 49 for each two-way split, and there are
    -- at most as many such splits as child places.
    pub cheap : 4 * moved h ≤ 11 * put h + 49 * splits h
    pub few : splits h ≤ child_places
    pub in_order : InOrder s.node

  -- an event that changes no node: a refusal, or a call that only looks
  abbrev pub looks : Call K V O.Place → Bool
  looks (file e) = false
  looks (replace e) = false
  looks (strike p says) = false
  looks (find p) = true
  looks (begin d) = true
  looks (move m) = true
  looks (turned_away f) = true

  abbrev pub Idle : Event K V O.Place → Type 0
  Idle x = (looks x.call ≡ true) ⊎ (accepted x.answer ≡ false)

-- Of every history. Each answer in it is the one that `does` defines: so `Ran` says.
pub record Law (V : Type 0) {K : Type 0} (O : Order K) (S : Type 0) : Type 0 where
  -- after the opening and after each call
  pub reached : (of : S → State K V) (s : S) (h : Past V O) → Ran O of s h → Lawful O h (of s)
  -- a refusal, a find and the calls of a walk leave the node as it was
  pub idle : (of : S → State K V) (s t : S) (h : Past V O) (x : Event K V O.Place) → Ran O of s h → Stepped O of s x t → Idle O x → (of t).node ≡ (of s).node
  -- the same of lists of calls
  pub calls : (cs : List (Call K V O.Place)) → Lawful O (history O cs) (state_after O cs)
  -- and what stands leaves no choice of what a full walk meets
  pub only : (h : Past V O) (xs ys : List (Entry K V)) → Exactly O h xs → Exactly O h ys → xs ≡ ys
