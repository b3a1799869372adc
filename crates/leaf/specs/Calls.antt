-- What the calls of a leaf array answer, and what they leave.
--     insertion s ss upsert           what filing a key answers; ss are the sides of the slots seen from the key
--     Inserted                        what it leaves
--     removal                         what a strike answers and leaves, the condition too
use Rattle.std.specs.Prelude.{◌≡◌, ℕ, ◌+◌, ◌*◌, ◌<◌, Bool, false, cond, not, ◌&&◌, ◌||◌, ◌⊎◌, List, replicate, is_some, IfSome, Some, None, Option, Result, Ok, Err, OnErr, ◌==◌, nat_lt, slice_index, slice_set}
use Rattle.std.specs.List.{slice_get}
use Rattle.keys.specs.Orders.{Order}
use Rattle.keys.specs.declared.refusal.Refusal.{Refusal}
use Rattle.keys.specs.declared.refusal.Refusal.TheVariants.{Duplicate, Full, NotStruck, Frozen}
use Rattle.ranks.specs.Dimensions.{leaf_length, slot_pos}
use Rattle.ranks.specs.Words.{ranks_of, flags_of, is_retired, is_frozen}
use Rattle.leaf.specs.Records.{Whole}
use Rattle.leaf.specs.Slots.{sides, Sorted}
use Rattle.leaf.specs.Rules.{State, state_of, holder, filed, struck}
use Rattle.leaf.specs.declared.array.Array.{Array}
use Rattle.leaf.specs.declared.data_block.Slot.{Slot}
use Rattle.leaf.specs.declared.result.RemoveOutcome.{RemoveOutcome}
use Rattle.leaf.specs.declared.result.RemoveOutcome.TheVariants.{Success, Retired}

abbrev pub fresh : State
fresh = record { ranks = replicate leaf_length 0; uses = 0; flags = 0 }

abbrev pub is_full : State → Bool
is_full s = s.uses == leaf_length || is_retired s.flags

-- ---- filing

-- why a filing can be refused
abbrev pub FilingRefusal : Refusal → Type 0
FilingRefusal r = (r ≡ Duplicate) ⊎ (r ≡ Full)

abbrev pub insertion : State → List ℕ → Bool → Result (Unit {0}) Refusal
insertion s ss upsert =
    cond (s.flags == 0)
    (cond (not upsert && is_some (holder s.ranks ss)) (Err Duplicate) (cond (nat_lt s.uses leaf_length) (Ok tt) (Err Full)))
    (Err Full)

abbrev pub state_after : Result (Unit {0}) Refusal → List ℕ → State → State
state_after (Ok u) ss s = filed ss s
state_after (Err e) ss s = s

abbrev pub slots_after : {K V : Type 0} → Result (Unit {0}) Refusal → State → Slot K V → List (Slot K V) → List (Slot K V)
slots_after (Ok u) s new slots = slice_set slots (slot_pos s.uses) new
slots_after (Err e) s new slots = slots

module _ {K V : Type 0} (O : Order K) (a : Array) (slots : List (Slot K V)) (new : Slot K V) (upsert : Bool) (a' : Array) (slots' : List (Slot K V)) (r : Result (Unit {0}) Refusal) where
  pub record Inserted : Type 0 where
    pub answer : r ≡ insertion (state_of a) (sides O new.key slots) upsert
    pub state : state_of a' ≡ state_after r (sides O new.key slots) (state_of a)
    pub written : slots' ≡ slots_after r (state_of a) new slots
    pub sorted : Sorted O (ranks_of a'.metadata) slots'

  -- a filing that is refused changes nothing, whatever the slots hold
  abbrev pub Unchanged : Type 0
  Unchanged = OnErr r ((state_of a' ≡ state_of a) × (slots' ≡ slots))

-- what a filing that is done makes of the state, whatever the slots hold: no flag was set or is, and one use more is taken by a live slot
pub record Filled (s s' : State) : Type 0 where
  pub free : s.flags ≡ 0
  pub flags : s'.flags ≡ 0
  pub uses : s'.uses ≡ s.uses + 1
  pub live : 0 < slice_index s'.ranks (slot_pos s.uses)

-- ---- filing without a look at the other slots

-- the word, if one is given, goes with one use more
abbrev pub Fits : Array → Option ℕ → Type 0
Fits a metadata = IfSome metadata (λ word. Whole word (2 * a.bitmap + 1))

-- the state with one use more and that word, or else with the greatest rank at that use
abbrev pub pushed : Option ℕ → State → State
pushed (Some word) s = record { ranks = ranks_of word; uses = s.uses + 1; flags = flags_of word }
pushed None s = record { ranks = slice_set s.ranks (slot_pos s.uses) (s.uses + 1); uses = s.uses + 1; flags = s.flags }

-- ---- striking

-- why a strike can be refused
abbrev pub StrikeRefusal : Refusal → Type 0
StrikeRefusal r = (r ≡ NotStruck) ⊎ (r ≡ Frozen)

abbrev pub entry_at : {K V : Type 0} → Option ℕ → List (Slot K V) → Option (Slot K V)
entry_at None slots = None
entry_at (Some p) slots = slice_get slots p

-- once slot p is struck
abbrev pub outcome : State → RemoveOutcome
outcome s = cond (s.flags == 4) Retired Success

-- what a strike that is done makes of the state, whatever the slots hold: a live slot is struck
pub record Struck (s s' : State) (r : RemoveOutcome) : Type 0 where
  pub at : ℕ
  pub inside : at < leaf_length
  pub live : 0 < slice_index s.ranks at
  pub warm : is_frozen s.flags ≡ false
  pub state : s' ≡ struck at s
  pub answer : r ≡ outcome s'

pub record Removal (C : Type 0) : Type 0 where
  pub answer : Result RemoveOutcome Refusal
  pub state : State
  pub condition : C

module _ {K V C : Type 0} (verdict : C → V → Bool) (after : C → V → C) where
  -- the condition c is asked of a live slot at the place, if there is one
  abbrev pub asked : State → C → Option ℕ → Option (Slot K V) → Removal C
  asked s c None e = record { answer = Err NotStruck; state = s; condition = c }
  asked s c (Some p) None = record { answer = Err NotStruck; state = s; condition = c }
  asked s c (Some p) (Some e) =
      cond (verdict c e.val)
      (record { answer = Ok (outcome (struck p s)); state = struck p s; condition = after c e.val })
      (record { answer = Err NotStruck; state = s; condition = after c e.val })

  abbrev pub removal : State → C → List ℕ → List (Slot K V) → Removal C
  removal s c ss slots =
      cond (is_frozen s.flags)
      (record { answer = Err Frozen; state = s; condition = c })
      (asked s c (holder s.ranks ss) (entry_at (holder s.ranks ss) slots))

-- what a strike of the place of x answers and leaves is the removal
abbrev pub Removed : {K V C : Type 0} → Order K → (C → V → Bool) → (C → V → C) → Array → C → K → List (Slot K V) → Array → C → Result RemoveOutcome Refusal → Type 0
Removed O verdict after a c x slots a' c' r = record { answer = r; state = state_of a'; condition = c' } ≡ removal verdict after (state_of a) c (sides O x slots) slots
