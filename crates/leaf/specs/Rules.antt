-- The rules for ranks: what filing a key and striking a slot make of the state of a leaf array.
-- Here rs are the ranks of the slots, and ss their sides seen from the key.
--     State            an array without its slots: ranks, number of uses, flags
--     holder rs ss     the live slot at the key's place
--     floor rs ss      the greatest live rank before the key, 0 if there is none
--     filed ss s       the key takes the next use. A new key gets one more than the greatest rank before it, and each rank above that
--                      rises by one; a key that is there hands its rank over, and its old slot gets 0
--     used s           one use more; given s, one less; Spare s: the last use is just taken, so that no rank counts it
--     frozen s         the frozen bit set; thawed s, cleared
--     struck p s       slot p is not live any more; where that leaves no live slot and no flag, the array is retired
use Rattle.std.specs.Prelude.{◌≡◌, ℕ, suc, ◌+◌, ◌-◌, ◌%◌, ◌<◌, ◌≤◌, max, cond, ◌&&◌, List, [], ◌∷◌, IfSome, Some, None, Option, MatchOption, ◌==◌, count_ones, nat_lt, slice_index, slice_set}
use Rattle.ranks.specs.Dimensions.{leaf_length, slot_pos}
use Rattle.ranks.specs.Words.{ranks_of, flags_of, lifted, cleared_flags}
use Rattle.leaf.specs.declared.array.Array.{Array}

pub record State : Type 0 where
  pub ranks : List ℕ
  pub uses : ℕ
  pub flags : ℕ

abbrev pub state_of : Array → State
state_of a = record { ranks = ranks_of a.metadata; uses = count_ones a.bitmap; flags = flags_of a.metadata }

abbrev pub further : Option ℕ → Option ℕ
further None = None
further (Some p) = Some (suc p)

abbrev pub holder : List ℕ → List ℕ → Option ℕ
holder [] ss = None
holder (r ∷ rs) [] = None
holder (r ∷ rs) (s ∷ ss) = cond (nat_lt 0 r && s == 1) (Some 0) (further (holder rs ss))

abbrev pub floor : List ℕ → List ℕ → ℕ
floor [] ss = 0
floor (r ∷ rs) [] = 0
floor (r ∷ rs) (s ∷ ss) = max (cond (s == 0) r 0) (floor rs ss)

abbrev pub taken_from : Option ℕ → List ℕ → ℕ → ℕ → List ℕ
taken_from None rs low free = slice_set (lifted low rs) free (low + 1)
taken_from (Some p) rs low free = slice_set (slice_set rs p 0) free (slice_index rs p)

abbrev pub filed : List ℕ → State → State
filed ss s = record { ranks = taken_from (holder s.ranks ss) s.ranks (floor s.ranks ss) (slot_pos s.uses); uses = s.uses + 1; flags = s.flags }

abbrev pub used : State → State
used s = record { ranks = s.ranks; uses = s.uses + 1; flags = s.flags }

abbrev pub given : State → State
given s = record { ranks = s.ranks; uses = s.uses - 1; flags = s.flags }

abbrev pub Spare : State → Type 0
Spare s = (slice_index s.ranks (slot_pos (s.uses - 1)) ≡ 0) × ((p : ℕ) → slice_index s.ranks p < s.uses)

abbrev pub frozen : State → State
frozen s = record { ranks = s.ranks; uses = s.uses; flags = s.flags % 8 + 8 }

abbrev pub thawed : State → State
thawed s = record { ranks = s.ranks; uses = s.uses; flags = s.flags % 8 }

abbrev pub struck : ℕ → State → State
struck p s = record { ranks = slice_set s.ranks p 0; uses = s.uses; flags = cleared_flags (slice_set s.ranks p 0) s.flags }

-- a slot, if one is answered, is live
abbrev pub Live : List ℕ → Option ℕ → Type 0
Live rs r = IfSome r (λ p. (p < leaf_length) × (0 < slice_index rs p))

-- slot p is the live one of the least rank that is not before the key
pub record Least (rs ss : List ℕ) (p : ℕ) : Type 0 where
  pub live : 0 < slice_index rs p
  pub reached : 0 < slice_index ss p
  pub least : (q : ℕ) → 0 < slice_index rs q → 0 < slice_index ss q → slice_index rs p ≤ slice_index rs q

-- that slot, or none where every live slot is before the key
abbrev pub LeastFrom : List ℕ → List ℕ → Option ℕ → Type 0
LeastFrom rs ss r = MatchOption r ((q : ℕ) → 0 < slice_index rs q → slice_index ss q ≡ 0) (Least rs ss)
