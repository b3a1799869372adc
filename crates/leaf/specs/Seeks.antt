-- What the pass for a key finds, over ranks rs and sides ss.
use Rattle.std.specs.Prelude.{◌≡◌, ℕ, ◌<◌, ◌≤◌, ◌⊎◌, List, Some, None, Option, MatchOption, Result, Ok, Err, slice_index}
use Rattle.ranks.specs.Dimensions.{leaf_length}
use Rattle.leaf.specs.Rules.{taken_from, Live}
use Rattle.leaf.specs.declared.seek.Gap.{Gap}

-- 0, or a live rank
abbrev pub Level : List ℕ → ℕ → Type 0
Level rs low = (low ≡ 0) ⊎ ((p : ℕ) × (p < leaf_length) × (slice_index rs p ≡ low))

-- what holds whatever the slots hold
abbrev pub Inside : List ℕ → Result ℕ Gap → Type 0
Inside rs (Ok p) = (p < leaf_length) × (0 < slice_index rs p)
Inside rs (Err gap) = Level rs gap.low × Live rs gap.next

-- low parts the live slots: those up to it are before the key, those above it after; next has the least rank above it, if there is one
pub record Parted (rs ss : List ℕ) (low : ℕ) (next : Option ℕ) : Type 0 where
  pub below : (p : ℕ) → p < leaf_length → 0 < slice_index rs p → slice_index rs p ≤ low → slice_index ss p ≡ 0
  pub above : (p : ℕ) → p < leaf_length → low < slice_index rs p → 2 ≤ slice_index ss p
  pub least : MatchOption next
      ((p : ℕ) → p < leaf_length → slice_index rs p ≤ low)
      (λ best. (low < slice_index rs best) × ((p : ℕ) → p < leaf_length → low < slice_index rs p → slice_index rs best ≤ slice_index rs p))

-- the ranks once the key takes the slot free
abbrev pub taken : List ℕ → Result ℕ Gap → ℕ → List ℕ
taken rs (Ok p) free = taken_from (Some p) rs 0 free
taken rs (Err gap) free = taken_from None rs gap.low free

-- where ranks order keys
abbrev pub Sought : List ℕ → List ℕ → Result ℕ Gap → Type 0
Sought rs ss (Ok p) = slice_index ss p ≡ 1
Sought rs ss (Err gap) = Parted rs ss gap.low gap.next
