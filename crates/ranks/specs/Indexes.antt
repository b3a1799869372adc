-- The live slots in order of rank, and a cursor over them.
-- A cursor is sixteen numbers: first the rank of the slot last given, 0 if none is; then for each rank its slot, 255 if no live slot has it.
--     At rs n r x       x is the slot below n of rank r, or 255 where there is none
--     Indexed rs n ix   the cursor ix has the slots below n by rank, and none was given
--     slots_of xs       those of xs that are slots, and not 255
--     ahead ix          the slots that are still to be given, going up; behind ix, going down
--     given ix          the slot last given
--     Gives             a step along the slots that are still to be given
--     InOrder rs ps     ps are the live slots, each once, in order of rank
use Rattle.std.specs.Prelude.{◌≡◌, ℕ, suc, ◌-◌, ◌<◌, ◌≤◌, cond, not, ◌⊎◌, List, [], ◌∷◌, length, take, drop, reverse, filter, Some, None, Option, ◌==◌, ◌≢◌, slice_index}
use Rattle.std.specs.Option.{option_or}
use Rattle.std.specs.Iterator.{YieldsFirst}
use Rattle.ranks.specs.Dimensions.{leaf_length}

abbrev pub no_slot : ℕ
no_slot = 255

abbrev pub At : List ℕ → ℕ → ℕ → ℕ → Type 0
At rs n r x = ((x ≡ no_slot) × ((p : ℕ) → p < n → slice_index rs p ≢ r)) ⊎ ((x < n) × (slice_index rs x ≡ r))

pub record Indexed (rs : List ℕ) (n : ℕ) (ix : List ℕ) : Type 0 where
  pub long : length ix ≡ suc leaf_length
  pub start : slice_index ix 0 ≡ 0
  pub each : (r : ℕ) → 0 < r → r ≤ leaf_length → At rs n r (slice_index ix r)

-- without the 255 of ranks that no live slot has
abbrev pub slots_of : List ℕ → List ℕ
slots_of xs = filter (λ x. not (x == no_slot)) xs

abbrev pub ahead : List ℕ → List ℕ
ahead ix = slots_of (drop (slice_index ix 0) (drop 1 ix))

-- before the first slot is given, the way down begins at the greatest rank
abbrev pub behind : List ℕ → List ℕ
behind ix = reverse (slots_of (take (cond (slice_index ix 0 == 0) leaf_length (slice_index ix 0 - 1)) (drop 1 ix)))

abbrev pub given : List ℕ → Option ℕ
given ix = cond (slice_index ix 0 == 0) None (Some (slice_index ix (slice_index ix 0)))

-- r is the first of the slots todo, and those after it are still to be given; where there is none, the cursor stays
pub record Gives (todo : List ℕ → List ℕ) (ix : List ℕ) (r : Option ℕ) (ix' : List ℕ) : Type 0 where
  pub gave : YieldsFirst todo ix r ix'
  pub last : given ix' ≡ option_or r (given ix)
  pub same : drop 1 ix' ≡ drop 1 ix

-- each slot has a greater rank than the one before it
abbrev pub Rising : List ℕ → ℕ → List ℕ → Type 0
Rising rs r [] = Unit {0}
Rising rs r (p ∷ ps) = (r < slice_index rs p) × Rising rs (slice_index rs p) ps

pub record InOrder (rs ps : List ℕ) : Type 0 where
  pub rising : Rising rs 0 ps
  pub all : (p : ℕ) → 0 < slice_index rs p → (i : ℕ) × (i < length ps) × (slice_index ps i ≡ p)

-- two live slots have two ranks
abbrev pub Apart : List ℕ → Type 0
Apart rs = (p q : ℕ) → 0 < slice_index rs p → slice_index rs p ≡ slice_index rs q → p ≡ q
