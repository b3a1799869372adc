-- What the record of a leaf array keeps, whatever the slots hold.
use Rattle.std.specs.Prelude.{◌≡◌, ℕ, ◌+◌, ◌%◌, ◌^◌, ◌<◌, ◌≤◌, true, count_ones, slice_index}
use Rattle.ranks.specs.Dimensions.{leaf_length, slot_pos}
use Rattle.ranks.specs.Words.{ranks_of, flags_of, is_empty, is_retired}
use Rattle.ranks.specs.Indexes.{Apart}

-- The marked uses are the first, and at most fifteen; live ranks are at most as many, differ and lie in used slots; of the bits above the
-- ranks only the two for retired and frozen are set; a retired array has no rank.
pub record Whole (metadata bitmap : ℕ) : Type 0 where
  pub uses : bitmap + 1 ≡ 2 ^ count_ones bitmap
  pub few : count_ones bitmap ≤ leaf_length
  pub bound : (p : ℕ) → slice_index (ranks_of metadata) p ≤ count_ones bitmap
  pub apart : Apart (ranks_of metadata)
  pub unused : (b : ℕ) → count_ones bitmap ≤ b → b < leaf_length → slice_index (ranks_of metadata) (slot_pos b) ≡ 0
  pub flags : flags_of metadata % 4 ≡ 0
  pub retired : is_retired (flags_of metadata) ≡ true → is_empty (ranks_of metadata) ≡ true
