-- The sizes that all of the store shares, each said here alone.
--     leaf_length     how many slots a leaf has
--     remake_limit    the most live slots with which a leaf is made anew and not split
--     boundary L a    how many of L live entries go to the low leaf of a split, if a of them come after the live one before them in order of use
--     slot_pos b      the slot that use b takes
use Rattle.std.specs.Prelude.{ℕ, ◌+◌, ◌-◌, ◌*◌, ◌%◌, cond, nat_lt}

abbrev pub leaf_length : ℕ
leaf_length = 15

abbrev pub remake_limit : ℕ
remake_limit = 11

abbrev pub boundary : ℕ → ℕ → ℕ
boundary L a = cond (nat_lt (2 * a + 1) L) (a + 1) a

abbrev pub slot_pos : ℕ → ℕ
slot_pos b = cond (nat_lt b 12) (b - b % 4 + (b + 1) % 4) b
