-- Where a leaf splits.
--     by_use rs b n      the ranks of n uses from use b on, in order of use
--     live_count rs      how many are live
--     rises prev rs      how many of the live come after the live one before them, prev at first, 0 where there is none
--     boundary_of L a    the boundary, the live count, and whether a full leaf ascends in order of use, of L live and a rises
use Rattle.std.specs.Prelude.{ℕ, zero, suc, ◌+◌, Bool, false, cond, List, [], ◌∷◌, ◌==◌, nat_lt, slice_index}
use Rattle.ranks.specs.Dimensions.{leaf_length, remake_limit, boundary, slot_pos}

abbrev pub by_use : List ℕ → ℕ → ℕ → List ℕ
by_use rs b zero = []
by_use rs b (suc n) = slice_index rs (slot_pos b) ∷ by_use rs (b + 1) n

abbrev pub live_count : List ℕ → ℕ
live_count [] = 0
live_count (r ∷ rs) = cond (r == 0) 0 1 + live_count rs

abbrev pub rises : ℕ → List ℕ → ℕ
rises prev [] = 0
rises prev (r ∷ rs) = cond (r == 0) (rises prev rs) (cond (nat_lt 0 prev) (cond (nat_lt prev r) 1 0) 0 + rises r rs)

abbrev pub boundary_of : ℕ → ℕ → ℕ × ℕ × Bool
boundary_of L a = cond (nat_lt remake_limit L) (boundary L a, L, (a + 1 == leaf_length)) (leaf_length, L, false)
