-- The rank word: fifteen ranks of four bits, lowest slot first, and above them the bits for retired and frozen.
--     encode ds        the number that the digits ds write in base 16
--     digits n w       the n lowest digits of w
--     ranks_of w       the ranks of the word w; the rank of slot p is `slice_index (ranks_of w) p`, and 0 says that the slot is not live
--     flags_of w       what stands above the ranks: 4 for bit 62, retired, and 8 for bit 63, frozen
--     word_of rs f     the word of the ranks rs and the flags f
--     Reads w rs f     the word w has the ranks rs and the flags f; there is one such word, `word_of rs f`
--     lifted low rs    each rank above low raised by one
use Rattle.std.specs.Prelude.{◌≡◌, ℕ, zero, suc, ◌+◌, ◌*◌, ◌/◌, ◌%◌, ◌^◌, Bool, true, cond, ◌&&◌, List, [], ◌∷◌, map, ◌==◌, nat_lt}
use Rattle.ranks.specs.Dimensions.{leaf_length}

abbrev pub encode : List ℕ → ℕ
encode [] = 0
encode (d ∷ ds) = d + 16 * encode ds

unfoldable pub digits : ℕ → ℕ → List ℕ
digits zero w = []
digits (suc n) w = w % 16 ∷ digits n (w / 16)

abbrev pub ranks_of : ℕ → List ℕ
ranks_of w = digits leaf_length w

abbrev pub flags_of : ℕ → ℕ
flags_of w = w / 2 ^ 60

abbrev pub word_of : List ℕ → ℕ → ℕ
word_of rs f = encode rs + 2 ^ 60 * f

pub record Reads (w : ℕ) (rs : List ℕ) (f : ℕ) : Type 0 where
  pub ranks : ranks_of w ≡ rs
  pub flags : flags_of w ≡ f

-- no slot is live
abbrev pub is_empty : List ℕ → Bool
is_empty [] = true
is_empty (r ∷ rs) = r == 0 && is_empty rs

-- bit 62 and bit 63, seen from bit 60
abbrev pub is_retired : ℕ → Bool
is_retired f = f / 4 % 2 == 1

abbrev pub is_frozen : ℕ → Bool
is_frozen f = f / 8 == 1

abbrev pub lift : ℕ → ℕ → ℕ
lift low r = cond (nat_lt low r) (r + 1) r

abbrev pub lifted : ℕ → List ℕ → List ℕ
lifted low rs = map (lift low) rs

-- the flags once a rank is cleared: where no rank and no flag is left, retired
abbrev pub cleared_flags : List ℕ → ℕ → ℕ
cleared_flags rs f = cond (is_empty rs && f == 0) 4 f
