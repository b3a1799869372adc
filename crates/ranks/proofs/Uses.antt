-- Uses and slots: two uses take two slots, and every slot has its use.
use Rattle.std.proofs.Common.{◌≡◌, ℕ, ◌+◌, ◌-◌, ◌*◌, ◌/◌, ◌%◌, ◌<◌, cond, ltb, sym, ap, ◌∙◌, arith}
use lib.Count.{ones, ones_step}
use Rattle.std.proofs.lemmas.Bool.Decides.{nat_tests}
use Rattle.ranks.specs.Dimensions.{slot_pos}

abbrev pub use_of : ℕ → ℕ
use_of p = cond (ltb p 12) (p - p % 4 + (p + 3) % 4) p

use_slot : (b : ℕ) → b < 15 → use_of (slot_pos b) ≡ b
use_slot b h = grind (arith, nat_tests)

pub slot_use : (p : ℕ) → p < 15 → slot_pos (use_of p) ≡ p
slot_use p h = grind (arith, nat_tests)

pub slot_once : (a b : ℕ) → a < 15 → b < 15 → slot_pos a ≡ slot_pos b → a ≡ b
slot_once a b ha hb e = sym (use_slot a ha) ∙ ap use_of e ∙ use_slot b hb

pub slot_lt : (b : ℕ) → b < 15 → slot_pos b < 15
slot_lt b h = grind (arith, nat_tests)

pub use_lt : (p : ℕ) → p < 15 → use_of p < 15
use_lt p h = grind (arith, nat_tests)

-- one use more in a bitmap
pub ones_more : (b : ℕ) → ones (2 * b + 1) ≡ ones b + 1
ones_more b =
    let h : (2 * b + 1) / 2 ≡ b = omega arith in
    let r : (2 * b + 1) % 2 ≡ 1 = omega arith in
    omega (arith, ones_step (2 * b + 1), ap ones h)
