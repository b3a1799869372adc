-- The parts of the slots.
use Rattle.std.proofs.Common.{◌≡◌, ℕ, ◌+◌, ◌-◌, ◌*◌, ◌<◌, ◌≢◌, List, ◌++◌, length, take, drop, sym, ap, ◌∙◌, ⊎_elim, arith}
use borrow.Rule.Slice.PartMut.{put_mid}
use Rattle.std.proofs.lemmas.List.{length-take-le, length-drop, take-append-drop}
use Rattle.std.proofs.lemmas.Slice.{between_is, take-put_mid_below, drop-put_mid}
use Rattle.std.proofs.lemmas.Bool.{cases_lt}
use Rattle.leaf_table.specs.States.{part}

pub length_part : {A : Type 0} (n : ℕ) (xs : List A) → length xs ≡ 270 → n < 18 → length (part n xs) ≡ 15
length_part n xs e h =
    let k : (15 * n + 15) - 15 * n ≡ 15 = omega arith in
    length-take-le ((15 * n + 15) - 15 * n) (drop (15 * n) xs) (omega (arith, length-drop (15 * n) xs)) ∙ k

-- ---- a part that was lent on: ys is what it holds after

module _ {A : Type 0} (n : ℕ) (xs ys : List A) (size : length xs ≡ 270) (h : n < 18) (len : length ys ≡ 15) where
  abbrev put : List A
  put = put_mid (15 * n) ((15 * n + 15) - 15 * n) xs ys

  pub part_other : (m : ℕ) → m < 18 → m ≢ n → part m put ≡ part m xs
  part_other m hm ne = ⊎_elim
      (λ b. between_is put (15 * m) (15 * m + 15) ∙ ap (drop (15 * m)) (take-put_mid_below (15 * n) ((15 * n + 15) - 15 * n) xs ys (15 * m + 15) (omega arith) (omega arith)) ∙ sym (between_is xs (15 * m) (15 * m + 15)))
      (λ b. ap (take ((15 * m + 15) - 15 * m)) (drop-put_mid (15 * n) ((15 * n + 15) - 15 * n) xs ys (15 * m) (omega arith) (omega arith) (omega arith)))
      (cases_lt m n)

pub put_back : {A : Type 0} (n : ℕ) (xs ys : List A) → ys ≡ part n xs → put_mid (15 * n) ((15 * n + 15) - 15 * n) xs ys ≡ xs
put_back n xs ys e =
    ap (put_mid (15 * n) ((15 * n + 15) - 15 * n) xs) e
    ∙ ap (λ z. take (15 * n) xs ++ z) (take-append-drop ((15 * n + 15) - 15 * n) (drop (15 * n) xs))
    ∙ take-append-drop (15 * n) xs
