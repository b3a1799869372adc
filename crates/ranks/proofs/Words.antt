-- The rank word as a list of digits: what it comes to to read, add to and clear a digit.
use Rattle.std.proofs.Common.{◌≡◌, ℕ, zero, suc, ◌+◌, ◌*◌, ◌/◌, ◌%◌, ◌^◌, ◌<◌, ◌≤◌, ◌&&◌, eqb, List, [], ◌∷◌, length, get_or, set, sym, refl, ap, ◌∙◌, subst, ap₂, mul_assoc, mul_left_comm, ⊎_elim, pow_mono, arith}
use Rattle.std.proofs.lemmas.Bool.Decides.{nat_tests}
use Rattle.std.proofs.Math.Nat.{lt-div-mul-add, div-eq_of_lt}
use Rattle.std.proofs.lemmas.Bool.{cases_lt}
use Rattle.std.proofs.lemmas.Nat.{pow-add, pow_pos, shr-shr, mod-pow-add}
use Rattle.std.proofs.lemmas.List.{length-set, get_or_past}
use Rattle.ranks.specs.Words.{encode, digits, ranks_of, flags_of, word_of, Reads, is_empty}

-- ---- the unit of digit n

pub unit_suc : (n : ℕ) → 2 ^ (4 * suc n) ≡ 16 * 2 ^ (4 * n)
unit_suc n = let e : 4 * suc n ≡ 4 + 4 * n = omega arith in ap (λ k. 2 ^ k) e ∙ pow-add 2 4 (4 * n)

-- ---- the digits of a word

pub length_digits : (n w : ℕ) → length (digits n w) ≡ n
unfolding digits
length_digits zero w = refl
length_digits (suc n) w = ap suc (length_digits n (w / 16))

pub get_or_digits : (n w p : ℕ) → p < n → get_or (digits n w) p 0 ≡ w / 2 ^ (4 * p) % 16
unfolding digits
get_or_digits zero w p h = absurd (omega arith)
get_or_digits (suc n) w zero h = omega arith
get_or_digits (suc n) w (suc p) h =
    let e : 4 + 4 * p ≡ 4 * suc p = omega arith in
    get_or_digits n (w / 16) p (omega arith) ∙ ap (λ x. x % 16) (shr-shr w 4 (4 * p) ∙ ap (λ k. w / 2 ^ k) e)

pub digits_lt : (n w p : ℕ) → get_or (digits n w) p 0 < 16
unfolding digits
digits_lt zero w p = omega arith
digits_lt (suc n) w zero = omega arith
digits_lt (suc n) w (suc p) = digits_lt n (w / 16) p

pub encode_digits : (n w : ℕ) → encode (digits n w) ≡ w % 2 ^ (4 * n)
unfolding digits
encode_digits zero w = omega arith
encode_digits (suc n) w =
    let e : 4 * suc n ≡ 4 * n + 4 = omega arith in
    omega (arith, encode_digits n (w / 16), ap (λ k. w % 2 ^ k) e, mod-pow-add w (4 * n) 4)

-- ---- a digit put in the place of another: `set` with a sum in place of a difference

pub encode_set : (ds : List ℕ) (p y : ℕ) → p < length ds → encode (set ds p y) + get_or ds p 0 * 2 ^ (4 * p) ≡ encode ds + y * 2 ^ (4 * p)
encode_set [] p y h = absurd (omega arith)
encode_set (d ∷ ds) zero y h = omega arith
encode_set (d ∷ ds) (suc p) y h =
    let ih = encode_set ds p y (omega arith) in
    let a = ap (λ u. get_or ds p 0 * u) (unit_suc p) ∙ mul_left_comm (get_or ds p 0) 16 (2 ^ (4 * p)) in
    let b = ap (λ u. y * u) (unit_suc p) ∙ mul_left_comm y 16 (2 ^ (4 * p)) in
    omega arith

pub encode_lt : (ds : List ℕ) → ((i : ℕ) → get_or ds i 0 < 16) → encode ds < 2 ^ (4 * length ds)
encode_lt [] h = omega arith
encode_lt (d ∷ ds) h =
    let ih = encode_lt ds (λ i. h (suc i)) in
    let u = unit_suc (length ds) in
    omega (arith, h 0)

pub encode_zero : (ds : List ℕ) (i : ℕ) → encode ds ≡ 0 → get_or ds i 0 ≡ 0
encode_zero [] i e = refl
encode_zero (d ∷ ds) zero e = omega arith
encode_zero (d ∷ ds) (suc i) e = encode_zero ds i (omega arith)

-- ---- the ranks of a word

pub rests_at_start : (w : ℕ) → w % 2 ^ 60 ≡ encode (ranks_of w)
rests_at_start w = sym (encode_digits 15 w)

-- ---- no rank is left from slot pos on

shifted_out : (w i j : ℕ) → w / 2 ^ i ≡ 0 → i ≤ j → w / 2 ^ j ≡ 0
shifted_out w i j z h =
    let p : 2 ^ i ≤ 2 ^ j = pow_mono h in
    let l = lt-div-mul-add {a = w} {b = 2 ^ i} (pow_pos i) in
    div-eq_of_lt (omega (arith, ap (λ x. x * 2 ^ i) z))

abbrev pub NoneLeft : List ℕ → ℕ → Type 0
NoneLeft rs pos = (q : ℕ) → pos ≤ q → get_or rs q 0 ≡ 0

pub none_past : (w pos : ℕ) → 15 ≤ pos → NoneLeft (ranks_of w) pos
none_past w pos n q h = get_or_past (ranks_of w) q 0 (omega (arith, length_digits 15 w))

pub none_above : (w pos : ℕ) → w / 2 ^ (4 * pos) ≡ 0 → NoneLeft (ranks_of w) pos
none_above w pos z q h = ⊎_elim
    (λ l. get_or_digits 15 w q l ∙ ap (λ x. x % 16) (shifted_out w (4 * pos) (4 * q) z (omega arith)))
    (λ l. none_past w q l q (omega arith))
    (cases_lt q 15)

-- ---- a word made from ranks and a state

pub word_split : (w : ℕ) → w ≡ word_of (ranks_of w) (flags_of w)
word_split w = omega (arith, encode_digits 15 w)

digits_encode : (ds : List ℕ) (s : ℕ) → ((i : ℕ) → get_or ds i 0 < 16) → digits (length ds) (encode ds + 2 ^ (4 * length ds) * s) ≡ ds
unfolding digits
digits_encode [] s u = refl
digits_encode (d ∷ ds) s u =
    let t = ap (λ x. x * s) (unit_suc (length ds)) ∙ mul_assoc 16 (2 ^ (4 * length ds)) s in
    let v = u 0 in
    let low : (encode (d ∷ ds) + 2 ^ (4 * suc (length ds)) * s) % 16 ≡ d = omega arith in
    let high : (encode (d ∷ ds) + 2 ^ (4 * suc (length ds)) * s) / 16 ≡ encode ds + 2 ^ (4 * length ds) * s = omega arith in
    ap₂ ◌∷◌ low (ap (digits (length ds)) high ∙ digits_encode ds s (λ i. u (suc i)))

pub decode : (w : ℕ) (ds : List ℕ) (s : ℕ) → length ds ≡ 15 → ((i : ℕ) → get_or ds i 0 < 16) → w ≡ word_of ds s → Reads w ds s
decode w ds s n u e =
    let d = digits_encode ds s u in
    let b = encode_lt ds u in
    let p : 2 ^ (4 * length ds) ≡ 2 ^ 60 = ap (λ k. 2 ^ (4 * k)) n in
    record {
      ranks = subst (λ k. digits k w ≡ ds) n (ap (digits (length ds)) (e ∙ ap (λ k. encode ds + k * s) (sym p)) ∙ d);
      flags = omega arith;
    }

-- ---- one rank put in the place of another

pub set_lt : (ds : List ℕ) (p y n : ℕ) → y < n → ((i : ℕ) → get_or ds i 0 < n) → (i : ℕ) → get_or (set ds p y) i 0 < n
set_lt [] p y n h u i = u i
set_lt (d ∷ ds) zero y n h u zero = h
set_lt (d ∷ ds) zero y n h u (suc i) = u (suc i)
set_lt (d ∷ ds) (suc p) y n h u zero = u 0
set_lt (d ∷ ds) (suc p) y n h u (suc i) = set_lt ds p y n h (λ j. u (suc j)) i

pub put_room : (w p : ℕ) → p < 15 → get_or (ranks_of w) p 0 * 2 ^ (4 * p) ≤ w
put_room w p h = omega (arith, encode_set (ranks_of w) p 0 (omega (arith, length_digits 15 w)), word_split w)

pub put : (w p y w' : ℕ) → p < 15 → y < 16 → w' + get_or (ranks_of w) p 0 * 2 ^ (4 * p) ≡ w + y * 2 ^ (4 * p) → Reads w' (set (ranks_of w) p y) (flags_of w)
put w p y w' h l e =
    let n = length_digits 15 w in
    let s = encode_set (ranks_of w) p y (omega arith) in
    decode w' (set (ranks_of w) p y) (flags_of w) (length-set (ranks_of w) p y ∙ n) (set_lt (ranks_of w) p y 16 l (digits_lt 15 w)) (omega (arith, word_split w))

-- ---- the state, with the ranks kept

pub restate : (w w' s : ℕ) → w' ≡ w % 2 ^ 60 + 2 ^ 60 * s → Reads w' (ranks_of w) s
restate w w' s e = decode w' (ranks_of w) s (length_digits 15 w) (digits_lt 15 w) (omega (arith, encode_digits 15 w))

pub word_of_lem : (w : ℕ) (ds : List ℕ) (s : ℕ) → Reads w ds s → word_of ds s ≡ w
word_of_lem w ds s d = sym (word_split w ∙ ap₂ word_of d.ranks d.flags)

-- ---- no rank is left

pub empty_encode : (rs : List ℕ) → eqb (encode rs) 0 ≡ is_empty rs
empty_encode [] = refl
empty_encode (r ∷ rs) = let ih = empty_encode rs in grind (arith, nat_tests)

pub empty_word : (rs : List ℕ) (f : ℕ) → eqb (word_of rs f) 0 ≡ (is_empty rs && eqb f 0)
empty_word rs f = let e = empty_encode rs in grind (arith, nat_tests)

pub empty_read : (w : ℕ) (rs : List ℕ) (f : ℕ) → Reads w rs f → eqb w 0 ≡ (is_empty rs && eqb f 0)
empty_read w rs f t = ap (λ x. eqb x 0) (sym (word_of_lem w rs f t)) ∙ empty_word rs f

-- ---- the ranks of a word are those of the word without its flags

pub ranks_alone : (w : ℕ) → ranks_of (w % 2 ^ 60) ≡ ranks_of w
ranks_alone w = (decode (w % 2 ^ 60) (ranks_of w) 0 (length_digits 15 w) (digits_lt 15 w) (omega (arith, encode_digits 15 w))).ranks

pub rank_alone : (w p : ℕ) → get_or (ranks_of (w % 2 ^ 60)) p 0 ≡ get_or (ranks_of w) p 0
rank_alone w p = ap (λ rs. get_or rs p 0) (ranks_alone w)

pub none_alone : (w pos : ℕ) → w % 2 ^ 60 / 2 ^ (4 * pos) ≡ 0 → NoneLeft (ranks_of w) pos
none_alone w pos z = subst (λ rs. NoneLeft rs pos) (ranks_alone w) (none_above (w % 2 ^ 60) pos z)
