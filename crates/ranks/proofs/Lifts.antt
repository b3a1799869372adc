-- A pass that raises the ranks above one.
use Rattle.std.proofs.Common.{◌≡◌, ℕ, zero, suc, ◌+◌, ◌*◌, ◌^◌, ◌<◌, ◌≤◌, List, [], ◌∷◌, ◌++◌, length, set, append_assoc, get_or, take, drop, sym, refl, ap, ◌∙◌, ap₂, arith}
use Rattle.std.proofs.lemmas.List.{length-map, length-take-le, drop_more, map_more, get_or_at, set_at}
use Rattle.std.proofs.lemmas.Bool.Decides.{nat_tests}
use Rattle.ranks.specs.Words.{ranks_of, flags_of, Reads, lift, lifted}
use Rattle.ranks.proofs.Words.{length_digits, put, NoneLeft}

pub lift_up : (low r : ℕ) → low < r → lift low r ≡ r + 1
lift_up low r h = grind (arith, nat_tests)

pub lift_flat : (low r : ℕ) → r ≤ low → lift low r ≡ r + 0
lift_flat low r h = grind (arith, nat_tests)

pub length_lifted : (low : ℕ) (rs : List ℕ) → length (lifted low rs) ≡ length rs
length_lifted low rs = length-map rs (lift low)

pub get_or_lifted : (low : ℕ) (rs : List ℕ) (p : ℕ) → get_or (lifted low rs) p 0 ≡ lift low (get_or rs p 0)
get_or_lifted low [] p = sym (lift_flat low 0 (omega arith))
get_or_lifted low (r ∷ rs) zero = refl
get_or_lifted low (r ∷ rs) (suc p) = get_or_lifted low rs p

-- no rank is above
pub lifted_same : (low : ℕ) (rs : List ℕ) → ((p : ℕ) → get_or rs p 0 ≤ low) → lifted low rs ≡ rs
lifted_same low [] h = refl
lifted_same low (r ∷ rs) h =
    let e : lift low r ≡ r = omega (arith, lift_flat low r (h 0)) in
    ap₂ ◌∷◌ e (lifted_same low rs (λ p. h (suc p)))

-- the ranks in the middle of the pass, which has seen the first n
abbrev pub lifting : ℕ → List ℕ → ℕ → List ℕ
lifting low rs n = lifted low (take n rs) ++ drop n rs

pub lifting_all : (low : ℕ) (rs : List ℕ) (n : ℕ) → NoneLeft rs n → lifting low rs n ≡ lifted low rs
lifting_all low rs zero h = sym (lifted_same low rs (λ p. omega (arith, h p)))
lifting_all low [] (suc n) h = refl
lifting_all low (r ∷ rs) (suc n) h = ap (λ xs. lift low r ∷ xs) (lifting_all low rs n (λ q l. h (suc q) (omega arith)))

-- one rank more is seen
module _ (low : ℕ) (rs : List ℕ) (n : ℕ) (h : n < length rs) where
  before : length (lifted low (take n rs)) ≡ n
  before = length-map (take n rs) (lift low) ∙ length-take-le n rs (omega arith)

  lifting_at : get_or (lifting low rs n) n 0 ≡ get_or rs n 0
  lifting_at = rw (drop_more rs n 0 h) (get_or_at _ _ _ 0 n before)

  lifting_more : lifting low rs (n + 1) ≡ set (lifting low rs n) n (lift low (get_or rs n 0))
  lifting_more = rw (drop_more rs n 0 h, map_more (lift low) rs n 0 h, append_assoc) (sym (set_at _ _ _ _ n before))

-- the word w in the middle of the pass, and the word w' once slot n is seen and its rank raised by b
module _ (word low n w b w' : ℕ) (h : n < 15) (s : Reads w (lifting low (ranks_of word) n) (flags_of word)) (e : w' ≡ w + b * 2 ^ (4 * n)) (f : lift low (get_or (ranks_of word) n 0) ≡ get_or (ranks_of word) n 0 + b) (l : get_or (ranks_of word) n 0 + b < 16) where
  inside : n < length (ranks_of word)
  inside = omega (arith, length_digits 15 word)

  here : get_or (ranks_of w) n 0 ≡ get_or (ranks_of word) n 0
  here = ap (λ rs. get_or rs n 0) s.ranks ∙ lifting_at low (ranks_of word) n inside

  pub lifting_seen : Reads w' (lifting low (ranks_of word) (n + 1)) (flags_of word)
  lifting_seen =
      let t = put w n (get_or (ranks_of word) n 0 + b) w' h l (grind (arith, here)) in
      record {
        ranks = t.ranks ∙ ap₂ (λ rs y. set rs n y) s.ranks (sym f) ∙ sym (lifting_more low (ranks_of word) n inside);
        flags = t.flags ∙ s.flags;
      }
