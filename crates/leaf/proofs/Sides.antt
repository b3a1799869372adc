-- The slots seen from a key, as numbers: what `compare` says of a slot, and what it comes to that ranks order keys.
--     Arranged rs ss   ranks order keys, seen from one key: live ranks differ, and a live slot of a greater rank is after whatever one of a lower rank is not before
use Rattle.std.proofs.Common.{◌≡◌, ℕ, zero, suc, ◌<◌, ◌≤◌, List, [], ◌∷◌, length, get_or, Some, Less, Equal, Greater, sym, refl, ap, ◌∙◌, inl, inr, ⊎_elim, arith}
use Rattle.std.specs.List.{slice_get}
use Rattle.std.proofs.lemmas.Bool.{cases_lt}
use Rattle.std.proofs.lemmas.List.{get_or-map, get_or_past}
use Rattle.std.proofs.lemmas.Option.{get_or_from_slice_get}
use Rattle.keys.specs.Orders.{Order, Ordered, Way, before, same, after, stands, answered, Agree}
use Rattle.keys.specs.Places.{ways}
use Rattle.ranks.specs.Indexes.{Apart}
use Rattle.leaf.specs.Slots.{side_of, side, sides, Sorted}
use Rattle.leaf.specs.declared.data_block.Slot.{Slot}

pub record Arranged (rs ss : List ℕ) : Type 0 where
  pub apart : Apart rs
  pub rises : (p q : ℕ) → p < 15 → q < 15 → 0 < get_or rs p 0 → get_or rs p 0 < get_or rs q 0 → 1 ≤ get_or ss p 0 → 2 ≤ get_or ss q 0

-- a live slot lies within
pub live_within : (rs : List ℕ) → length rs ≡ 15 → (p : ℕ) → 0 < get_or rs p 0 → p < 15
live_within rs n p l = ⊎_elim (λ h. h) (λ h. absurd (omega (arith, get_or_past rs p 0 (omega arith)))) (cases_lt p 15)

-- ---- what `compare` answers

less_side : (w : Way) → Less ≡ answered w → side_of w ≡ 2
less_side before e = refl
less_side same e = cc
less_side after e = cc

equal_side : (w : Way) → Equal ≡ answered w → side_of w ≡ 1
equal_side before e = cc
equal_side same e = refl
equal_side after e = cc

greater_side : (w : Way) → Greater ≡ answered w → side_of w ≡ 0
greater_side before e = cc
greater_side same e = cc
greater_side after e = refl

-- slot s at p, as the pass reads it; O is the keys' order, P the query's
module _ {K V : Type 0} (O P : Order K) (agree : Agree P O) (x : K) (slots : List (Slot K V)) (n : length slots ≡ 15) (p : ℕ) (h : p < 15) (s : Slot K V) (is : s ≡ get_or slots p s) where
  read : get_or (sides O x slots) p 0 ≡ side_of (stands P x s.key)
  read = get_or-map (side O x) slots p s 0 (omega arith) ∙ ap (side O x) (sym is) ∙ ap side_of (sym (agree x s.key))

  pub answered_less : Less ≡ answered (stands P x s.key) → 2 ≤ get_or (sides O x slots) p 0
  answered_less e = omega (arith, read ∙ less_side _ e)

  pub answered_equal : Equal ≡ answered (stands P x s.key) → get_or (sides O x slots) p 0 ≡ 1
  answered_equal e = read ∙ equal_side _ e

  pub answered_greater : Greater ≡ answered (stands P x s.key) → get_or (sides O x slots) p 0 ≡ 0
  answered_greater e = read ∙ greater_side _ e

-- ---- sides

pub before_side : (w : Way) → 2 ≤ side_of w → w ≡ before
before_side before h = refl
before_side same h = absurd (omega arith)
before_side after h = absurd (omega arith)

pub after_side : (w : Way) → side_of w ≡ 0 → w ≡ after
after_side before h = absurd (omega arith)
after_side same h = absurd (omega arith)
after_side after h = refl

pub nth_in : {A : Type 0} (xs : List A) (i : ℕ) → i < length xs → (x : A) × (slice_get xs i ≡ Some x)
nth_in [] i l = absurd (omega arith)
nth_in (y ∷ ys) zero l = (y, refl)
nth_in (y ∷ ys) (suc i) l = nth_in ys i (omega arith)

module _ {K V : Type 0} (O : Order K) (slots : List (Slot K V)) (n : length slots ≡ 15) where
  pub side_at : (x : K) (p : ℕ) (s : Slot K V) → p < 15 → slice_get slots p ≡ Some s → get_or (sides O x slots) p 0 ≡ side O x s
  side_at x p s h e = get_or-map (side O x) slots p s 0 (omega arith) ∙ ap (side O x) (get_or_from_slice_get slots p s s e)

  -- from x, what is after something not before x is after x
  later : Ordered O → (x a b : K) → 1 ≤ side_of (stands O x a) → stands O a b ≡ before → 2 ≤ side_of (stands O x b)
  later L x a b h k = elim (ways (stands O x a)) [
    | inl e ↦ omega (arith, ap side_of (L.through _ _ _ e k))
    | inr (inl e) ↦ omega (arith, ap side_of (ap (λ z. O.way z (O.place b)) (L.only _ _ e) ∙ k))
    | inr (inr e) ↦ absurd (omega (arith, ap side_of e))
  ]

  pub arranged : Ordered O → (rs : List ℕ) → Apart rs → Sorted O rs slots → (x : K) → Arranged rs (sides O x slots)
  arranged L rs apart so x = record {
    apart = apart;
    rises = λ p q hp hq l r one.
        let a = nth_in slots p (omega arith) in
        let b = nth_in slots q (omega arith) in
        let k = so p q a.0 b.0 a.1 b.1 l r in
        omega (arith, side_at x q b.0 hq b.1, later L x a.0.key b.0.key (omega (arith, side_at x p a.0 hp a.1)) k);
  }
