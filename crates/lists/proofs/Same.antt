-- Two ascending lists in which the same entries stand are equal.
use Rattle.std.proofs.Common.{◌≡◌, List, [], ◌∷◌, refl, ap₂, inl, inr, arith}
use mathlib.Core.Option.{none}
use Rattle.keys.specs.Orders.{Order, Ordered, before}
use Rattle.keys.specs.Places.{ways, same_place}
use Rattle.lists.specs.Leaves.{Entry, placed, lookup, Ascending}
use Rattle.lists.proofs.Looks.{meets_self, all_after, all_apart}

module _ {K V : Type 0} (O : Order K) (L : Ordered O) where
  -- a place before all of a list
  none_before : (x y : Entry K V) (ys : List (Entry K V)) → O.way (placed O x) (placed O y) ≡ before → Ascending O (y ∷ ys) → lookup O (placed O x) (y ∷ ys) ≡ none
  none_before x y ys w up = all_apart O L (placed O x) (y ∷ ys) (w, all_after O L x y ys w up.0)

  pub same_ascending : (xs ys : List (Entry K V)) → Ascending O xs → Ascending O ys → ((k : K) → lookup O (O.place k) xs ≡ lookup O (O.place k) ys) → xs ≡ ys
  same_ascending [] [] up vp h = refl
  same_ascending [] (y ∷ ys) up vp h = let k = h y.key in let s = meets_self O L (placed O y) in absurd (grind arith)
  same_ascending (x ∷ xs) [] up vp h = let k = h x.key in let s = meets_self O L (placed O x) in absurd (grind arith)
  same_ascending (x ∷ xs) (y ∷ ys) up vp h =
      let i = h x.key in
      let j = h y.key in
      let s = meets_self O L (placed O x) in
      let t = meets_self O L (placed O y) in
      elim (ways (O.way (placed O x) (placed O y))) [
        | inl w ↦ (let n = none_before x y ys w vp in absurd (grind arith))
        | inr (inl w) ↦
            let e : x ≡ y = grind arith in
            ap₂ ◌∷◌ e (same_ascending xs ys up.1 vp.1 (λ k.
            let m = same_place O L (O.place k) (placed O x) in
            let a = all_apart O L (placed O x) xs up.0 in
            let b = all_apart O L (placed O y) ys vp.0 in
            let f = h k in
            grind arith))
        | inr (inr w) ↦ (let n = none_before y x xs (L.flop _ _ w) up in absurd (grind arith))
      ]
