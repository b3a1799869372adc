-- What a filing makes of its target: what stands at each place, and where the bound lies.
use Rattle.std.proofs.Common.{◌≡◌, ℕ, ◌<◌, Bool, true, false, cond, not, ◌&&◌, eqb, ltb, leb, List, [], ◌∷◌, ◌++◌, map, length, take, drop, sym, refl, ap, ◌∙◌, subst, arith, length-drop, take-append-drop, length-take}
use mathlib.Core.Option.{Option, some, none}
use Rattle.std.specs.List.{AllByRecursion}
use Rattle.std.proofs.lemmas.Bool.{and_parts, leb-false, not-false, not-true}
use Rattle.keys.specs.Orders.{Order, Ordered, before, precedes, meets, within}
use Rattle.keys.specs.Places.{same_place}
use Rattle.ranks.specs.Dimensions.{leaf_length, remake_limit}
use Rattle.lists.specs.Leaves.{Entry, live, Leaf, lives, empty, retired, last_or, placed, lookup, Ascending, ordered, kill, append, rises, ascends}
use Rattle.lists.specs.Rows.{Change, one, two, no_room}
use Rattle.lists.specs.Nodes.{fit, split}
use Rattle.lists.proofs.Cases.{by_cond}
use Rattle.lists.proofs.Costs.{boundary_inside, length_sorted, rises_inside}
use Rattle.lists.proofs.Looks.{or_else, meets_self, before_apart, precedes_is, look_sorted, look_join, lives_join, lives_live, look_append, Apart, apart_append, up_sorted, up_apart, ascends_up}

not_empty : {A : Type 0} (xs ys : List A) → empty ys ≡ false → empty (xs ++ ys) ≡ false
not_empty [] ys h = h
not_empty (x ∷ xs) ys h = refl

long_not_empty : {A : Type 0} (xs : List A) → 0 < length xs → empty xs ≡ false
long_not_empty [] h = absurd (omega arith)
long_not_empty (x ∷ xs) h = refl

module _ {K V : Type 0} (O : Order K) (L : Ordered O) where
  -- Where a list that ascends is cut in two, the last of the first part bounds both.
  below_bound : (x : Entry K V) (xs ys : List (Entry K V)) (p : O.Place) → Ascending O (x ∷ xs ++ ys) → precedes O (placed O (last_or x xs)) p ≡ true → O.way (placed O x) p ≡ before
  below_bound x [] ys p up h = precedes_is O L (placed O x) p h
  below_bound x (y ∷ xs) ys p up h = L.through (placed O x) (placed O y) p up.0.0 (below_bound y xs ys p up.1 h)

  low_none : (d : Entry K V) (xs ys : List (Entry K V)) (p : O.Place) → Ascending O (xs ++ ys) → precedes O (placed O (last_or d xs)) p ≡ true → lookup O p xs ≡ none
  low_none d [] ys p up h = refl
  low_none d (x ∷ xs) ys p up h =
      let apart = before_apart O L (placed O x) p (below_bound x xs ys p up h) in
      let ih = low_none x xs ys p up.1 h in
      grind arith

  past_none : (b p : O.Place) (ys : List (Entry K V)) → AllByRecursion (λ z. O.way b (placed O z) ≡ before) ys → precedes O b p ≡ false → lookup O p ys ≡ none
  past_none b p [] a h = refl
  past_none b p (y ∷ ys) a h =
      let w = a.0 in
      let m = same_place O L p (placed O y) in
      let ih = past_none b p ys a.1 h in
      grind arith

  high_none : (d : Entry K V) (xs ys : List (Entry K V)) (p : O.Place) → 0 < length xs → Ascending O (xs ++ ys) → precedes O (placed O (last_or d xs)) p ≡ false → lookup O p ys ≡ none
  high_none d [] ys p n up h = absurd (omega arith)
  high_none d (x ∷ []) ys p n up h = past_none (placed O x) p ys up.0 h
  high_none d (x ∷ (y ∷ xs)) ys p n up h = high_none x (y ∷ xs) ys p (omega arith) up.1 h

  last_there : (d : Entry K V) (xs : List (Entry K V)) → 0 < length xs → lookup O (placed O (last_or d xs)) xs ≡ none → ⊥
  last_there d [] n h = omega arith
  last_there d (x ∷ []) n h = let s = meets_self O L (placed O x) in grind arith
  last_there d (x ∷ (y ∷ xs)) n h = let ih = last_there x (y ∷ xs) (omega arith) in grind arith

  -- What a change of the leaf l must be, to put z at the place q and leave the others: of one leaf, and of two with a bound.
  abbrev pub Under : K → Leaf K V → Type 0
  Under b l = (p : O.Place) → within O b p ≡ false → lookup O p (lives l) ≡ none

  abbrev pub Beyond : K → Leaf K V → Type 0
  Beyond b l = (p : O.Place) → within O b p ≡ true → lookup O p (lives l) ≡ none

  pub record Leafy (l : Leaf K V) : Type 0 where
    pub apart : Apart O L (lives l)
    pub some_live : empty (lives l) ≡ false

  pub record SuitsOne (q : O.Place) (z : Option (Entry K V)) (l m : Leaf K V) : Type 0 where
    pub puts : (p : O.Place) → lookup O p (lives m) ≡ cond (meets O p q) z (lookup O p (lives l))
    pub leafy : Leafy m

  pub record SuitsTwo (q : O.Place) (z : Option (Entry K V)) (l low : Leaf K V) (x : K) (high : Leaf K V) : Type 0 where
    pub puts : (p : O.Place) → or_else (lookup O p (lives low)) (lookup O p (lives high)) ≡ cond (meets O p q) z (lookup O p (lives l))
    pub leafy_low : Leafy low
    pub leafy_high : Leafy high
    pub under : Under x low
    pub beyond : Beyond x high
    pub there : lookup O (O.place x) (lives l) ≡ none → ⊥

  abbrev pub Suits : O.Place → Option (Entry K V) → Leaf K V → Change K (Leaf K V) → Type 0
  Suits q z l (one m k) = SuitsOne q z l m
  Suits q z l (two low x high k) = SuitsTwo q z l low x high
  Suits q z l no_room = Unit {0}

  leafy_append : (e : Entry K V) (l : Leaf K V) → Apart O L (lives l) → Leafy (append O e l)
  leafy_append e l a =
      record { apart = apart_append O L e l a; some_live = subst (λ es. empty es ≡ false) (sym (lives_join O L (kill O (placed O e) l) (live e ∷ []))) (not_empty (lives (kill O (placed O e) l)) (e ∷ []) refl) }

  leafy_live : (es : List (Entry K V)) → Ascending O es → 0 < length es → Leafy (map live es)
  leafy_live es up n = record { apart = subst (Apart O L) (sym (lives_live O L es)) (up_apart O L es up); some_live = subst (λ xs. empty xs ≡ false) (sym (lives_live O L es)) (long_not_empty es n) }

  look_live : (p : O.Place) (es : List (Entry K V)) → lookup O p (lives (map live es)) ≡ lookup O p es
  look_live p es = ap (lookup O p) (lives_live O L es)

  look_cut : (p : O.Place) (B : ℕ) (es : List (Entry K V)) → or_else (lookup O p (take B es)) (lookup O p (drop B es)) ≡ lookup O p es
  look_cut p B es = sym (look_join O L p (take B es) (drop B es)) ∙ ap (lookup O p) (take-append-drop B es)

  up_right : (xs ys : List (Entry K V)) → Ascending O (xs ++ ys) → Ascending O ys
  up_right [] ys up = up
  up_right (x ∷ xs) ys up = up_right xs ys up.1

  all_left : (Q : Entry K V → Type 0) (xs ys : List (Entry K V)) → AllByRecursion Q (xs ++ ys) → AllByRecursion Q xs
  all_left Q [] ys a = tt
  all_left Q (x ∷ xs) ys a = (a.0, all_left Q xs ys a.1)

  up_left : (xs ys : List (Entry K V)) → Ascending O (xs ++ ys) → Ascending O xs
  up_left [] ys up = tt
  up_left (x ∷ xs) ys up = (all_left _ xs ys up.0, up_left xs ys up.1)

  -- a leaf made anew
  rebuilt_suits : (e : Entry K V) (l : Leaf K V) → Apart O L (lives l) → SuitsOne (placed O e) (some e) l (append O e (map live (ordered O l)))
  rebuilt_suits e l a = record {
    puts = λ p. look_append O L p e (map live (ordered O l)) ∙ ap (cond (meets O p (placed O e)) (some e)) (look_live p (ordered O l) ∙ look_sorted O L p (lives l));
    leafy = leafy_append e (map live (ordered O l)) (subst (Apart O L) (sym (lives_live O L (ordered O l))) (up_apart O L (ordered O l) (up_sorted O L (lives l) a)));
  }

  -- a full ascending leaf closed behind a bound
  edge_suits : (e : Entry K V) (l : Leaf K V) → Apart O L (lives l) → 0 < length (lives l) → ascends O (lives l ++ e ∷ []) ≡ true → SuitsTwo (placed O e) (some e) l l (last_or e (lives l)).key (live e ∷ [])
  edge_suits e l a n h =
      let up = ascends_up O L (lives l ++ e ∷ []) h in
      record {
        puts = λ p. let m = same_place O L p (placed O e) in let h = high_none e (lives l) (e ∷ []) p n up in let l = low_none e (lives l) (e ∷ []) p up in grind arith;
        leafy_low = record { apart = a; some_live = long_not_empty (lives l) n };
        leafy_high = record { apart = (refl, tt); some_live = refl };
        under = λ p w. low_none e (lives l) (e ∷ []) p up (not-false _ w);
        beyond = λ p w. high_none e (lives l) (e ∷ []) p n up (not-true _ w);
        there = last_there e (lives l) n;
      }

  -- a two-way split
  split_suits : (e : Entry K V) (l : Leaf K V) (es : List (Entry K V)) (B : ℕ) → Ascending O es → ((p : O.Place) → lookup O p es ≡ lookup O p (lives l)) → 0 < B → B < length es → Suits (placed O e) (some e) l (split O e es B)
  split_suits e l es B up as' low-n high-n =
      let low : List (Entry K V) = take B es in
      let high : List (Entry K V) = drop B es in
      let x : Entry K V = last_or e low in
      let cut : Ascending O (low ++ high) = subst (Ascending O) (sym (take-append-drop B es)) up in
      let some-low : 0 < length low = simp length-take (omega arith) in
      let some-high : 0 < length high = simp length-drop (omega arith) in
      let leaf-low = leafy_live low (up_left low high cut) some-low in
      let leaf-high = leafy_live high (up_right low high cut) some-high in
      let is-there : lookup O (placed O x) (lives l) ≡ none → ⊥ = λ h. last_there e low some-low (let c = look_cut (placed O x) B es in let s = as' (placed O x) in grind arith) in
      by_cond (Suits (placed O e) (some e) l) (precedes O (placed O x) (placed O e))
      (λ after-bound. record {
        puts = λ p.
            let a = look_append O L p e (map live high) in
            let b = look_live p low in
            let c = look_live p high in
            let d = look_cut p B es in
            let s = as' p in
            let m = same_place O L p (placed O e) in
            let n = low_none e low high p cut in
            grind arith;
        leafy_low = leaf-low;
        leafy_high = leafy_append e (map live high) leaf-high.apart;
        under = λ p w. look_live p low ∙ low_none e low high p cut (not-false _ w);
        beyond = λ p w.
            let a = look_append O L p e (map live high) in
            let c = look_live p high in
            let h = high_none e low high p some-low cut (not-true _ w) in
            let m = same_place O L p (placed O e) in
            grind arith;
        there = is-there;
      })
      (λ at_bound. record {
        puts = λ p.
            let a = look_append O L p e (map live low) in
            let b = look_live p low in
            let c = look_live p high in
            let d = look_cut p B es in
            let s = as' p in
            grind arith;
        leafy_low = leafy_append e (map live low) leaf-low.apart;
        leafy_high = leaf-high;
        under = λ p w.
            let a = look_append O L p e (map live low) in
            let c = look_live p low in
            let h = low_none e low high p cut (not-false _ w) in
            let m = same_place O L p (placed O e) in
            grind arith;
        beyond = λ p w. look_live p high ∙ high_none e low high p some-low cut (not-true _ w);
        there = is-there;
      })

  pub fit_suits : (e : Entry K V) (last room : Bool) (l : Leaf K V) → Apart O L (lives l) → Suits (placed O e) (some e) l (fit O e last room l)
  fit_suits e last room l a =
      let n : ℕ = length (lives l) in
      let r : ℕ = rises O (lives l) in
      let rising : Bool = ascends O (lives l ++ e ∷ []) in
      let S : Change K (Leaf K V) → Type 0 = Suits (placed O e) (some e) l in
      by_cond S (not (retired l) && ltb (length l) leaf_length) (λ _. record { puts = λ p. look_append O L p e l; leafy = leafy_append e l a })
      (λ _. by_cond S (leb n remake_limit) (λ _. rebuilt_suits e l a)
      (λ m. let many : remake_limit < n = leb-false n remake_limit m in
      by_cond S (not room) (λ _. tt)
      (λ _. by_cond S (last && (eqb n leaf_length && ascends O (lives l ++ e ∷ [])))
      (λ t. edge_suits e l a (omega arith) (and_parts (eqb n leaf_length) rising (and_parts last (eqb n leaf_length && rising) t).1).1)
      (λ _. let inside = boundary_inside n r (rises_inside O (lives l) (omega arith)) (omega arith) in
      split_suits e l (ordered O l) _ (up_sorted O L (lives l) a) (λ p. look_sorted O L p (lives l)) (omega arith) (omega (arith, length_sorted O (lives l)))))))
