-- What stands at a place, in lists of entries and in leaves.
use Rattle.std.proofs.Common.{◌≡◌, true, false, cond, List, [], ◌∷◌, ◌++◌, map, sym, refl, ap, ◌∙◌, subst, inl, inr, arith}
use mathlib.Core.List.{Memᴰ}
use mathlib.Core.Option.{Option, some, none}
use Rattle.std.specs.List.{AllByRecursion}
use Rattle.std.proofs.lemmas.Bool.{and_parts, cases_Bool, not-false}
use Rattle.keys.specs.Orders.{Order, Ordered, Way, before, same, after, is_before, is_same, precedes, meets, within}
use Rattle.keys.specs.Places.{ways, same_place}
use Rattle.lists.specs.Leaves.{Entry, live, dead, Leaf, lives, placed, lookup, Ascending, insert, sorted, kill, append, ascends}

abbrev pub or_else : {A : Type 0} → Option A → Option A → Option A
or_else none o = o
or_else (some x) o = some x

module _ {K : Type 0} (O : Order K) (L : Ordered O) where
  pub meets_self : (p : O.Place) → meets O p p ≡ true
  meets_self p = ap is_same (L.self p)

  -- a place before another is not that
  pub before_apart : (p q : O.Place) → O.way p q ≡ before → meets O q p ≡ false
  before_apart p q h = ap is_same (L.flip p q h)

  pub precedes_is : (p q : O.Place) → precedes O p q ≡ true → O.way p q ≡ before
  precedes_is p q h = elim (ways (O.way p q)) [ inl e ↦ e | inr (inl e) ↦ grind arith | inr (inr e) ↦ grind arith ]

  -- a place within a bound comes before one that is not
  pub across : (b : K) (p q : O.Place) → within O b p ≡ true → within O b q ≡ false → O.way p q ≡ before
  across b p q u v = elim (ways (O.way (O.place b) p)) [
    | inl e ↦ absurd (grind arith)
    | inr (inl e) ↦ rw (← L.only (O.place b) p e) (precedes_is (O.place b) q (not-false _ v))
    | inr (inr e) ↦ L.through p (O.place b) q (L.flop (O.place b) p e) (precedes_is (O.place b) q (not-false _ v))
  ]

  -- what is within a bound within b is within b
  pub inside : (b x : K) (p : O.Place) → within O b (O.place x) ≡ true → within O x p ≡ true → within O b p ≡ true
  inside b x p u v = elim (cases_Bool (within O b p)) [
    | inl e ↦ e
    | inr e ↦ let w = across x p (O.place b) v in let h = across b (O.place x) p u e in absurd (grind arith)
  ]

  -- a place before some place that is within b is before b
  pub up_to : (p q : O.Place) (b : K) → O.way p q ≡ before → within O b q ≡ true → O.way p (O.place b) ≡ before
  up_to p q b h w = elim (ways (O.way (O.place b) q)) [
    | inl e ↦ absurd (grind arith)
    | inr (inl e) ↦ rw (L.only (O.place b) q e) h
    | inr (inr e) ↦ L.through p q (O.place b) h (L.flop (O.place b) q e)
  ]

module _ {K V : Type 0} (O : Order K) (L : Ordered O) where
  look_insert : (p : O.Place) (e : Entry K V) (es : List (Entry K V)) → lookup O p (insert O e es) ≡ cond (meets O p (placed O e)) (some e) (lookup O p es)
  look_insert p e [] = refl
  look_insert p e (x ∷ xs) =
      let ih = look_insert p e xs in
      let a = same_place O L p (placed O e) in
      let b = same_place O L p (placed O x) in
      let c = L.self p in
      grind arith

  pub look_sorted : (p : O.Place) (es : List (Entry K V)) → lookup O p (sorted O es) ≡ lookup O p es
  look_sorted p [] = refl
  look_sorted p (e ∷ es) = look_insert p e (sorted O es) ∙ ap (cond (meets O p (placed O e)) (some e)) (look_sorted p es)

  pub look_join : (p : O.Place) (xs ys : List (Entry K V)) → lookup O p (xs ++ ys) ≡ or_else (lookup O p xs) (lookup O p ys)
  look_join p [] ys = refl
  look_join p (x ∷ xs) ys = let ih = look_join p xs ys in grind arith

  pub look_kill : (p q : O.Place) (l : Leaf K V) → lookup O p (lives (kill O q l)) ≡ cond (meets O p q) none (lookup O p (lives l))
  look_kill p q [] = grind arith
  look_kill p q (live e ∷ l) =
      let ih = look_kill p q l in
      let a = same_place O L p q in
      let b = same_place O L q (placed O e) in
      let c = same_place O L p (placed O e) in
      let d = meets_self O L p in
      grind arith
  look_kill p q (dead e ∷ l) = look_kill p q l

  pub lives_join : (l m : Leaf K V) → lives (l ++ m) ≡ lives l ++ lives m
  lives_join [] m = refl
  lives_join (live e ∷ l) m = ap (λ es. e ∷ es) (lives_join l m)
  lives_join (dead e ∷ l) m = lives_join l m

  pub lives_live : (es : List (Entry K V)) → lives (map live es) ≡ es
  lives_live [] = refl
  lives_live (e ∷ es) = ap (λ xs. e ∷ xs) (lives_live es)

  pub look_append : (p : O.Place) (e : Entry K V) (l : Leaf K V) → lookup O p (lives (append O e l)) ≡ cond (meets O p (placed O e)) (some e) (lookup O p (lives l))
  look_append p e l =
      let a = ap (lookup O p) (lives_join (kill O (placed O e) l) (live e ∷ [])) in
      let b = look_join p (lives (kill O (placed O e) l)) (e ∷ []) in
      let c = look_kill p (placed O e) l in
      grind arith

  -- no two entries have one place
  abbrev pub Apart : List (Entry K V) → Type 0
  Apart [] = Unit {0}
  Apart (e ∷ es) = (lookup O (placed O e) es ≡ none) × Apart es

  apart_push : (e : Entry K V) (es : List (Entry K V)) → lookup O (placed O e) es ≡ none → Apart es → Apart (es ++ e ∷ [])
  apart_push e [] h a = (refl, tt)
  apart_push e (x ∷ xs) h a =
      let j = look_join (placed O x) xs (e ∷ []) in
      let m = same_place O L (placed O x) (placed O e) in
      let s = meets_self O L (placed O x) in
      (grind arith, apart_push e xs (grind arith) a.1)

  pub apart_kill : (q : O.Place) (l : Leaf K V) → Apart (lives l) → Apart (lives (kill O q l))
  apart_kill q [] a = tt
  apart_kill q (live e ∷ l) a =
      let k = look_kill (placed O e) q l in
      let ih = apart_kill q l a.1 in
      elim (meets O q (placed O e)) as (λ b. Apart (lives (cond b (dead e) (live e) ∷ kill O q l))) [ true ↦ ih | false ↦ (grind arith, ih) ]
  apart_kill q (dead e ∷ l) a = apart_kill q l a

  pub apart_append : (e : Entry K V) (l : Leaf K V) → Apart (lives l) → Apart (lives (append O e l))
  apart_append e l a =
      let k = look_kill (placed O e) (placed O e) l in
      let s = meets_self O L (placed O e) in
      subst Apart (sym (lives_join (kill O (placed O e) l) (live e ∷ []))) (apart_push e (lives (kill O (placed O e) l)) (grind arith) (apart_kill (placed O e) l a))

  -- a sorted list of entries apart ascends
  all_insert : (Q : Entry K V → Type 0) (e : Entry K V) (es : List (Entry K V)) → Q e → AllByRecursion Q es → AllByRecursion Q (insert O e es)
  all_insert Q e [] q a = (q, tt)
  all_insert Q e (x ∷ xs) q a =
      elim (precedes O (placed O x) (placed O e)) as (λ b. AllByRecursion Q (cond b (x ∷ insert O e xs) (e ∷ x ∷ xs))) [ true ↦ (a.0, all_insert Q e xs q a.1) | false ↦ (q, a) ]

  pub all_after : (x y : Entry K V) (es : List (Entry K V)) → O.way (placed O x) (placed O y) ≡ before → AllByRecursion (λ z. O.way (placed O y) (placed O z) ≡ before) es → AllByRecursion (λ z. O.way (placed O x) (placed O z) ≡ before) es
  all_after x y [] h a = tt
  all_after x y (z ∷ zs) h a = (L.through (placed O x) (placed O y) (placed O z) h a.0, all_after x y zs h a.1)

  up_insert : (e : Entry K V) (es : List (Entry K V)) → lookup O (placed O e) es ≡ none → Ascending O es → Ascending O (insert O e es)
  up_insert e [] h up = (tt, tt)
  up_insert e (x ∷ xs) h up = go (λ h'. up_insert e xs h' up.1) (O.way (placed O x) (placed O e)) refl
    where
      missed : meets O (placed O e) (placed O x) ≡ false
      missed = grind arith

      go : (lookup O (placed O e) xs ≡ none → Ascending O (insert O e xs)) → (w : Way) → O.way (placed O x) (placed O e) ≡ w → Ascending O (cond (is_before w) (x ∷ insert O e xs) (e ∷ x ∷ xs))
      go ih before w = (all_insert _ e xs w up.0, ih (grind arith))
      go ih same w = let p = L.only (placed O x) (placed O e) w in let s = L.self (placed O e) in absurd (grind arith)
      go ih after w = let f = L.flop (placed O x) (placed O e) w in ((f, all_after e x xs f up.0), up)

  pub up_sorted : (es : List (Entry K V)) → Apart es → Ascending O (sorted O es)
  up_sorted [] a = tt
  up_sorted (e ∷ es) a = up_insert e (sorted O es) (look_sorted (placed O e) es ∙ a.0) (up_sorted es a.1)

  -- the other way round
  pub all_apart : (p : O.Place) (es : List (Entry K V)) → AllByRecursion (λ z. O.way p (placed O z) ≡ before) es → lookup O p es ≡ none
  all_apart p [] a = refl
  all_apart p (z ∷ zs) a = let w = a.0 in let ih = all_apart p zs a.1 in grind arith

  pub up_apart : (es : List (Entry K V)) → Ascending O es → Apart es
  up_apart [] up = tt
  up_apart (e ∷ es) up = (all_apart (placed O e) es up.0, up_apart es up.1)

  pub ascends_up : (es : List (Entry K V)) → ascends O es ≡ true → Ascending O es
  ascends_up [] h = tt
  ascends_up (x ∷ []) h = (tt, tt)
  ascends_up (x ∷ (y ∷ ys)) h =
      let two = and_parts (precedes O (placed O x) (placed O y)) (ascends O (y ∷ ys)) h in
      let w = precedes_is O L (placed O x) (placed O y) two.0 in
      let up = ascends_up (y ∷ ys) two.1 in
      ((w, all_after x y ys w up.0), up)

  -- what is met is what stands
  all_member : (Q : Entry K V → Type 0) {e : Entry K V} {es : List (Entry K V)} → Memᴰ e es → AllByRecursion Q es → Q e
  all_member Q (Memᴰ.head q) a = subst Q (sym q) a.0
  all_member Q (Memᴰ.tail m) a = all_member Q m a.1

  pub member_look : {e : Entry K V} {es : List (Entry K V)} → Memᴰ e es → Ascending O es → lookup O (placed O e) es ≡ some e
  member_look {e} (Memᴰ.head {x = x} {xs = xs} q) up =
      subst (λ y. lookup O (placed O y) (x ∷ xs) ≡ some y) (sym q) (let s = meets_self O L (placed O x) in grind arith)
  member_look {e} (Memᴰ.tail {x = x} {xs = xs} m) up =
      let w = before_apart O L (placed O x) (placed O e) (all_member (λ z. O.way (placed O x) (placed O z) ≡ before) m up.0) in
      let ih = member_look m up.1 in
      grind arith

  pub look_member : (p : O.Place) (es : List (Entry K V)) (e : Entry K V) → lookup O p es ≡ some e → Memᴰ e es
  look_member p [] e h = absurd (grind arith)
  look_member p (x ∷ xs) e h =
      (elim (meets O p (placed O x)) as (λ b. cond b (some x) (lookup O p xs) ≡ some e → Memᴰ e (x ∷ xs)) [
        | true ↦ λ k. Memᴰ.head (cc)
        | false ↦ λ k. Memᴰ.tail (look_member p xs e k)
      ]) h

  pub look_place : (p : O.Place) (es : List (Entry K V)) (e : Entry K V) → lookup O p es ≡ some e → p ≡ placed O e
  look_place p [] e h = absurd (grind arith)
  look_place p (x ∷ xs) e h = let m = same_place O L p (placed O x) in let ih = look_place p xs e in grind arith
