-- The rows of a node: where each place stands, what a change of the target does, and the full walks.
use Rattle.std.proofs.Common.{◌≡◌, ℕ, true, false, cond, List, [], ◌∷◌, ◌++◌, map, reverse, sym, refl, ap, ◌∙◌, arith}
use mathlib.Core.Option.{Option, some, none}
use Rattle.std.specs.List.{AllByRecursion}
use Rattle.std.proofs.lemmas.List.{append-nil}
use Rattle.std.proofs.ByRecursion.{All-append}
use Rattle.std.proofs.lemmas.Bool.{cases_Bool}
use Rattle.keys.specs.Orders.{Order, Ordered, before, meets, within}
use Rattle.keys.specs.Places.{same_place}
use Rattle.lists.specs.Leaves.{Entry, Leaf, lives, empty, spent, placed, lookup, Ascending, ordered, kill}
use Rattle.lists.specs.Rows.{Row, edge, child, one, two, leaves, target, changed}
use Rattle.lists.specs.Nodes.{killed}
use Rattle.lists.specs.Walks.{full_walk, back_to_front}
use Rattle.lists.proofs.Changes.{by_changed, by_lessened}
use Rattle.lists.proofs.Looks.{or_else, meets_self, across, inside, look_sorted, look_join, look_kill, Apart, apart_kill, up_sorted}
use Rattle.lists.proofs.Walks.{all_of, full_all, all_back}
use Rattle.lists.proofs.Fits.{Under, Leafy, SuitsOne, SuitsTwo}

module _ {K V : Type 0} (O : Order K) (L : Ordered O) where
  -- what stands at a place in a row
  abbrev pub look : O.Place → Row K (Leaf K V) → Option (Entry K V)
  look p (edge l) = lookup O p (lives l)
  look p (child b l r) = or_else (lookup O p (lives l)) (look p r)

  -- A child has a live entry and none beyond its bound, and nothing after it in the row is within the bound.
  pub record GoodChild (b : K) (l : Leaf K V) (r : Row K (Leaf K V)) : Type 0 where
    pub leafy : Leafy O L l
    pub under : Under O L b l
    pub beyond : (p : O.Place) → within O b p ≡ true → look p r ≡ none

  abbrev pub Good : Row K (Leaf K V) → Type 0
  Good (edge l) = Apart O L (lives l)
  Good (child b l r) = GoodChild b l r × Good r

  -- the target holds the place, if any leaf does
  pub look_target : (p : O.Place) (r : Row K (Leaf K V)) → Good r → lookup O p (lives (target O p r)) ≡ look p r
  look_target p (edge l) g = refl
  look_target p (child b l r) g =
      let ih = look_target p r g.1 in
      let u = g.0.under p in
      let v = g.0.beyond p in
      (elim (within O b p) as (λ w. within O b p ≡ w → lookup O p (lives (cond w l (target O p r))) ≡ or_else (lookup O p (lives l)) (look p r)) [
        | true ↦ λ e. let n = v e in grind arith
        | false ↦ λ e. let n = u e in grind arith
      ]) refl

  -- all live entries, in order
  abbrev pub row_forth : Row K (Leaf K V) → List (Entry K V)
  row_forth (edge l) = ordered O l
  row_forth (child b l r) = ordered O l ++ row_forth r

  all_leaves : (r : Row K (Leaf K V)) → all_of (map (ordered O) (leaves r)) ≡ row_forth r
  all_leaves (edge l) = append-nil (ordered O l)
  all_leaves (child b l r) = ap (λ es. ordered O l ++ es) (all_leaves r)

  pub look_forth : (p : O.Place) (r : Row K (Leaf K V)) → lookup O p (row_forth r) ≡ look p r
  look_forth p (edge l) = look_sorted O L p (lives l)
  look_forth p (child b l r) =
      let j = look_join O L p (ordered O l) (row_forth r) in
      let s = look_sorted O L p (lives l) in
      let ih = look_forth p r in
      grind arith

  -- what holds of each place that stands holds of each entry
  all_look : (Q : O.Place → Type 0) (es : List (Entry K V)) → ((p : O.Place) → (lookup O p es ≡ none → ⊥) → Q p) → AllByRecursion (λ e. Q (placed O e)) es
  all_look Q [] f = tt
  all_look Q (x ∷ xs) f =
      (f (placed O x) (λ h. let s = meets_self O L (placed O x) in grind arith), all_look Q xs (λ p n. f p (λ h. n (grind arith))))

  up_join : (xs ys : List (Entry K V)) → Ascending O xs → Ascending O ys → AllByRecursion (λ x. AllByRecursion (λ y. O.way (placed O x) (placed O y) ≡ before) ys) xs → Ascending O (xs ++ ys)
  up_join [] ys u v c = v
  up_join (x ∷ xs) ys u v c = (All-append _ xs ys u.0 c.0, up_join xs ys u.1 v c.1)

  pub up_forth : (r : Row K (Leaf K V)) → Good r → Ascending O (row_forth r)
  up_forth (edge l) g = up_sorted O L (lives l) g
  up_forth (child b l r) g =
      up_join (ordered O l) (row_forth r) (up_sorted O L (lives l) g.0.leafy.apart) (up_forth r g.1)
      (all_look (λ p. AllByRecursion (λ y. O.way p (placed O y) ≡ before) (row_forth r)) (ordered O l)
      (λ p n. all_look (λ q. O.way p q ≡ before) (row_forth r)
      (λ q m. across O L b p q
      (let u = g.0.under p in let s = look_sorted O L p (lives l) in let c = cases_Bool (within O b p) in grind arith)
      (let v = g.0.beyond q in let s = look_forth q r in let c = cases_Bool (within O b q) in grind arith))))

  -- the full walks
  pub full_forth : (r : Row K (Leaf K V)) → full_walk (map (ordered O) (leaves r)) ≡ row_forth r
  full_forth r = full_all (map (ordered O) (leaves r)) ∙ all_leaves r

  pub full_back : (r : Row K (Leaf K V)) → full_walk (back_to_front (map (ordered O) (leaves r))) ≡ reverse (full_walk (map (ordered O) (leaves r)))
  full_back r = full_all (back_to_front (map (ordered O) (leaves r))) ∙ all_back (map (ordered O) (leaves r)) ∙ ap reverse (sym (full_all (map (ordered O) (leaves r))))

  -- the row s is the row r with z at the place q
  pub record Put (q : O.Place) (z : Option (Entry K V)) (r s : Row K (Leaf K V)) : Type 0 where
    pub looks : (p : O.Place) → look p s ≡ cond (meets O p q) z (look p r)
    pub good : Good s

  or_none : (z : Option (Entry K V)) → or_else z none ≡ z
  or_none none = refl
  or_none (some e) = refl

  child_put : (b : K) (l m : Leaf K V) (r : Row K (Leaf K V)) (q : O.Place) (z : Option (Entry K V)) → Good (child b l r) → within O b q ≡ true → SuitsOne O L q z l m → Put q z (child b l r) (child b m r)
  child_put b l m r q z g w s = record {
    looks = λ p.
        let a = s.puts p in
        let v = g.0.beyond q w in
        let i = same_place O L p q in
        let n = or_none z in
        grind arith;
    good = (
      record {
        leafy = s.leafy;
        under = λ p h. let a = s.puts p in let u = g.0.under p h in let i = same_place O L p q in grind arith;
        beyond = g.0.beyond;
      },
      g.1,
    );
  }

  rest_put : (b : K) (l : Leaf K V) (r s : Row K (Leaf K V)) (q : O.Place) (z : Option (Entry K V)) → Good (child b l r) → within O b q ≡ false → Put q z r s → Put q z (child b l r) (child b l s)
  rest_put b l r s q z g w t = record {
    looks = λ p.
        let a = t.looks p in
        let u = g.0.under q w in
        let i = same_place O L p q in
        grind arith;
    good = (
      record {
        leafy = g.0.leafy;
        under = g.0.under;
        beyond = λ p h. let a = t.looks p in let v = g.0.beyond p h in let i = same_place O L p q in grind arith;
      },
      t.good,
    );
  }

  pub one_put : (q : O.Place) (z : Option (Entry K V)) (m : Leaf K V) (k : ℕ) (r : Row K (Leaf K V)) → Good r → SuitsOne O L q z (target O q r) m → Put q z r (changed O q (one m k) r)
  one_put q z m k =
      by_changed O q (one m k) (λ t r s. Good r → SuitsOne O L q z t m → Put q z r s)
      (λ l g t. record { looks = t.puts; good = t.leafy.apart })
      (λ b l r e g t. child_put b l m r q z g e t)
      (λ b l r e ih g t. rest_put b l r (changed O q (one m k) r) q z g e (ih g.1 t))

  or_assoc : (x y z : Option (Entry K V)) → or_else x (or_else y z) ≡ or_else (or_else x y) z
  or_assoc none y z = refl
  or_assoc (some e) y z = refl

  pub or_left : (x y : Option (Entry K V)) → or_else x y ≡ none → x ≡ none
  or_left none y h = refl
  or_left (some e) y h = absurd (grind arith)

  pub or_right : (x y : Option (Entry K V)) → or_else x y ≡ none → y ≡ none
  or_right none y h = h
  or_right (some e) y h = absurd (grind arith)

  parted_put : (b : K) (l : Leaf K V) (r : Row K (Leaf K V)) (q : O.Place) (z : Option (Entry K V)) (low : Leaf K V) (x : K) (high : Leaf K V) → Good (child b l r) → within O b q ≡ true → SuitsTwo O L q z l low x high → Put q z (child b l r) (child x low (child b high r))
  parted_put b l r q z low x high g e t =
      let bound : within O b (O.place x) ≡ true = (let u = g.0.under (O.place x) in let n = t.there in let c = cases_Bool (within O b (O.place x)) in grind arith) in
      record {
        looks = λ p.
            let a = t.puts p in
            let o = or_assoc (lookup O p (lives low)) (lookup O p (lives high)) (look p r) in
            let v = g.0.beyond q e in
            let i = same_place O L p q in
            let n = or_none z in
            grind arith;
        good = (
          record {
            leafy = t.leafy_low;
            under = t.under;
            beyond = λ p h. let a = t.beyond p h in let v = g.0.beyond p (inside O L b x p bound h) in grind arith;
          },
          (
            record {
              leafy = t.leafy_high;
              under = λ p h. or_right (lookup O p (lives low)) (lookup O p (lives high)) (let a = t.puts p in let u = g.0.under p h in let i = same_place O L p q in grind arith);
              beyond = g.0.beyond;
            },
            g.1,
          ),
        );
      }

  pub two_put : (q : O.Place) (z : Option (Entry K V)) (low : Leaf K V) (x : K) (high : Leaf K V) (k : ℕ) (r : Row K (Leaf K V)) → Good r → SuitsTwo O L q z (target O q r) low x high → Put q z r (changed O q (two low x high k) r)
  two_put q z low x high k =
      by_changed O q (two low x high k) (λ t r s. Good r → SuitsTwo O L q z t low x high → Put q z r s)
      (λ l g t. record { looks = t.puts; good = (record { leafy = t.leafy_low; under = t.under; beyond = t.beyond }, t.leafy_high.apart) })
      (λ b l r e g t. parted_put b l r q z low x high g e t)
      (λ b l r e ih g t. rest_put b l r (changed O q (two low x high k) r) q z g e (ih g.1 t))

  pub empty_look : (p : O.Place) (es : List (Entry K V)) → empty es ≡ true → lookup O p es ≡ none
  empty_look p [] h = refl
  empty_look p (x ∷ xs) h = absurd (grind arith)

  pub killed_put : (q : O.Place) (r : Row K (Leaf K V)) → Good r → Put q none r (killed O q r)
  killed_put q =
      by_lessened O q (kill O q) spent (λ r s. Good r → Put q none r s)
      (λ l g. record { looks = λ p. look_kill O L p q l; good = apart_kill O L q l g })
      (λ b l r e h g. record {
        looks = λ p.
            let a = look_kill O L p q l in
            let n = empty_look p (lives (kill O q l)) h in
            let v = g.0.beyond q e in
            let i = same_place O L p q in
            grind arith;
        good = g.1;
      })
      (λ b l r e h g. child_put b l (kill O q l) r q none g e (record { puts = λ p. look_kill O L p q l; leafy = record { apart = apart_kill O L q l g.0.leafy.apart; some_live = h } }))
      (λ b l r e ih g. rest_put b l r (killed O q r) q none g e (ih g.1))
