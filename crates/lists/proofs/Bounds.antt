-- The bounds of each node that calls make ascend, and its children are no more than the places used; so the target of a place, the first
-- child whose bound is not before it, has the least such bound.
use Rattle.std.proofs.Common.{◌≡◌, ℕ, suc, ◌≤◌, Bool, true, false, cond, ◌∷◌, length, refl, ap, inl, inr, arith}
use mathlib.Core.List.Memᴰ
use mathlib.Core.Option.{Option, some, none}
use Rattle.std.specs.List.{AllByRecursion}
use Rattle.std.proofs.ByRecursion.{All-weaker}
use Rattle.std.proofs.lemmas.Bool.{cases_Bool, not-false}
use Rattle.keys.specs.Orders.{Order, Ordered, before, within}
use Rattle.keys.specs.Places.{same_place}
use Rattle.lists.specs.Leaves.{Entry, Leaf, lives, spent, placed, lookup, kill}
use Rattle.lists.specs.Rows.{Row, edge, child, Change, one, two, no_room, bounded, bounds, target, changed, Rising, Targets}
use Rattle.lists.specs.Nodes.{Node, gone, sheet, Done, fitted, filing, killed, settled}
use Rattle.lists.specs.Nodes as nodes
use Rattle.lists.specs.Histories.{State, Call, file, replace, strike, find, begin, move, turned_away, does}
use Rattle.lists.proofs.Changes.{by_changed, by_lessened}
use Rattle.lists.proofs.Cases.{by_cond, by_replace, by_file, by_strike}
use Rattle.lists.proofs.Looks.{up_to, precedes_is}
use Rattle.lists.proofs.Fits.{Suits, SuitsTwo}
use Rattle.lists.proofs.Rows.{look, Good, or_left, or_right}
use Rattle.lists.proofs.Steps.{NodeGood, first_look, fitted_suits}

module _ {K A : Type 0} (O : Order K) where
  -- where bounds ascend, the first that is not before the place is the least
  pub target_least : (p : O.Place) (r : Row K A) → Rising O (bounds r) → Targets O p r (target O p r)
  target_least p (edge l) u = inr (tt, refl)
  target_least p (child b l r) u =
      (elim (within O b p) as (λ w. within O b p ≡ w → Targets O p (child b l r) (cond w l (target O p r))) [
        | true ↦ λ e. inl (record { bound = b; stands = Memᴰ.head refl; fits = e; least = ((λ _. inl refl), All-weaker _ _ (λ c h _. inr h) (bounds r) u.0) })
        | false ↦ λ e. elim (target_least p r u.1) [
          | inl t ↦ inl (record { bound = t.bound; stands = Memᴰ.tail t.stands; fits = t.fits; least = ((λ k. absurd (grind arith)), t.least) })
          | inr a ↦ inr ((e, a.0), a.1)
        ]
      ]) refl

module _ {K V : Type 0} (O : Order K) where
  -- each bound of the row is after p
  abbrev PastAll : O.Place → Row K (Leaf K V) → Type 0
  PastAll p r = AllByRecursion (λ c. O.way p (O.place c) ≡ before) (bounds r)

module _ {K V : Type 0} (O : Order K) (L : Ordered O) where
  past_all : (p q : O.Place) (r : Row K (Leaf K V)) → O.way p q ≡ before → PastAll O q r → PastAll O p r
  past_all p q (edge l) h a = tt
  past_all p q (child b l r) h a = (L.through p q (O.place b) h a.0, past_all p q r h a.1)

  -- a filing keeps the bounds of a row, but for a new one in its target
  one_bounds : (q : O.Place) (m : Leaf K V) (k : ℕ) (r : Row K (Leaf K V)) → bounds (changed O q (one m k) r) ≡ bounds r
  one_bounds q m k = by_changed O q (one m k) (λ t r s. bounds s ≡ bounds r) (λ l. refl) (λ b l r _. refl) (λ b l r _ ih. ap (λ bs. b ∷ bs) ih)

  two_past : (p q : O.Place) (low : Leaf K V) (x : K) (high : Leaf K V) (k : ℕ) (r : Row K (Leaf K V)) → O.way p (O.place x) ≡ before → PastAll O p r → PastAll O p (changed O q (two low x high k) r)
  two_past p q low x high k r h =
      by_changed O q (two low x high k) (λ t r s. PastAll O p r → PastAll O p s) (λ l a. (h, tt)) (λ b l r _ a. (h, a)) (λ b l r _ ih a. (a.0, ih a.1)) r

  -- the new bound lies in the target, so after what is before the target
  new_past : (b x : K) (q : O.Place) (z : Option (Entry K V)) (r : Row K (Leaf K V)) (low high : Leaf K V) → Good O L r → ((p : O.Place) → within O b p ≡ true → lookup O p (lives (target O q r)) ≡ none) → SuitsTwo O L q z (target O q r) low x high → O.way (O.place b) (O.place x) ≡ before
  new_past b x q z r low high g away s = let c = cases_Bool (within O b (O.place x)) in let a = away (O.place x) in let t = s.there in precedes_is O L (O.place b) (O.place x) (not-false _ (grind arith))

  target_none : (p q : O.Place) (r : Row K (Leaf K V)) → look O L p r ≡ none → lookup O p (lives (target O q r)) ≡ none
  target_none p q (edge l) h = h
  target_none p q (child b l r) h =
      by_cond (λ (m : Leaf K V). lookup O p (lives m) ≡ none) (within O b q)
      (λ _. or_left O L (lookup O p (lives l)) (look O L p r) h) (λ _. target_none p q r (or_right O L (lookup O p (lives l)) (look O L p r) h))

  -- an entry of the high leaf is after the new bound, and within the old one
  parted_rising : (b : K) (l : Leaf K V) (r : Row K (Leaf K V)) (q : O.Place) (z : Option (Entry K V)) (low : Leaf K V) (x : K) (high : Leaf K V) → Good O L (child b l r) → SuitsTwo O L q z l low x high → within O b q ≡ true → O.way (O.place x) (O.place b) ≡ before
  parted_rising b l r q z low x high g t e =
      let f = first_look O L (lives high) t.leafy_high.some_live in
      let y : O.Place = placed O f.0 in
      let v = f.1 in
      let over : within O x y ≡ false = (let a = t.beyond y in let c = cases_Bool (within O x y) in grind arith) in
      let inner : within O b y ≡ true = (
      let c = cases_Bool (within O b y) in
      let a = t.puts y in
      let n = g.0.under y in
      let m = same_place O L y q in
      let o = or_right O L (lookup O y (lives low)) (lookup O y (lives high)) in
      grind arith) in
      up_to O L (O.place x) y b (precedes_is O L (O.place x) y (not-false _ over)) inner

  two_rising : (q : O.Place) (z : Option (Entry K V)) (low : Leaf K V) (x : K) (high : Leaf K V) (k : ℕ) (r : Row K (Leaf K V)) → Good O L r → SuitsTwo O L q z (target O q r) low x high → Rising O (bounds r) → Rising O (bounds (changed O q (two low x high k) r))
  two_rising q z low x high k =
      by_changed O q (two low x high k) (λ t r s. Good O L r → SuitsTwo O L q z t low x high → Rising O (bounds r) → Rising O (bounds s))
      (λ l g t u. (tt, tt))
      (λ b l r e g t u. let up = parted_rising b l r q z low x high g t e in ((up, past_all (O.place x) (O.place b) r up u.0), u))
      (λ b l r e ih g t u. (two_past (O.place b) q low x high k r (new_past b x q z r low high g.1 (λ p h. target_none p q r (g.0.beyond p h)) t) u.0, ih g.1 t u.1))

  two_more : (q : O.Place) (low : Leaf K V) (x : K) (high : Leaf K V) (k : ℕ) (r : Row K (Leaf K V)) → length (bounds (changed O q (two low x high k) r)) ≡ suc (length (bounds r))
  two_more q low x high k = by_changed O q (two low x high k) (λ t r s. length (bounds s) ≡ suc (length (bounds r))) (λ l. refl) (λ b l r _. refl) (λ b l r _ ih. ap suc ih)

  killed_past : (p q : O.Place) (r : Row K (Leaf K V)) → PastAll O p r → PastAll O p (killed O q r)
  killed_past p q = by_lessened O q (kill O q) spent (λ r s. PastAll O p r → PastAll O p s) (λ l a. a) (λ b l r _ _ a. a.1) (λ b l r _ _ a. a) (λ b l r _ ih a. (a.0, ih a.1))

  killed_rising : (q : O.Place) (r : Row K (Leaf K V)) → Rising O (bounds r) → Rising O (bounds (killed O q r))
  killed_rising q =
      by_lessened O q (kill O q) spent (λ r s. Rising O (bounds r) → Rising O (bounds s)) (λ l u. u) (λ b l r _ _ u. u.1) (λ b l r _ _ u. u)
      (λ b l r _ ih u. (killed_past (O.place b) q r u.0, ih u.1))

  killed_fewer : (q : O.Place) (r : Row K (Leaf K V)) → length (bounds (killed O q r)) ≤ length (bounds r)
  killed_fewer q =
      by_lessened O q (kill O q) spent (λ r s. length (bounds s) ≤ length (bounds r)) (λ l. omega arith) (λ b l r _ _. omega arith) (λ b l r _ _. omega arith) (λ b l r _ ih. omega arith)

  -- of a node
  abbrev pub Bounded : Node K V → Type 0
  Bounded gone = Unit {0}
  Bounded (sheet r used closed) = Rising O (bounds r) × (length (bounds r) ≤ used)

  filing_bounded : (e : Entry K V) (c : Change K (Leaf K V)) (r : Row K (Leaf K V)) (used : ℕ) (closed : Bool) → Good O L r → Suits O L (placed O e) (some e) (target O (placed O e) r) c → Bounded (sheet r used closed) → Bounded (filing O (placed O e) c r used closed).node
  filing_bounded e (one m k) r used closed g s b = rw (one_bounds (placed O e) m k r) b
  filing_bounded e (two low x high k) r used closed g s b = (two_rising (placed O e) (some e) low x high k r g s b.0, omega (arith, two_more (placed O e) low x high k r))
  filing_bounded e no_room r used closed g s b = b

  settled_bounded : (had : Bool) (s : Row K (Leaf K V)) (used : ℕ) (closed : Bool) → Rising O (bounds s) × (length (bounds s) ≤ used) → Bounded (settled O had s used closed).node
  settled_bounded had (edge l) used closed b = by_cond (λ (d : Done K V). Bounded d.node) (spent l) (λ _. tt) (λ _. b)
  settled_bounded had (child c l r) used closed b = b

  replace_bounded : (e : Entry K V) (n : Node K V) → NodeGood O L n → Bounded n → Bounded (nodes.replace O e n).node
  replace_bounded e = by_replace O (λ n d. NodeGood O L n → Bounded n → Bounded d.node) e (λ g b. tt) (λ r used closed g b. filing_bounded e (fitted O e r used closed) r used closed g (fitted_suits O L e r used closed g) b)

  file_bounded : (e : Entry K V) (n : Node K V) → NodeGood O L n → Bounded n → Bounded (nodes.file O e n).node
  file_bounded e = by_file O (λ n d. NodeGood O L n → Bounded n → Bounded d.node) e (λ g b. tt) (λ r used closed x _ g b. b) (λ r used closed _. replace_bounded e (sheet r used closed))

  strike_bounded : (p : O.Place) (says : V → Bool) (n : Node K V) → Bounded n → Bounded (nodes.strike O p says n).node
  strike_bounded p says =
      by_strike O (λ n d. Bounded n → Bounded d.node) p says (λ b. tt) (λ r used closed _ b. b)
      (λ r used closed e _ _ b. settled_bounded (bounded r) (killed O p r) used closed (killed_rising p r b.0, omega (arith, killed_fewer p r, b.1)))

  pub does_bounded : (c : Call K V O.Place) (s : State K V) → NodeGood O L s.node → Bounded s.node → Bounded (does O c s).state.node
  does_bounded (file e) s g b = file_bounded e s.node g b
  does_bounded (replace e) s g b = replace_bounded e s.node g b
  does_bounded (strike p says) s g b = strike_bounded p says s.node b
  does_bounded (find p) s g b = b
  does_bounded (begin d) s g b = b
  does_bounded (move m) s g b = b
  does_bounded (turned_away f) s g b = b
