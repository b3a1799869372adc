-- What filings move: four times the entries moved is at most eleven times the accepted filings and replacements plus 49 for each two-way
-- split, and there are at most fifteen splits.
--
-- Each leaf saves 11 for each use past its first, and each accepted filing or replacement pays 11. To make a leaf of 15 uses anew with
-- L ≤ 11 live ones moves L and frees 14 - L uses, and 4 L ≤ 11 (15 - L). A split of L ≤ 15, at any boundary from 1 to L - 1, moves L and
-- frees 15 - L uses, and 4 L ≤ 11 (16 - L) + 49.
use Rattle.std.proofs.Common.{◌≡◌, ℕ, suc, ◌+◌, ◌-◌, ◌*◌, ◌<◌, ◌≤◌, Bool, true, false, cond, not, ◌&&◌, eqb, ltb, leb, ◌⊎◌, List, [], ◌∷◌, ◌++◌, length, take, refl, ap, ◌∙◌, inl, inr, arith, length-append, length-drop, length-take}
use mathlib.Core.Option.{some, none}
use lib.ListN.{length-map}
use Rattle.std.specs.List.{AllByRecursion}
use Rattle.std.proofs.lemmas.Bool.Decides.{nat_tests}
use Rattle.std.proofs.lemmas.Bool.{ltb-true, leb-true, leb-false, and_parts, not-false}
use Rattle.keys.specs.declared.refusal.Refusal.TheVariants.{Duplicate, Full, NotStruck}
use Rattle.keys.specs.Orders.{Order, precedes, within}
use Rattle.ranks.specs.Dimensions.{leaf_length, remake_limit, boundary}
use Rattle.lists.specs.Leaves.{Entry, live, dead, Leaf, lives, empty, spent, retired, last_or, placed, insert, sorted, ordered, kill, append, rises, ascends}
use Rattle.lists.specs.Rows.{Row, edge, child, Change, one, two, no_room, bounded, leaves, target, at_edge, changed}
use Rattle.lists.specs.Nodes.{child_places, Node, gone, sheet, Answer, began, gave, refused, Done, fit, split, fitted, filing, held, told, killed, settled}
use Rattle.lists.specs.Nodes as nodes
use Rattle.lists.specs.Walks.{walkable}
use Rattle.lists.specs.Histories.{State, Call, file, replace, strike, find, begin, move, turned_away, refusal_for, given, does, Past, state_after, history, accepted, moved_by, splits_by, put_by, moved, put, splits}
use Rattle.lists.proofs.Changes.{by_changed, by_lessened}
use Rattle.lists.proofs.Cases.{by_cond, by_replace, by_file, by_strike, done_by}

lives_fewer : {K V : Type 0} (l : Leaf K V) → length (lives l) ≤ length l
lives_fewer [] = omega arith
lives_fewer (live e ∷ l) = omega (arith, lives_fewer l)
lives_fewer (dead e ∷ l) = omega (arith, lives_fewer l)

pub boundary_inside : (L a : ℕ) → a < L → 2 ≤ L → (0 < boundary L a) × (boundary L a < L)
boundary_inside L a h k = grind (arith, nat_tests)

module _ {K V : Type 0} (O : Order K) where
  length_kill : (p : O.Place) (l : Leaf K V) → length (kill O p l) ≡ length l
  length_kill p [] = refl
  length_kill p (live e ∷ l) = ap suc (length_kill p l)
  length_kill p (dead e ∷ l) = ap suc (length_kill p l)

  length_put : (e : Entry K V) (l : Leaf K V) → length (append O e l) ≡ suc (length l)
  length_put e l = simp (length-append, length_kill) (omega arith)

  length_insert : (e : Entry K V) (es : List (Entry K V)) → length (insert O e es) ≡ suc (length es)
  length_insert e [] = refl
  length_insert e (x ∷ xs) =
      by_cond (λ ys. length ys ≡ suc (suc (length xs))) (precedes O (placed O x) (placed O e)) (λ _. ap suc (length_insert e xs)) (λ _. refl)

  pub length_sorted : (es : List (Entry K V)) → length (sorted O es) ≡ length es
  length_sorted [] = refl
  length_sorted (e ∷ es) = length_insert e (sorted O es) ∙ ap suc (length_sorted es)

  rises_below : (e : Entry K V) (es : List (Entry K V)) → rises O (e ∷ es) ≤ length es
  rises_below e [] = omega arith
  rises_below e (x ∷ xs) =
      by_cond (λ n. n + rises O (x ∷ xs) ≤ suc (length xs)) (precedes O (placed O e) (placed O x))
      (λ _. omega (arith, rises_below x xs)) (λ _. omega (arith, rises_below x xs))

-- what a leaf saves
abbrev saved : {K V : Type 0} → Leaf K V → ℕ
saved l = length l - 1

-- the change of a leaf is paid for, and a split has room
abbrev Paid : {K V : Type 0} → Bool → Leaf K V → Change K (Leaf K V) → Type 0
Paid room l (one m k) = (4 * k + 11 * saved m ≤ 11 * saved l + 11) × (k ≤ remake_limit) × (length m ≤ leaf_length)
Paid room l (two low b high k) = (4 * k + 11 * saved low + 11 * saved high ≤ 11 * saved l + 11 + 49 * cond (ltb remake_limit k) 1 0) × (length low ≤ leaf_length) × (length high ≤ leaf_length) × (room ≡ true)
Paid room l no_room = Unit {0}

-- a leaf that takes no more is full or has no live slot
shut : {A : Type 0} (n : ℕ) (a : Bool) (es : List A) → (not (a && empty es) && ltb n leaf_length) ≡ false → n ≤ leaf_length → (n ≡ leaf_length) ⊎ (length es ≡ 0)
shut n a [] f h = inr refl
shut n true (x ∷ xs) f h = inl (grind (arith, nat_tests))
shut n false (x ∷ xs) f h = inl (grind (arith, nat_tests))

module _ {K V : Type 0} (O : Order K) where
  -- a two-way split, at any boundary that leaves an entry on each side
  split_paid : (room : Bool) (e : Entry K V) (l : Leaf K V) (es : List (Entry K V)) (B : ℕ) → length l ≡ leaf_length → length es ≤ leaf_length → remake_limit < length es → 0 < B → B < length es → room ≡ true → Paid room l (split O e es B)
  split_paid room e l es B full small many low high ok =
      by_cond (Paid room l) (precedes O (O.place (last_or e (take B es)).key) (placed O e))
      (λ _. simp (length_put {V = V} O, length-map, length-take, length-drop) (grind (arith, nat_tests), omega arith, omega arith, ok))
      (λ _. simp (length_put {V = V} O, length-map, length-take, length-drop) (grind (arith, nat_tests), omega arith, omega arith, ok))

  pub rises_inside : (es : List (Entry K V)) → 0 < length es → rises O es < length es
  rises_inside [] h = omega arith
  rises_inside (e ∷ es) h = omega (arith, rises_below O e es)

  fit_paid : (e : Entry K V) (last room : Bool) (l : Leaf K V) → length l ≤ leaf_length → Paid room l (fit O e last room l)
  fit_paid e last room l small =
      let L : ℕ = length (lives l) in
      let a : ℕ = rises O (lives l) in
      let fewer = lives_fewer l in
      by_cond (Paid room l) (not (retired l) && ltb (length l) leaf_length)
      (λ t. let left : length l < leaf_length = ltb-true (length l) leaf_length (and_parts (not (retired l)) (ltb (length l) leaf_length) t).1 in simp (length_put {V = V} O) (omega arith))
      (λ f. let was : (length l ≡ leaf_length) ⊎ (L ≡ 0) = shut (length l) (not (empty l)) (lives l) f small in
      by_cond (Paid room l) (leb L remake_limit)
      (λ t. let few : L ≤ remake_limit = leb-true L remake_limit t in simp (length_put {V = V} O, length-map, length_sorted {V = V} O) (omega arith))
      (λ m. let many : remake_limit < L = leb-false L remake_limit m in
      by_cond (Paid room l) (not room) (λ _. tt)
      (λ r. let ok : room ≡ true = not-false room r in by_cond (Paid room l) (last && (eqb L leaf_length && ascends O (lives l ++ e ∷ []))) (λ _. (omega arith, small, omega arith, ok))
      (λ _. let inside = boundary_inside L a (rises_inside (lives l) (omega arith)) (omega arith) in
      let same = length_sorted O (lives l) in
      split_paid room e l (ordered O l) _ (omega arith) (omega arith) (omega arith) (omega arith) (omega arith) ok))))

-- the same of a row, and of a node
abbrev row_saved : {K V : Type 0} → Row K (Leaf K V) → ℕ
row_saved (edge l) = saved l
row_saved (child b l r) = saved l + row_saved r

abbrev Small : {K V : Type 0} → Row K (Leaf K V) → Type 0
Small r = AllByRecursion (λ l. length l ≤ leaf_length) (leaves r)

abbrev node_saved : {K V : Type 0} → Node K V → ℕ
node_saved gone = 0
node_saved (sheet r used closed) = row_saved r

abbrev node_used : {K V : Type 0} → Node K V → ℕ
node_used gone = child_places
node_used (sheet r used closed) = used

abbrev pub NodeSmall : {K V : Type 0} → Node K V → Type 0
NodeSmall gone = Unit {0}
NodeSmall (sheet r used closed) = Small r × (used ≤ child_places)

module _ {K V : Type 0} (O : Order K) where
  target_small : (p : O.Place) (r : Row K (Leaf K V)) → Small r → length (target O p r) ≤ leaf_length
  target_small p (edge l) h = h.0
  target_small p (child b l r) h = by_cond (λ (m : Leaf K V). length m ≤ leaf_length) (within O b p) (λ _. h.0) (λ _. target_small p r h.1)

  one_paid : (room : Bool) (p : O.Place) (m : Leaf K V) (k : ℕ) (r : Row K (Leaf K V)) → Paid room (target O p r) (one m k) → Small r → (4 * k + 11 * row_saved (changed O p (one m k) r) ≤ 11 * row_saved r + 11) × Small (changed O p (one m k) r)
  one_paid room p m k =
      by_changed O p (one m k) (λ t r s. Paid room t (one m k) → Small r → (4 * k + 11 * row_saved s ≤ 11 * row_saved r + 11) × Small s)
      (λ l c h. (c.0, (c.2, tt)))
      (λ b l r _ c h. (omega arith, (c.2, h.1)))
      (λ b l r _ ih c h. let s = ih c h.1 in (omega arith, (h.0, s.1)))

  two_paid : (room : Bool) (p : O.Place) (low : Leaf K V) (x : K) (high : Leaf K V) (k : ℕ) (r : Row K (Leaf K V)) → Paid room (target O p r) (two low x high k) → Small r → (4 * k + 11 * row_saved (changed O p (two low x high k) r) ≤ 11 * row_saved r + 11 + 49 * cond (ltb remake_limit k) 1 0) × Small (changed O p (two low x high k) r)
  two_paid room p low x high k =
      by_changed O p (two low x high k) (λ t r s. Paid room t (two low x high k) → Small r → (4 * k + 11 * row_saved s ≤ 11 * row_saved r + 11 + 49 * cond (ltb remake_limit k) 1 0) × Small s)
      (λ l c h. (omega arith, (c.1, (c.2, tt))))
      (λ b l r _ c h. (omega arith, (c.1, (c.2, h.1))))
      (λ b l r _ ih c h. let s = ih c h.1 in (omega arith, (h.0, s.1)))

  killed_less : (p : O.Place) (r : Row K (Leaf K V)) → Small r → (row_saved (killed O p r) ≤ row_saved r) × Small (killed O p r)
  killed_less p =
      by_lessened O p (kill O p) spent (λ r s. Small r → (row_saved s ≤ row_saved r) × Small s)
      (λ l h. (omega (arith, length_kill O p l), (omega (arith, length_kill O p l, h.0), tt)))
      (λ b l r _ _ h. (omega arith, h.1))
      (λ b l r _ _ h. (omega (arith, length_kill O p l), (omega (arith, length_kill O p l, h.0), h.1)))
      (λ b l r _ ih h. let s = ih h.1 in (omega arith, (h.0, s.1)))

  -- a call on a node is paid for, where u counts an accepted filing or replacement
  record Step (n : Node K V) (u : ℕ) (d : Done K V) : Type 0 where
    paid : 4 * moved_by d.answer + 11 * node_saved d.node ≤ 11 * node_saved n + 11 * u + 49 * splits_by d.answer
    used : splits_by d.answer + node_used n ≤ node_used d.node
    small : NodeSmall d.node

  quiet_step : (n : Node K V) (a : Answer K V) → NodeSmall n → moved_by a ≡ 0 → Step n 0 (record { node = n; answer = a })
  quiet_step n a h z = record { paid = grind (arith, nat_tests); used = grind (arith, nat_tests); small = h }

  filing_step : (p : O.Place) (c : Change K (Leaf K V)) (r : Row K (Leaf K V)) (used : ℕ) (closed : Bool) → Paid (ltb used child_places && not closed) (target O p r) c → Small r → used ≤ child_places → Step (sheet r used closed) (cond (accepted (filing O p c r used closed).answer) 1 0) (filing O p c r used closed)
  filing_step p (one m k) r used closed c h n =
      let s = one_paid (ltb used child_places && not closed) p m k r c h in
      record { paid = grind (arith, nat_tests); used = grind (arith, nat_tests); small = (s.1, n) }
  filing_step p (two low x high k) r used closed c h n =
      let s = two_paid (ltb used child_places && not closed) p low x high k r c h in
      record { paid = omega arith; used = grind (arith, nat_tests); small = (s.1, ltb-true used child_places (and_parts (ltb used child_places) (not closed) c.3).0) }
  filing_step p no_room r used closed c h n = quiet_step (sheet r used closed) (refused Full) (h, n) refl

  replace_step : (e : Entry K V) (n : Node K V) → NodeSmall n → Step n (cond (accepted (nodes.replace O e n).answer) 1 0) (nodes.replace O e n)
  replace_step e =
      by_replace O (λ n d. NodeSmall n → Step n (cond (accepted d.answer) 1 0) d) e (λ h. quiet_step gone (refused Full) h refl)
      (λ r used closed h.
      let p : O.Place = placed O e in
      filing_step p (fitted O e r used closed) r used closed (fit_paid O e (at_edge O p r) (ltb used child_places && not closed) (target O p r) (target_small p r h.0)) h.0 h.1)

  file_step : (e : Entry K V) (n : Node K V) → NodeSmall n → Step n (cond (accepted (nodes.file O e n).answer) 1 0) (nodes.file O e n)
  file_step e =
      by_file O (λ n d. NodeSmall n → Step n (cond (accepted d.answer) 1 0) d) e (λ h. quiet_step gone (refused Full) h refl)
      (λ r used closed x _ h. quiet_step (sheet r used closed) (refused Duplicate) h refl) (λ r used closed _. replace_step e (sheet r used closed))

  settled_step : (had : Bool) (r s : Row K (Leaf K V)) (used : ℕ) (closed : Bool) → used ≤ child_places → (row_saved s ≤ row_saved r) × Small s → Step (sheet r used closed) 0 (settled O had s used closed)
  settled_step had r (edge l) used closed u h =
      by_cond (Step (sheet r used closed) 0) (spent l) (λ _. record { paid = omega arith; used = omega arith; small = tt })
      (λ _. record { paid = omega arith; used = omega arith; small = (h.1, u) })
  settled_step had r (child b l s) used closed u h = record { paid = omega arith; used = omega arith; small = (h.1, u) }

  strike_step : (p : O.Place) (says : V → Bool) (n : Node K V) → NodeSmall n → Step n 0 (nodes.strike O p says n)
  strike_step p says =
      by_strike O (λ n d. NodeSmall n → Step n 0 d) p says (λ h. quiet_step gone (refused NotStruck) h refl)
      (λ r used closed _ h. quiet_step (sheet r used closed) (refused NotStruck) h refl)
      (λ r used closed e _ _ h. settled_step (bounded r) r (killed O p r) used closed h.1 (killed_less p r h.0))

  moves_none : (p : O.Place) (n : Node K V) → moved_by (nodes.find O p n) ≡ 0
  moves_none p gone = refl
  moves_none p (sheet r used closed) = elim (held O p r) as (λ o. moved_by (told O o) ≡ 0) [ none ↦ refl | some e ↦ refl ]

  does_step : (c : Call K V O.Place) (s : State K V) → NodeSmall s.node → Step s.node (put_by c (does O c s).answer) (done_by (does O c s))
  does_step (file e) s h = file_step e s.node h
  does_step (replace e) s h = replace_step e s.node h
  does_step (strike p says) s h = strike_step p says s.node h
  does_step (find p) s h = quiet_step s.node (nodes.find O p s.node) h (moves_none p s.node)
  does_step (begin d) s h = quiet_step s.node (began (walkable s.node)) h refl
  does_step (move m) s h = quiet_step s.node (gave (given O m s.node s.walk)) h refl
  does_step (turned_away f) s h = quiet_step s.node (refused (refusal_for f)) h refl

  -- of a history and the node after it
  pub record PaidFor (h : Past V O) (n : Node K V) : Type 0 where
    pub paid : 4 * moved h + 11 * node_saved n ≤ 11 * put h + 49 * splits h
    pub used : splits h ≤ node_used n
    pub small : NodeSmall n

  pub paid_for : (cs : List (Call K V O.Place)) → PaidFor (history O cs) (state_after O cs).node
  paid_for [] = record { paid = omega arith; used = omega arith; small = ((omega arith, tt), omega arith) }
  paid_for (c ∷ cs) =
      let s = paid_for cs in
      let d = does_step c (state_after O cs) s.small in
      record { paid = omega (arith, s, d); used = omega (arith, s, d); small = d.small }

  used_few : (n : Node K V) → NodeSmall n → node_used n ≤ child_places
  used_few gone h = omega arith
  used_few (sheet r used closed) h = h.1

  pub cheap : (cs : List (Call K V O.Place)) → 4 * moved (history O cs) ≤ 11 * put (history O cs) + 49 * splits (history O cs)
  cheap cs = let s = paid_for cs in omega arith

  pub few : (cs : List (Call K V O.Place)) → splits (history O cs) ≤ child_places
  few cs = let s = paid_for cs in omega (arith, used_few (state_after O cs).node s.small)
