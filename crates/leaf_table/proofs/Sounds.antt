-- What a record keeps: taken out of its ghost field, and kept by each change.
use Rattle.std.proofs.Common.{◌≡◌, ℕ, zero, suc, ◌+◌, ◌-◌, ◌*◌, ◌<◌, Result, OnErr, cond, eqb, ◌≢◌, List, [], ◌∷◌, length, get_or, set, replicate, sym, refl, ap, ◌∙◌, subst, ⊎_elim, arith}
use mathlib.Core.Logic.{∥∥₁_elim}
use native.Mathlib.Bridge.{le_prop}
use base.Stored.{Coded-set, coded_ℕ}
use mathlib.Core.HLevel.{is_prop→PathP}
use Rattle.std.specs.List.{swap}
use Rattle.std.proofs.lemmas.List.{length-map, length-set, map-set, get_or-map, get_or-set_same, get_or-set_other, set-get_or}
use Rattle.std.proofs.lemmas.List.FromFn.{get_or-range_with_len}
use Rattle.std.proofs.lemmas.List.Edits.{length-swap, swapped_from_swap}
use Rattle.std.proofs.lemmas.Bool.{cases_eq, eq-eqb, ne_eqb, cond-true, cond-false}
use Rattle.std.proofs.lemmas.Bool.Decides.{nat_tests}
use Rattle.std.proofs.lemmas.Result.{on_err_weaker}
use borrow.Rule.Slice.PartMut.{put_mid}
use Rattle.keys.specs.declared.refusal.Refusal.{Refusal}
use Rattle.leaf_table.specs.States.{part}
use Rattle.leaf_table.proofs.Parts.{put_back}
use Rattle.leaf.specs.Calls.{fresh}
use Rattle.leaf.specs.Rules.{state_of}
use Rattle.leaf.specs.declared.array.Array.{Array}
use Rattle.leaf.specs.Records.{Whole}
use Rattle.ranked_leaves.proofs.Anew.{words_of}
use Rattle.leaf_table.specs.declared.table.Table.{Table}
use Rattle.leaf_table.specs.Records.{leaf_count, states_of, state_no, Marked, Sound}

pub sound_out : {children : Array} {seats : List ℕ} {leaves : List Array} → ∥ Sound children seats leaves ∥₁ → Sound children seats leaves
sound_out t = record {
  table = ∥∥₁_elim t (Coded-set coded_ℕ _ _) (λ s. s.table);
  places = ∥∥₁_elim t (Coded-set coded_ℕ _ _) (λ s. s.places);
  seat = λ i h. ∥∥₁_elim t le_prop (λ s. s.seat i h);
  once = λ i j hi hj e. ∥∥₁_elim t (Coded-set coded_ℕ _ _) (λ s. s.once i j hi hj e);
  bounds = ∥∥₁_elim t (Coded-set coded_ℕ _ _) (λ s. s.bounds);
  leaf = λ n h. ∥∥₁_elim t (Coded-set coded_ℕ _ _) (λ s. s.leaf n h);
}

-- ---- a fresh record

pub all_fresh : (a : Array) (m n : ℕ) → state_of a ≡ fresh → state_no (replicate m a) n ≡ fresh
all_fresh a zero n e = refl
all_fresh a (suc m) zero e = e
all_fresh a (suc m) (suc n) e = all_fresh a m n e

marked_fresh : Marked fresh
marked_fresh = refl

pub sound_fresh : (a b : Array) → state_of a ≡ fresh → state_of b ≡ fresh → Sound a (0 ∷ 1 ∷ 2 ∷ 3 ∷ 4 ∷ 5 ∷ 6 ∷ 7 ∷ 8 ∷ 9 ∷ 10 ∷ 11 ∷ 12 ∷ 13 ∷ 14 ∷ 15 ∷ 16 ∷ []) (replicate 17 b)
sound_fresh a b e f = record {
  table = refl;
  places = refl;
  seat = λ t h. omega (arith, get_or-range_with_len 0 17 t 0 h);
  once = λ s t hs ht z. omega (arith, get_or-range_with_len 0 17 s 0 hs, get_or-range_with_len 0 17 t 0 ht);
  bounds = subst Marked (sym e) marked_fresh;
  leaf = λ n h. subst Marked (sym (all_fresh b 17 n f)) marked_fresh;
}

-- ---- one leaf changed

pub state_same : (leaves : List Array) (n : ℕ) (a : Array) → n < length leaves → state_no (set leaves n a) n ≡ state_of a
state_same leaves n a h = ap (λ ss. get_or ss n fresh) (map-set state_of leaves n a) ∙ get_or-set_same (states_of leaves) n (state_of a) fresh (omega (arith, length-map leaves state_of))

pub state_other : (leaves : List Array) (n m : ℕ) (a : Array) → m ≢ n → state_no (set leaves n a) m ≡ state_no leaves m
state_other leaves n m a ne = ap (λ ss. get_or ss m fresh) (map-set state_of leaves n a) ∙ get_or-set_other (states_of leaves) n m (state_of a) fresh ne

-- another table of leaves
pub sound_leaves : {children : Array} {seats : List ℕ} {leaves : List Array} (leaves' : List Array) → length leaves' ≡ leaf_count → ((n : ℕ) → n < leaf_count → Marked (state_no leaves' n)) → Sound children seats leaves → Sound children seats leaves'
sound_leaves leaves' len marked s = record { table = len; places = s.places; seat = s.seat; once = s.once; bounds = s.bounds; leaf = marked }

pub sound_put : {children : Array} {seats : List ℕ} {leaves : List Array} (n : ℕ) (a : Array) → n < leaf_count → Marked (state_of a) → Sound children seats leaves → Sound children seats (set leaves n a)
sound_put {leaves = leaves} n a h w s = sound_leaves (set leaves n a) (length-set leaves n a ∙ s.table) (λ m hm. ⊎_elim
    (λ e. subst Marked (sym (ap (state_no (set leaves n a)) e ∙ state_same leaves n a (omega (arith, s.table)))) w)
    (λ ne. subst Marked (sym (state_other leaves n m a ne)) (s.leaf m hm))
    (cases_eq m n)) s

-- ---- two places change leaves

module _ (seats seats' : List ℕ) (s t : ℕ) (hs : s < length seats) (ht : t < length seats) (is : seats' ≡ swap seats s t) where
  -- the place whose leaf place i has now
  from : ℕ → ℕ
  from i = cond (eqb i s) t (cond (eqb i t) s i)

  swap_from : (i : ℕ) → (get_or seats' i 0 ≡ get_or seats (from i) 0) × (i < length seats → from i < length seats)
  unfolding from
  swap_from i =
      let w = swapped_from_swap seats seats' s t 0 hs ht is in
      ⊎_elim
      (λ (e : i ≡ s). let z = cond-true (eqb i s) t (cond (eqb i t) s i) (eq-eqb i s e) in (ap (λ j. get_or seats' j 0) e ∙ w.0 ∙ ap (λ j. get_or seats j 0) (sym z), λ _. omega arith))
      (λ (n : i ≢ s). ⊎_elim
      (λ (e : i ≡ t). let z = cond-false (eqb i s) t (cond (eqb i t) s i) (ne_eqb i s n) ∙ cond-true (eqb i t) s i (eq-eqb i t e) in (ap (λ j. get_or seats' j 0) e ∙ w.1 ∙ ap (λ j. get_or seats j 0) (sym z), λ _. omega arith))
      (λ (m : i ≢ t). let z = cond-false (eqb i s) t (cond (eqb i t) s i) (ne_eqb i s n) ∙ cond-false (eqb i t) s i (ne_eqb i t m) in (w.2 i n m ∙ ap (λ j. get_or seats j 0) (sym z), λ h. omega arith))
      (cases_eq i t))
      (cases_eq i s)

  from_once : (i j : ℕ) → from i ≡ from j → i ≡ j
  unfolding from
  from_once i j e = grind (arith, nat_tests)

  pub sound_swap : {children : Array} {leaves : List Array} → Sound children seats leaves → Sound children seats' leaves
  sound_swap w = record {
    table = w.table;
    places = ap length is ∙ length-swap seats s t ∙ w.places;
    seat = λ i h. let f = swap_from i in omega (arith, f.0, w.seat (from i) (omega (arith, f.1 (omega (arith, w.places)), w.places)));
    once = λ i j hi hj e.
        let f = swap_from i in
        let k = swap_from j in
        from_once i j (w.once (from i) (from j) (omega (arith, f.1 (omega (arith, w.places)), w.places)) (omega (arith, k.1 (omega (arith, w.places)), w.places)) (sym f.0 ∙ e ∙ k.0));
    bounds = w.bounds;
    leaf = w.leaf;
  }

pub sound_children : {children : Array} {seats : List ℕ} {leaves : List Array} (children' : Array) → Marked (state_of children') → Sound children seats leaves → Sound children' seats leaves
sound_children children' m w = record { table = w.table; places = w.places; seat = w.seat; once = w.once; bounds = m; leaf = w.leaf }

-- a leaf that was read
pub state_read : (leaves : List Array) (n : ℕ) (d : Array) → n < length leaves → state_of (get_or leaves n d) ≡ state_no leaves n
state_read leaves n d h = sym (get_or-map state_of leaves n d fresh h)

-- ---- equal records

same_array : {m m' b b' : ℕ} → m ≡ m' → b ≡ b' → (w : ∥ Whole m b ∥₁) (w' : ∥ Whole m' b' ∥₁) → ◌≡◌ {A = Array} (record { metadata = m; bitmap = b; whole = w }) (record { metadata = m'; bitmap = b'; whole = w' })
same_array p q w w' = λ i. record { metadata = p i; bitmap = q i; whole = is_prop→PathP (λ j. ∥ Whole (p j) (q j) ∥₁) (λ j. squash₁) w w' i }

-- an array has no more to it than its state
pub array_of : (a b : Array) → state_of a ≡ state_of b → a ≡ b
array_of a b e = let w = words_of a b e in same_array w.0 w.1 a.whole b.whole

-- what was lent on came back as it was
pub kept_in : {A : Type 0} (n : ℕ) (a a' : Array) (xs ys : List A) → (state_of a' ≡ state_of a) × (ys ≡ part n xs) → (a' ≡ a) × (put_mid (15 * n) ((15 * n + 15) - 15 * n) xs ys ≡ xs)
kept_in n a a' xs ys u = (array_of a' a u.0, put_back n xs ys u.1)

pub unchanged_in : {A T : Type 0} (r : Result T Refusal) (n : ℕ) (a a' : Array) (xs ys : List A) → OnErr r ((state_of a' ≡ state_of a) × (ys ≡ part n xs)) → OnErr r ((a' ≡ a) × (put_mid (15 * n) ((15 * n + 15) - 15 * n) xs ys ≡ xs))
unchanged_in r n a a' xs ys = on_err_weaker r (kept_in n a a' xs ys)

-- a table has no more to it than its parts
pub table_of : (a b : Table) → a.children ≡ b.children → a.seats ≡ b.seats → a.leaves ≡ b.leaves → a.gone ≡ b.gone → a ≡ b
table_of a b p q r s = λ i. record { children = p i; seats = q i; leaves = r i; gone = s i; sound = is_prop→PathP (λ j. ∥ Sound (p j) (q j) (r j) ∥₁) (λ j. squash₁) a.sound b.sound i }

-- leaf n is a
abbrev pub put_leaf : (rec : Table) (n : ℕ) (a : Array) → ∥ Sound rec.children rec.seats (set rec.leaves n a) ∥₁ → Table
put_leaf rec n a s = record { children = rec.children; seats = rec.seats; leaves = set rec.leaves n a; gone = rec.gone; sound = s }

-- and it was a before
pub leaf_back : (rec : Table) (n : ℕ) (d a : Array) (s : ∥ Sound rec.children rec.seats (set rec.leaves n a) ∥₁) → a ≡ get_or rec.leaves n d → put_leaf rec n a s ≡ rec
leaf_back rec n d a s e = table_of (put_leaf rec n a s) rec refl refl (ap (set rec.leaves n) e ∙ set-get_or rec.leaves n d) refl
