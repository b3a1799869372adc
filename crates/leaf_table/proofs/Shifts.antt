-- Rows whose children come, go or change: a target that stays or leaves, a child set before it; whether a row has a child, where its entries lie, every leaf mapped.
use Rattle.std.proofs.Common.{◌≡◌, ℕ, zero, suc, ◌+◌, ◌<◌, ◌≤◌, Bool, true, false, cond, not, eqb, ◌≢◌, ◌⊎◌, List, [], ◌∷◌, length, get_or, set, Some, None, Option, sym, refl, ap, ◌∙◌, subst, ap₂, inl, inr, ⊎_elim, arith}
use mathlib.Core.Option.{none}
use Rattle.std.specs.List.{slice_get}
use Rattle.std.proofs.lemmas.List.{length-set, length-map, get_or-set_same, get_or-set_other}
use Rattle.std.proofs.lemmas.Bool.{both_ways, cases_eq, cases_lt, ne_eqb, eq-eqb, cond-true, cond-false}
use Rattle.keys.specs.Orders.{Order, Ordered, within}
use Rattle.ranks.specs.Indexes.{Apart}
use Rattle.ranks.specs.Words.{is_empty, lifted}
use Rattle.ranks.proofs.Lifts.{lift_up, lift_flat, length_lifted, get_or_lifted}
use Rattle.lists.specs.Leaves.{Leaf, lives, lookup}
use Rattle.lists.specs.Rows.{Row, edge, child, Change, one, two, no_room, bounded, target, at_edge, changed_child, changed, lessened}
use Rattle.lists.proofs.Rows.{look, GoodChild, Good, or_left, or_right}
use Rattle.leaf.specs.Rules.{floor, taken_from}
use Rattle.leaf.specs.Slots.{side, sides, Sorted}
use Rattle.leaf.specs.declared.data_block.Slot.{Slot}
use Rattle.leaf.proofs.Files.{nth_same, nth_other}
use Rattle.leaf.proofs.Holders.{greatest}
use Rattle.leaf.proofs.Sides.{arranged, side_at, live_within}
use Rattle.leaf_lists.proofs.Counts.{empty_cases}
use Rattle.leaf_lists.proofs.Floors.{below}
use Rattle.leaf_table.specs.States.{pick, linked, row_on, Aimed}
use Rattle.leaf_table.proofs.Rows.{pick_cases, seated, Passed, row_end, row_same, beyond, inside, aim_at, low_passed, all_passed, target_is, changed_is}

-- ---- the child of a rank, where ranks, bounds and places change

-- place q has neither rank, or both ranks, with one bound and one leaf
abbrev Alike : {K V A : Type 0} → List ℕ → List ℕ → List (Slot K V) → List (Slot K V) → (ℕ → A) → (ℕ → A) → ℕ → ℕ → ℕ → Type 0
Alike rs rs' bs bs' f f' r r' q = ((get_or rs q 0 ≢ r) × (get_or rs' q 0 ≢ r')) ⊎ ((get_or rs q 0 ≡ r) × (get_or rs' q 0 ≡ r') × (slice_get bs' q ≡ slice_get bs q) × (f' q ≡ f q))

key_once : {K V : Type 0} (a b : Slot K V) → Some a ≡ Some b → a.key ≡ b.key
key_once a b e = cc

module _ {K V A : Type 0} where
  pick_alike : (rs rs' : List ℕ) (bs bs' : List (Slot K V)) (f f' : ℕ → A) (r r' : ℕ) → length rs' ≡ length rs → length bs' ≡ length bs → ((q : ℕ) → q < length rs → Alike rs rs' bs bs' f f' r r' q) → pick rs' bs' f' r' ≡ pick rs bs f r
  pick_alike [] [] bs bs' f f' r r' n m h = refl
  pick_alike [] (x' ∷ rs') bs bs' f f' r r' n m h = absurd (omega arith)
  pick_alike (x ∷ rs) [] bs bs' f f' r r' n m h = absurd (omega arith)
  pick_alike (x ∷ rs) (x' ∷ rs') [] [] f f' r r' n m h = refl
  pick_alike (x ∷ rs) (x' ∷ rs') [] (b' ∷ bs') f f' r r' n m h = absurd (omega arith)
  pick_alike (x ∷ rs) (x' ∷ rs') (b ∷ bs) [] f f' r r' n m h = absurd (omega arith)
  pick_alike (x ∷ rs) (x' ∷ rs') (b ∷ bs) (b' ∷ bs') f f' r r' n m h = elim (h 0 (omega arith)) [
    | inl z ↦
        cond-false _ _ _ (ne_eqb x' r' z.1)
        ∙ pick_alike rs rs' bs bs' (λ i. f (suc i)) (λ i. f' (suc i)) r r' (omega arith) (omega arith) (λ q l. h (suc q) (omega arith))
        ∙ sym (cond-false _ _ _ (ne_eqb x r z.0))
    | inr z ↦
        cond-true _ _ _ (eq-eqb x' r' z.1)
        ∙ ap₂ (λ k l. Some (k, l)) (key_once b' b z.2) z.3
        ∙ sym (cond-true _ _ _ (eq-eqb x r z.0))
  ]

-- ---- a target that stays is only changed

module _ {K A : Type 0} (O : Order K) (after : A → A) (gone : A → Bool) (p : O.Place) where
  pub lessened_changed : (k : ℕ) (r : Row K A) → (at_edge O p r ≡ true) ⊎ (gone (after (target O p r)) ≡ false) → lessened O after gone p r ≡ changed O p (one (after (target O p r)) k) r
  lessened_changed k (edge l) h = refl
  lessened_changed k (child b l r) h =
      let ih = lessened_changed k r in
      (elim (within O b p) as (λ w. (cond w false (at_edge O p r) ≡ true) ⊎ (gone (after (cond w l (target O p r))) ≡ false) → cond w (cond (gone (after l)) r (child b (after l) r)) (child b l (lessened O after gone p r)) ≡ cond w (child b (after (cond w l (target O p r))) r) (child b l (changed O p (one (after (cond w l (target O p r))) k) r))) [
        | true ↦ λ s. ⊎_elim (λ z. absurd (both_ways _ refl z)) (λ z. cond-false _ r (child b (after l) r) z) s
        | false ↦ λ s. ap (child b l) (ih s)
      ]) h

module _ {K V A : Type 0} (O : Order K) (L : Ordered O) (x : K) (rs : List ℕ) (bs : List (Slot K V)) (nr : length rs ≡ 15) (nb : length bs ≡ 15) (apart : Apart rs) (f f' : ℕ → A) (t : ℕ) (aim : Aimed rs (sides O x bs) t) (else : (s : ℕ) → s ≤ 15 → s ≢ t → f' s ≡ f s) (u : (i : ℕ) → get_or rs i 0 < 16) (after : A → A) (gone : A → Bool) where
  abbrev p : O.Place
  p = O.place x

  abbrev row : Row K A
  row = row_on (pick rs bs f) (f 15) 1 15

  pub row_lessened : t ≤ 15 → f' t ≡ after (f t) → (t ≡ 15) ⊎ (gone (after (f t)) ≡ false) → row_on (pick rs bs f') (f' 15) 1 15 ≡ lessened O after gone p row
  row_lessened h e stays =
      let at = target_is O L x rs bs nr nb apart f t aim u h in
      changed_is O L x rs bs nr nb apart f f' t aim else 0 u h
      ∙ ap (λ m. changed O p (one m 0) row) (e ∙ ap after (sym at.0))
      ∙ sym (lessened_changed O after gone p 0 row (⊎_elim (λ z. inl (at.1 ∙ eq-eqb t 15 z)) (λ z. inr (ap (λ l. gone (after l)) at.0 ∙ z)) stays))

  -- ---- a target that leaves

  over_lessened : (o : Option (K × A)) (r : Row K A) → Passed O p o → lessened O after gone p (linked o r) ≡ linked o (lessened O after gone p r)
  over_lessened None r h = refl
  over_lessened (Some z) r h = cond-false _ _ _ h

  kid_dropped : (kid kid' : ℕ → Option (K × A)) (last : A) (b : K) (l : A) (R : ℕ) → kid R ≡ Some (b, l) → within O b p ≡ true → gone (after l) ≡ true → kid' R ≡ None → ((i : ℕ) → 1 ≤ i → i < R → Passed O p (kid i)) → ((i : ℕ) → 1 ≤ i → i ≢ R → kid' i ≡ kid i) → (n r : ℕ) → 1 ≤ r → r ≤ R → R < r + n → row_on kid' last r n ≡ lessened O after gone p (row_on kid last r n)
  kid_dropped kid kid' last b l R e y g e' w h zero r ge lo hi = absurd (omega arith)
  kid_dropped kid kid' last b l R e y g e' w h (suc n) r ge lo hi = ⊎_elim
      (λ (s : r ≡ R).
      let rest = row_on kid last (suc r) n in
      ap₂ linked (ap kid' s ∙ e') (row_same O p 0 last kid kid' last last n (suc r) (λ i a. h i (omega arith) (λ q. absurd (omega arith))) refl)
      ∙ sym (ap (λ o. lessened O after gone p (linked o rest)) (ap kid s ∙ e) ∙ cond-true _ _ _ y ∙ cond-true _ _ _ g))
      (λ s. ap₂ linked (h r ge s) (kid_dropped kid kid' last b l R e y g e' w h n (suc r) (omega arith) (omega arith) (omega arith)) ∙ sym (over_lessened (kid r) (row_on kid last (suc r) n) (w r ge (omega arith))))
      (cases_eq r R)

  pub row_dropped : (rs' : List ℕ) → rs' ≡ set rs t 0 → t < 15 → gone (after (f t)) ≡ true → row_on (pick rs' bs f') (f' 15) 1 15 ≡ lessened O after gone p row
  row_dropped rs' is h g =
      let a = aim_at O L x rs bs nr nb apart f t aim h in
      let live = (aim.child h).live in
      let here : get_or rs' t 0 ≡ 0 = ap (λ ds. get_or ds t 0) is ∙ get_or-set_same rs t 0 0 (omega arith) in
      let there : (q : ℕ) → q ≢ t → get_or rs' q 0 ≡ get_or rs q 0 = λ q n. ap (λ ds. get_or ds q 0) is ∙ get_or-set_other rs t q 0 0 n in
      let none : pick rs' bs f' (get_or rs t 0) ≡ None = elim (pick_cases rs' bs f' (get_or rs t 0)) [
        | inl z ↦ z.is
        | inr z ↦ ⊎_elim
            (λ y. absurd (omega (arith, z.rank, ap (λ i. get_or rs' i 0) y ∙ here)))
            (λ y. absurd (y (sym (apart t z.at live (sym z.rank ∙ there z.at y)))))
            (cases_eq z.at t)
      ] in
      let others : (i : ℕ) → 1 ≤ i → i ≢ get_or rs t 0 → pick rs' bs f' i ≡ pick rs bs f i = λ i ge n. pick_alike rs rs' bs bs f f' i i (ap length is ∙ length-set rs t 0) refl (λ q l. ⊎_elim
      (λ y. inl (λ z. n (sym z ∙ ap (λ j. get_or rs j 0) y), λ z. absurd (omega (arith, ap (λ j. get_or rs' j 0) y ∙ here))))
      (λ y. ⊎_elim (λ z. inr (z, there q y ∙ z, refl, else q (omega arith) y)) (λ z. inl (z, λ v. z (sym (there q y) ∙ v))) (cases_eq (get_or rs q 0) i))
      (cases_eq q t)) in
      ap (λ last. row_on (pick rs' bs f') last 1 15) (else 15 (omega arith) (λ z. absurd (omega arith)))
      ∙ kid_dropped (pick rs bs f) (pick rs' bs f') (f 15) a.slot.key (f t) (get_or rs t 0) a.is a.fits g none (low_passed O L x rs bs nr nb apart f t aim h) others 15 1 (omega arith) live (u t)

-- ---- a child set just before the target

-- a rank that no child has, at the end
row_trail : {K A : Type 0} (kid : ℕ → Option (K × A)) (last : A) (n r : ℕ) → kid (r + n) ≡ None → row_on kid last r (suc n) ≡ row_on kid last r n
row_trail kid last zero r e = let z : r + 0 ≡ r = omega arith in ap (λ o. linked o (edge last)) (ap kid (sym z) ∙ e)
row_trail kid last (suc n) r e = let z : r + suc n ≡ suc r + n = omega arith in ap (linked (kid r)) (row_trail kid last n (suc r) (ap kid (sym z) ∙ e))

-- the ranks rise by one
row_risen : {K A : Type 0} (kid kid' : ℕ → Option (K × A)) (last : A) (n r : ℕ) → ((i : ℕ) → r ≤ i → kid' (suc i) ≡ kid i) → row_on kid' last (suc r) n ≡ row_on kid last r n
row_risen kid kid' last zero r h = refl
row_risen kid kid' last (suc n) r h = ap₂ linked (h r (omega arith)) (row_risen kid kid' last n (suc r) (λ i a. h i (omega arith)))

-- a child that the place is within
abbrev Reached : {K A : Type 0} (O : Order K) → O.Place → Option (K × A) → Type 0
Reached O p None = Unit {0}
Reached O p (Some x) = within O x.0 p ≡ true

module _ {K A : Type 0} (O : Order K) (p : O.Place) (b : K) (low : A) where
  -- the row with the child b just before its target
  abbrev led : Row K A → Row K A
  led (edge l) = child b low (edge l)
  led (child c l r) = cond (within O c p) (child b low (child c l r)) (child c l (led r))

  two_led : (high : A) (k : ℕ) (r : Row K A) → led (changed O p (one high k) r) ≡ changed O p (two low b high k) r
  two_led high k (edge l) = refl
  two_led high k (child c l r) =
      let ih = two_led high k r in
      (elim (within O c p) as (λ w. within O c p ≡ w → led (cond w (child c high r) (child c l (changed O p (one high k) r))) ≡ cond w (child b low (child c high r)) (child c l (changed O p (two low b high k) r))) [
        | true ↦ λ e. cond-true _ _ _ e
        | false ↦ λ e. cond-false _ _ _ e ∙ ap (child c l) ih
      ]) refl

  over_led : (o : Option (K × A)) (r : Row K A) → Passed O p o → led (linked o r) ≡ linked o (led r)
  over_led None r h = refl
  over_led (Some z) r h = cond-false _ _ _ h

  led_by : (o : Option (K × A)) (r : Row K A) → Reached O p o → led r ≡ child b low r → led (linked o r) ≡ child b low (linked o r)
  led_by None r h e = e
  led_by (Some z) r h e = cond-true _ _ _ h

  module _ (kid kid' : ℕ → Option (K × A)) (last : A) where
    led_first : (n r : ℕ) → ((i : ℕ) → r ≤ i → Reached O p (kid i)) → led (row_on kid last r n) ≡ child b low (row_on kid last r n)
    led_first zero r h = refl
    led_first (suc n) r h = led_by (kid r) (row_on kid last (suc r) n) (h r (omega arith)) (led_first n (suc r) (λ i a. h i (omega arith)))

    module _ (F : ℕ) (same : (i : ℕ) → 1 ≤ i → i ≤ F → kid' i ≡ kid i) (passed : (i : ℕ) → 1 ≤ i → i ≤ F → Passed O p (kid i)) (new : kid' (suc F) ≡ Some (b, low)) (risen : (i : ℕ) → F < i → kid' (suc i) ≡ kid i) (reached : (i : ℕ) → F < i → Reached O p (kid i)) where
      led_here : (n r : ℕ) → r ≡ suc F → row_on kid' last r (suc n) ≡ led (row_on kid last r n)
      led_here n r e =
          ap₂ linked (ap kid' e ∙ new) (row_risen kid kid' last n r (λ i a. risen i (omega arith)))
          ∙ sym (led_first n r (λ i a. reached i (omega arith)))

      led_row : (n r : ℕ) → 1 ≤ r → r ≤ suc F → F < r + n → row_on kid' last r (suc n) ≡ led (row_on kid last r n)
      led_row zero r ge lo hi = led_here 0 r (omega arith)
      led_row (suc n) r ge lo hi = ⊎_elim
          (led_here (suc n) r)
          (λ s. ap₂ linked (same r ge (omega arith)) (led_row n (suc r) (omega arith) (omega arith) (omega arith)) ∙ sym (over_led (kid r) (row_on kid last (suc r) n) (passed r ge (omega arith))))
          (cases_eq r (suc F))

-- Place c, which has no child, gets the one that the key b bounds; both x and b go to place t.
module _ {K V A : Type 0} (O : Order K) (L : Ordered O) (x b : K) (rs : List ℕ) (bs : List (Slot K V)) (nr : length rs ≡ 15) (nb : length bs ≡ 15) (apart : Apart rs) (so : Sorted O rs bs) (t : ℕ) (aim : Aimed rs (sides O x bs) t) (beside : Aimed rs (sides O b bs) t) (u : (i : ℕ) → get_or rs i 0 < 15) (c : ℕ) (hc : c < 15) (free : get_or rs c 0 ≡ 0) (other : c ≢ t) (rs' : List ℕ) (ranks : rs' ≡ taken_from None rs (floor rs (sides O b bs)) c) (new : Slot K V) (key : new.key ≡ b) (bs' : List (Slot K V)) (bounds : bs' ≡ set bs c new) (f f' : ℕ → A) (else : (s : ℕ) → s ≤ 15 → s ≢ t → s ≢ c → f' s ≡ f s) where
  abbrev q : O.Place
  q = O.place x

  -- the rank that the new child comes after
  abbrev F : ℕ
  F = floor rs (sides O b bs)

  -- the leaves with no change but that of the target
  abbrev g : ℕ → A
  g s = cond (eqb s c) (f c) (f' s)

  g_away : (s : ℕ) → s ≢ c → f' s ≡ g s
  g_away s n = sym (cond-false _ (f c) (f' s) (ne_eqb s c n))

  g_else : (s : ℕ) → s ≤ 15 → s ≢ t → g s ≡ f s
  g_else s h n = ⊎_elim (λ e. cond-true _ (f c) (f' s) (eq-eqb s c e) ∙ ap f (sym e)) (λ m. sym (g_away s m) ∙ else s h n m) (cases_eq s c)

  sided : length (sides O b bs) ≡ 15
  sided = length-map bs (side O b) ∙ nb

  low_floor : F < 15
  low_floor = elim (greatest rs (sides O b bs)).some [ inl z ↦ omega arith | inr z ↦ omega (arith, u z.0, z.3) ]

  rank_here : get_or rs' c 0 ≡ F + 1
  rank_here = ap (λ ds. get_or ds c 0) ranks ∙ get_or-set_same (lifted F rs) c (F + 1) 0 (omega (arith, length_lifted F rs))

  turn : (p : ℕ) → p ≢ c → ((get_or rs p 0 ≤ F) × (get_or rs' p 0 ≡ get_or rs p 0)) ⊎ ((F < get_or rs p 0) × (get_or rs' p 0 ≡ get_or rs p 0 + 1))
  turn p n =
      let e = ap (λ ds. get_or ds p 0) ranks ∙ get_or-set_other (lifted F rs) c p (F + 1) 0 n ∙ get_or_lifted F rs p in
      ⊎_elim (λ h. inr (h, e ∙ lift_up F _ h)) (λ h. inl (h, omega (arith, e, lift_flat F (get_or rs p 0) h))) (cases_lt F (get_or rs p 0))

  kid_same : (r r' : ℕ) → 1 ≤ r → ((r ≤ F) × (r' ≡ r)) ⊎ ((F < r) × (r' ≡ suc r)) → pick rs' bs' f' r' ≡ pick rs bs g r
  kid_same r r' ge h = pick_alike rs rs' bs bs' g f' r r'
      (ap length ranks ∙ length-set (lifted F rs) c (F + 1) ∙ length_lifted F rs)
      (ap length bounds ∙ length-set bs c new)
      (λ p l. ⊎_elim
      (λ e. inl (λ z. absurd (omega (arith, ap (λ i. get_or rs i 0) e)), λ z. let w = ap (λ i. get_or rs' i 0) e in elim h [ inl y ↦ absurd (omega (arith, rank_here)) | inr y ↦ absurd (omega (arith, rank_here)) ]))
      (λ n. ⊎_elim
      (λ e. inr (e, elim (turn p n) [ inl y ↦ elim h [ inl w ↦ omega arith | inr w ↦ absurd (omega arith) ] | inr y ↦ elim h [ inl w ↦ absurd (omega arith) | inr w ↦ omega arith ] ], ap (λ xs. slice_get xs p) bounds ∙ nth_other bs c p new n, g_away p n))
      (λ e. inl (e, λ z. elim (turn p n) [ inl y ↦ elim h [ inl w ↦ e (omega arith) | inr w ↦ absurd (omega arith) ] | inr y ↦ elim h [ inl w ↦ absurd (omega arith) | inr w ↦ e (omega arith) ] ]))
      (cases_eq (get_or rs p 0) r))
      (cases_eq p c))

  kid_new : pick rs' bs' f' (suc F) ≡ Some (b, f' c)
  kid_new = elim (pick_cases rs' bs' f' (suc F)) [
    | inl z ↦ absurd (z.free c (omega (arith, ap length ranks, length-set (lifted F rs) c (F + 1), length_lifted F rs)) (omega (arith, ap length bounds, length-set bs c new)) (omega (arith, rank_here)))
    | inr z ↦ ⊎_elim
        (λ e.
        let s = nth_same bs c new z.slot (ap (λ xs. slice_get xs c) (sym bounds) ∙ ap (slice_get bs') (sym e) ∙ z.here) in
        z.is ∙ ap₂ (λ k i. Some (k, f' i)) (ap (λ (y : Slot K V). y.key) (sym s) ∙ key) e)
        (λ n. elim (turn z.at n) [ inl y ↦ absurd (omega (arith, z.rank)) | inr y ↦ absurd (omega (arith, z.rank)) ])
        (cases_eq z.at c)
  ]

  kid_passed : (i : ℕ) → 1 ≤ i → i ≤ F → Passed O q (pick rs bs g i)
  kid_passed i ge le = ⊎_elim
      (λ h.
      let under = below rs (sides O b bs) nr sided (arranged O bs nb L rs apart so b) t (beside.child h).live in
      ⊎_elim
      (λ l. low_passed O L x rs bs nr nb apart g t aim h i ge (omega arith))
      (λ l. absurd (omega (arith, under l, (beside.child h).reached)))
      (cases_lt F (get_or rs t 0)))
      (λ h. all_passed O L x rs bs nr nb apart g t aim h i ge)
      (cases_lt t 15)

  -- what has a greater rank is not before the target
  above : (p : ℕ) → F < get_or rs p 0 → 1 ≤ get_or (sides O x bs) p 0
  above p l =
      let hp = live_within rs nr p (omega arith) in
      let far : 0 < get_or (sides O b bs) p 0 = ⊎_elim (λ z. z) (λ z. absurd (omega (arith, (greatest rs (sides O b bs)).most p (omega (arith, sided)) (omega arith)))) (cases_lt 0 (get_or (sides O b bs) p 0)) in
      ⊎_elim
      (λ h.
      let at = aim.child h in
      ⊎_elim
      (λ e. omega (arith, ap (λ i. get_or (sides O x bs) i 0) (apart t p at.live e), at.reached))
      (λ n. omega (arith, (arranged O bs nb L rs apart so x).rises t p h hp at.live (omega (arith, (beside.child h).least p (omega arith) far)) at.reached))
      (cases_eq (get_or rs t 0) (get_or rs p 0)))
      (λ h. absurd (omega (arith, beside.none h p (omega arith))))
      (cases_lt t 15)

  kid_reached : (i : ℕ) → F < i → Reached O q (pick rs bs g i)
  kid_reached i h = elim (pick_cases rs bs g i) [
    | inl z ↦ subst (Reached O q) (sym z.is) tt
    | inr z ↦ subst (Reached O q) (sym z.is) (inside O L x z.slot (omega (arith, side_at O bs nb x z.at z.slot (omega (arith, z.inside)) z.here, above z.at (omega (arith, z.rank)))))
  ]

  pub row_two : (low high : A) (k : ℕ) → t ≤ 15 → f' c ≡ low → f' t ≡ high → row_on (pick rs' bs' f') (f' 15) 1 15 ≡ changed O q (two low b high k) (row_on (pick rs bs f) (f 15) 1 15)
  row_two low high k ht el eh =
      let none : pick rs bs g 15 ≡ None = elim (pick_cases rs bs g 15) [ inl z ↦ z.is | inr z ↦ absurd (omega (arith, z.rank, u z.at)) ] in
      let turned = changed_is O L x rs bs nr nb apart f g t aim g_else k (λ i. omega (arith, u i)) ht in
      ap (λ last. row_on (pick rs' bs' f') last 1 15) (g_away 15 (λ z. absurd (omega arith)))
      ∙ led_row O q b low (pick rs bs g) (pick rs' bs' f') (g 15) F
      (λ i ge le. kid_same i i ge (inl (le, refl)))
      kid_passed
      (kid_new ∙ ap (λ l. Some (b, l)) el)
      (λ i h. kid_same i (suc i) (omega arith) (inr (h, refl)))
      kid_reached
      14 1 (omega arith) (omega arith) (omega (arith, low_floor))
      ∙ ap (led O q b low) (sym (row_trail (pick rs bs g) (g 15) 14 1 none) ∙ turned ∙ ap (λ m. changed O q (one m k) (row_on (pick rs bs f) (f 15) 1 15)) (sym (g_away t (λ z. other (sym z))) ∙ eh))
      ∙ two_led O q b low high k (row_on (pick rs bs f) (f 15) 1 15)

-- ---- whether a row has a child

module _ {K A : Type 0} (kid : ℕ → Option (K × A)) (last : A) where
  bounded_over : (o : Option (K × A)) (r : Row K A) → bounded r ≡ true → bounded (linked o r) ≡ true
  bounded_over None r h = h
  bounded_over (Some z) r h = refl

  bounded_by : (n r R : ℕ) (z : K × A) → kid R ≡ Some z → r ≤ R → R < r + n → bounded (row_on kid last r n) ≡ true
  bounded_by zero r R z e lo hi = absurd (omega arith)
  bounded_by (suc n) r R z e lo hi = ⊎_elim
      (λ s. ap (λ o. bounded (linked o (row_on kid last (suc r) n))) (ap kid s ∙ e))
      (λ s. bounded_over (kid r) (row_on kid last (suc r) n) (bounded_by n (suc r) R z e (omega arith) (omega arith)))
      (cases_eq r R)

module _ {K V A : Type 0} (rs : List ℕ) (bs : List (Slot K V)) (f : ℕ → A) (last : A) where
  none_picked : ((p : ℕ) → get_or rs p 0 ≡ 0) → row_on (pick rs bs f) last 1 15 ≡ edge last
  none_picked z = row_end (pick rs bs f) last 15 0 (λ i h. elim (pick_cases rs bs f i) [ inl y ↦ y.is | inr y ↦ absurd (omega (arith, z y.at, y.rank)) ])

  pub row_none : is_empty rs ≡ true → row_on (pick rs bs f) last 1 15 ≡ edge last
  row_none e = elim (empty_cases rs) [ inl z ↦ none_picked z.1 | inr z ↦ absurd (both_ways _ z.0 e) ]

  pub row_bounded : length rs ≡ 15 → length bs ≡ 15 → ((i : ℕ) → get_or rs i 0 < 16) → bounded (row_on (pick rs bs f) last 1 15) ≡ not (is_empty rs)
  row_bounded nr nb u = elim (empty_cases rs) [
    | inl z ↦ ap bounded (none_picked z.1) ∙ sym (ap not z.0)
    | inr z ↦
        let p = z.1.0 in
        let h = live_within rs nr p z.1.1 in
        elim (pick_cases rs bs f (get_or rs p 0)) [
          | inl y ↦ absurd (y.free p (omega arith) (omega arith) refl)
          | inr y ↦ bounded_by (pick rs bs f) last 15 1 (get_or rs p 0) (y.slot.key, f y.at) y.is z.1.1 (u p) ∙ sym (ap not z.0)
        ]
  ]

-- ---- an entry lies in its target

module _ {K V : Type 0} (O : Order K) (L : Ordered O) (kid : ℕ → Option (K × Leaf K V)) (last : Leaf K V) where
  good_over : (o : Option (K × Leaf K V)) (r : Row K (Leaf K V)) → Good O L (linked o r) → Good O L r
  good_over None r g = g
  good_over (Some z) r g = g.1

  good_kid : (n r R : ℕ) (b : K) (l : Leaf K V) → kid R ≡ Some (b, l) → r ≤ R → R < r + n → Good O L (row_on kid last r n) → (m : ℕ) × (r + n ≡ suc R + m) × GoodChild O L b l (row_on kid last (suc R) m)
  good_kid zero r R b l e lo hi g = absurd (omega arith)
  good_kid (suc n) r R b l e lo hi g = ⊎_elim
      (λ (s : r ≡ R). (n, omega arith, subst (λ i. GoodChild O L b l (row_on kid last (suc i) n)) s (subst (λ o. Good O L (linked o (row_on kid last (suc r) n))) (ap kid s ∙ e) g).0))
      (λ s. let z = good_kid n (suc r) R b l e (omega arith) (omega arith) (good_over (kid r) (row_on kid last (suc r) n) g) in (z.0, omega (arith, z.1), z.2))
      (cases_eq r R)

  module _ (p : O.Place) where
    none_over : (o : Option (K × Leaf K V)) (r : Row K (Leaf K V)) → look O L p (linked o r) ≡ none → look O L p r ≡ none
    none_over None r h = h
    none_over (Some z) r h = or_right O L (lookup O p (lives z.1)) (look O L p r) h

    none_last : (n r : ℕ) → look O L p (row_on kid last r n) ≡ none → lookup O p (lives last) ≡ none
    none_last zero r h = h
    none_last (suc n) r h = none_last n (suc r) (none_over (kid r) (row_on kid last (suc r) n) h)

    none_kid : (n r R : ℕ) (b : K) (l : Leaf K V) → kid R ≡ Some (b, l) → r ≤ R → R < r + n → look O L p (row_on kid last r n) ≡ none → lookup O p (lives l) ≡ none
    none_kid zero r R b l e lo hi h = absurd (omega arith)
    none_kid (suc n) r R b l e lo hi h = ⊎_elim
        (λ (s : r ≡ R). or_left O L (lookup O p (lives l)) (look O L p (row_on kid last (suc r) n)) (subst (λ o. look O L p (linked o (row_on kid last (suc r) n)) ≡ none) (ap kid s ∙ e) h))
        (λ s. none_kid n (suc r) R b l e (omega arith) (omega arith) (none_over (kid r) (row_on kid last (suc r) n) h))
        (cases_eq r R)

module _ {K V : Type 0} (O : Order K) (L : Ordered O) (rs : List ℕ) (bs : List (Slot K V)) (nr : length rs ≡ 15) (nb : length bs ≡ 15) (apart : Apart rs) (u : (i : ℕ) → get_or rs i 0 < 16) (f : ℕ → Leaf K V) (good : Good O L (row_on (pick rs bs f) (f 15) 1 15)) (y : K) where
  -- a child that the key is within has none of it in what follows
  past : (p : ℕ) → 0 < get_or rs p 0 → 0 < get_or (sides O y bs) p 0 → (m : ℕ) × (16 ≡ suc (get_or rs p 0) + m) × (look O L (O.place y) (row_on (pick rs bs f) (f 15) (suc (get_or rs p 0)) m) ≡ none)
  past p live far =
      let h = live_within rs nr p live in
      let s = seated rs bs nr nb apart f p h live in
      let g = good_kid O L (pick rs bs f) (f 15) 15 1 (get_or rs p 0) s.slot.key (f p) s.is live (u p) good in
      (g.0, omega (arith, g.1), g.2.beyond (O.place y) (inside O L y s.slot (omega (arith, side_at O bs nb y p s.slot h s.here))))

  pub homed : (t : ℕ) → (t ≡ 15) ⊎ ((t < 15) × (0 < get_or rs t 0)) → (lookup O (O.place y) (lives (f t)) ≡ none → ⊥) → Aimed rs (sides O y bs) t
  homed t (inl e) there = record {
    child = λ h. absurd (omega arith);
    none = λ _ p live. ⊎_elim
        (λ far. let z = past p live far in absurd (there (ap (λ i. lookup O (O.place y) (lives (f i))) e ∙ none_last O L (pick rs bs f) (f 15) (O.place y) z.0 (suc (get_or rs p 0)) z.2)))
        (λ far. omega arith)
        (cases_lt 0 (get_or (sides O y bs) p 0));
  }
  homed t (inr (h, live)) there =
      let s = seated rs bs nr nb apart f t h live in
      let g = good_kid O L (pick rs bs f) (f 15) 15 1 (get_or rs t 0) s.slot.key (f t) s.is live (u t) good in
      record {
        child = λ _. record {
          live = live;
          reached = ⊎_elim (λ far. far) (λ near. absurd (there (g.2.under (O.place y) (beyond O L y s.slot (omega (arith, side_at O bs nb y t s.slot h s.here)))))) (cases_lt 0 (get_or (sides O y bs) t 0));
          least = λ p lp far. ⊎_elim
              (λ less. let z = past p lp far in absurd (there (none_kid O L (pick rs bs f) (f 15) (O.place y) z.0 (suc (get_or rs p 0)) (get_or rs t 0) s.slot.key (f t) s.is (omega arith) (omega (arith, z.1, u t)) z.2)))
              (λ le. le)
              (cases_lt (get_or rs p 0) (get_or rs t 0));
        };
        none = λ z. absurd (omega arith);
      }

-- ---- every leaf mapped

module _ {K A B : Type 0} (g : A → B) where
  abbrev pub map_row : Row K A → Row K B
  map_row (edge l) = edge (g l)
  map_row (child b l r) = child b (g l) (map_row r)

  abbrev pub map_change : Change K A → Change K B
  map_change (one l k) = one (g l) k
  map_change (two low b high k) = two (g low) b (g high) k
  map_change no_room = no_room

  abbrev map_kid : Option (K × A) → Option (K × B)
  map_kid None = None
  map_kid (Some z) = Some (z.0, g z.1)

  linked_map : (o : Option (K × A)) (r : Row K A) → linked (map_kid o) (map_row r) ≡ map_row (linked o r)
  linked_map None r = refl
  linked_map (Some z) r = refl

  row_by_kid : (kid : ℕ → Option (K × A)) (kid' : ℕ → Option (K × B)) (last : A) → ((r : ℕ) → kid' r ≡ map_kid (kid r)) → (n r : ℕ) → row_on kid' (g last) r n ≡ map_row (row_on kid last r n)
  row_by_kid kid kid' last e zero r = refl
  row_by_kid kid kid' last e (suc n) r = ap₂ linked (e r) (row_by_kid kid kid' last e n (suc r)) ∙ linked_map (kid r) (row_on kid last (suc r) n)

  pub changed_map : (O : Order K) (p : O.Place) (c : Change K A) (r : Row K A) → changed O p (map_change c) (map_row r) ≡ map_row (changed O p c r)
  changed_map O p (one m k) (edge l) = refl
  changed_map O p (two low b high k) (edge l) = refl
  changed_map O p no_room (edge l) = refl
  changed_map O p c (child b l r) =
      let ih = changed_map O p c r in
      elim (within O b p) as (λ w. cond w (changed_child O (map_change c) b (g l) (map_row r)) (child b (g l) (changed O p (map_change c) (map_row r))) ≡ map_row (cond w (changed_child O c b l r) (child b l (changed O p c r)))) [
        | true ↦ at_child O c b l r
        | false ↦ ap (child b (g l)) ih
      ]
    where
      at_child : (O : Order K) (c : Change K A) (b : K) (l : A) (r : Row K A) → changed_child O (map_change c) b (g l) (map_row r) ≡ map_row (changed_child O c b l r)
      at_child O (one m k) b l r = refl
      at_child O (two low d high k) b l r = refl
      at_child O no_room b l r = refl

module _ {K V A B : Type 0} (g : A → B) where
  pick_map : (rs : List ℕ) (bs : List (Slot K V)) (f : ℕ → A) (r : ℕ) → pick rs bs (λ s. g (f s)) r ≡ map_kid g (pick rs bs f r)
  pick_map [] bs f r = refl
  pick_map (x ∷ rs) [] f r = refl
  pick_map (x ∷ rs) (b ∷ bs) f r =
      let ih = pick_map rs bs (λ i. f (suc i)) r in
      elim (eqb x r) as (λ w. cond w (Some (b.key, g (f 0))) (pick rs bs (λ i. g (f (suc i))) r) ≡ map_kid g (cond w (Some (b.key, f 0)) (pick rs bs (λ i. f (suc i)) r))) [ true ↦ refl | false ↦ ih ]

  pub row_map : (rs : List ℕ) (bs : List (Slot K V)) (f : ℕ → A) (last : A) → row_on (pick rs bs (λ s. g (f s))) (g last) 1 15 ≡ map_row g (row_on (pick rs bs f) last 1 15)
  row_map rs bs f last = row_by_kid g (pick rs bs f) (pick rs bs (λ s. g (f s))) last (pick_map rs bs f) 15 1
