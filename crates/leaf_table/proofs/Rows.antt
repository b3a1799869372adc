-- The row of the children of a record: which child has a rank, where a place goes, and one leaf changed.
use Rattle.std.proofs.Common.{◌≡◌, ℕ, zero, suc, ◌+◌, ◌<◌, ◌≤◌, true, false, not, eqb, ◌≢◌, ◌⊎◌, List, [], ◌∷◌, length, get_or, Some, None, Option, sym, refl, ap, ◌∙◌, subst, ap₂, inl, inr, ⊎_elim, arith}
use Rattle.std.specs.List.{slice_get}
use Rattle.std.proofs.lemmas.Bool.{cases_eq, cases_lt, ne_eqb, eq-eqb, cond-true, cond-false}
use Rattle.keys.specs.Orders.{Order, Ordered, is_before, stands, within}
use Rattle.keys.specs.Places.{ways}
use Rattle.ranks.specs.Indexes.{Apart}
use Rattle.lists.specs.Rows.{Row, edge, target, at_edge, changed, one}
use Rattle.leaf.specs.Slots.{side_of, side, sides}
use Rattle.leaf.specs.declared.data_block.Slot.{Slot}
use Rattle.leaf.proofs.Sides.{side_at}
use Rattle.leaf_table.specs.States.{pick, linked, row_on, Aimed}

-- ---- the child of a rank

pub record Picked {K V L : Type 0} (rs : List ℕ) (bs : List (Slot K V)) (f : ℕ → L) (r : ℕ) : Type 0 where
  pub at : ℕ
  pub slot : Slot K V
  pub inside : at < length bs
  pub rank : get_or rs at 0 ≡ r
  pub here : slice_get bs at ≡ Some slot
  pub is : pick rs bs f r ≡ Some (slot.key, f at)

-- no child has the rank
pub record Unpicked {K V L : Type 0} (rs : List ℕ) (bs : List (Slot K V)) (f : ℕ → L) (r : ℕ) : Type 0 where
  pub is : pick rs bs f r ≡ None
  pub free : (q : ℕ) → q < length rs → q < length bs → get_or rs q 0 ≡ r → ⊥

module _ {K V : Type 0} where
  gap : (x : ℕ) (rs : List ℕ) (r : ℕ) (b : Slot K V) (bs : List (Slot K V)) → (x ≡ r → ⊥) → ((q : ℕ) → q < length rs → q < length bs → get_or rs q 0 ≡ r → ⊥) → (q : ℕ) → q < suc (length rs) → q < suc (length bs) → get_or (x ∷ rs) q 0 ≡ r → ⊥
  gap x rs r b bs n f zero h k e = n e
  gap x rs r b bs n f (suc q) h k e = f q (omega arith) (omega arith) e

module _ {K V L : Type 0} where
  pub pick_cases : (rs : List ℕ) (bs : List (Slot K V)) (f : ℕ → L) (r : ℕ) → Unpicked rs bs f r ⊎ Picked rs bs f r
  pick_cases [] bs f r = inl (record { is = refl; free = λ q h _ _. omega arith })
  pick_cases (x ∷ rs) [] f r = inl (record { is = refl; free = λ q _ h _. omega arith })
  pick_cases (x ∷ rs) (b ∷ bs) f r = ⊎_elim
      (λ e. inr (record { at = 0; slot = b; inside = omega arith; rank = e; here = refl; is = cond-true _ _ _ (eq-eqb x r e) }))
      (λ n. let other = cond-false _ (Some (b.key, f 0)) (pick rs bs (λ i. f (suc i)) r) (ne_eqb x r n) in
      elim (pick_cases rs bs (λ i. f (suc i)) r) [
        | inl z ↦ inl (record { is = other ∙ z.is; free = gap x rs r b bs n z.free })
        | inr z ↦ inr (record { at = suc z.at; slot = z.slot; inside = omega (arith, z.inside); rank = z.rank; here = z.here; is = other ∙ z.is })
      ])
      (cases_eq x r)

  pub pick_same : (rs : List ℕ) (bs : List (Slot K V)) (f f' : ℕ → L) (r : ℕ) → ((q : ℕ) → q < length rs → get_or rs q 0 ≡ r → f' q ≡ f q) → pick rs bs f' r ≡ pick rs bs f r
  pick_same [] bs f f' r h = refl
  pick_same (x ∷ rs) [] f f' r h = refl
  pick_same (x ∷ rs) (b ∷ bs) f f' r h = ⊎_elim
      (λ e. cond-true _ _ _ (eq-eqb x r e) ∙ ap (λ l. Some (b.key, l)) (h 0 (omega arith) e) ∙ sym (cond-true _ _ _ (eq-eqb x r e)))
      (λ n. cond-false _ _ _ (ne_eqb x r n) ∙ pick_same rs bs (λ i. f (suc i)) (λ i. f' (suc i)) r (λ q l e. h (suc q) (omega arith) e) ∙ sym (cond-false _ _ _ (ne_eqb x r n)))
      (cases_eq x r)

-- the child of a place
pub record Seated {K V L : Type 0} (rs : List ℕ) (bs : List (Slot K V)) (f : ℕ → L) (p : ℕ) : Type 0 where
  pub slot : Slot K V
  pub here : slice_get bs p ≡ Some slot
  pub is : pick rs bs f (get_or rs p 0) ≡ Some (slot.key, f p)

pub seated : {K V L : Type 0} (rs : List ℕ) (bs : List (Slot K V)) → length rs ≡ 15 → length bs ≡ 15 → Apart rs → (f : ℕ → L) (p : ℕ) → p < 15 → 0 < get_or rs p 0 → Seated rs bs f p
seated rs bs nr nb apart f p h live = elim (pick_cases rs bs f (get_or rs p 0)) [
  | inl z ↦ absurd (z.free p (omega arith) (omega arith) refl)
  | inr z ↦
      let e = apart p z.at live (sym z.rank) in
      record { slot = z.slot; here = ap (slice_get bs) e ∙ z.here; is = z.is ∙ ap (λ i. Some (z.slot.key, f i)) (sym e) }
]

-- ---- a place in a row, child by child

module _ {K L : Type 0} (O : Order K) (p : O.Place) where
  -- a child that the place is beyond
  abbrev pub Passed : Option (K × L) → Type 0
  Passed None = Unit {0}
  Passed (Some x) = within O x.0 p ≡ false

module _ {K L : Type 0} (O : Order K) (p : O.Place) (kid : ℕ → Option (K × L)) (last : L) where
  target_over : (o : Option (K × L)) (row : Row K L) → Passed O p o → target O p (linked o row) ≡ target O p row
  target_over None row h = refl
  target_over (Some x) row h = cond-false _ _ _ h

  edge_over : (o : Option (K × L)) (row : Row K L) → Passed O p o → at_edge O p (linked o row) ≡ at_edge O p row
  edge_over None row h = refl
  edge_over (Some x) row h = cond-false _ _ _ h

  pub target_last : (n r : ℕ) → ((i : ℕ) → r ≤ i → Passed O p (kid i)) → (target O p (row_on kid last r n) ≡ last) × (at_edge O p (row_on kid last r n) ≡ true)
  target_last zero r h = (refl, refl)
  target_last (suc n) r h =
      let ih = target_last n (suc r) (λ i a. h i (omega arith)) in
      let w = h r (omega arith) in
      (target_over (kid r) (row_on kid last (suc r) n) w ∙ ih.0, edge_over (kid r) (row_on kid last (suc r) n) w ∙ ih.1)

  pub target_kid : (n r R : ℕ) (b : K) (l : L) → r ≤ R → R < r + n → ((i : ℕ) → r ≤ i → i < R → Passed O p (kid i)) → kid R ≡ Some (b, l) → within O b p ≡ true → (target O p (row_on kid last r n) ≡ l) × (at_edge O p (row_on kid last r n) ≡ false)
  target_kid zero r R b l lo hi h e w = absurd (omega arith)
  target_kid (suc n) r R b l lo hi h e w = ⊎_elim
      (λ same. (
        ap (λ o. target O p (linked o (row_on kid last (suc r) n))) (ap kid same ∙ e) ∙ cond-true _ _ _ w,
        ap (λ o. at_edge O p (linked o (row_on kid last (suc r) n))) (ap kid same ∙ e) ∙ cond-true _ _ _ w,
      ))
      (λ other.
      let ih = target_kid n (suc r) R b l (omega arith) (omega arith) (λ i a z. h i (omega arith) z) e w in
      let y = h r (omega arith) (omega arith) in
      (target_over (kid r) (row_on kid last (suc r) n) y ∙ ih.0, edge_over (kid r) (row_on kid last (suc r) n) y ∙ ih.1))
      (cases_eq r R)

-- a row with no child
pub row_end : {K L : Type 0} (kid : ℕ → Option (K × L)) (last : L) (n R : ℕ) → ((i : ℕ) → R < i → kid i ≡ None) → row_on kid last (suc R) n ≡ edge last
row_end kid last zero R h = refl
row_end kid last (suc n) R h = ap (λ o. linked o (row_on kid last (suc (suc R)) n)) (h (suc R) (omega arith)) ∙ row_end kid last n (suc R) (λ i a. h i (omega arith))

-- ---- from sides to bounds

module _ {K V : Type 0} (O : Order K) (L : Ordered O) (x : K) (s : Slot K V) where
  pub beyond : side O x s ≡ 0 → within O s.key (O.place x) ≡ false
  beyond h = elim (ways (stands O x s.key)) [
    | inl e ↦ absurd (omega (arith, ap side_of e))
    | inr (inl e) ↦ absurd (omega (arith, ap side_of e))
    | inr (inr e) ↦ ap (λ w. not (is_before w)) (L.flop _ _ e)
  ]

  pub inside : 1 ≤ side O x s → within O s.key (O.place x) ≡ true
  inside h = elim (ways (stands O x s.key)) [
    | inl e ↦ ap (λ w. not (is_before w)) (L.flip _ _ e)
    | inr (inl e) ↦ let q = L.only _ _ e in ap (λ z. not (is_before (O.way z (O.place x)))) (sym q) ∙ ap (λ w. not (is_before w)) (L.self (O.place x))
    | inr (inr e) ↦ absurd (omega (arith, ap side_of e))
  ]

-- ---- the target

module _ {K V A : Type 0} (O : Order K) (L : Ordered O) (x : K) (rs : List ℕ) (bs : List (Slot K V)) (nr : length rs ≡ 15) (nb : length bs ≡ 15) (apart : Apart rs) (f : ℕ → A) (t : ℕ) (aim : Aimed rs (sides O x bs) t) where
  abbrev kids : ℕ → Option (K × A)
  kids r = pick rs bs f r

  pub record Aim : Type 0 where
    pub slot : Slot K V
    pub here : slice_get bs t ≡ Some slot
    pub is : kids (get_or rs t 0) ≡ Some (slot.key, f t)
    pub fits : within O slot.key (O.place x) ≡ true

  -- a rank whose child is before
  passed : (r : ℕ) → ((q : ℕ) → get_or rs q 0 ≡ r → get_or (sides O x bs) q 0 ≡ 0) → Passed O (O.place x) (kids r)
  passed r h = elim (pick_cases rs bs f r) [
    | inl z ↦ subst (Passed O (O.place x)) (sym z.is) tt
    | inr z ↦ subst (Passed O (O.place x)) (sym z.is) (beyond O L x z.slot (sym (side_at O bs nb x z.at z.slot (omega (arith, z.inside)) z.here) ∙ h z.at z.rank))
  ]

  pub aim_at : t < 15 → Aim
  aim_at h =
      let s = seated rs bs nr nb apart f t h (aim.child h).live in
      record { slot = s.slot; here = s.here; is = s.is; fits = inside O L x s.slot (omega (arith, side_at O bs nb x t s.slot h s.here, (aim.child h).reached)) }

  -- what is below the aim is passed
  pub low_passed : t < 15 → (r : ℕ) → 1 ≤ r → r < get_or rs t 0 → Passed O (O.place x) (kids r)
  low_passed h r l b = passed r (λ q e. ⊎_elim (λ y. absurd (omega (arith, (aim.child h).least q (omega arith) y))) (λ y. omega arith) (cases_lt 0 (get_or (sides O x bs) q 0)))

  pub all_passed : 15 ≤ t → (r : ℕ) → 1 ≤ r → Passed O (O.place x) (kids r)
  all_passed h r l = passed r (λ q e. aim.none h q (omega arith))

  pub target_is : ((i : ℕ) → get_or rs i 0 < 16) → t ≤ 15 → (target O (O.place x) (row_on kids (f 15) 1 15) ≡ f t) × (at_edge O (O.place x) (row_on kids (f 15) 1 15) ≡ eqb t 15)
  target_is u h = ⊎_elim
      (λ b.
      let a = aim_at b in
      let z = target_kid O (O.place x) kids (f 15) 15 1 (get_or rs t 0) a.slot.key (f t) (aim.child b).live (u t) (low_passed b) a.is a.fits in
      (z.0, z.1 ∙ sym (ne_eqb t 15 (λ e. omega arith))))
      (λ b.
      let e : t ≡ 15 = omega arith in
      let z = target_last O (O.place x) kids (f 15) 15 1 (all_passed b) in
      (z.0 ∙ ap f (sym e), z.1 ∙ sym (eq-eqb t 15 e)))
      (cases_lt t 15)

-- ---- one leaf changed

module _ {K L : Type 0} (O : Order K) (p : O.Place) (k : ℕ) (m : L) (kid kid' : ℕ → Option (K × L)) (last last' : L) where
  pub row_same : (n r : ℕ) → ((i : ℕ) → r ≤ i → kid' i ≡ kid i) → last' ≡ last → row_on kid' last' r n ≡ row_on kid last r n
  row_same zero r h e = ap edge e
  row_same (suc n) r h e = ap₂ linked (h r (omega arith)) (row_same n (suc r) (λ i l. h i (omega arith)) e)

  over_changed : (o : Option (K × L)) (row : Row K L) → Passed O p o → changed O p (one m k) (linked o row) ≡ linked o (changed O p (one m k) row)
  over_changed None row h = refl
  over_changed (Some x) row h = cond-false _ _ _ h

  changed_last : (n r : ℕ) → ((i : ℕ) → r ≤ i → kid' i ≡ kid i) → last' ≡ m → ((i : ℕ) → r ≤ i → Passed O p (kid i)) → row_on kid' last' r n ≡ changed O p (one m k) (row_on kid last r n)
  changed_last zero r h e w = ap edge e
  changed_last (suc n) r h e w =
      ap₂ linked (h r (omega arith)) (changed_last n (suc r) (λ i l. h i (omega arith)) e (λ i l. w i (omega arith))) ∙ sym (over_changed (kid r) (row_on kid last (suc r) n) (w r (omega arith)))

  changed_kid : (n r R : ℕ) (b : K) (l : L) → r ≤ R → R < r + n → ((i : ℕ) → r ≤ i → i < R → Passed O p (kid i)) → kid R ≡ Some (b, l) → kid' R ≡ Some (b, m) → within O b p ≡ true → ((i : ℕ) → i ≢ R → kid' i ≡ kid i) → last' ≡ last → row_on kid' last' r n ≡ changed O p (one m k) (row_on kid last r n)
  changed_kid zero r R b l lo hi w e e' y h z = absurd (omega arith)
  changed_kid (suc n) r R b l lo hi w e e' y h z = ⊎_elim
      (λ (s : r ≡ R).
      ap₂ linked (ap kid' s ∙ e') (row_same n (suc r) (λ i a. h i (λ q. absurd (omega arith))) z)
      ∙ sym (ap (λ o. changed O p (one m k) (linked o (row_on kid last (suc r) n))) (ap kid s ∙ e) ∙ cond-true _ _ _ y))
      (λ s. ap₂ linked (h r s) (changed_kid n (suc r) R b l (omega arith) (omega arith) (λ i a c. w i (omega arith) c) e e' y h z) ∙ sym (over_changed (kid r) (row_on kid last (suc r) n) (w r (omega arith) (omega arith))))
      (cases_eq r R)

module _ {K V A : Type 0} (O : Order K) (L : Ordered O) (x : K) (rs : List ℕ) (bs : List (Slot K V)) (nr : length rs ≡ 15) (nb : length bs ≡ 15) (apart : Apart rs) (f f' : ℕ → A) (t : ℕ) (aim : Aimed rs (sides O x bs) t) (else : (s : ℕ) → s ≤ 15 → s ≢ t → f' s ≡ f s) where
  some_once : (a b : Slot K V) → Some a ≡ Some b → a ≡ b
  some_once a b e = cc

  pub changed_is : (k : ℕ) → ((i : ℕ) → get_or rs i 0 < 16) → t ≤ 15 → row_on (pick rs bs f') (f' 15) 1 15 ≡ changed O (O.place x) (one (f' t) k) (row_on (pick rs bs f) (f 15) 1 15)
  changed_is k u h = ⊎_elim
      (λ b.
      let a = aim_at O L x rs bs nr nb apart f t aim b in
      let a' = aim_at O L x rs bs nr nb apart f' t aim b in
      let e = some_once a'.slot a.slot (sym a'.here ∙ a.here) in
      changed_kid O (O.place x) k (f' t) (pick rs bs f) (pick rs bs f') (f 15) (f' 15) 15 1 (get_or rs t 0) a.slot.key (f t) (aim.child b).live (u t) (low_passed O L x rs bs nr nb apart f t aim b) a.is
      (a'.is ∙ ap (λ z. Some (z.key, f' t)) e) a.fits
      (λ i n. pick_same rs bs f f' i (λ q hq r. else q (omega arith) (λ z. n (sym r ∙ ap (λ j. get_or rs j 0) z))))
      (else 15 (omega arith) (λ z. absurd (omega arith))))
      (λ b. let e : 15 ≡ t = omega arith in
      changed_last O (O.place x) k (f' t) (pick rs bs f) (pick rs bs f') (f 15) (f' 15) 15 1
      (λ i _. pick_same rs bs f f' i (λ q hq r. else q (omega arith) (λ z. absurd (omega arith))))
      (ap f' e) (all_passed O L x rs bs nr nb apart f t aim b))
      (cases_lt t 15)
