-- A filing and a strike in an array: what they leave is what the rules for ranks in order of use say.
--     changed_from     uses whose ranks change by a function of rank and entry
use Rattle.std.proofs.Common.{◌≡◌, ℕ, zero, suc, ◌+◌, ◌<◌, ◌≤◌, cond, ◌≢◌, List, [], ◌∷◌, ◌++◌, length, get_or, set, Some, None, Option, sym, refl, ap, ◌∙◌, subst, ap₂, ⊎_elim, arith}
use lib.Count.{ones}
use Rattle.std.specs.List.{slice_get}
use Rattle.std.proofs.lemmas.List.{length-set, get_or-set_same, get_or-set_other}
use Rattle.std.proofs.lemmas.Bool.{cases_eq, cases_lt, eq-eqb, ne_eqb, cond-true, cond-false}
use Rattle.keys.specs.Orders.{Order, Ordered, meets, stands}
use Rattle.ranks.specs.Dimensions.{slot_pos}
use Rattle.ranks.specs.Words.{ranks_of, lift, lifted}
use Rattle.ranks.proofs.Lifts.{length_lifted, get_or_lifted}
use Rattle.ranks.proofs.Uses.{use_of, slot_lt, slot_use}
use Rattle.ranks.proofs.Words.{length_digits}
use Rattle.lists.specs.Leaves.{Entry, placed}
use Rattle.leaf.specs.Rules.{state_of, holder, floor, taken_from, filed, struck}
use Rattle.leaf.specs.Slots.{sides, Sorted}
use Rattle.leaf.specs.declared.array.Array.{Array}
use Rattle.leaf.specs.declared.data_block.Slot.{Slot}
use Rattle.leaf.proofs.Files.{nth_other}
use Rattle.leaf.proofs.Finds.{only_one}
use Rattle.leaf.proofs.Holders.{Holds, Held, held}
use Rattle.leaf.proofs.Sides.{side_at}
use Rattle.ranked_leaves.specs.Ranked.{Ranked, RankedLeaf, raised, rank_of, cleared, taken}
use Rattle.leaf_lists.specs.Stands.{entry_of}
use Rattle.ranked_leaves.specs.RanksStand.{onto_ranked, ranked_from, ranked_in, ranked_of}
use Rattle.leaf_lists.proofs.Uses.{slot_other}
use Rattle.leaf_lists.proofs.Changes.{nth_set}
use Rattle.leaf_lists.proofs.Counts.{live_in, live_used, few_uses}
use Rattle.leaf_lists.proofs.Looks.{meets_one, meets_not}
use Rattle.ranked_leaves.proofs.Ranks.{first, rank_none, rank_one, below_floor}

-- ---- the last use

module _ {K V : Type 0} where
  onto_join : (r : ℕ) (o : Option (Slot K V)) (l k : RankedLeaf K V) → onto_ranked r o (l ++ k) ≡ onto_ranked r o l ++ k
  onto_join r None l k = refl
  onto_join r (Some s) l k = refl

  from_more : (rs : List ℕ) (slots : List (Slot K V)) (b m i : ℕ) → i ≡ b + m → ranked_from rs slots b (suc m) ≡ ranked_from rs slots b m ++ onto_ranked (get_or rs (slot_pos i) 0) (slice_get slots (slot_pos i)) []
  from_more rs slots b zero i e = let z : b ≡ i = omega arith in ap (λ j. onto_ranked (get_or rs (slot_pos j) 0) (slice_get slots (slot_pos j)) []) z
  from_more rs slots b (suc m) i e =
      ap (onto_ranked (get_or rs (slot_pos b) 0) (slice_get slots (slot_pos b))) (from_more rs slots (b + 1) m i (omega arith))
      ∙ onto_join (get_or rs (slot_pos b) 0) (slice_get slots (slot_pos b)) (ranked_from rs slots (b + 1) m) _

  -- ---- uses whose ranks change

  module _ (F : RankedLeaf K V → RankedLeaf K V) (g : ℕ → Entry K V → ℕ) (nil : F [] ≡ []) (cons : (x : Ranked K V) (l : RankedLeaf K V) → F (x ∷ l) ≡ record { rank = g x.rank x.entry; entry = x.entry } ∷ F l) (rs rs' : List ℕ) (slots slots' : List (Slot K V)) (n : length slots ≡ 15) where
    changed_from : (b m : ℕ) → b + m ≤ 15 → ((i : ℕ) → i < b + m → slice_get slots' (slot_pos i) ≡ slice_get slots (slot_pos i)) → ((i : ℕ) (s : Slot K V) → i < b + m → slice_get slots (slot_pos i) ≡ Some s → get_or rs' (slot_pos i) 0 ≡ g (get_or rs (slot_pos i) 0) (entry_of s)) → ranked_from rs' slots' b m ≡ F (ranked_from rs slots b m)
    changed_from b zero h e r = sym nil
    changed_from b (suc m) h e r =
        let f = first rs slots n b m (omega arith) in
        let ih = changed_from (b + 1) m (omega arith) (λ i l. e i (omega arith)) (λ i s l. r i s (omega arith)) in
        ap (λ o. onto_ranked (get_or rs' (slot_pos b) 0) o (ranked_from rs' slots' (b + 1) m)) (e b (omega arith) ∙ f.here)
        ∙ ap₂ (λ k l. record { rank = k; entry = entry_of f.slot } ∷ l) (r b f.slot (omega arith) f.here) ih
        ∙ sym (ap F f.is ∙ cons _ _)

    -- and one more use
    pub changed_push : (new : Slot K V) (u r : ℕ) → u < 15 → slots' ≡ set slots (slot_pos u) new → get_or rs' (slot_pos u) 0 ≡ r → ((i : ℕ) (s : Slot K V) → i < u → slice_get slots (slot_pos i) ≡ Some s → get_or rs' (slot_pos i) 0 ≡ g (get_or rs (slot_pos i) 0) (entry_of s)) → ranked_from rs' slots' 0 (u + 1) ≡ F (ranked_from rs slots 0 u) ++ record { rank = r; entry = entry_of new } ∷ []
    changed_push new u r h w z e =
        let k : u + 1 ≡ suc u = omega arith in
        let f = slot_pos u in
        let kept : (i : ℕ) → i < 0 + u → slice_get slots' (slot_pos i) ≡ slice_get slots (slot_pos i) = λ i l. ap (λ xs. slice_get xs (slot_pos i)) w ∙ nth_other slots f (slot_pos i) new (slot_other u i h (omega arith)) in
        let put = ap (λ xs. slice_get xs f) w ∙ nth_set slots f new (omega (arith, slot_lt u h)) in
        ap (ranked_from rs' slots' 0) k
        ∙ from_more rs' slots' 0 u u (omega arith)
        ∙ ap₂ ◌++◌ (changed_from 0 u (omega arith) kept (λ i s l. e i s (omega arith))) (ap₂ (λ k o. onto_ranked k o []) z put)

-- ---- an array

module _ {K V : Type 0} (O : Order K) (L : Ordered O) (a : Array) (slots : List (Slot K V)) (n : length slots ≡ 15) (so : Sorted O (ranks_of a.metadata) slots) where
  abbrev rs : List ℕ
  rs = ranks_of a.metadata

  abbrev u : ℕ
  u = ones a.bitmap

  nr : length rs ≡ 15
  nr = length_digits 15 a.metadata

  -- slot j once the live slot at the place of x is struck
  cleared_at : (x : K) (p : ℕ) → Holds rs (sides O x slots) p → (j : ℕ) (s : Slot K V) → j < 15 → slice_get slots j ≡ Some s → get_or (set rs p 0) j 0 ≡ cond (meets O (O.place x) (O.place s.key)) 0 (get_or rs j 0)
  cleared_at x p h j s hj e =
      let ss = sides O x slots in
      let at = side_at O slots n x j s hj e in
      let same = λ (one : get_or ss j 0 ≡ 1). cond-true _ 0 (get_or rs j 0) (meets_one (stands O x s.key) (sym at ∙ one)) in
      ⊎_elim
      (λ (z : j ≡ p). ap (λ i. get_or (set rs p 0) i 0) z ∙ get_or-set_same rs p 0 0 (omega (arith, nr)) ∙ sym (same (ap (λ i. get_or ss i 0) z ∙ h.1)))
      (λ (z : j ≢ p).
      get_or-set_other rs p j 0 0 z
      ∙ ⊎_elim
      (λ (one : get_or ss j 0 ≡ 1). ⊎_elim (λ l. absurd (z (only_one O L a slots n so x j p (l, one) h))) (λ l. omega (arith, same one)) (cases_lt 0 (get_or rs j 0)))
      (λ not-one. sym (cond-false _ _ _ (meets_not (stands O x s.key) (λ w. not-one (at ∙ w)))))
      (cases_eq (get_or ss j 0) 1))
      (cases_eq j p)

  ranked_taken : (new : Slot K V) (slots' : List (Slot K V)) (o : Option ℕ) → Held rs (sides O new.key slots) o → u < 15 → slots' ≡ set slots (slot_pos u) new → ranked_from (taken_from o rs (floor rs (sides O new.key slots)) (slot_pos u)) slots' 0 (u + 1) ≡ taken O (entry_of new) (ranked_of a slots)
  ranked_taken new slots' None h room wr =
      let f = slot_pos u in
      let low = floor rs (sides O new.key slots) in
      let l = ranked_of a slots in
      let z = rank_none O rs slots n new.key 0 u (few_uses a) h in
      let b = below_floor O L a slots n new.key in
      changed_push (raised low) (λ r e. lift low r) refl (λ x l. refl) rs (set (lifted low rs) f (low + 1)) slots slots' n new u (low + 1) room wr
      (get_or-set_same (lifted low rs) f (low + 1) 0 (omega (arith, length_lifted low rs, nr, slot_lt u room)))
      (λ i s k _. get_or-set_other (lifted low rs) f (slot_pos i) (low + 1) 0 (slot_other u i room k) ∙ get_or_lifted low rs (slot_pos i))
      ∙ ap (λ k. raised k l ++ record { rank = k + 1; entry = entry_of new } ∷ []) (sym b)
      ∙ sym (cond-true _ _ _ (eq-eqb (rank_of O (O.place new.key) l) 0 z))
  ranked_taken new slots' (Some p) h room wr =
      let f = slot_pos u in
      let x = new.key in
      let q = O.place x in
      let r = get_or rs p 0 in
      let l = ranked_of a slots in
      let at = slot_use p (live_in a p h.0) in
      let z : rank_of O q l ≡ r = rank_one O rs slots n x 0 u (use_of p) (few_uses a) (omega arith) (omega (arith, live_used a p h.0)) (subst (Holds rs (sides O x slots)) (sym at) h) (λ j k. only_one O L a slots n so x j p k h ∙ sym at) ∙ ap (λ i. get_or rs i 0) at in
      changed_push (cleared O q) (λ r e. cond (meets O q (placed O e)) 0 r) refl (λ x l. refl) rs (set (set rs p 0) f r) slots slots' n new u r room wr
      (get_or-set_same (set rs p 0) f r 0 (omega (arith, length-set rs p 0, nr, slot_lt u room)))
      (λ i s k e. get_or-set_other (set rs p 0) f (slot_pos i) r 0 (slot_other u i room k) ∙ cleared_at x p h (slot_pos i) s (slot_lt i (omega arith)) e)
      ∙ ap (λ k. cleared O q l ++ record { rank = k; entry = entry_of new } ∷ []) (sym z)
      ∙ sym (cond-false _ _ _ (ne_eqb (rank_of O q l) 0 (λ e. omega (arith, h.0))))

  pub ranked_file : (new : Slot K V) (a' : Array) (slots' : List (Slot K V)) → u < 15 → state_of a' ≡ filed (sides O new.key slots) (state_of a) → slots' ≡ set slots (slot_pos u) new → ranked_of a' slots' ≡ taken O (entry_of new) (ranked_of a slots)
  ranked_file new a' slots' room st wr = let ss = sides O new.key slots in ap (λ s. ranked_in s slots') st ∙ ranked_taken new slots' (holder rs ss) (held rs ss) room wr

  pub ranked_strike : (x : K) (p : ℕ) (a' : Array) → holder rs (sides O x slots) ≡ Some p → state_of a' ≡ struck p (state_of a) → ranked_of a' slots ≡ cleared O (O.place x) (ranked_of a slots)
  ranked_strike x p a' e st =
      let h : Holds rs (sides O x slots) p = subst (Held rs (sides O x slots)) e (held rs (sides O x slots)) in
      ap (λ s. ranked_in s slots) st
      ∙ changed_from (cleared O (O.place x)) (λ r e. cond (meets O (O.place x) (placed O e)) 0 r) refl (λ x l. refl) rs (set rs p 0) slots slots n 0 u (few_uses a)
      (λ i l. refl)
      (λ i s l at. cleared_at x p h (slot_pos i) s (slot_lt i (omega (arith, few_uses a))) at)
