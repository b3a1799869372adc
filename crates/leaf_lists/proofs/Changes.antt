-- A filing and a strike in an array: what they leave is what the leaf lists' functions say.
--     Turned rs ss rs' p     what the change of the ranks rs to rs' makes of slot p: if it is at the place, it dies, else it stays as it was
use Rattle.std.proofs.Common.{◌≡◌, ℕ, zero, suc, ◌+◌, ◌<◌, ◌≤◌, ◌≢◌, List, [], ◌∷◌, ◌++◌, length, get_or, set, Some, None, Option, sym, refl, ap, ◌∙◌, subst, ap₂, inl, inr, ⊎_elim, arith}
use lib.Count.{ones}
use Rattle.std.specs.List.{slice_get}
use Rattle.std.proofs.lemmas.List.{length-map, length-set, get_or-set_same, get_or-set_other}
use Rattle.std.proofs.lemmas.Option.{slice_get-get_or}
use Rattle.std.proofs.lemmas.Bool.{cases_eq, cases_lt, cond-true, cond-false}
use Rattle.keys.specs.Orders.{Order, Ordered, stands}
use Rattle.ranks.specs.Dimensions.{slot_pos}
use Rattle.ranks.specs.Words.{ranks_of, lifted}
use Rattle.ranks.proofs.Lifts.{lift_up, lift_flat, length_lifted, get_or_lifted}
use Rattle.ranks.proofs.Uses.{slot_lt}
use Rattle.ranks.proofs.Words.{length_digits}
use Rattle.lists.specs.Leaves.{live, Leaf, kill, append}
use Rattle.leaf.specs.Rules.{State, state_of, holder, floor, taken_from, filed, struck}
use Rattle.leaf.specs.Slots.{side, sides, Sorted}
use Rattle.leaf.specs.declared.array.Array.{Array}
use Rattle.leaf.specs.declared.data_block.Slot.{Slot}
use Rattle.leaf.proofs.Files.{nth_other, sorted_took, sorted_struck}
use Rattle.leaf.proofs.Finds.{seen, only_one}
use Rattle.leaf.proofs.Holders.{Holds, Held, held}
use Rattle.leaf.proofs.Sides.{side_at}
use Rattle.leaf.proofs.Wholes.{whole_out}
use Rattle.leaf_lists.specs.Stands.{entry_of, marked, onto, leaf_from, leaf_in, leaf_of, Becomes}
use Rattle.leaf_lists.proofs.Uses.{slot_other, marked_dead, marked_live, step}
use Rattle.leaf_lists.proofs.Counts.{live_in, few_uses}
use Rattle.leaf_lists.proofs.Floors.{took_filed, effect_filed}
use Rattle.leaf_lists.proofs.Looks.{meets_one, meets_not}

-- ---- the last use

module _ {K V : Type 0} where
  onto_join : (r : ℕ) (o : Option (Slot K V)) (l k : Leaf K V) → onto r o (l ++ k) ≡ onto r o l ++ k
  onto_join r None l k = refl
  onto_join r (Some s) l k = refl

  from_more : (rs : List ℕ) (slots : List (Slot K V)) (b m i : ℕ) → i ≡ b + m → leaf_from rs slots b (suc m) ≡ leaf_from rs slots b m ++ onto (get_or rs (slot_pos i) 0) (slice_get slots (slot_pos i)) []
  from_more rs slots b zero i e = let z : b ≡ i = omega arith in ap (λ j. onto (get_or rs (slot_pos j) 0) (slice_get slots (slot_pos j)) []) z
  from_more rs slots b (suc m) i e =
      ap (onto (get_or rs (slot_pos b) 0) (slice_get slots (slot_pos b))) (from_more rs slots (b + 1) m i (omega arith))
      ∙ onto_join (get_or rs (slot_pos b) 0) (slice_get slots (slot_pos b)) (leaf_from rs slots (b + 1) m) _

  pub nth_set : (xs : List (Slot K V)) (i : ℕ) (s : Slot K V) → i < length xs → slice_get (set xs i s) i ≡ Some s
  nth_set xs i s h = slice_get-get_or (set xs i s) i s (omega (arith, length-set xs i s)) ∙ ap Some (get_or-set_same xs i s s h)

  -- a live slot at the last use
  pub from_push : (rs : List ℕ) (slots : List (Slot K V)) (new : Slot K V) (u : ℕ) → length slots ≡ 15 → u < 15 → 0 < get_or rs (slot_pos u) 0 → leaf_from rs (set slots (slot_pos u) new) 0 (u + 1) ≡ leaf_from rs (set slots (slot_pos u) new) 0 u ++ live (entry_of new) ∷ []
  from_push rs slots new u n h l =
      let slots' = set slots (slot_pos u) new in
      let e : u + 1 ≡ suc u = omega arith in
      ap (leaf_from rs slots' 0) e
      ∙ from_more rs slots' 0 u u (omega arith)
      ∙ ap (λ k. leaf_from rs slots' 0 u ++ k) (ap (λ o. onto (get_or rs (slot_pos u) 0) o []) (nth_set slots (slot_pos u) new (omega (arith, slot_lt u h))) ∙ ap (λ c. c ∷ []) (marked_live (get_or rs (slot_pos u) 0) new l))

-- ---- ranks that order keys, said of the state after

pub sorted_after : {K V : Type 0} (O : Order K) {s : State} {slots : List (Slot K V)} (a : Array) (slots' : List (Slot K V)) → state_of a ≡ s → slots' ≡ slots → Sorted O s.ranks slots → Sorted O (ranks_of a.metadata) slots'
sorted_after O {s} {slots} a slots' st wr so = subst (λ r. Sorted O r slots') (sym (ap (λ s. s.ranks) st)) (subst (Sorted O s.ranks) (sym wr) so)

-- ---- slots that die

record Turned (rs ss rs' : List ℕ) (p : ℕ) : Type 0 where
  still : get_or rs p 0 ≡ 0 → get_or rs' p 0 ≡ 0
  dies : Holds rs ss p → get_or rs' p 0 ≡ 0
  stays : 0 < get_or rs p 0 → get_or ss p 0 ≢ 1 → 0 < get_or rs' p 0

turned_at : {rs ss ds rs' : List ℕ} {p : ℕ} → get_or rs' p 0 ≡ get_or ds p 0 → Turned rs ss ds p → Turned rs ss rs' p
turned_at e t = record { still = λ z. e ∙ t.still z; dies = λ h. e ∙ t.dies h; stays = λ l n. omega (arith, t.stays l n) }

module _ (rs ss : List ℕ) (nr : length rs ≡ 15) (only : (p q : ℕ) → Holds rs ss p → Holds rs ss q → p ≡ q) where
  turned_struck : (o : ℕ) → o < 15 → Holds rs ss o → (p : ℕ) → Turned rs ss (set rs o 0) p
  turned_struck o h k p = ⊎_elim
      (λ (e : p ≡ o).
      let z = ap (λ i. get_or (set rs o 0) i 0) e ∙ get_or-set_same rs o 0 0 (omega arith) in
      record { still = λ _. z; dies = λ _. z; stays = λ l n. absurd (n (ap (λ i. get_or ss i 0) e ∙ k.1)) })
      (λ (e : p ≢ o).
      let z = get_or-set_other rs o p 0 0 e in
      record { still = λ d. z ∙ d; dies = λ h. absurd (e (only p o h k)); stays = λ l n. omega arith })
      (cases_eq p o)

  turned_taken : (o : Option ℕ) (low f : ℕ) → Held rs ss o → ((p : ℕ) → 0 < get_or rs p 0 → p < 15) → (p : ℕ) → p ≢ f → Turned rs ss (taken_from o rs low f) p
  turned_taken None low f h inside p n =
      let e = get_or-set_other (lifted low rs) f p (low + 1) 0 n ∙ get_or_lifted low rs p in
      ⊎_elim
      (λ up. let z = lift_up low (get_or rs p 0) up in record { still = λ d. absurd (omega arith); dies = λ k. absurd (h p k); stays = λ l _. omega arith })
      (λ up. let z = lift_flat low (get_or rs p 0) up in record { still = λ d. omega arith; dies = λ k. absurd (h p k); stays = λ l _. omega arith })
      (cases_lt low (get_or rs p 0))
  turned_taken (Some o) low f h inside p n = turned_at (get_or-set_other (set rs o 0) f p (get_or rs o 0) 0 n) (turned_struck o (inside o h.0) h p)

-- the free slot becomes live
taken_live : (rs ss : List ℕ) → length rs ≡ 15 → (o : Option ℕ) (low f : ℕ) → Held rs ss o → f < 15 → 0 < get_or (taken_from o rs low f) f 0
taken_live rs ss nr None low f h l = omega (arith, get_or-set_same (lifted low rs) f (low + 1) 0 (omega (arith, length_lifted low rs)))
taken_live rs ss nr (Some o) low f h l = omega (arith, h.0, get_or-set_same (set rs o 0) f (get_or rs o 0) 0 (omega (arith, length-set rs o 0)))

module _ {K V : Type 0} (O : Order K) (x : K) (rs rs' : List ℕ) (slots slots' : List (Slot K V)) (n : length slots ≡ 15) where
  killed_from : (b m : ℕ) → b + m ≤ 15 → ((i : ℕ) → i < b + m → Turned rs (sides O x slots) rs' (slot_pos i)) → ((i : ℕ) → i < b + m → slice_get slots' (slot_pos i) ≡ slice_get slots (slot_pos i)) → leaf_from rs' slots' b m ≡ kill O (O.place x) (leaf_from rs slots b m)
  killed_from b zero h t e = refl
  killed_from b (suc m) h t e =
      let p = slot_pos b in
      let c = step rs slots n b m (omega arith) in
      let s = c.slot in
      let at = side_at O slots n x p s (slot_lt b (omega arith)) c.here in
      let ih = killed_from (b + 1) m (omega arith) (λ i l. t i (omega arith)) (λ i l. e i (omega arith)) in
      let turn = t b (omega arith) in
      let q = O.place x in
      let rest = leaf_from rs slots (b + 1) m in
      ap (λ o. onto (get_or rs' p 0) o (leaf_from rs' slots' (b + 1) m)) (e b (omega arith) ∙ c.here)
      ∙ ap (λ l. marked (get_or rs' p 0) s ∷ l) ih
      ∙ elim c.mark [
        | inl d ↦ ap (λ z. z ∷ kill O q rest) (marked_dead (get_or rs' p 0) s (turn.still d.rank)) ∙ sym (ap (kill O q) d.is)
        | inr l ↦
            ap (λ z. z ∷ kill O q rest) (⊎_elim
            (λ one. marked_dead (get_or rs' p 0) s (turn.dies (l.rank, one)) ∙ sym (cond-true _ _ _ (meets_one (stands O x s.key) (sym at ∙ one))))
            (λ not-one. marked_live (get_or rs' p 0) s (turn.stays l.rank not-one) ∙ sym (cond-false _ _ _ (meets_not (stands O x s.key) (λ w. not-one (at ∙ w)))))
            (cases_eq (get_or (sides O x slots) p 0) 1))
            ∙ sym (ap (kill O q) l.is)
      ]

-- ---- an array

module _ {K V : Type 0} (O : Order K) (L : Ordered O) (a : Array) (slots : List (Slot K V)) (n : length slots ≡ 15) (so : Sorted O (ranks_of a.metadata) slots) where
  abbrev rs : List ℕ
  rs = ranks_of a.metadata

  abbrev u : ℕ
  u = ones a.bitmap

  nr : length rs ≡ 15
  nr = length_digits 15 a.metadata

  pub file_of : (new : Slot K V) (a' : Array) (slots' : List (Slot K V)) → u < 15 → state_of a' ≡ filed (sides O new.key slots) (state_of a) → slots' ≡ set slots (slot_pos u) new → Becomes O a' slots' (append O (entry_of new) (leaf_of a slots))
  file_of new a' slots' room st wr =
      let ss = sides O new.key slots in
      let f = slot_pos u in
      let o = holder rs ss in
      let h = held rs ss in
      let rs' = taken_from o rs (floor rs ss) f in
      let hf = slot_lt u room in
      let ns = length-map slots (side O new.key) ∙ n in
      let ord = seen O L a slots n so new.key in
      let only = only_one O L a slots n so new.key in
      let other : (i : ℕ) → i < 0 + u → slot_pos i ≢ f = λ i l. slot_other u i room (omega arith) in
      let sorted = sorted_took O L rs rs' slots n so new u f (took_filed rs ss nr ns ord f hf o h u (whole_out a.whole).bound) (effect_filed rs ss nr ns ord f hf o h) in
      record {
        leaf =
            ap₂ leaf_in st wr
            ∙ from_push rs' slots new u n room (taken_live rs ss nr o (floor rs ss) f h hf)
            ∙ ap (λ l. l ++ live (entry_of new) ∷ []) (killed_from O new.key rs rs' slots (set slots f new) n 0 u (few_uses a)
            (λ i l. turned_taken rs ss nr only o (floor rs ss) f h (live_in a) (slot_pos i) (other i l))
            (λ i l. nth_other slots f (slot_pos i) new (other i l)));
        sorted = sorted_after O a' slots' st wr sorted;
      }

  pub strike_of : (x : K) (p : ℕ) (a' : Array) → holder rs (sides O x slots) ≡ Some p → state_of a' ≡ struck p (state_of a) → Becomes O a' slots (kill O (O.place x) (leaf_of a slots))
  strike_of x p a' e st =
      let ss = sides O x slots in
      let h : Holds rs ss p = subst (Held rs ss) e (held rs ss) in
      record {
        leaf =
            ap (λ s. leaf_in s slots) st
            ∙ killed_from O x rs (set rs p 0) slots slots n 0 u (few_uses a) (λ i l. turned_struck rs ss nr (only_one O L a slots n so x) p (live_in a p h.0) h (slot_pos i)) (λ i l. refl);
        sorted = sorted_after O a' slots st refl (sorted_struck O rs slots p so);
      }
