-- A key after all others, filed with the greatest rank.
use Rattle.std.proofs.Common.{◌≡◌, ℕ, zero, suc, ◌+◌, ◌<◌, ◌≤◌, ◌≢◌, List, [], ◌∷◌, ◌++◌, length, get_or, set, Some, None, refl, ap, ◌∙◌, subst, ap₂, inl, inr, ⊎_elim, arith}
use lib.Count.{ones}
use Rattle.std.specs.List.{slice_get, AllByRecursion}
use Rattle.std.proofs.lemmas.List.{get_or-set_same, get_or-set_other}
use Rattle.std.proofs.lemmas.Bool.{cases_eq}
use Rattle.keys.specs.Orders.{Order, Ordered, before}
use Rattle.ranks.specs.Dimensions.{slot_pos}
use Rattle.ranks.specs.Words.{ranks_of}
use Rattle.ranks.proofs.Uses.{use_of, slot_lt, slot_use}
use Rattle.ranks.proofs.Words.{length_digits}
use Rattle.lists.specs.Leaves.{Entry, live, lives, placed}
use Rattle.leaf.specs.Rules.{state_of}
use Rattle.leaf.specs.Calls.{pushed}
use Rattle.leaf.specs.Slots.{side_of, sides, Sorted}
use Rattle.leaf.specs.declared.array.Array.{Array}
use Rattle.leaf.specs.declared.data_block.Slot.{Slot}
use Rattle.leaf.proofs.Effects.{Effect, took_last}
use Rattle.leaf.proofs.Files.{nth_other, sorted_took}
use Rattle.leaf.proofs.Sides.{nth_in, side_at}
use Rattle.leaf.proofs.Wholes.{whole_out}
use Rattle.leaf_lists.specs.Stands.{entry_of, onto, leaf_from, leaf_in, leaf_of, Becomes}
use Rattle.leaf_lists.proofs.Uses.{slot_other, step}
use Rattle.leaf_lists.proofs.Counts.{live_used, few_uses}
use Rattle.leaf_lists.proofs.Changes.{from_push, sorted_after}

module _ {K V : Type 0} (rs : List ℕ) (slots : List (Slot K V)) where
  same_from : (rs' : List ℕ) (slots' : List (Slot K V)) (b m : ℕ) → ((i : ℕ) → i < b + m → get_or rs' (slot_pos i) 0 ≡ get_or rs (slot_pos i) 0) → ((i : ℕ) → i < b + m → slice_get slots' (slot_pos i) ≡ slice_get slots (slot_pos i)) → leaf_from rs' slots' b m ≡ leaf_from rs slots b m
  same_from rs' slots' b zero h k = refl
  same_from rs' slots' b (suc m) h k =
      let ih = same_from rs' slots' (b + 1) m (λ i l. h i (omega arith)) (λ i l. k i (omega arith)) in
      ap₂ (λ r o. onto r o (leaf_from rs' slots' (b + 1) m)) (h b (omega arith)) (k b (omega arith)) ∙ ap (onto (get_or rs (slot_pos b) 0) (slice_get slots (slot_pos b))) ih

  -- what holds of every live entry holds of a live slot
  each : (P : Entry K V → Type 0) → length slots ≡ 15 → (b m i : ℕ) (s : Slot K V) → b + m ≤ 15 → b ≤ i → i < b + m → slice_get slots (slot_pos i) ≡ Some s → 0 < get_or rs (slot_pos i) 0 → AllByRecursion P (lives (leaf_from rs slots b m)) → P (entry_of s)
  each P n b zero i s h lo hi e l all = absurd (omega arith)
  each P n b (suc m) i s h lo hi e l all =
      let t = step rs slots n b m (omega arith) in
      let later : b ≢ i → AllByRecursion P (lives (leaf_from rs slots (b + 1) m)) → P (entry_of s) = λ z. each P n (b + 1) m i s (omega arith) (omega arith) (omega arith) e l in
      ⊎_elim
      (λ (z : b ≡ i). elim t.mark [
        | inl d ↦ absurd (omega (arith, d.rank, ap (λ j. get_or rs (slot_pos j) 0) z))
        | inr v ↦ let f = t.here in let g = ap (λ j. slice_get slots (slot_pos j)) z in let is : t.slot ≡ s = cc in subst (λ y. P (entry_of y)) is (subst (λ k. AllByRecursion P (lives k)) v.is all).0
      ])
      (λ (z : b ≢ i). elim t.mark [ inl d ↦ later z (subst (λ k. AllByRecursion P (lives k)) d.is all) | inr v ↦ later z (subst (λ k. AllByRecursion P (lives k)) v.is all).1 ])
      (cases_eq b i)

module _ {K V : Type 0} (O : Order K) (L : Ordered O) (a : Array) (slots : List (Slot K V)) (n : length slots ≡ 15) (so : Sorted O (ranks_of a.metadata) slots) where
  abbrev rs : List ℕ
  rs = ranks_of a.metadata

  abbrev u : ℕ
  u = ones a.bitmap

  abbrev f : ℕ
  f = slot_pos u

  abbrev rs' : List ℕ
  rs' = set rs f (u + 1)

  rank_f : u < 15 → get_or rs' f 0 ≡ u + 1
  rank_f room = get_or-set_same rs f (u + 1) 0 (omega (arith, slot_lt u room, length_digits 15 a.metadata))

  effect_last : (x : K) → u < 15 → AllByRecursion (λ e. O.way (placed O e) (O.place x) ≡ before) (lives (leaf_of a slots)) → Effect (sides O x slots) rs' f
  effect_last x room up = record {
    kept = λ p h ne l.
        let same = get_or-set_other rs f p (u + 1) 0 ne in
        let lp : 0 < get_or rs p 0 = omega arith in
        let s = nth_in slots p (omega arith) in
        let at = slot_use p h in
        let b = each rs slots (λ e. O.way (placed O e) (O.place x) ≡ before) n 0 u (use_of p) s.0 (few_uses a) (omega arith) (omega (arith, live_used a p lp)) (ap (slice_get slots) at ∙ s.1) (omega (arith, ap (λ i. get_or rs i 0) at)) up in
        inl (side_at O slots n x p s.0 h s.1 ∙ ap side_of (L.flip _ _ b), omega (arith, rank_f room, (whole_out a.whole).bound p));
  }

  pub push_of : (new : Slot K V) (a' : Array) (slots' : List (Slot K V)) → u < 15 → AllByRecursion (λ e. O.way (placed O e) (O.place new.key) ≡ before) (lives (leaf_of a slots)) → state_of a' ≡ pushed None (state_of a) → slots' ≡ set slots f new → Becomes O a' slots' (leaf_of a slots ++ live (entry_of new) ∷ [])
  push_of new a' slots' room up st wr =
      let w = whole_out a.whole in
      let t = took_last rs u f (length_digits 15 a.metadata) (slot_lt u room) w.bound w.apart in
      let other : (i : ℕ) → i < 0 + u → slot_pos i ≢ f = λ i l. slot_other u i room (omega arith) in
      record {
        leaf =
            ap₂ leaf_in st wr
            ∙ from_push rs' slots new u n room (omega (arith, rank_f room))
            ∙ ap (λ l. l ++ live (entry_of new) ∷ []) (same_from rs slots rs' (set slots f new) 0 u (λ i l. get_or-set_other rs f (slot_pos i) (u + 1) 0 (other i l)) (λ i l. nth_other slots f (slot_pos i) new (other i l)));
        sorted = sorted_after O a' slots' st wr (sorted_took O L rs rs' slots n so new u f t (effect_last new.key room up));
      }
