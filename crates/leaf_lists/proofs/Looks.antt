-- What stands at a place in the leaf of an array is what its live slot there holds.
use Rattle.std.proofs.Common.{◌≡◌, ℕ, zero, suc, ◌+◌, ◌<◌, ◌≤◌, true, false, ◌≢◌, List, length, get_or, Some, None, Option, sym, refl, ap, ◌∙◌, subst, inl, inr, ⊎_elim, arith}
use mathlib.Core.Option.{some, none}
use lib.Count.{ones}
use Rattle.std.specs.List.{slice_get}
use Rattle.std.proofs.lemmas.Bool.{cases_eq, cond-true, cond-false}
use Rattle.keys.specs.Orders.{Order, Ordered, Way, before, same, after, is_same, stands}
use Rattle.ranks.specs.Dimensions.{slot_pos}
use Rattle.ranks.specs.Words.{ranks_of}
use Rattle.ranks.proofs.Uses.{use_of, use_lt, slot_lt, slot_use, slot_once}
use Rattle.lists.specs.Leaves.{lives, lookup}
use Rattle.leaf.specs.Rules.{holder}
use Rattle.leaf.specs.Slots.{side_of, sides, Sorted}
use Rattle.leaf.specs.Calls.{entry_at}
use Rattle.leaf.specs.declared.array.Array.{Array}
use Rattle.leaf.specs.declared.data_block.Slot.{Slot}
use Rattle.leaf.proofs.Sides.{nth_in, side_at}
use Rattle.leaf.proofs.Finds.{only_one}
use Rattle.leaf.proofs.Holders.{Holds, Held, held}
use Rattle.leaf_lists.specs.Stands.{entry_of, leaf_from, leaf_of, found_in}
use Rattle.leaf_lists.proofs.Uses.{step}
use Rattle.leaf_lists.proofs.Counts.{live_in, live_used, few_uses}

pub meets_one : (w : Way) → side_of w ≡ 1 → is_same w ≡ true
meets_one before h = absurd (omega arith)
meets_one same h = refl
meets_one after h = absurd (omega arith)

pub meets_not : (w : Way) → side_of w ≢ 1 → is_same w ≡ false
meets_not before h = refl
meets_not same h = absurd (h refl)
meets_not after h = refl

module _ {K V : Type 0} (O : Order K) (rs : List ℕ) (slots : List (Slot K V)) (n : length slots ≡ 15) (x : K) where
  abbrev ss : List ℕ
  ss = sides O x slots

  pub look_none : (b m : ℕ) → b + m ≤ 15 → ((i : ℕ) → b ≤ i → i < b + m → Holds rs ss (slot_pos i) → ⊥) → lookup O (O.place x) (lives (leaf_from rs slots b m)) ≡ none
  look_none b zero h miss = refl
  look_none b (suc m) h miss =
      let t = step rs slots n b m (omega arith) in
      let ih = look_none (b + 1) m (omega arith) (λ i lo hi. miss i (omega arith) (omega arith)) in
      elim t.mark [
        | inl d ↦ ap (λ l. lookup O (O.place x) (lives l)) d.is ∙ ih
        | inr l ↦
            ap (λ l. lookup O (O.place x) (lives l)) l.is
            ∙ cond-false _ _ _ (meets_not (stands O x t.slot.key) (λ e. miss b (omega arith) (omega arith) (l.rank, side_at O slots n x (slot_pos b) t.slot (slot_lt b (omega arith)) t.here ∙ e)))
            ∙ ih
      ]

  pub look_one : (b m i : ℕ) (s : Slot K V) → b + m ≤ 15 → b ≤ i → i < b + m → slice_get slots (slot_pos i) ≡ Some s → Holds rs ss (slot_pos i) → ((j : ℕ) → j < 15 → Holds rs ss (slot_pos j) → j ≡ i) → lookup O (O.place x) (lives (leaf_from rs slots b m)) ≡ some (entry_of s)
  look_one b zero i s h lo hi e k only = absurd (omega arith)
  look_one b (suc m) i s h lo hi e k only =
      let t = step rs slots n b m (omega arith) in
      let at = side_at O slots n x (slot_pos b) t.slot (slot_lt b (omega arith)) t.here in
      ⊎_elim
      (λ (z : b ≡ i). elim t.mark [
        | inl d ↦ absurd (omega (arith, d.rank, k.0, ap (λ j. get_or rs (slot_pos j) 0) z))
        | inr l ↦
            ap (λ l. lookup O (O.place x) (lives l)) l.is
            ∙ cond-true _ _ _ (meets_one (stands O x t.slot.key) (sym at ∙ ap (λ j. get_or ss (slot_pos j) 0) z ∙ k.1))
            ∙ ap (λ s. some (entry_of s)) (let f = t.here in let g = ap (λ j. slice_get slots (slot_pos j)) z in cc)
      ])
      (λ (z : b ≢ i). let ih = look_one (b + 1) m i s (omega arith) (omega arith) (omega arith) e k only in
      elim t.mark [
        | inl d ↦ ap (λ l. lookup O (O.place x) (lives l)) d.is ∙ ih
        | inr l ↦
            ap (λ l. lookup O (O.place x) (lives l)) l.is
            ∙ cond-false _ _ _ (meets_not (stands O x t.slot.key) (λ w. z (only b (omega arith) (l.rank, at ∙ w))))
            ∙ ih
      ])
      (cases_eq b i)

-- ---- an array

module _ {K V : Type 0} (O : Order K) (L : Ordered O) (a : Array) (slots : List (Slot K V)) (n : length slots ≡ 15) (so : Sorted O (ranks_of a.metadata) slots) (x : K) where
  abbrev ranks : List ℕ
  ranks = ranks_of a.metadata

  looked : (o : Option ℕ) → Held ranks (sides O x slots) o → found_in (entry_at o slots) ≡ lookup O (O.place x) (lives (leaf_of a slots))
  looked None h = sym (look_none O ranks slots n x 0 (ones a.bitmap) (few_uses a) (λ i _ _. h (slot_pos i)))
  looked (Some p) h =
      let hp = live_in a p h.0 in
      let s = nth_in slots p (omega arith) in
      let u = slot_use p hp in
      ap found_in s.1
      ∙ sym (look_one O ranks slots n x 0 (ones a.bitmap) (use_of p) s.0 (few_uses a) (omega arith) (omega (arith, live_used a p h.0)) (ap (slice_get slots) u ∙ s.1) (subst (Holds ranks (sides O x slots)) (sym u) h)
      (λ j lj k. slot_once j (use_of p) lj (use_lt p hp) (only_one O L a slots n so x (slot_pos j) p k h ∙ sym u)))

  pub look_of : found_in (entry_at (holder ranks (sides O x slots)) slots) ≡ lookup O (O.place x) (lives (leaf_of a slots))
  look_of = looked (holder ranks (sides O x slots)) (held ranks (sides O x slots))
