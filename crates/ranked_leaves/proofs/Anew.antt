-- A leaf made anew of ascending entries has ranks that order keys; and an array has no more to it than its ranked leaf and its flags.
use Rattle.std.proofs.Common.{◌≡◌, ℕ, zero, suc, ◌+◌, ◌^◌, ◌<◌, ◌≤◌, List, [], ◌∷◌, length, get_or, Some, sym, ap, ◌∙◌, subst, ⊎_elim, arith}
use lib.Count.{ones}
use Rattle.std.specs.List.{slice_get, AllByRecursion}
use Rattle.std.proofs.lemmas.List.{same_lists, get_or_default}
use Rattle.std.proofs.lemmas.Option.{slice_get_within}
use Rattle.std.proofs.lemmas.Bool.{cases_lt}
use Rattle.keys.specs.Orders.{Order, before}
use Rattle.ranks.specs.Dimensions.{slot_pos}
use Rattle.ranks.specs.Words.{ranks_of, word_of}
use Rattle.ranks.proofs.Uses.{use_of, use_lt, slot_use}
use Rattle.ranks.proofs.Words.{length_digits, word_split}
use Rattle.lists.specs.Leaves.{Entry, placed, Ascending}
use Rattle.leaf.specs.Rules.{state_of}
use Rattle.leaf.specs.Slots.{Sorted}
use Rattle.leaf.specs.declared.array.Array.{Array}
use Rattle.leaf.specs.declared.data_block.Slot.{Slot}
use Rattle.leaf.proofs.Sides.{nth_in}
use Rattle.leaf.proofs.Wholes.{whole_out, made_same}
use Rattle.ranked_leaves.specs.Ranked.{Ranked, numbered, anew}
use Rattle.leaf_lists.specs.Stands.{entry_of}
use Rattle.ranked_leaves.specs.RanksStand.{ranked_of}
use Rattle.leaf_lists.proofs.Counts.{live_in, live_used, few_uses}
use Rattle.ranked_leaves.proofs.Ranks.{ranked_at, nth_from, length_ranked}

-- the slot of a use
module _ {K V : Type 0} (a : Array) (slots : List (Slot K V)) (n : length slots ≡ 15) where
  nth_ranked : (i : ℕ) (s : Slot K V) → i < ones a.bitmap → slice_get slots (slot_pos i) ≡ Some s → slice_get (ranked_of a slots) i ≡ Some (ranked_at (ranks_of a.metadata) i s)
  nth_ranked i s l e = nth_from (ranks_of a.metadata) slots n 0 (ones a.bitmap) i i s (few_uses a) l (omega arith) e

-- ---- made anew

module _ {K V : Type 0} where
  numbered_at : (n : ℕ) (es : List (Entry K V)) (i : ℕ) (x : Ranked K V) → slice_get (numbered n es) i ≡ Some x → (x.rank ≡ n + i) × (slice_get es i ≡ Some x.entry)
  numbered_at n [] i x e = absurd (omega (arith, slice_get_within [] i x e))
  numbered_at n (y ∷ es) zero x e = let z : record { rank = n; entry = y } ≡ x = cc in (omega (arith, ap (λ k. k.rank) z), ap (λ k. Some k.entry) z)
  numbered_at n (y ∷ es) (suc i) x e = let h = numbered_at (suc n) es i x e in (omega (arith, h.0), h.1)

  all_at : (P : Entry K V → Type 0) (es : List (Entry K V)) (i : ℕ) (x : Entry K V) → slice_get es i ≡ Some x → AllByRecursion P es → P x
  all_at P [] i x e all = absurd (omega (arith, slice_get_within [] i x e))
  all_at P (y ∷ es) zero x e all = let z : y ≡ x = cc in subst P z all.0
  all_at P (y ∷ es) (suc i) x e all = all_at P es i x e all.1

module _ {K V : Type 0} (O : Order K) where
  ascending_at : (es : List (Entry K V)) (i j : ℕ) (x y : Entry K V) → Ascending O es → i < j → slice_get es i ≡ Some x → slice_get es j ≡ Some y → O.way (placed O x) (placed O y) ≡ before
  ascending_at [] i j x y up l e f = absurd (omega (arith, slice_get_within [] i x e))
  ascending_at (z ∷ es) i zero x y up l e f = absurd (omega arith)
  ascending_at (z ∷ es) zero (suc j) x y up l e f = let k : z ≡ x = cc in subst (λ x. O.way (placed O x) (placed O y) ≡ before) k (all_at _ es j y f up.0)
  ascending_at (z ∷ es) (suc i) (suc j) x y up l e f = ascending_at es i j x y up.1 (omega arith) e f

  pub sorted_anew : (a : Array) (slots : List (Slot K V)) → length slots ≡ 15 → (es : List (Entry K V)) → ranked_of a slots ≡ anew es → Ascending O es → Sorted O (ranks_of a.metadata) slots
  sorted_anew a slots n es is up p q x y ep eq l r =
      let rs = ranks_of a.metadata in
      let lq : 0 < get_or rs q 0 = omega arith in
      let up_at = λ (p : ℕ) (x : Slot K V) (ep : slice_get slots p ≡ Some x) (l : 0 < get_or rs p 0).
      let e = slot_use p (live_in a p l) in
      numbered_at 1 es (use_of p) (ranked_at rs (use_of p) x) (sym (ap (λ k. slice_get k (use_of p)) is) ∙ nth_ranked a slots n (use_of p) x (live_used a p l) (ap (slice_get slots) e ∙ ep)) in
      let f = up_at p x ep l in
      let g = up_at q y eq lq in
      ascending_at es (use_of p) (use_of q) (entry_of x) (entry_of y) up (omega (arith, f.0, g.0, ap (λ i. get_or rs i 0) (slot_use p (live_in a p l)), ap (λ i. get_or rs i 0) (slot_use q (live_in a q lq)))) f.1 g.1

-- ---- the words

pub pinned_of : {K V : Type 0} (a : Array) (slots : List (Slot K V)) → length slots ≡ 15 → (b : Array) (slots' : List (Slot K V)) → length slots' ≡ 15 → ranked_of a slots ≡ ranked_of b slots' → (state_of a).flags ≡ (state_of b).flags → state_of a ≡ state_of b
pinned_of a slots n b slots' n' e fl =
    let u = ones a.bitmap in
    let rs = ranks_of a.metadata in
    let rs' = ranks_of b.metadata in
    let uses : u ≡ ones b.bitmap = sym (length_ranked a slots n) ∙ ap length e ∙ length_ranked b slots' n' in
    let at : (p : ℕ) → p < 15 → get_or rs p 0 ≡ get_or rs' p 0 = λ p h.
    let i = use_of p in
    let w = slot_use p h in
    let here = ap (λ q. get_or rs q 0) w in
    let there = ap (λ q. get_or rs' q 0) w in
    ⊎_elim
    (λ (l : i < u).
    let s = nth_in slots (slot_pos i) (omega arith) in
    let t = nth_in slots' (slot_pos i) (omega arith) in
    let x = nth_ranked a slots n i s.0 l s.1 in
    let y = nth_ranked b slots' n' i t.0 (omega arith) t.1 in
    let z = ap (λ k. slice_get k i) e in
    let k : ranked_at rs i s.0 ≡ ranked_at rs' i t.0 = cc in
    omega (arith, ap (λ c. c.rank) k))
    (λ (l : u ≤ i). omega (arith, (whole_out a.whole).unused i l (use_lt p h), (whole_out b.whole).unused i (omega arith) (use_lt p h)))
    (cases_lt i u)
    in
    let na = length_digits 15 a.metadata in
    let nb = length_digits 15 b.metadata in
    made_same (same_lists rs rs' (na ∙ sym nb) (λ k d h. get_or_default rs k d 0 h ∙ at k (omega arith) ∙ get_or_default rs' k 0 d (omega arith))) uses fl

pub words_of : (a b : Array) → state_of a ≡ state_of b → (a.metadata ≡ b.metadata) × (a.bitmap ≡ b.bitmap)
words_of a b e = (
  word_split a.metadata ∙ ap (λ s. word_of s.ranks s.flags) e ∙ sym (word_split b.metadata),
  omega (arith, (whole_out a.whole).uses, (whole_out b.whole).uses, ap (λ s. 2 ^ s.uses) e),
)
