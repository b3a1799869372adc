-- A key filed in an array: ranks still order keys, and what is answered and left is what the rules say.
use Rattle.std.proofs.Common.{◌≡◌, ℕ, zero, suc, ◌+◌, ◌-◌, ◌*◌, ◌<◌, ◌≤◌, Bool, true, false, ◌≢◌, ◌⊎◌, List, [], ◌∷◌, map, length, get_or, set, is_some, Some, None, Option, MatchOption, Result, Ok, Err, is_ok, sym, refl, ap, ap₂, ◌∙◌, subst, inl, inr, ⊎_elim, arith}
use lib.Count.{ones}
use Rattle.std.specs.List.{slice_get}
use Rattle.std.proofs.lemmas.Option.{slice_get_within}
use Rattle.std.proofs.lemmas.Bool.{cases_eq}
use Rattle.std.proofs.lemmas.Bool.Decides.{nat_tests}
use Rattle.keys.specs.Orders.{Order, Ordered, stands}
use Rattle.keys.specs.declared.refusal.Refusal.{Refusal}
use Rattle.keys.specs.declared.refusal.Refusal.TheVariants.{Duplicate}
use Rattle.ranks.specs.Dimensions.{slot_pos}
use Rattle.ranks.specs.Words.{ranks_of, flags_of, is_retired, Reads}
use Rattle.ranks.proofs.Words.{length_digits}
use Rattle.ranks.proofs.Uses.{ones_more, slot_lt}
use Rattle.leaf.specs.Records.{Whole}
use Rattle.leaf.specs.Slots.{side_of, sides, Sorted}
use Rattle.leaf.specs.Rules.{State, state_of, holder, used, given, Spare}
use Rattle.leaf.specs.Seeks.{Inside, taken, Sought}
use Rattle.leaf.specs.Calls.{is_full, insertion, Inserted, Filled, Fits}
use Rattle.leaf.specs.declared.array.Array.{Array}
use Rattle.leaf.specs.declared.data_block.Slot.{Slot}
use Rattle.leaf.proofs.Sides.{before_side, after_side, side_at}
use Rattle.leaf.specs.declared.seek.Gap.{Gap}
use Rattle.leaf.proofs.Effects.{Took, Effect, took, took_last, effect, taken_live}
use Rattle.leaf.proofs.Wholes.{whole_out, clear_cases, whole_more, whole_took, not_full, made, made_same}
use Rattle.leaf.proofs.Finds.{found_some, filed_is}
use Rattle.leaf.proofs.Finds.{seen as seen-from}

pub nth_same : {A : Type 0} (xs : List A) (i : ℕ) (x y : A) → slice_get (set xs i x) i ≡ Some y → x ≡ y
nth_same [] i x y e = grind arith
nth_same (z ∷ xs) zero x y e = grind arith
nth_same (z ∷ xs) (suc i) x y e = nth_same xs i x y e

pub nth_other : {A : Type 0} (xs : List A) (i j : ℕ) (x : A) → j ≢ i → slice_get (set xs i x) j ≡ slice_get xs j
nth_other [] i j x n = refl
nth_other (z ∷ xs) zero zero x n = absurd (n refl)
nth_other (z ∷ xs) zero (suc j) x n = refl
nth_other (z ∷ xs) (suc i) zero x n = refl
nth_other (z ∷ xs) (suc i) (suc j) x n = nth_other xs i j x (λ e. n (ap suc e))

-- ---- ranks still order keys

module _ {K V : Type 0} (O : Order K) (L : Ordered O) (rs rs' : List ℕ) (slots : List (Slot K V)) (n : length slots ≡ 15) (so : Sorted O rs slots) (new : Slot K V) (u f : ℕ) (t : Took rs rs' u f) (ef : Effect (sides O new.key slots) rs' f) where
  old : (p : ℕ) (a : Slot K V) → p ≢ f → slice_get (set slots f new) p ≡ Some a → slice_get slots p ≡ Some a
  old p a m e = sym (nth_other slots f p new m) ∙ e

  in_leaf : (p : ℕ) (a : Slot K V) → p ≢ f → slice_get (set slots f new) p ≡ Some a → p < 15
  in_leaf p a m e = omega (arith, slice_get_within slots p a (old p a m e))

  -- where a slot p that is live lies, seen from the new key
  seen : (p : ℕ) (a : Slot K V) (m : p ≢ f) (e : slice_get (set slots f new) p ≡ Some a) → get_or (sides O new.key slots) p 0 ≡ side_of (stands O new.key a.key)
  seen p a m e = side_at O slots n new.key p a (in_leaf p a m e) (old p a m e)

  pub sorted_took : Sorted O rs' (set slots f new)
  sorted_took p q a b ea eb l r = ⊎_elim
      (λ (pf : p ≡ f). ⊎_elim
      (λ (qf : q ≡ f). absurd (omega (arith, ap (λ i. get_or rs' i 0) (pf ∙ sym qf))))
      (λ qn. let w = ap (λ i. get_or rs' i 0) pf in
      let x = nth_same slots f new a (subst (λ i. slice_get (set slots f new) i ≡ Some a) pf ea) in
      elim (ef.kept q (in_leaf q b qn eb) qn (omega arith)) [
        | inl c ↦ absurd (omega arith)
        | inr c ↦ ap (λ s. stands O s.key b.key) (sym x) ∙ before_side _ (omega (arith, seen q b qn eb))
      ])
      (cases_eq q f))
      (λ pn. ⊎_elim
      (λ (qf : q ≡ f). let w = ap (λ i. get_or rs' i 0) qf in
      let x = nth_same slots f new b (subst (λ i. slice_get (set slots f new) i ≡ Some b) qf eb) in
      elim (ef.kept p (in_leaf p a pn ea) pn l) [
        | inl c ↦ ap (λ s. stands O a.key s.key) (sym x) ∙ L.flop _ _ (after_side _ (omega (arith, seen p a pn ea)))
        | inr c ↦ absurd (omega arith)
      ])
      (λ qn. so p q a b (old p a pn ea) (old q b qn eb) (t.live p pn l) (t.mono p q pn qn l r))
      (cases_eq q f))
      (cases_eq p f)

pub sorted_struck : {K V : Type 0} (O : Order K) (rs : List ℕ) (slots : List (Slot K V)) (p : ℕ) → Sorted O rs slots → Sorted O (set rs p 0) slots
sorted_struck O rs slots p so x y a b ea eb l r = elim (clear_cases rs p x) [
  | inl z ↦ absurd (omega arith)
  | inr e ↦ elim (clear_cases rs p y) [ inl z ↦ absurd (omega arith) | inr f ↦ so x y a b ea eb (omega arith) (omega arith) ]
]

-- ---- a key that has another's place sees the same sides

pub own_sides : {K V : Type 0} (O : Order K) (x y : K) (slots : List (Slot K V)) → O.place x ≡ O.place y → sides O x slots ≡ sides O y slots
own_sides O x y slots e = ap (λ p. map (λ s. side_of (O.way p (O.place s.key))) slots) e

-- ---- what filing answers

module _ (s : State) (ss : List ℕ) (upsert : Bool) where
  pub answers_duplicate : s.flags ≡ 0 → upsert ≡ false → is_some (holder s.ranks ss) ≡ true → Err Duplicate ≡ insertion s ss upsert
  answers_duplicate f u h = grind (arith, nat_tests)

  pub answers_success : s.flags ≡ 0 → (upsert ≡ true) ⊎ (is_some (holder s.ranks ss) ≡ false) → s.uses < 15 → Ok tt ≡ insertion s ss upsert
  answers_success f n u = grind (arith, nat_tests)

-- a filing that is refused
pub refused : {K V : Type 0} (O : Order K) (a : Array) (slots : List (Slot K V)) (new : Slot K V) (upsert : Bool) (a' : Array) (e : Refusal) → Err e ≡ insertion (state_of a) (sides O new.key slots) upsert → state_of a' ≡ state_of a → Sorted O (ranks_of a.metadata) slots → Inserted O a slots new upsert a' slots (Err e)
refused O a slots new upsert a' e answer same so = record { answer = answer; state = same; written = refl; sorted = subst (λ (s : State). Sorted O s.ranks slots) (sym same) so }

-- ---- an array h that holds the next use of a

module _ (a h : Array) (e : state_of h ≡ used (state_of a)) where
  abbrev uses : ℕ
  uses = ones a.bitmap

  pub held_room : uses < 15
  held_room = omega (arith, ap (λ s. s.uses) e, (whole_out h.whole).few)

  pub held_ranks : ranks_of h.metadata ≡ ranks_of a.metadata
  held_ranks = ap (λ s. s.ranks) e

  pub held_flags : flags_of h.metadata ≡ flags_of a.metadata
  held_flags = ap (λ s. s.flags) e

  pub held_bound : (p : ℕ) → get_or (ranks_of h.metadata) p 0 ≤ uses
  held_bound p = omega (arith, ap (λ rs. get_or rs p 0) held_ranks, (whole_out a.whole).bound p)

  pub held_spare : Spare (state_of h)
  held_spare =
      let u : uses + 1 - 1 ≡ uses = omega arith in
      subst Spare (sym e) (ap (λ b. get_or (ranks_of a.metadata) (slot_pos b) 0) u ∙ (whole_out a.whole).unused uses (omega arith) held_room, λ p. omega (arith, (whole_out a.whole).bound p))

  pub held_back : given (state_of h) ≡ state_of a
  held_back =
      let u : uses + 1 - 1 ≡ uses = omega arith in
      ap given e ∙ ap (λ b. made (ranks_of a.metadata) b (flags_of a.metadata)) u

  pub held_sought : {K V : Type 0} (O : Order K) (slots : List (Slot K V)) (spot : Result ℕ Gap) (x y : K) → O.place x ≡ O.place y → (Sorted O (ranks_of h.metadata) slots → Sought (ranks_of h.metadata) (sides O x slots) spot) → Sorted O (ranks_of a.metadata) slots → Sought (ranks_of a.metadata) (sides O y slots) spot
  held_sought O slots spot x y own f so = subst (λ ss. Sought (ranks_of a.metadata) ss spot) (own_sides O x y slots own) (subst (λ rs. Sought rs (sides O x slots) spot) held_ranks (f (subst (λ rs. Sorted O rs slots) (sym held_ranks) so)))

  -- the word once a key that was sought takes that use
  module _ (word pos : ℕ) (spot : Result ℕ Gap) (z : flags_of a.metadata ≡ 0) (at : pos ≡ slot_pos uses) (i : Inside (ranks_of h.metadata) spot) (r : Reads word (taken (ranks_of h.metadata) spot pos) (flags_of h.metadata)) where
    pub held_took : Whole word h.bitmap
    held_took =
        let w = whole_out h.whole in
        let rs = ranks_of h.metadata in
        whole_took w uses word (taken rs spot (slot_pos uses)) (ap (λ s. s.uses) e) (ap is_retired (held_flags ∙ z))
        (subst (λ p. Reads word (taken rs spot p) (flags_of h.metadata)) at r)
        (took rs spot uses (slot_pos uses) (length_digits 15 h.metadata) (slot_lt uses held_room) i held_bound w.apart)

    pub held_inside : Inside (ranks_of a.metadata) spot
    held_inside = subst (λ rs. Inside rs spot) held_ranks i

    pub held_state : made (ranks_of word) (ones h.bitmap) (flags_of word) ≡ made (taken (ranks_of a.metadata) spot (slot_pos uses)) (uses + 1) (flags_of a.metadata)
    held_state = made_same (r.ranks ∙ ap₂ (λ rs p. taken rs spot p) held_ranks at) (ap (λ s. s.uses) e) (r.flags ∙ held_flags)

    pub held_filled : (s : State) → s ≡ made (ranks_of word) (ones h.bitmap) (flags_of word) → Filled (state_of a) s
    held_filled s is = subst (Filled (state_of a)) (sym (is ∙ held_state)) (record { free = z; flags = z; uses = refl; live = taken_live (ranks_of a.metadata) spot (slot_pos uses) (length_digits 15 a.metadata) (slot_lt uses held_room) held_inside })

-- ---- filing without a look at the other slots

-- the word that is given, or else one with the greatest rank at the next use
abbrev pub Given : Array → Option ℕ → ℕ → Type 0
Given a metadata word = MatchOption metadata (Reads word (set (ranks_of a.metadata) (slot_pos (ones a.bitmap)) (ones a.bitmap + 1)) (flags_of a.metadata)) (λ w. word ≡ w)

pub pushed_whole : (a : Array) (metadata : Option ℕ) (word : ℕ) → is_full (state_of a) ≡ false → Fits a metadata → Given a metadata word → Whole word (2 * a.bitmap + 1)
pushed_whole a (Some w) word full f is = rw is f
pushed_whole a None word full f r =
    let w = whole_out a.whole in
    let u = ones a.bitmap in
    let room = not_full a full in
    whole_took (whole_more w room.0) u word (set (ranks_of a.metadata) (slot_pos u) (u + 1)) (ones_more a.bitmap) room.1 r (took_last (ranks_of a.metadata) u (slot_pos u) (length_digits 15 a.metadata) (slot_lt u room.0) w.bound w.apart)

-- ---- what filing leaves

module _ {K V : Type 0} (O : Order K) (L : Ordered O) (a : Array) (slots : List (Slot K V)) (n : length slots ≡ 15) (new : Slot K V) (so : Sorted O (ranks_of a.metadata) slots) (spot : Result ℕ Gap) (i : Inside (ranks_of a.metadata) spot) (f : Sought (ranks_of a.metadata) (sides O new.key slots) spot) where
  abbrev rs : List ℕ
  rs = ranks_of a.metadata

  abbrev ss : List ℕ
  ss = sides O new.key slots

  abbrev free : ℕ
  free = slot_pos (ones a.bitmap)

  pub inserted : (upsert : Bool) (a' : Array) (slots' : List (Slot K V)) → ones a.bitmap < 15 → flags_of a.metadata ≡ 0 → (upsert ≡ true) ⊎ (is_ok spot ≡ false) → state_of a' ≡ made (taken rs spot free) (ones a.bitmap + 1) (flags_of a.metadata) → slots' ≡ set slots free new → Inserted O a slots new upsert a' slots' (Ok tt)
  inserted upsert a' slots' room open-leaf m st wr =
      let w = whole_out a.whole in
      let hf = slot_lt (ones a.bitmap) room in
      let nr = length_digits 15 a.metadata in
      let t = took rs spot (ones a.bitmap) free nr hf i w.bound w.apart in
      let x = effect rs ss spot free nr hf i (seen-from O L a slots n so new.key) f in
      let sorted = sorted_took O L rs (taken rs spot free) slots n so new (ones a.bitmap) free t x in
      record {
        answer = answers_success (state_of a) ss upsert open-leaf (⊎_elim inl (λ z. inr (found_some O L a slots n so new.key spot i f ∙ z)) m) room;
        state = st ∙ ap (λ r. made r (ones a.bitmap + 1) (flags_of a.metadata)) (filed_is O L a slots n so new.key spot free i f);
        written = wr;
        sorted = subst (λ r. Sorted O r slots') (sym (ap (λ s. s.ranks) st)) (subst (Sorted O (taken rs spot free)) (sym wr) sorted);
      }
