-- A strike in the array of a leaf.
use Rattle.std.proofs.Common.{Result, Ok, Err, ◌≡◌, ℕ, ◌<◌, Bool, true, false, cond, not, ◌&&◌, eqb, ◌⊎◌, List, length, get_or, set, Some, None, Option, sym, refl, ap, ◌∙◌, subst, inl, inr, arith}
use mathlib.Core.Option as lists
use mathlib.Core.Option.{some, none}
use Rattle.std.proofs.lemmas.Bool.{cond-false}
use Rattle.std.proofs.lemmas.Bool.Decides.{nat_tests}
use Rattle.keys.specs.Orders.{Order, Ordered}
use Rattle.keys.specs.declared.refusal.Refusal.{Refusal}
use Rattle.keys.specs.declared.refusal.Refusal.TheVariants.{NotStruck}
use Rattle.ranks.specs.Words.{is_empty, is_frozen}
use Rattle.lists.specs.Leaves.{Entry, lives, spent, lookup}
use Rattle.leaf.specs.Calls.{entry_at, outcome, Removal, asked, Removed}
use Rattle.leaf.specs.Rules.{State, state_of, holder, struck}
use Rattle.leaf.specs.Slots.{sides, Sorted}
use Rattle.leaf.specs.declared.array.Array.{Array}
use Rattle.leaf.specs.declared.data_block.Slot.{Slot}
use Rattle.leaf.specs.declared.result.RemoveOutcome.{RemoveOutcome}
use Rattle.leaf.specs.declared.result.RemoveOutcome.TheVariants.{Success, Retired}
use Rattle.leaf.proofs.Wholes.{whole_out}
use Rattle.ranked_leaves.specs.Ranked.{cleared}
use Rattle.leaf_lists.specs.Stands.{entry_of, leaf_of, found_in}
use Rattle.ranked_leaves.specs.RanksStand.{ranked_of}
use Rattle.leaf_lists.proofs.Bridge.{bridge}
use Rattle.leaf.proofs.Holders.{Held, held}
use Rattle.leaf_table.specs.Records.{Marked}
use Rattle.leaf_table.specs.Changes as table
use Rattle.ranked_leaves.proofs.Changes.{ranked_strike}
use Rattle.leaf_table.proofs.Leaves.{some_live}

-- ---- marks

-- an array with a live slot has no flag
pub marked_live : (s : State) (p : ℕ) → Marked s → 0 < get_or s.ranks p 0 → s.flags ≡ 0
marked_live s p m l = let z = some_live s.ranks p l in grind (arith, nat_tests)

struck_flags : (s : State) (p : ℕ) → Marked s → 0 < get_or s.ranks p 0 → (struck p s).flags ≡ cond (is_empty (set s.ranks p 0)) 4 0
struck_flags s p m l = let z = marked_live s p m l in grind (arith, nat_tests)

pub marked_struck : (a : Array) (s' : State) (p : ℕ) → Marked (state_of a) → 0 < get_or (state_of a).ranks p 0 → s' ≡ struck p (state_of a) → Marked s'
marked_struck a s' p m l e = subst Marked (sym e) (by (state_of a).uses (is_empty (set (state_of a).ranks p 0)) (struck p (state_of a)).flags (omega (arith, (whole_out a.whole).bound p)) (struck_flags (state_of a) p m l))
  where
    by : (u : ℕ) (t : Bool) (f : ℕ) → 0 < u → f ≡ cond t 4 0 → f ≡ cond (not (eqb u 0) && t) 4 0
    by u t f h e = grind (arith, nat_tests)

warm : (s : State) → Marked s → is_frozen s.flags ≡ false
warm s m = grind (arith, nat_tests)

-- ---- a strike in an array

module _ {K V C : Type 0} (O : Order K) (verdict : C → V → Bool) (after : C → V → C) (a : Array) (c : C) (x : K) (bs : List (Slot K V)) (a' : Array) (c' : C) where
  abbrev found : lists.Option (Entry K V)
  found = lookup O (O.place x) (lives (leaf_of a bs))

  -- the entry is struck, and whether it was the last live one
  pub record Off (last : Bool) : Type 0 where
    pub entry : Entry K V
    pub held : found ≡ some entry
    pub said : verdict c entry.value ≡ true
    pub ranks : ranked_of a' bs ≡ cleared O (O.place x) (ranked_of a bs)
    pub sorted : Sorted O (state_of a').ranks bs
    pub spent : spent (leaf_of a' bs) ≡ last

  -- nothing is held, or the condition says no
  abbrev pub On : Type 0
  On = (found ≡ none) ⊎ ((e : Entry K V) × (found ≡ some e) × (verdict c e.value ≡ false))

  abbrev pub Striking : Result RemoveOutcome Refusal → Type 0
  Striking (Ok Success) = Off false
  Striking (Ok Retired) = Off true
  Striking (Err r) = (r ≡ NotStruck) × On

  module _ (L : Ordered O) (len : length bs ≡ 15) (so : Sorted O (state_of a).ranks bs) (mark : Marked (state_of a)) where
    abbrev here : Option ℕ
    here = holder (state_of a).ranks (sides O x bs)

    off : (p : ℕ) (s : Slot K V) (r : Result RemoveOutcome Refusal) → here ≡ Some p → found ≡ some (entry_of s) → verdict c s.val ≡ true → 0 < get_or (state_of a).ranks p 0 → state_of a' ≡ struck p (state_of a) → r ≡ Ok (outcome (struck p (state_of a))) → Striking r
    off p s r h f v l st e =
        let b = ((bridge O L).agrees a bs len so).strike x p a' h st in
        let last = ((bridge {V = V} O L).counts a' bs len).none ∙ ap (λ z. is_empty z.ranks) st in
        by r (is_empty (set (state_of a).ranks p 0)) (struck p (state_of a)).flags (struck_flags (state_of a) p mark l) e (record { entry = entry_of s; held = f; said = v; ranks = ranked_strike O L a bs len so x p a' h st; sorted = b.sorted; spent = last })
      where
        by : (r : Result RemoveOutcome Refusal) (t : Bool) (f : ℕ) → f ≡ cond t 4 0 → r ≡ Ok (cond (eqb f 4) Retired Success) → Off t → Striking r
        by r true f z e o = subst Striking (sym (e ∙ ap (λ k. Ok (cond (eqb k 4) Retired Success)) z)) o
        by r false f z e o = subst Striking (sym (e ∙ ap (λ k. Ok (cond (eqb k 4) Retired Success)) z)) o

    abbrev Told : Result RemoveOutcome Refusal → Type 0
    Told r = Striking r × (c' ≡ table.asked after c found)

    asks : (o : Option ℕ) (e : Option (Slot K V)) (r : Result RemoveOutcome Refusal) → here ≡ o → e ≡ entry_at o bs → found_in (entry_at o bs) ≡ found → Held (state_of a).ranks (sides O x bs) o → ◌≡◌ {A = Removal C} (record { answer = r; state = state_of a'; condition = c' }) (asked verdict after (state_of a) c o e) → Told r
    asks None e r h is f k eq = (subst Striking (sym (ap (λ (m : Removal C). m.answer) eq)) (refl, inl (sym f)), ap (λ (m : Removal C). m.condition) eq ∙ ap (table.asked after c) f)
    asks (Some p) None r h is f k eq =
        let z = ap found_in is ∙ f in
        (subst Striking (sym (ap (λ (m : Removal C). m.answer) eq)) (refl, inl (sym z)), ap (λ (m : Removal C). m.condition) eq ∙ ap (table.asked after c) z)
    asks (Some p) (Some s) r h is f k eq =
        let z = ap found_in is ∙ f in
        (elim (verdict c s.val) as (λ w. verdict c s.val ≡ w → ◌≡◌ {A = Removal C} (record { answer = r; state = state_of a'; condition = c' }) (cond w (record { answer = Ok (outcome (struck p (state_of a))); state = struck p (state_of a); condition = after c s.val }) (record { answer = Err NotStruck; state = state_of a; condition = after c s.val })) → Told r) [
          | true ↦ λ v eq. (off p s r h (sym z) v k.0 (ap (λ (m : Removal C). m.state) eq) (ap (λ (m : Removal C). m.answer) eq), ap (λ (m : Removal C). m.condition) eq ∙ ap (table.asked after c) z)
          | false ↦ λ v eq. (subst Striking (sym (ap (λ (m : Removal C). m.answer) eq)) (refl, inr (entry_of s, sym z, v)), ap (λ (m : Removal C). m.condition) eq ∙ ap (table.asked after c) z)
        ]) refl eq

    pub striking_of : (r : Result RemoveOutcome Refusal) → Removed O verdict after a c x bs a' c' r → Told r
    striking_of r e = asks here (entry_at here bs) r refl refl (((bridge O L).agrees a bs len so).look x) (held (state_of a).ranks (sides O x bs)) (e ∙ cond-false _ _ _ (warm (state_of a) mark))
