-- What an array answers, said of the leaf that it stands for.
use Rattle.std.proofs.Common.{Result, Ok, Err, ◌≡◌, ℕ, ◌<◌, Bool, true, false, cond, not, ◌&&◌, eqb, ltb, ◌⊎◌, List, [], ◌∷◌, length, get_or, is_some, Some, None, Option, sym, refl, ap, ◌∙◌, ap₂, inl, inr, ⊎_elim, arith}
use mathlib.Core.Option.{some, none}
use Rattle.std.proofs.lemmas.List.{length-map, get_or_past}
use Rattle.std.proofs.lemmas.Bool.{cases_lt, both_ways, ltb-true}
use Rattle.std.proofs.lemmas.Bool.Decides.{nat_tests}
use Rattle.keys.specs.Orders.{Order, Ordered}
use Rattle.keys.specs.declared.refusal.Refusal.{Refusal}
use Rattle.keys.specs.declared.refusal.Refusal.TheVariants.{Duplicate, Full}
use Rattle.ranks.specs.Words.{is_empty}
use Rattle.lists.specs.Leaves.{Entry, Leaf, lives, empty, lookup}
use Rattle.leaf.specs.Calls.{entry_at, Inserted, Filled}
use Rattle.leaf.specs.Rules.{State, state_of, holder}
use Rattle.leaf.specs.Slots.{side, sides, Sorted}
use Rattle.leaf.specs.declared.array.Array.{Array}
use Rattle.leaf.specs.declared.data_block.Slot.{Slot}
use Rattle.leaf.proofs.Sides.{nth_in}
use Rattle.ranked_leaves.specs.Ranked.{taken}
use Rattle.leaf_lists.specs.Stands.{entry_of, leaf_of, found_in}
use Rattle.ranked_leaves.specs.RanksStand.{ranked_of}
use Rattle.leaf_lists.proofs.Bridge.{bridge}
use Rattle.leaf_lists.proofs.Counts.{empty_cases}
use Rattle.leaf.proofs.Holders.{Held, held}
use Rattle.leaf_table.specs.Records.{Marked}
use Rattle.leaf_table.specs.Changes.{roomy}
use Rattle.ranked_leaves.proofs.Changes.{ranked_file}

-- ---- marks

pub some_live : (rs : List ℕ) (p : ℕ) → 0 < get_or rs p 0 → is_empty rs ≡ false
some_live rs p h = elim (empty_cases rs) [ inl z ↦ absurd (omega (arith, z.1 p)) | inr z ↦ z.0 ]

pub marked_filled : (s s' : State) → Filled s s' → Marked s'
marked_filled s s' f = let z = some_live s'.ranks _ f.live in let e = f.flags in grind (arith, nat_tests)

-- ---- what filing answered

module _ (f d u : Bool) where
  abbrev answer : Result (Unit {0}) Refusal
  answer = cond f (cond d (Err Duplicate) (cond u (Ok tt) (Err Full))) (Err Full)

done_was : (f d u : Bool) {o : Unit {0}} → Ok o ≡ answer f d u → (f ≡ true) × (d ≡ false) × (u ≡ true)
done_was f d u e = grind (arith, nat_tests)

refused_was : (f d u : Bool) {r : Refusal} → Err r ≡ answer f d u → ((r ≡ Duplicate) × (d ≡ true)) ⊎ ((r ≡ Full) × ((f ≡ false) ⊎ ((d ≡ false) × (u ≡ false))))
refused_was f d u e = grind (arith, nat_tests)

not_held : (u h : Bool) → (not u && h) ≡ false → u ≡ false → h ≡ false
not_held u h e z = grind (arith, nat_tests)

is_held : (u h : Bool) → (not u && h) ≡ true → (u ≡ false) × (h ≡ true)
is_held u h e = grind (arith, nat_tests)

-- ---- the leaf

module _ {K V : Type 0} (O : Order K) (L : Ordered O) (a : Array) (bs : List (Slot K V)) (len : length bs ≡ 15) (so : Sorted O (state_of a).ranks bs) (mark : Marked (state_of a)) where
  abbrev leaf : Leaf K V
  leaf = leaf_of a bs

  roomy_of : roomy leaf ≡ (eqb (state_of a).flags 0 && ltb (state_of a).uses 15)
  roomy_of =
      let c = (bridge {V = V} O L).counts a bs len in
      ap₂ (λ x k. not x && ltb k 15) c.retires c.uses
      ∙ ap (λ t. t && ltb (state_of a).uses 15) (by_mark (not (eqb (state_of a).uses 0) && is_empty (state_of a).ranks) (state_of a).flags mark)
    where
      by_mark : (t : Bool) (f : ℕ) → f ≡ cond t 4 0 → not t ≡ eqb f 0
      by_mark t f e = grind (arith, nat_tests)

  module _ (x : K) where
    abbrev here : Option ℕ
    here = holder (state_of a).ranks (sides O x bs)

    look : found_in (entry_at here bs) ≡ lookup O (O.place x) (lives leaf)
    look = ((bridge O L).agrees a bs len so).look x

    absent : is_some here ≡ false → lookup O (O.place x) (lives leaf) ≡ none
    absent h = sym look ∙ none_found here h
      where
        none_found : (o : Option ℕ) → is_some o ≡ false → found_in (entry_at o bs) ≡ none
        none_found None h = refl
        none_found (Some p) h = absurd (both_ways true h refl)

    present : is_some here ≡ true → (e : Entry K V) × (lookup O (O.place x) (lives leaf) ≡ some e)
    present h = some_found here (held (state_of a).ranks (sides O x bs)) look h
      where
        some_found : (o : Option ℕ) → Held (state_of a).ranks (sides O x bs) o → found_in (entry_at o bs) ≡ lookup O (O.place x) (lives leaf) → is_some o ≡ true → (e : Entry K V) × (lookup O (O.place x) (lives leaf) ≡ some e)
        some_found None k e h = absurd (both_ways false refl h)
        some_found (Some p) k e h =
            let s = nth_in bs p (⊎_elim (λ l. l) (λ l. absurd (omega (arith, k.1, get_or_past (sides O x bs) p 0 (omega (arith, length-map bs (side O x)))))) (cases_lt p (length bs))) in
            (entry_of s.0, sym e ∙ ap found_in s.1)

    -- a retired leaf holds nothing
    shut : eqb (state_of a).flags 0 ≡ false → lookup O (O.place x) (lives leaf) ≡ none
    shut h = none_in (lives leaf) (((bridge {V = V} O L).counts a bs len).none ∙ by_flag (not (eqb (state_of a).uses 0)) (is_empty (state_of a).ranks) (state_of a).flags mark h)
      where
        by_flag : (t e : Bool) (f : ℕ) → f ≡ cond (t && e) 4 0 → eqb f 0 ≡ false → e ≡ true
        by_flag t e f m h = grind (arith, nat_tests)

        none_in : (es : List (Entry K V)) → empty es ≡ true → lookup O (O.place x) es ≡ none
        none_in [] h = refl
        none_in (y ∷ es) h = absurd (both_ways false refl h)

-- What a filing in a leaf answers and makes of it.
module _ {K V : Type 0} (O : Order K) (a : Array) (bs : List (Slot K V)) (new : Slot K V) (upsert : Bool) (a' : Array) (bs' : List (Slot K V)) where
  pub record Grown : Type 0 where
    pub room : roomy (leaf_of a bs) ≡ true
    pub absent : upsert ≡ false → lookup O (O.place new.key) (lives (leaf_of a bs)) ≡ none
    pub ranks : ranked_of a' bs' ≡ taken O (entry_of new) (ranked_of a bs)
    pub sorted : Sorted O (state_of a').ranks bs'

  pub record Stopped : Type 0 where
    pub full : roomy (leaf_of a bs) ≡ false
    pub absent : upsert ≡ false → lookup O (O.place new.key) (lives (leaf_of a bs)) ≡ none

  abbrev pub Filing : Result (Unit {0}) Refusal → Type 0
  Filing (Ok u) = Grown
  Filing (Err r) = ((r ≡ Duplicate) × (upsert ≡ false) × ((e : Entry K V) × (lookup O (O.place new.key) (lives (leaf_of a bs)) ≡ some e))) ⊎ ((r ≡ Full) × Stopped)

module _ {K V : Type 0} (O : Order K) (L : Ordered O) (a : Array) (bs : List (Slot K V)) (len : length bs ≡ 15) (so : Sorted O (state_of a).ranks bs) (mark : Marked (state_of a)) (new : Slot K V) (upsert : Bool) (a' : Array) (bs' : List (Slot K V)) where
  abbrev held_here : Bool
  held_here = is_some (holder (state_of a).ranks (sides O new.key bs))

  pub filing_of : (r : Result (Unit {0}) Refusal) → Inserted O a bs new upsert a' bs' r → Filing O a bs new upsert a' bs' r
  filing_of (Ok u) i =
      let w = done_was (eqb (state_of a).flags 0) (not upsert && held_here) (ltb (state_of a).uses 15) i.answer in
      record {
        room = roomy_of O L a bs len so mark ∙ ap₂ (λ x y. x && y) w.0 w.2;
        absent = λ z. absent O L a bs len so mark new.key (not_held upsert held_here w.1 z);
        ranks = ranked_file O L a bs len so new a' bs' (ltb-true _ _ w.2) i.state i.written;
        sorted = i.sorted;
      }
  filing_of (Err r) i = elim (refused_was (eqb (state_of a).flags 0) (not upsert && held_here) (ltb (state_of a).uses 15) i.answer) [
    | inl d ↦ let h = is_held upsert held_here d.1 in inl (d.0, h.0, present O L a bs len so mark new.key h.1)
    | inr (e, inl f) ↦ inr (e, record { full = roomy_of O L a bs len so mark ∙ ap (λ x. x && ltb (state_of a).uses 15) f; absent = λ _. shut O L a bs len so mark new.key f })
    | inr (e, inr w) ↦ inr (e, record { full = roomy_of O L a bs len so mark ∙ ap (λ y. eqb (state_of a).flags 0 && y) w.1 ∙ and_false (eqb (state_of a).flags 0); absent = λ z. absent O L a bs len so mark new.key (not_held upsert held_here w.0 z) })
  ]
    where
      and_false : (b : Bool) → (b && false) ≡ false
      and_false true = refl
      and_false false = refl
