-- A step in the leaf of one place.
use Rattle.std.proofs.Common.{Result, Ok, Err, OnOk, OnErr, ◌≡◌, ℕ, ◌<◌, ◌≤◌, Bool, true, false, ◌≢◌, List, length, get_or, set, sym, refl, ap, ◌∙◌, subst, inl, inr, arith}
use mathlib.Core.Option.{Option}
use Rattle.keys.specs.Orders.{Order, Ordered}
use Rattle.lists.specs.Leaves.{Entry, lives, spent, lookup}
use Rattle.leaf.specs.Calls.{Inserted, Removed}
use Rattle.leaf.specs.Rules.{State, state_of}
use Rattle.leaf.specs.Slots.{Sorted}
use Rattle.leaf.specs.declared.array.Array.{Array}
use Rattle.leaf.specs.declared.data_block.Slot.{Slot}
use Rattle.keys.specs.declared.refusal.Refusal.{Refusal}
use Rattle.leaf.specs.declared.result.RemoveOutcome.{RemoveOutcome}
use Rattle.leaf.specs.declared.result.RemoveOutcome.TheVariants.{Success, Retired}
use Rattle.ranked_leaves.specs.Ranked.{cleared, taken}
use Rattle.leaf_lists.specs.Stands.{entry_of, leaf_in, leaf_of}
use Rattle.ranked_leaves.specs.RanksStand.{ranked_in, ranked_of}
use Rattle.leaf_table.specs.Records.{state_no, Marked, Sound}
use Rattle.leaf_table.specs.States.{part, state_at, slots_at, leaf_at, ranked_at}
use Rattle.leaf_table.specs.Changes.{asked, OnlyLeaf, Elsewhere, roomy, FiledAt, Struck, StruckAt}
use Rattle.leaf_table.specs.declared.table.Table.{Table}
use Rattle.leaf_table.proofs.Parts.{length_part}
use Rattle.leaf_table.proofs.Sounds.{sound_out, sound_put, state_read, state_same, state_other, put_leaf}
use Rattle.leaf_table.proofs.Leaves.{Filing, filing_of}
use Rattle.leaf_table.proofs.Strikes.{Off, Striking, striking_of}

-- another place has another leaf
pub only_elsewhere : {K V : Type 0} (rec rec' : Table) (slots slots' : List (Slot K V)) (t : ℕ) → t ≤ 15 → OnlyLeaf rec slots (get_or rec.seats t 0) rec' slots' → Elsewhere rec slots t rec' slots'
only_elsewhere rec rec' slots slots' t ht o =
    let snd = sound_out rec.sound in
    let apart : (s : ℕ) → s ≤ 15 → s ≢ t → get_or rec.seats s 0 ≢ get_or rec.seats t 0 = λ s hs ne z. ne (snd.once s t (omega arith) (omega arith) z) in
    record {
      children = o.children;
      bounds = o.parts 17 (omega arith) (λ z. absurd (omega (arith, snd.seat t (omega arith))));
      gone = o.gone;
      states = λ s hs ne. ap (λ ss. state_no rec'.leaves (get_or ss s 0)) o.seats ∙ o.states (get_or rec.seats s 0) (apart s hs ne);
      contents = λ s hs ne. ap (λ ss. part (get_or ss s 0) slots') o.seats ∙ o.parts (get_or rec.seats s 0) (omega (arith, snd.seat s (omega arith))) (apart s hs ne);
    }

-- the leaf of place t, as a call finds it
pub record Seat (rec : Table) (t : ℕ) : Type 0 where
  pub inside : t ≤ 15
  pub number : ℕ
  pub is : number ≡ get_or rec.seats t 0
  -- what a read past the table would give
  pub past : Array

module _ (rec : Table) (t : ℕ) (seat : Seat rec t) where
  abbrev n : ℕ
  n = seat.number

  at : n ≡ get_or rec.seats t 0
  at = seat.is

  snd : Sound rec.children rec.seats rec.leaves
  snd = sound_out rec.sound

  hn : n < 17
  hn = subst (λ i. i < 17) (sym at) (snd.seat t (omega (arith, seat.inside)))

  abbrev a : Array
  a = get_or rec.leaves n seat.past

  is : state_of a ≡ state_no rec.leaves n
  is = state_read rec.leaves n seat.past (omega (arith, hn, snd.table))

  mark : Marked (state_of a)
  mark = subst Marked (sym is) (snd.leaf n hn)

  -- a call of its array leaves the record sound: one that is refused changes nothing
  pub sound_step : (a' : Array) {T : Type 0} (r : Result T Refusal) → OnOk r (Marked (state_of a) → Marked (state_of a')) → OnErr r (state_of a' ≡ state_of a) → ∥ Sound rec.children rec.seats (set rec.leaves n a') ∥₁
  sound_step a' (Ok o) done same = ∣ sound_put n a' hn (done mark) snd ∣₁
  sound_step a' (Err e) done same = ∣ sound_put n a' hn (subst Marked (sym same) mark) snd ∣₁

  -- the array is a' after
  module _ (a' : Array) where
    state_here : state_no (set rec.leaves n a') (get_or rec.seats t 0) ≡ state_of a'
    state_here = ap (state_no (set rec.leaves n a')) (sym at) ∙ state_same rec.leaves n a' (omega (arith, snd.table, hn))

    -- what is said of the array, said of the place
    pub at_place : (P : State → State → Type 0) → P (state_of a) (state_of a') → P (state_at rec t) (state_no (set rec.leaves n a') (get_or rec.seats t 0))
    at_place P p = subst (P (state_at rec t)) (sym state_here) (subst (λ z. P z (state_of a')) (is ∙ ap (state_no rec.leaves) at) p)

  module _ {K V : Type 0} (slots : List (Slot K V)) where
    leaf_is : leaf_at rec slots t ≡ leaf_of a (part n slots)
    leaf_is = ap (λ m. leaf_in (state_no rec.leaves m) (part m slots)) (sym at) ∙ ap (λ s. leaf_in s (part n slots)) (sym is)

    ranked_is : ranked_at rec slots t ≡ ranked_of a (part n slots)
    ranked_is = ap (λ m. ranked_in (state_no rec.leaves m) (part m slots)) (sym at) ∙ ap (λ s. ranked_in s (part n slots)) (sym is)

    sorted_is : (O : Order K) → Sorted O (state_at rec t).ranks (slots_at rec slots t) → Sorted O (state_of a).ranks (part n slots)
    sorted_is O so = subst (λ s. Sorted O s.ranks (part n slots)) (sym is) (subst (λ m. Sorted O (state_no rec.leaves m).ranks (part m slots)) (sym at) so)

    long : length slots ≡ 270 → length (part n slots) ≡ 15
    long size = length_part n slots size (omega (arith, hn))

    -- and slots' are the slots after
    module _ (a' : Array) (s : ∥ Sound rec.children rec.seats (set rec.leaves n a') ∥₁) (slots' : List (Slot K V)) where
      abbrev rec' : Table
      rec' = put_leaf rec n a' s

      slots_here : slots_at rec' slots' t ≡ part n slots'
      slots_here = ap (λ m. part m slots') (sym at)

      pub only_put : ((m : ℕ) → m < 18 → m ≢ n → part m slots' ≡ part m slots) → OnlyLeaf rec slots (get_or rec.seats t 0) rec' slots'
      only_put others = record { children = refl; seats = refl; gone = refl; states = λ m ne. state_other rec.leaves n m a' (λ e. ne (e ∙ at)); parts = λ m h ne. others m h (λ e. ne (e ∙ at)) }

      here_is : ranked_at rec' slots' t ≡ ranked_of a' (part n slots')
      here_is = ap (λ z. ranked_in z (slots_at rec' slots' t)) (state_here a') ∙ ap (ranked_in (state_of a')) slots_here

      sorted_here : (O : Order K) → Sorted O (state_of a').ranks (part n slots') → Sorted O (state_at rec' t).ranks (slots_at rec' slots' t)
      sorted_here O so = subst (λ z. Sorted O z.ranks (slots_at rec' slots' t)) (sym (state_here a')) (subst (Sorted O (state_of a').ranks) (sym slots_here) so)

    module _ (O : Order K) (L : Ordered O) (size : length slots ≡ 270) (so : Sorted O (state_at rec t).ranks (slots_at rec slots t)) where
      seen : (p : O.Place) {o : Option (Entry K V)} → lookup O p (lives (leaf_of a (part n slots))) ≡ o → lookup O p (lives (leaf_at rec slots t)) ≡ o
      seen p e = ap (λ l. lookup O p (lives l)) leaf_is ∙ e

      pub filed_at : (new : Slot K V) (upsert : Bool) (a' : Array) (s : ∥ Sound rec.children rec.seats (set rec.leaves n a') ∥₁) (slots' : List (Slot K V)) → ((m : ℕ) → m < 18 → m ≢ n → part m slots' ≡ part m slots) → (r : Result (Unit {0}) Refusal) → (Sorted O (state_of a).ranks (part n slots) → Inserted O a (part n slots) new upsert a' (part n slots') r) → FiledAt O rec slots t (entry_of new) upsert (put_leaf rec n a' s) slots' r
      filed_at new upsert a' s slots' others r does = by r (filing_of O L a (part n slots) (long size) (sorted_is O so) mark new upsert a' (part n slots') r (does (sorted_is O so)))
        where
          by : (r : Result (Unit {0}) Refusal) → Filing O a (part n slots) new upsert a' (part n slots') r → FiledAt O rec slots t (entry_of new) upsert (put_leaf rec n a' s) slots' r
          by (Ok u) f = record {
            room = ap roomy leaf_is ∙ f.room;
            unheld = λ z. seen (O.place new.key) (f.absent z);
            elsewhere = only_elsewhere rec (put_leaf rec n a' s) slots slots' t seat.inside (only_put a' s slots' others);
            here = here_is a' s slots' ∙ f.ranks ∙ ap (taken O (entry_of new)) (sym ranked_is);
            sorted = sorted_here a' s slots' O f.sorted;
          }
          by (Err r) (inl f) = inl (f.0, f.1, (f.2.0, seen (O.place new.key) f.2.1))
          by (Err r) (inr f) = inr (f.0, ap roomy leaf_is ∙ f.1.full, λ z. seen (O.place new.key) (f.1.absent z))

      module _ {C : Type 0} (verdict : C → V → Bool) (after : C → V → C) (c : C) (x : K) (a' : Array) (c' : C) (r : Result RemoveOutcome Refusal) (does : Sorted O (state_of a).ranks (part n slots) → Removed O verdict after a c x (part n slots) a' c' r) where
        strikes : Striking O verdict after a c x (part n slots) a' c' r × (c' ≡ asked after c (lookup O (O.place x) (lives (leaf_of a (part n slots)))))
        strikes = striking_of O verdict after a c x (part n slots) a' c' L (long size) (sorted_is O so) mark r (does (sorted_is O so))

        pub asked_at : c' ≡ asked after c (lookup O (O.place x) (lives (leaf_at rec slots t)))
        asked_at = strikes.1 ∙ ap (λ l. asked after c (lookup O (O.place x) (lives l))) (sym leaf_is)

        pub struck_at : (s : ∥ Sound rec.children rec.seats (set rec.leaves n a') ∥₁) → StruckAt O (verdict c) rec slots t (O.place x) (put_leaf rec n a' s) r
        struck_at s = by r strikes.0
          where
            off : (last : Bool) → Off O verdict after a c x (part n slots) a' c' last → Struck O (verdict c) rec slots t (O.place x) (put_leaf rec n a' s) last
            off last o = record {
              entry = o.entry;
              held = seen (O.place x) o.held;
              said = o.said;
              elsewhere = only_elsewhere rec (put_leaf rec n a' s) slots slots t seat.inside (only_put a' s slots (λ _ _ _. refl));
              here = here_is a' s slots ∙ o.ranks ∙ ap (cleared O (O.place x)) (sym ranked_is);
              sorted = sorted_here a' s slots O o.sorted;
              left = ap (λ z. spent (leaf_in z (slots_at (put_leaf rec n a' s) slots t))) (state_here a') ∙ ap (λ bs. spent (leaf_in (state_of a') bs)) (slots_here a' s slots) ∙ o.spent;
            }

            by : (r : Result RemoveOutcome Refusal) → Striking O verdict after a c x (part n slots) a' c' r → StruckAt O (verdict c) rec slots t (O.place x) (put_leaf rec n a' s) r
            by (Ok Success) o = off false o
            by (Ok Retired) o = off true o
            by (Err r) (w, inl z) = (w, inl (seen (O.place x) z))
            by (Err r) (w, inr e) = (w, inr (e.0, seen (O.place x) e.1, e.2))
