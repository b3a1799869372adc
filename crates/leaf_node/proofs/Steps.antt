-- Calls of a node as steps of the leaf lists.
use Rattle.std.specs.Result.{is_ok}
use Rattle.std.proofs.Common.{Result, Ok, Err, OnErr, inl, inr, ◌≡◌, ℕ, ◌≤◌, Bool, true, false, List, map, length, get_or, sym, refl, ap, ◌∙◌, subst, ap₂, ⊎_elim, arith}
use mathlib.Core.Option.{some, none}
use Rattle.std.proofs.lemmas.Bool.{both_ways, cases_eq, cond-true}
use Rattle.keys.specs.Orders.{Order, Ordered}
use Rattle.keys.specs.declared.refusal.Refusal.{Refusal}
use Rattle.keys.specs.declared.refusal.Refusal.TheVariants.{Duplicate}
use Rattle.ranks.specs.Words.{ranks_of, is_retired}
use Rattle.ranks.proofs.Words.{length_digits, digits_lt}
use Rattle.lists.specs.Leaves.{Entry, Leaf, placed, lives, lookup, append}
use Rattle.lists.specs.Rows.{Row, one, target, changed}
use Rattle.lists.specs.Nodes.{Done, sheet, filed, refusing, filing, unless_held, replace}
use Rattle.leaf.specs.Rules.{state_of}
use Rattle.leaf.specs.Slots.{side_of, sides, Sorted}
use Rattle.leaf.specs.declared.array.Array.{Array}
use Rattle.leaf.specs.declared.data_block.Slot.{Slot}
use Rattle.leaf.proofs.Wholes.{whole_out}
use Rattle.leaf_lists.specs.Stands.{leaf_in}
use Rattle.ranked_leaves.specs.Ranked.{plain}
use Rattle.ranked_leaves.proofs.Ranked.{plain_in, plain_taken}
use Rattle.leaf_table.specs.Records.{state_no}
use Rattle.leaf_table.specs.States.{part, pick, row_on, state_at, slots_at, leaf_at, ranked_at, row_of, node_of, TableSorted, Aimed}
use Rattle.leaf_table.specs.Changes.{roomy, OnlyLeaf, Elsewhere, FiledAt}
use Rattle.leaf_table.specs.Filings.{call}
use Rattle.leaf_table.specs.declared.table.Table.{Table}
use Rattle.leaf_table.proofs.Parts.{length_part}
use Rattle.leaf_table.proofs.Sounds.{sound_out}
use Rattle.leaf_table.proofs.Rows.{changed_is}
use Rattle.leaf_table.proofs.States.{node_stands}
use Rattle.leaf_node.specs.States.{Kept}
use Rattle.leaf_node.specs.Steps.{Appended}

-- what holds of a refusal may use that it is one
pub on_err_when : {T E P Q : Type 0} (r : Result T E) → (is_ok r ≡ false → P → Q) → OnErr r P → OnErr r Q
on_err_when (Ok x) f w = w
on_err_when (Err x) f w = f refl w

-- ---- the leaf lists alone: what a call comes to

module _ {K V : Type 0} (O : Order K) (e : Entry K V) (r : Row K (Leaf K V)) (used : ℕ) (closed : Bool) where
  abbrev p : O.Place
  p = O.place e.key

  abbrev l : Leaf K V
  l = target O p r

  abbrev grown : Done K V
  grown = record { node = sheet (changed O p (one (append O e l) 0) r) used closed; answer = filed 0 }

  replaced : roomy l ≡ true → replace O e (sheet r used closed) ≡ grown
  replaced h = ap (λ c. filing O p c r used closed) (cond-true (roomy l) (one (append O e l) 0) _ h)

  call_append : (upsert : Bool) → roomy l ≡ true → (upsert ≡ false → lookup O p (lives l) ≡ none) → call O e upsert (sheet r used closed) ≡ grown
  call_append true h n = replaced h
  call_append false h n = ap (λ o. unless_held O o (sheet r used closed) (replace O e (sheet r used closed))) (n refl) ∙ replaced h

  call_duplicate : (upsert : Bool) (x : Entry K V) → upsert ≡ false → lookup O p (lives l) ≡ some x → call O e upsert (sheet r used closed) ≡ refusing (sheet r used closed) Duplicate
  call_duplicate true x n h = absurd (both_ways true n refl)
  call_duplicate false x n h = ap (λ o. unless_held O o (sheet r used closed) (replace O e (sheet r used closed))) h

-- ---- a record with the leaf of one place changed

module _ {K V : Type 0} (O : Order K) (rec : Table) (slots : List (Slot K V)) (kept : Kept O rec slots) where
  pub table_sorted : TableSorted O rec slots
  table_sorted = record { leaves = λ t h. kept.leaves (get_or rec.seats t 0) ((sound_out rec.sound).seat t (omega arith)); bounds = kept.bounds }

  pub kept_only : (t : ℕ) → t ≤ 15 → (rec' : Table) (slots' : List (Slot K V)) → OnlyLeaf rec slots (get_or rec.seats t 0) rec' slots' → Sorted O (state_at rec' t).ranks (slots_at rec' slots' t) → Kept O rec' slots'
  kept_only t ht rec' slots' o so = record {
    leaves = λ m hm. ⊎_elim
        (λ e. subst (λ i. Sorted O (state_no rec'.leaves i).ranks (part i slots')) (ap (λ ss. get_or ss t 0) o.seats ∙ sym e) so)
        (λ ne. subst (λ st. Sorted O st.ranks (part m slots')) (sym (o.states m ne)) (subst (Sorted O (state_no rec.leaves m).ranks) (sym (o.parts m (omega arith) ne)) (kept.leaves m hm)))
        (cases_eq m (get_or rec.seats t 0));
    bounds = subst (λ (b : Array). Sorted O (state_of b).ranks (part 17 slots')) (sym o.children) (subst (Sorted O (state_of rec.children).ranks) (sym (o.parts 17 (omega arith) (λ z. absurd (omega (arith, (sound_out rec.sound).seat t (omega arith)))))) kept.bounds);
  }

-- the leaf of a place without its ranks
pub leaf_plain : {K V : Type 0} (rec : Table) (slots : List (Slot K V)) (t : ℕ) → leaf_at rec slots t ≡ plain (ranked_at rec slots t)
leaf_plain rec slots t = sym (plain_in (state_at rec t) (slots_at rec slots t))

module _ {K V : Type 0} (rec rec' : Table) (slots slots' : List (Slot K V)) (t : ℕ) (ht : t ≤ 15) (e : Elsewhere rec slots t rec' slots') where
  -- the target is changed
  pub row_one : (O : Order K) (L : Ordered O) (x : K) (k : ℕ) → length slots ≡ 270 → Aimed (state_of rec.children).ranks (sides O x (part 17 slots)) t → row_of rec' slots' ≡ changed O (O.place x) (one (leaf_at rec' slots' t) k) (row_of rec slots)
  unfolding row_of
  row_one O L x k size aim =
      ap₂ (λ (b : Array) bs. row_on (pick (state_of b).ranks bs (leaf_at rec' slots')) (leaf_at rec' slots' 15) 1 15) e.children e.bounds
      ∙ changed_is O L x (ranks_of rec.children.metadata) (part 17 slots) (length_digits 15 rec.children.metadata) (length_part 17 slots size (omega arith)) (whole_out rec.children.whole).apart (leaf_at rec slots) (leaf_at rec' slots') t aim (λ s hs ne. ap₂ leaf_in (e.states s hs ne) (e.contents s hs ne)) k (digits_lt 15 rec.children.metadata) ht

  pub node_one : (row : Row K (Leaf K V)) → rec.gone ≡ false → row_of rec' slots' ≡ row → node_of rec' slots' ≡ sheet row (state_of rec.children).uses (is_retired (state_of rec.children).flags)
  node_one row g r = node_stands rec' slots' (e.gone ∙ g) ∙ ap₂ (λ r (b : Array). sheet r (state_of b).uses (is_retired (state_of b).flags)) r e.children

-- ---- the append step: y spells the place of the new key

module _ {K V : Type 0} (O : Order K) (L : Ordered O) (rec : Table) (slots : List (Slot K V)) (size : length slots ≡ 270) (kept : Kept O rec slots) (stands : rec.gone ≡ false) (e : Entry K V) (upsert : Bool) (y : K) (own : O.place y ≡ placed O e) (t : ℕ) (ht : t ≤ 15) (aim : Aimed (state_of rec.children).ranks (sides O y (part 17 slots)) t) (aimed : target O (O.place y) (row_of rec slots) ≡ leaf_at rec slots t) where
  abbrev q : O.Place
  q = placed O e

  abbrev used : ℕ
  used = (state_of rec.children).uses

  abbrev closed : Bool
  closed = is_retired (state_of rec.children).flags

  own_aim : Aimed (state_of rec.children).ranks (sides O e.key (part 17 slots)) t
  own_aim = subst (λ ss. Aimed (state_of rec.children).ranks ss t) (ap (λ p. map (λ (z : Slot K V). side_of (O.way p (O.place z.key))) (part 17 slots)) own) aim

  meant : target O q (row_of rec slots) ≡ leaf_at rec slots t
  meant = ap (λ p. target O p (row_of rec slots)) (sym own) ∙ aimed

  pub appended : (rec' : Table) (slots' : List (Slot K V)) → OnlyLeaf rec slots (get_or rec.seats t 0) rec' slots' → (r : Result (Unit {0}) Refusal) → FiledAt O rec slots t e upsert rec' slots' r → Appended O rec slots e upsert rec' slots' r
  appended rec' slots' o (Ok u) f =
      let leaf = leaf_plain rec' slots' t ∙ ap plain f.here ∙ plain_taken O e (ranked_at rec slots t) ∙ ap (append O e) (sym (leaf_plain rec slots t) ∙ sym meant) in
      let row = row_one rec rec' slots slots' t ht f.elsewhere O L e.key 0 size own_aim ∙ ap (λ l. changed O q (one l 0) (row_of rec slots)) leaf in (
        ap (call O e upsert) (node_stands rec slots stands)
            ∙ call_append O e (row_of rec slots) used closed upsert (ap roomy meant ∙ f.room) (λ z. ap (λ l. lookup O q (lives l)) meant ∙ f.unheld z)
            ∙ ap (λ m. record { node = m; answer = filed 0 }) (sym (node_one rec rec' slots slots' t ht f.elsewhere _ stands row)),
        kept_only O rec slots kept t ht rec' slots' o f.sorted,
      )
  appended rec' slots' o (Err r) (inl f) = inl (
    f.0,
    ap (call O e upsert) (node_stands rec slots stands)
        ∙ call_duplicate O e (row_of rec slots) used closed upsert f.2.0 f.1 (ap (λ l. lookup O q (lives l)) meant ∙ f.2.1)
        ∙ ap (λ m. refusing m Duplicate) (sym (node_stands rec slots stands)),
  )
  appended rec' slots' o (Err r) (inr f) = inr (f.0, λ z. absurd (both_ways _ stands z), λ _. record { full = ap roomy meant ∙ f.1; absent = λ z. ap (λ l. lookup O q (lives l)) meant ∙ f.2 z })
