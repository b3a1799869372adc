-- What a record and its slots stand for: a fresh record, the target, and what a find meets.
use Rattle.std.proofs.Common.{◌≡◌, ℕ, zero, suc, ◌<◌, ◌≤◌, false, cond, eqb, List, [], length, get_or, replicate, None, Some, Option, sym, refl, ap, ◌∙◌, subst, ap₂, inl, inr, arith}
use mathlib.Core.Option as lists
use Rattle.std.proofs.lemmas.Bool.{cond-false}
use Rattle.keys.specs.Orders.{Order, Ordered}
use Rattle.ranks.specs.Words.{ranks_of, is_retired}
use Rattle.ranks.proofs.Words.{length_digits, digits_lt}
use Rattle.lists.specs.Leaves.{Entry, lives, lookup}
use Rattle.lists.specs.Rows.{edge, target, at_edge}
use Rattle.lists.specs.Nodes.{gone, sheet, refused, held, told, find}
use Rattle.lists.specs.Nodes as nodes
use Rattle.leaf.specs.Calls.{fresh, entry_at}
use Rattle.std.specs.Option.{unwrap_or}
use Rattle.leaf.specs.Rules.{State, state_of, holder, Live, Least, LeastFrom}
use Rattle.leaf.specs.Slots.{sides, Sorted}
use Rattle.leaf.specs.declared.array.Array.{Array}
use Rattle.leaf.specs.declared.data_block.Slot.{Slot}
use Rattle.leaf.proofs.Wholes.{whole_out}
use Rattle.leaf_lists.specs.Stands.{leaf_in, found_in}
use Rattle.leaf_lists.proofs.Bridge.{bridge}
use Rattle.leaf_table.specs.Records.{state_no}
use Rattle.leaf_table.specs.States.{part, state_at, leaf_at, slots_at, kid, row_of, node_of, TableSorted, Kept, Aimed}
use Rattle.leaf_table.specs.declared.table.Table.{Table}
use Rattle.leaf_table.proofs.Parts.{length_part}
use Rattle.leaf_table.proofs.Rows.{pick_cases, row_end, target_is}

none_live : (m p : ℕ) → get_or {A = ℕ} (replicate m 0) p 0 ≡ 0
none_live zero p = refl
none_live (suc m) zero = refl
none_live (suc m) (suc p) = none_live m p

-- ---- a fresh record

pub sorted_none : {K V : Type 0} (O : Order K) (s : State) (xs : List (Slot K V)) → s ≡ fresh → Sorted O s.ranks xs
sorted_none O s xs e p q a b ea eb l r = absurd (omega (arith, ap (λ s. get_or s.ranks p 0) e, none_live 15 p))

module _ {K V : Type 0} (rec : Table) (slots : List (Slot K V)) (stands : rec.gone ≡ false) (bare : state_of rec.children ≡ fresh) (each : (n : ℕ) → state_no rec.leaves n ≡ fresh) where
  no_kid : (r : ℕ) → 0 < r → kid rec slots r ≡ None
  no_kid r h = elim (pick_cases (state_of rec.children).ranks (part 17 slots) (leaf_at rec slots) r) [
    | inl z ↦ z.is
    | inr z ↦ absurd (omega (arith, z.rank, ap (λ s. get_or s.ranks z.at 0) bare, none_live 15 z.at))
  ]

  pub node_fresh : node_of rec slots ≡ nodes.fresh
  unfolding row_of
  node_fresh =
      ap (λ b. cond b gone (sheet (row_of rec slots) (state_of rec.children).uses (is_retired (state_of rec.children).flags))) stands
      ∙ ap₂ (λ r (s : State). sheet r s.uses (is_retired s.flags))
      (row_end (kid rec slots) (leaf_at rec slots 15) 15 0 no_kid ∙ ap (λ s. edge (leaf_in s (part (get_or rec.seats 15 0) slots))) (each (get_or rec.seats 15 0)))
      bare

  pub kept_fresh : (O : Order K) → Kept O rec slots
  kept_fresh O = record {
    table_sorted = record { leaves = λ t h. sorted_none O _ (slots_at rec slots t) (each (get_or rec.seats t 0)); bounds = sorted_none O _ (part 17 slots) bare };
    reached = ([], sym node_fresh);
  }

-- ---- the target: the pass over the bounds bs finds o, and t is its place

module _ {K V : Type 0} (O : Order K) (x : K) (rec : Table) (slots bs : List (Slot K V)) (are : bs ≡ part 17 slots) (o : Option ℕ) (lives_on : Live (state_of rec.children).ranks o) (t : ℕ) (is : t ≡ unwrap_or o 15) where
  abbrev rs : List ℕ
  rs = (state_of rec.children).ranks

  low_live : (t ≤ 15) × (t < 15 → 0 < get_or rs t 0)
  low_live = by o lives_on is
    where
      by : (o : Option ℕ) → Live rs o → t ≡ unwrap_or o 15 → (t ≤ 15) × (t < 15 → 0 < get_or rs t 0)
      by None l e = (omega arith, λ h. absurd (omega arith))
      by (Some p) l e = (omega (arith, l.0), λ _. subst (λ i. 0 < get_or rs i 0) (sym e) l.1)

  aim_of : (Sorted O rs bs → LeastFrom rs (sides O x bs) o) → TableSorted O rec slots → Aimed rs (sides O x (part 17 slots)) t
  aim_of f k = subst (λ xs. Aimed rs (sides O x xs) t) are (by o is lives_on (f (subst (Sorted O rs) (sym are) k.bounds)))
    where
      by : (o : Option ℕ) → t ≡ unwrap_or o 15 → Live rs o → LeastFrom rs (sides O x bs) o → Aimed rs (sides O x bs) t
      by None e l f = record { child = λ z. absurd (omega arith); none = λ _. f }
      by (Some p) e l f = record { child = λ _. subst (Least rs (sides O x bs)) (sym e) f; none = λ z. absurd (omega (arith, l.0)) }

  pub record Found : Type 0 where
    pub inside : t ≤ 15
    pub live : t < 15 → 0 < get_or rs t 0
    pub aimed : TableSorted O rec slots → Aimed rs (sides O x (part 17 slots)) t
    pub at : TableSorted O rec slots → (target O (O.place x) (row_of rec slots) ≡ leaf_at rec slots t) × (at_edge O (O.place x) (row_of rec slots) ≡ eqb t 15)

  pub found : Ordered O → length slots ≡ 270 → (Sorted O rs bs → LeastFrom rs (sides O x bs) o) → Found
  unfolding row_of
  found L size f = record {
    inside = low_live.0;
    live = low_live.1;
    aimed = aim_of f;
    at = λ k. target_is O L x (ranks_of rec.children.metadata) (part 17 slots) (length_digits 15 rec.children.metadata) (length_part 17 slots size (omega arith)) (whole_out rec.children.whole).apart (leaf_at rec slots) t (aim_of f k) (digits_lt 15 rec.children.metadata) low_live.0;
  }

-- ---- a find

pub node_stands : {K V : Type 0} (rec : Table) (slots : List (Slot K V)) → rec.gone ≡ false → node_of rec slots ≡ sheet (row_of rec slots) (state_of rec.children).uses (is_retired (state_of rec.children).flags)
node_stands rec slots g = cond-false _ _ _ g

module _ {K V : Type 0} (O : Order K) (L : Ordered O) (x : K) (rec : Table) (slots : List (Slot K V)) (table_sorted : TableSorted O rec slots) (t : ℕ) (h : t ≤ 15) (a : Array) (is : state_of a ≡ state_at rec t) (bs : List (Slot K V)) (are : bs ≡ slots_at rec slots t) (len : length bs ≡ 15) where
  sorted_leaf : Sorted O (state_of a).ranks bs
  sorted_leaf = subst (λ s. Sorted O s.ranks bs) (sym is) (subst (Sorted O (state_at rec t).ranks) (sym are) (table_sorted.leaves t h))

  pub found_leaf : (r : Option (Slot K V)) → (Sorted O (state_of a).ranks bs → r ≡ entry_at (holder (state_of a).ranks (sides O x bs)) bs) → found_in r ≡ lookup O (O.place x) (lives (leaf_at rec slots t))
  found_leaf r f =
      ap found_in (f sorted_leaf)
      ∙ ((bridge O L).agrees a bs len sorted_leaf).look x
      ∙ ap₂ (λ s xs. lookup O (O.place x) (lives (leaf_in s xs))) is are

pub found_state : {K V : Type 0} (O : Order K) (p : O.Place) (rec : Table) (slots : List (Slot K V)) (o : lists.Option (Entry K V)) → rec.gone ≡ false → o ≡ held O p (row_of rec slots) → told O o ≡ find O p (node_of rec slots)
found_state O p rec slots o g e = ap (told O) e ∙ sym (ap (find O p) (node_stands rec slots g))
