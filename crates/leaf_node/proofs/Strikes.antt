-- A strike in the target of a node.
use Rattle.std.proofs.Common.{Result, Ok, Err, OnErr, ◌≡◌, ℕ, ◌≤◌, Bool, true, false, cond, List, length, get_or, sym, refl, ap, ◌∙◌, subst, inl, inr}
use Rattle.std.proofs.lemmas.Bool.{cond-true, cond-false}
use Rattle.std.proofs.Math.Bool.{or-false}
use Rattle.keys.specs.Orders.{Order, Ordered, within}
use Rattle.keys.specs.declared.refusal.Refusal.{Refusal}
use Rattle.keys.specs.declared.refusal.Refusal.TheVariants.{NotStruck}
use Rattle.ranks.specs.Words.{is_retired}
use Rattle.lists.specs.Leaves.{Leaf, lives, spent, lookup, kill}
use Rattle.lists.specs.Rows.{Row, edge, child, one, bounded, target, changed}
use Rattle.lists.specs.Nodes.{gone, sheet, refusing, killed, settled, strike_held, strike}
use Rattle.lists.specs.Nodes as nodes
use Rattle.leaf.specs.Rules.{state_of}
use Rattle.leaf.specs.Slots.{sides}
use Rattle.leaf.specs.declared.data_block.Slot.{Slot}
use Rattle.leaf.specs.declared.result.RemoveOutcome.{RemoveOutcome}
use Rattle.leaf.specs.declared.result.RemoveOutcome.TheVariants.{Success, Retired}
use Rattle.ranked_leaves.specs.Ranked.{plain}
use Rattle.ranked_leaves.proofs.Ranked.{plain_cleared}
use Rattle.leaf_table.specs.States.{part, leaf_at, ranked_at, row_of, node_of, Aimed}
use Rattle.leaf_table.specs.Changes as table
use Rattle.leaf_table.specs.Changes.{OnlyLeaf, asked}
use Rattle.leaf_table.specs.Strikes.{held_in}
use Rattle.leaf_table.specs.declared.table.Table.{Table}
use Rattle.leaf_table.proofs.Shifts.{lessened_changed}
use Rattle.leaf_table.proofs.States.{node_stands}
use Rattle.leaf_node.specs.States.{Kept}
use Rattle.leaf_node.specs.Strikes.{StruckAt}
use Rattle.leaf_node.proofs.Steps.{kept_only, leaf_plain, row_one, node_one}

-- ---- the leaf lists alone

-- a target that is changed and lives on leaves the rest of the node as it was
settled_changed : {K V : Type 0} (O : Order K) (p : O.Place) (used : ℕ) (closed : Bool) (m : Leaf K V) (r : Row K (Leaf K V)) → spent m ≡ false → settled O (bounded r) (changed O p (one m 0) r) used closed ≡ record { node = sheet (changed O p (one m 0) r) used closed; answer = nodes.struck false }
settled_changed O p used closed m (edge l) h = cond-false _ _ _ h ∙ ap (λ c. record { node = sheet (edge m) used c; answer = nodes.struck false }) (or-false closed)
settled_changed O p used closed m (child b l r) h = elim (within O b p) as (λ w. settled O true (cond w (child b m r) (child b l (changed O p (one m 0) r))) used closed ≡ record { node = sheet (cond w (child b m r) (child b l (changed O p (one m 0) r))) used closed; answer = nodes.struck false }) [ true ↦ refl | false ↦ refl ]

-- ---- a strike in the target, at place t

module _ {K V : Type 0} (O : Order K) (rec : Table) (slots : List (Slot K V)) (stands : rec.gone ≡ false) (x : K) (t : ℕ) (aimed : target O (O.place x) (row_of rec slots) ≡ leaf_at rec slots t) where
  pub seen : lookup O (O.place x) (lives (target O (O.place x) (row_of rec slots))) ≡ lookup O (O.place x) (lives (leaf_at rec slots t))
  seen = ap (λ l. lookup O (O.place x) (lives l)) aimed

  pub asked_of : {C : Type 0} (after : C → V → C) (c c' : C) → c' ≡ asked after c (lookup O (O.place x) (lives (leaf_at rec slots t))) → c' ≡ asked after c (held_in O (O.place x) (node_of rec slots))
  asked_of after c c' e = e ∙ ap (asked after c) (sym (ap (held_in O (O.place x)) (node_stands rec slots stands) ∙ seen))

pub kept_struck : {K V : Type 0} (O : Order K) (says : V → Bool) (rec : Table) (slots : List (Slot K V)) → Kept O rec slots → (t : ℕ) → t ≤ 15 → (p : O.Place) (rec' : Table) → OnlyLeaf rec slots (get_or rec.seats t 0) rec' slots → (r : Result RemoveOutcome Refusal) → OnErr r (rec' ≡ rec) → table.StruckAt O says rec slots t p rec' r → Kept O rec' slots
kept_struck O says rec slots k t ht p rec' o (Ok Success) u s = kept_only O rec slots k t ht rec' slots o s.sorted
kept_struck O says rec slots k t ht p rec' o (Ok Retired) u s = kept_only O rec slots k t ht rec' slots o s.sorted
kept_struck O says rec slots k t ht p rec' o (Err r) u s = subst (λ z. Kept O z slots) (sym u) k

module _ {K V : Type 0} (O : Order K) (L : Ordered O) (says : V → Bool) (rec : Table) (slots : List (Slot K V)) (size : length slots ≡ 270) (stands : rec.gone ≡ false) (x : K) (t : ℕ) (ht : t ≤ 15) (aim : Aimed (state_of rec.children).ranks (sides O x (part 17 slots)) t) (aimed : target O (O.place x) (row_of rec slots) ≡ leaf_at rec slots t) where
  abbrev q : O.Place
  q = O.place x

  abbrev row : Row K (Leaf K V)
  row = row_of rec slots

  abbrev used : ℕ
  used = (state_of rec.children).uses

  abbrev closed : Bool
  closed = is_retired (state_of rec.children).flags

  on : {r : nodes.Done K V} → strike_held O (lookup O q (lives (leaf_at rec slots t))) q says row used closed ≡ r → strike O q says (node_of rec slots) ≡ r
  on e = ap (strike O q says) (node_stands rec slots stands) ∙ ap (λ o. strike_held O o q says row used closed) (seen O rec slots stands x t aimed) ∙ e

  module _ (rec' : Table) where
    -- the leaf of the place is struck
    module _ {last : Bool} (o : table.Struck O says rec slots t q rec' last) where
      killed_here : leaf_at rec' slots t ≡ kill O q (target O q row)
      killed_here = leaf_plain rec' slots t ∙ ap plain o.here ∙ plain_cleared O q (ranked_at rec slots t) ∙ ap (kill O q) (sym (leaf_plain rec slots t) ∙ sym aimed)

      row_struck : row_of rec' slots ≡ changed O q (one (kill O q (target O q row)) 0) row
      row_struck = row_one rec rec' slots slots t ht o.elsewhere O L x 0 size aim ∙ ap (λ l. changed O q (one l 0) row) killed_here

      left : spent (kill O q (target O q row)) ≡ last
      left = ap spent (sym killed_here) ∙ o.left

    pub struck : (r : Result RemoveOutcome Refusal) → table.StruckAt O says rec slots t q rec' r → StruckAt O says rec slots q rec' r
    struck (Ok Success) o =
        on (
        ap (λ z. strike_held O z q says row used closed) o.held
        ∙ cond-true _ _ _ o.said
        ∙ ap (λ r. settled O (bounded row) r used closed) (lessened_changed O (kill O q) spent q 0 row (inr (left o)))
        ∙ settled_changed O q used closed (kill O q (target O q row)) row (left o))
        ∙ ap (λ m. record { node = m; answer = nodes.struck false }) (sym (node_one rec rec' slots slots t ht o.elsewhere _ stands (row_struck o)))
    struck (Ok Retired) o = record { entry = o.entry; held = seen O rec slots stands x t aimed ∙ o.held; said = o.said; row = row_struck o; last = left o }
    struck (Err r) (w, inl z) = (w, on (ap (λ o. strike_held O o q says row used closed) z) ∙ ap (λ m. refusing m NotStruck) (sym (node_stands rec slots stands)))
    struck (Err r) (w, inr e) = (w, on (ap (λ o. strike_held O o q says row used closed) e.1 ∙ cond-false _ _ _ e.2) ∙ ap (λ m. refusing m NotStruck) (sym (node_stands rec slots stands)))
