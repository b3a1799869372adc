-- The cases of a row whose target is changed.
use Rattle.std.proofs.Common.{◌≡◌, Bool, true, false, cond, refl}
use Rattle.keys.specs.Orders.{Order, within}
use Rattle.lists.specs.Rows.{Row, edge, child, Change, target, changed_child, changed_edge, changed, lessened}
use Rattle.lists.proofs.Cases.{by_cond}

module _ {K A : Type 0} (O : Order K) where
  -- what holds at the target, seen as the only leaf of the row or as its first, and passes on to longer rows
  pub by_changed :
      (q : O.Place) (c : Change K A) (P : A → Row K A → Row K A → Type 0)
      → ((l : A) → P l (edge l) (changed_edge O c l))
      → ((b : K) (l : A) (r : Row K A) → within O b q ≡ true → P l (child b l r) (changed_child O c b l r))
      → ((b : K) (l : A) (r : Row K A) → within O b q ≡ false → P (target O q r) r (changed O q c r) → P (target O q r) (child b l r) (child b l (changed O q c r)))
      → (r : Row K A) → P (target O q r) r (changed O q c r)
  by_changed q c P last here on (edge l) = last l
  by_changed q c P last here on (child b l r) =
      (elim (within O b q) as (λ w. within O b q ≡ w → P (cond w l (target O q r)) (child b l r) (cond w (changed_child O c b l r) (child b l (changed O q c r)))) [
        | true ↦ here b l r
        | false ↦ λ e. on b l r e (by_changed q c P last here on r)
      ]) refl

  pub by_lessened :
      (q : O.Place) (after : A → A) (gone : A → Bool) (P : Row K A → Row K A → Type 0)
      → ((l : A) → P (edge l) (edge (after l)))
      → ((b : K) (l : A) (r : Row K A) → within O b q ≡ true → gone (after l) ≡ true → P (child b l r) r)
      → ((b : K) (l : A) (r : Row K A) → within O b q ≡ true → gone (after l) ≡ false → P (child b l r) (child b (after l) r))
      → ((b : K) (l : A) (r : Row K A) → within O b q ≡ false → P r (lessened O after gone q r) → P (child b l r) (child b l (lessened O after gone q r)))
      → (r : Row K A) → P r (lessened O after gone q r)
  by_lessened q after gone P last leaves stays on (edge l) = last l
  by_lessened q after gone P last leaves stays on (child b l r) =
      by_cond (P (child b l r)) (within O b q)
      (λ e. by_cond (P (child b l r)) (gone (after l)) (leaves b l r e) (stays b l r e))
      (λ e. on b l r e (by_lessened q after gone P last leaves stays on r))
