-- A row of leaves of any kind, bounded children in order of bound and last the unbounded leaf: the target of a place, and what becomes of it.
use Rattle.std.specs.Prelude.{◌≡◌, ℕ, Bool, true, false, cond, ◌⊎◌, List, [], ◌∷◌}
use mathlib.Core.List.{Memᴰ}
use Rattle.std.specs.List.{AllByRecursion}
use Rattle.keys.specs.Orders.{Order, before, within}

pub data Row (K L : Type 0) : Type 0 where
  edge : L → Row K L
  child : K → L → Row K L → Row K L

-- What filing makes of the target: one leaf in its place, or two with a new bound between them, or nothing for want of room.
-- The number is the moved count.
pub data Change (K L : Type 0) : Type 0 where
  one : L → ℕ → Change K L
  two : L → K → L → ℕ → Change K L
  no_room : Change K L

module _ {K L : Type 0} where
  -- some child is bounded
  abbrev pub bounded : Row K L → Bool
  bounded (edge l) = false
  bounded (child b l r) = true

  -- the bounded children, each its bound and its leaf, and the bounds alone
  abbrev pub children : Row K L → List (K × L)
  children (edge l) = []
  children (child b l r) = (b, l) ∷ children r

  abbrev pub bounds : Row K L → List K
  bounds (edge l) = []
  bounds (child b l r) = b ∷ bounds r

  abbrev pub unbounded : Row K L → L
  unbounded (edge l) = l
  unbounded (child b l r) = unbounded r

  -- all leaves, the unbounded one last
  abbrev pub leaves : Row K L → List L
  leaves (edge l) = l ∷ []
  leaves (child b l r) = l ∷ leaves r

module _ {K L : Type 0} (O : Order K) where
  -- the target of a place: the leaf of the first child whose bound is not before it, else the unbounded leaf
  abbrev pub target : O.Place → Row K L → L
  target p (edge l) = l
  target p (child b l r) = cond (within O b p) l (target p r)

  -- the target is the unbounded leaf
  abbrev pub at_edge : O.Place → Row K L → Bool
  at_edge p (edge l) = true
  at_edge p (child b l r) = cond (within O b p) false (at_edge p r)

  abbrev pub changed_child : Change K L → K → L → Row K L → Row K L
  changed_child (one m _) b l r = child b m r
  changed_child (two low c high _) b l r = child c low (child b high r)
  changed_child no_room b l r = child b l r

  abbrev pub changed_edge : Change K L → L → Row K L
  changed_edge (one m _) l = edge m
  changed_edge (two low c high _) l = child c low (edge high)
  changed_edge no_room l = edge l

  -- the row with its target changed
  abbrev pub changed : O.Place → Change K L → Row K L → Row K L
  changed p c (edge l) = changed_edge c l
  changed p c (child b l r) = cond (within O b p) (changed_child c b l r) (child b l (changed p c r))

  -- the row with `after` of its target; a bounded target of which nothing is left leaves the row
  abbrev pub lessened : (L → L) → (L → Bool) → O.Place → Row K L → Row K L
  lessened after gone p (edge l) = edge (after l)
  lessened after gone p (child b l r) = cond (within O b p) (cond (gone (after l)) r (child b (after l) r)) (child b l (lessened after gone p r))

module _ {K : Type 0} (O : Order K) where
  -- the bounds ascend strictly
  abbrev pub Rising : List K → Type 0
  Rising [] = Unit {0}
  Rising (b ∷ bs) = AllByRecursion (λ c. O.way (O.place b) (O.place c) ≡ before) bs × Rising bs

module _ {K L : Type 0} (O : Order K) where
  -- l is the leaf of a child whose bound is the least of those not before p
  pub record Least (p : O.Place) (r : Row K L) (l : L) : Type 0 where
    pub bound : K
    pub stands : Memᴰ (bound, l) (children r)
    pub fits : within O bound p ≡ true
    pub least : AllByRecursion (λ c. within O c p ≡ true → (c ≡ bound) ⊎ (O.way (O.place bound) (O.place c) ≡ before)) (bounds r)

  -- l is the leaf of the child with the least bound not before p, or the unbounded leaf if every bound is before p
  abbrev pub Targets : O.Place → Row K L → L → Type 0
  Targets p r l = Least p r l ⊎ (AllByRecursion (λ c. within O c p ≡ false) (bounds r) × (l ≡ unbounded r))
