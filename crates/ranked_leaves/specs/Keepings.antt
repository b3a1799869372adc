-- Ways to keep a leaf, and what an entry makes of its target however leaves are kept.
--     Keeping        the plain leaf that is kept, what one more entry makes of it, and a leaf made anew
--     fit_by O way   what an entry makes of its target, by the steps of a filing
--     listed O       a leaf kept as a list
use Rattle.std.specs.Prelude.{ℕ, Bool, cond, not, ◌&&◌, List, [], ◌∷◌, ◌++◌, map, length, take, drop, ◌==◌, nat_lt, nat_le}
use Rattle.keys.specs.Orders.{Order, precedes}
use Rattle.ranks.specs.Dimensions.{leaf_length, remake_limit, boundary}
use Rattle.lists.specs.Leaves.{Entry, live, Leaf, lives, retired, placed, last_or, ordered, append, rises, ascends}
use Rattle.lists.specs.Rows.{Change, one, two, no_room}

-- A way to keep a leaf: the plain leaf that it is, what one more entry makes of it, and a leaf made anew of entries in order of key.
pub record Keeping (K V L : Type 0) : Type 0 where
  pub plain : L → Leaf K V
  pub add : Entry K V → L → L
  pub anew : List (Entry K V) → L

module _ {K V L : Type 0} (O : Order K) (way : Keeping K V L) where
  -- The B least of the entries es form the low leaf and the rest the high leaf. The bound is the greatest of the low, and the new entry goes
  -- to the high leaf if it is after the bound.
  abbrev pub split_by : Entry K V → List (Entry K V) → ℕ → Change K L
  split_by e es B =
      let low : L = way.anew (take B es) in
      let high : L = way.anew (drop B es) in
      let bound : K = (last_or e (take B es)).key in
      cond (precedes O (O.place bound) (placed O e))
      (two low bound (way.add e high) (length es))
      (two (way.add e low) bound high (length es))

  -- What an entry makes of its target l, where `last` says that l is unbounded, and `room` that a child place is left and children are not
  -- closed. In turn: it takes the next slot; the leaf is made anew from its live entries in order of key; there is no room; a full leaf that
  -- ascends up to the entry becomes a child bounded by its greatest key; a two-way split.
  abbrev pub fit_by : Entry K V → Bool → Bool → L → Change K L
  fit_by e last room l =
      let es : List (Entry K V) = lives (way.plain l) in
      let L : ℕ = length es in
      cond (not (retired (way.plain l)) && nat_lt (length (way.plain l)) leaf_length) (one (way.add e l) 0)
      (cond (nat_le L remake_limit) (one (way.add e (way.anew (ordered O (way.plain l)))) L)
      (cond (not room) no_room
      (cond (last && (L == leaf_length && ascends O (es ++ e ∷ []))) (two l (last_or e es).key (way.anew (e ∷ [])) 0)
      (split_by e (ordered O (way.plain l)) (boundary L (rises O es))))))

module _ {K V : Type 0} (O : Order K) where
  -- a leaf kept as a list
  abbrev pub listed : Keeping K V (Leaf K V)
  listed = record { plain = λ l. l; add = append O; anew = map live }
