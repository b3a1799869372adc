-- A leaf with its ranks: the slots in order of use, each with its rank, which is 0 once it is dead; and the rules for ranks.
--     plain l        the leaf without the ranks
--     anew es        a leaf made anew of the entries es
--     cleared O p l  once the live slot at p is struck
--     taken O e l    once e takes the next use
--     ranking O      this way to keep a leaf
use Rattle.std.specs.Prelude.{ℕ, suc, ◌+◌, max, cond, ◌&&◌, List, [], ◌∷◌, ◌++◌, ◌==◌, nat_lt}
use Rattle.keys.specs.Orders.{Order, precedes, meets}
use Rattle.ranks.specs.Words.{lift}
use Rattle.lists.specs.Leaves.{Entry, live, dead, Leaf, placed}
use Rattle.ranked_leaves.specs.Keepings.{Keeping}

pub record Ranked (K V : Type 0) : Type 0 where
  pub rank : ℕ
  pub entry : Entry K V

abbrev pub RankedLeaf : Type 0 → Type 0 → Type 0
RankedLeaf K V = List (Ranked K V)

module _ {K V : Type 0} where
  -- without the ranks
  abbrev pub plain : RankedLeaf K V → Leaf K V
  plain [] = []
  plain (x ∷ l) = cond (x.rank == 0) (dead x.entry) (live x.entry) ∷ plain l

  -- entries that start with the ranks n, n + 1, ..
  abbrev pub numbered : ℕ → List (Entry K V) → RankedLeaf K V
  numbered n [] = []
  numbered n (e ∷ es) = record { rank = n; entry = e } ∷ numbered (suc n) es

  -- a leaf made anew: use i starts with rank i + 1
  abbrev pub anew : List (Entry K V) → RankedLeaf K V
  anew es = numbered 1 es

  -- each rank above low rises by one
  abbrev pub raised : ℕ → RankedLeaf K V → RankedLeaf K V
  raised low [] = []
  raised low (x ∷ l) = record { rank = lift low x.rank; entry = x.entry } ∷ raised low l

module _ {K V : Type 0} (O : Order K) where
  -- the rank of the live slot at a place, 0 if there is none
  abbrev pub rank_of : O.Place → RankedLeaf K V → ℕ
  rank_of p [] = 0
  rank_of p (x ∷ l) = cond (nat_lt 0 x.rank && meets O p (placed O x.entry)) x.rank (rank_of p l)

  -- the greatest live rank before a place, 0 if there is none
  abbrev pub below : O.Place → RankedLeaf K V → ℕ
  below p [] = 0
  below p (x ∷ l) = max (cond (precedes O (placed O x.entry) p) x.rank 0) (below p l)

  -- the slots of a place get rank 0
  abbrev pub cleared : O.Place → RankedLeaf K V → RankedLeaf K V
  cleared p [] = []
  cleared p (x ∷ l) = record { rank = cond (meets O p (placed O x.entry)) 0 x.rank; entry = x.entry } ∷ cleared p l

  -- An entry takes the next use. A new one gets one more than the greatest live rank before it, and each rank above that rises by one; one
  -- whose place is live takes over its rank, and the old slot gets 0.
  abbrev pub taken : Entry K V → RankedLeaf K V → RankedLeaf K V
  taken e l =
      cond (rank_of (placed O e) l == 0)
      (raised (below (placed O e) l) l ++ record { rank = below (placed O e) l + 1; entry = e } ∷ [])
      (cleared (placed O e) l ++ record { rank = rank_of (placed O e) l; entry = e } ∷ [])

  abbrev pub ranking : Keeping K V (RankedLeaf K V)
  ranking = record { plain = plain; add = taken; anew = anew }
