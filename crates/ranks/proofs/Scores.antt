-- A count of live ranks and rises over the uses: what is left of the uses, beside what is counted, comes to the whole.
use Rattle.std.proofs.Common.{◌≡◌, ℕ, suc, ◌+◌, ◌-◌, ◌*◌, ◌<◌, ◌≤◌, List, ◌∷◌, get_or, ap, arith}
use Rattle.ranks.specs.Dimensions.{slot_pos}
use Rattle.ranks.specs.Boundaries.{by_use, live_count, rises}

pub record Counted (rs : List ℕ) (uses b prev doubled len : ℕ) : Type 0 where
  pub rising : 2 * rises prev (by_use rs b (uses - b)) + doubled ≡ 2 * rises 0 (by_use rs 0 uses) + 1
  pub live : live_count (by_use rs b (uses - b)) + len ≡ live_count (by_use rs 0 uses)
  pub few : doubled ≤ 2 * b + 1
  pub within : len ≤ b

pub by_use_more : (rs : List ℕ) (uses b : ℕ) → b < uses → by_use rs b (uses - b) ≡ get_or rs (slot_pos b) 0 ∷ by_use rs (b + 1) (uses - (b + 1))
by_use_more rs uses b h = let e : uses - b ≡ suc (uses - (b + 1)) = omega arith in ap (by_use rs b) e
