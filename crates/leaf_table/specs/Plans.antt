-- What is to become of a leaf that has no room for an entry, by its array alone.
--     planned s full beyond   the plan, where full says that no more children can be, and beyond that the leaf is the unbounded one and the
--                             entry comes after its last use
--     Held s plan s'          the array is frozen where its entries go to other leaves, and is as it was where they stay
use Rattle.std.specs.Prelude.{◌≡◌, ℕ, Bool, cond, ◌&&◌, nat_lt}
use Rattle.ranks.specs.Boundaries.{by_use, live_count, rises, boundary_of}
use Rattle.leaf.specs.Rules.{State, frozen, thawed}
use Rattle.leaf_table.specs.declared.plan.Plan.{Plan}
use Rattle.leaf_table.specs.declared.plan.Plan.TheVariants.{Remake, Full, Downgrade, Split}

-- by the boundary, the live count, and whether all the slots of a full leaf ascend in order of use
abbrev pub plan_by : ℕ × ℕ × Bool → Bool → Bool → Plan
plan_by b full beyond =
    cond (nat_lt b.0 b.1 && full) Full
    (cond (b.2 && beyond) Downgrade
    (cond (nat_lt b.0 b.1) (Split b.0) Remake))

abbrev pub planned : State → Bool → Bool → Plan
planned s full beyond = plan_by (boundary_of (live_count (by_use s.ranks 0 s.uses)) (rises 0 (by_use s.ranks 0 s.uses))) full beyond

abbrev pub Held : State → Plan → State → Type 0
Held s Remake s' = s' ≡ frozen s
Held s (Split b) s' = s' ≡ frozen s
Held s Full s' = s' ≡ thawed (frozen s)
Held s Downgrade s' = s' ≡ thawed (frozen s)
