use Rattle.std.proofs.Common.{◌≡◌, ◌+◌, ◌≤◌, drop, fold}
use Rattle.keys.specs.Conditions.{yeses}
use Rattle.keys.proofs.condition.count_if.Given as goal

-- what was counted, and what the rest will count, is the whole
abbrev pub invariant-loop-value : goal.invariant-loop-value
invariant-loop-value g l =
    (l.n ≤ l.value-index)
    × (l.n + yeses g.C.Condition.verdict g.C.Condition.after l.condition (drop l.value-index l.values) ≡ yeses g.C.Condition.verdict g.C.Condition.after l.initial.condition l.values)
    × (fold g.C.Condition.after l.condition (drop l.value-index l.values) ≡ fold g.C.Condition.after l.initial.condition l.values)
