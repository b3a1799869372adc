use Rattle.std.proofs.Common.{rules}
use Rattle.keys.proofs.Counts.{yeses_first}
use Rattle.keys.proofs.condition.count_first.Goals as goal

pub returns : goal.returns
returns g c = search (rules, yeses_first)
