use Rattle.std.proofs.Common.{rules, arith}
use Rattle.ranks.proofs.Cursors.{up_none, up_some, gives_fewer}
use Rattle.ranks.proofs.array_iter.ArrayIterIterator.next.Goals as goal

pub returns-in_err-rank-clause-steps : goal.returns-in_err-rank-clause-steps
returns-in_err-rank-clause-steps c = search (rules, up_none)

pub returns : goal.returns
returns c =
    let steps = up_some _ _ _ _ _ c.give.ensures (omega arith) (omega arith) c.in_ok-rank.ensures.found c.in_ok-rank.ensures.skipped in
    record { steps = steps; goes = record { on = λ _. (tt, tt, gives_fewer steps); keeps = tt; rests = λ _. tt } }
