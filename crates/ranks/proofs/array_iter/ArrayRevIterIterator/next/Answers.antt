use Rattle.std.proofs.Common.{arith}
use Rattle.std.proofs.lemmas.Bool.Decides.{nat_tests}
use Rattle.ranks.proofs.Cursors.{down_none, down_some, gives_fewer}
use Rattle.ranks.proofs.array_iter.ArrayRevIterIterator.next.Goals as goal

pub returns-in_err-rank-clause-steps : goal.returns-in_err-rank-clause-steps
returns-in_err-rank-clause-steps c =
    down_none _ _ _ c.from_residual.ensures (omega arith) (grind (arith, nat_tests)) (grind (arith, nat_tests)) c.in_err-rank.ensures.skipped

pub returns : goal.returns
returns c =
    let steps = down_some _ _ _ _ _ c.give.ensures (omega arith) (grind (arith, nat_tests)) (grind (arith, nat_tests)) c.in_ok-rank.ensures.found c.in_ok-rank.ensures.skipped in
    record { steps = steps; goes = record { on = λ _. (tt, tt, gives_fewer steps); keeps = tt; rests = λ _. tt } }
