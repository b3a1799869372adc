use Rattle.std.proofs.Common.{arith}
use Rattle.std.proofs.lemmas.Bool.Decides.{nat_tests}
use Rattle.ranks.specs.Words.{ranks_of}
use Rattle.ranks.proofs.Scores.{by_use_more}
use Rattle.ranks.proofs.boundary.score.Goals as goal

pub loop-bitmap_pos-preserved : goal.loop-bitmap_pos-preserved
loop-bitmap_pos-preserved c =
    let more = by_use_more (ranks_of c.args.metadata) c.args.uses c.loop-bitmap_pos.bitmap_pos c.loop-bitmap_pos-test.true in
    grind (arith, nat_tests)
