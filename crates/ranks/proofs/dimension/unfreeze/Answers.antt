use Rattle.std.proofs.Common.{◌%◌, ◌^◌, arith}
use Rattle.ranks.specs.Words.{flags_of}
use Rattle.ranks.proofs.Words.{restate}
use Rattle.ranks.proofs.dimension.unfreeze.Goals as goal

pub returns : goal.returns
returns c =
    restate c.args.metadata (c.args.metadata % 2 ^ 63) (flags_of c.args.metadata % 8) (omega arith)
