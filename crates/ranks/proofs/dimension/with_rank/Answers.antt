use Rattle.std.proofs.Common.{◌+◌, ◌-◌, arith}
use Rattle.ranks.proofs.Words.{put, put_room}
use Rattle.ranks.proofs.dimension.with_rank.Goals as goal

pub overflow_sub-result : goal.overflow_sub-result
overflow_sub-result c = grind (arith, put_room c.args.metadata c.args.pos (omega arith))

pub overflow_add-result : goal.overflow_add-result
overflow_add-result c =
    let read = put c.args.metadata c.args.pos c.args.rank (c.args.metadata - c.field.result + c.field-2.result) (omega arith) (omega arith) (grind (arith, put_room c.args.metadata c.args.pos (omega arith))) in
    omega (arith, read.flags)

pub returns : goal.returns
returns c = put c.args.metadata c.args.pos c.args.rank _ (omega arith) (omega arith) (grind (arith, put_room c.args.metadata c.args.pos (omega arith)))
