use Rattle.std.proofs.Common.{◌%◌, ◌^◌}
use Rattle.ranks.specs.Words.{ranks_of}
use Rattle.ranks.specs.Indexes.{Indexed}
use Rattle.ranks.proofs.array_iter.build_index.Given as goal

abbrev pub invariant-loop-pos : goal.invariant-loop-pos
invariant-loop-pos l = Indexed (ranks_of (l.metadata % 2 ^ 60)) l.pos l.index
