use Rattle.ranks.specs.Words.{ranks_of, flags_of, Reads}
use Rattle.ranks.proofs.Lifts.{lifting}
use Rattle.ranks.proofs.dimension.raise_above.Given as goal

abbrev pub invariant-loop-pos : goal.invariant-loop-pos
invariant-loop-pos l = Reads l.raised (lifting l.low (ranks_of l.metadata) l.pos) (flags_of l.metadata)
