use Rattle.ranks.specs.Words.{ranks_of}
use Rattle.ranks.proofs.Scores.{Counted}
use Rattle.ranks.proofs.boundary.score.Given as goal

abbrev pub invariant-loop-bitmap_pos : goal.invariant-loop-bitmap_pos
invariant-loop-bitmap_pos l = Counted (ranks_of l.metadata) l.uses l.bitmap_pos l.prev_rank l.doubled l.len
