use Rattle.leaf.specs.Slots.{sides, Sorted}
use Rattle.ranks.specs.Words.{ranks_of}
use Rattle.leaf.proofs.Turns.{Seen, Tame}
use Rattle.leaf.proofs.array.Array.seek.Given as goal

abbrev pub invariant-loop-pos : goal.invariant-loop-pos
invariant-loop-pos g l = record {
  tame : Tame (ranks_of l.self.metadata) l.max_min_rank l.min_max_rank l.min_max_pos;
  seen : Sorted g.K.Equivalent.order (ranks_of l.self.metadata) l.slots → Seen (ranks_of l.self.metadata) (sides g.K.Equivalent.order (g.Q.Equivalent.spells l.key) l.slots) l.max_min_rank l.min_max_rank l.pos;
}
