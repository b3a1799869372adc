use Rattle.std.proofs.Common.{eqb, ap, ◌∙◌}
use Rattle.ranks.specs.Words.{ranks_of}
use Rattle.ranks.proofs.Words.{rests_at_start, empty_encode}
use Rattle.ranks.proofs.dimension.is_empty.Goals as goal

pub returns : goal.returns
returns c = ap (λ x. eqb x 0) (rests_at_start c.args.metadata) ∙ empty_encode (ranks_of c.args.metadata)
