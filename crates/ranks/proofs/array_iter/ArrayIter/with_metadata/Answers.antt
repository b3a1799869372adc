use Rattle.std.proofs.Common.{sym, subst}
use Rattle.ranks.specs.Words.{ranks_of}
use Rattle.ranks.specs.Indexes.{InOrder}
use Rattle.ranks.proofs.Cursors.{index_order, down_up}
use Rattle.ranks.proofs.array_iter.ArrayIter.with_metadata.Goals as goal

pub returns-clause-forward : goal.returns-clause-forward
returns-clause-forward c = index_order c.args.metadata c.build_index.result c.build_index.ensures

pub returns-clause-backward : goal.returns-clause-backward
returns-clause-backward c apart =
    let s = c.build_index.ensures in
    subst (InOrder (ranks_of c.args.metadata)) (sym (down_up c.build_index.result s.long s.start)) (index_order c.args.metadata c.build_index.result s apart)
