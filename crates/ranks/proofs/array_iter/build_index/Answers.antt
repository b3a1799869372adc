use Rattle.std.proofs.Common.{◌%◌, ◌^◌, ◌≤◌, ℕ, List, subst, arith}
use Rattle.ranks.specs.Words.{ranks_of}
use Rattle.ranks.specs.Indexes.{Indexed}
use Rattle.ranks.proofs.Words.{NoneLeft, ranks_alone, none_past, none_above}
use Rattle.ranks.proofs.Cursors.{indexed_all}
use Rattle.ranks.proofs.array_iter.build_index.Goals as goal

-- the pass is at an end where no rank is left
done : (w n : ℕ) (ix : List ℕ) → n ≤ 15 → NoneLeft (ranks_of (w % 2 ^ 60)) n → Indexed (ranks_of (w % 2 ^ 60)) n ix → Indexed (ranks_of w) 15 ix
done w n ix l left s = subst (λ rs. Indexed rs 15 ix) (ranks_alone w) (indexed_all _ n ix l left s)

pub returns-after-loop-pos : goal.returns-after-loop-pos
returns-after-loop-pos c = done _ _ _ (omega arith) (none_past _ c.loop-pos.pos (omega arith)) c.loop-pos.invariant

pub returns-then-ranks-pos-eq0 : goal.returns-then-ranks-pos-eq0
returns-then-ranks-pos-eq0 c = done _ _ _ (omega arith) (none_above _ c.loop-pos.pos c.if-ranks-pos-eq0.true) c.loop-pos.invariant
