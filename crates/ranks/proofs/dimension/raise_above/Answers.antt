use Rattle.std.proofs.Common.{◌+◌, ℕ, subst, arith}
use Rattle.ranks.specs.Words.{ranks_of, flags_of, Reads, lifted}
use Rattle.ranks.proofs.Words.{NoneLeft, none_past, none_alone, rank_alone}
use Rattle.ranks.proofs.Lifts.{lift_up, lift_flat, lifting, lifting_seen, lifting_all}
use Rattle.ranks.proofs.dimension.raise_above.Goals as goal
use Rattle.ranks.proofs.dimension.raise_above.Goals.{then-rank_at-low, else-rank_at-low}

pub overflow_add-raised : goal.overflow_add-raised
overflow_add-raised c =
    let up = lifting_seen _ _ _ _ 1 (c.loop-pos.raised + c.field-raised.result) c.loop-pos-test.true c.loop-pos.invariant (omega (arith, c.field-raised.ensures)) (lift_up _ _ (omega (arith, c.rank_at.ensures.value, rank_alone c.args.metadata c.loop-pos.pos))) (omega (arith, c.requires c.loop-pos.pos)) in
    omega (arith, up.flags)

pub loop-pos-preserved : goal.loop-pos-preserved
loop-pos-preserved c =
    elim c.if-rank_at-low.branch [
      | then-rank_at-low w ↦ lifting_seen _ _ _ _ 1 _ c.loop-pos-test.true c.loop-pos.invariant (omega (arith, w.raised-is, w.field-raised.ensures)) (lift_up _ _ (omega (arith, c.rank_at.ensures.value, rank_alone c.args.metadata c.loop-pos.pos))) (omega (arith, c.requires c.loop-pos.pos))
      | else-rank_at-low w ↦ lifting_seen _ _ _ _ 0 _ c.loop-pos-test.true c.loop-pos.invariant (omega (arith, w.raised-is)) (lift_flat _ _ (omega (arith, c.rank_at.ensures.value, rank_alone c.args.metadata c.loop-pos.pos))) (omega (arith, c.requires c.loop-pos.pos))
    ]

-- the pass is at an end where no rank is left
done : (w low n raised : ℕ) → NoneLeft (ranks_of w) n → Reads raised (lifting low (ranks_of w) n) (flags_of w) → Reads raised (lifted low (ranks_of w)) (flags_of w)
done w low n raised h = subst (λ ds. Reads raised ds (flags_of w)) (lifting_all low (ranks_of w) n h)

pub returns-after-loop-pos : goal.returns-after-loop-pos
returns-after-loop-pos c = done _ _ _ _ (none_past c.args.metadata c.loop-pos.pos (omega arith)) c.loop-pos.invariant

pub returns-then-ranks-pos-eq0 : goal.returns-then-ranks-pos-eq0
returns-then-ranks-pos-eq0 c = done _ _ _ _ (none_alone c.args.metadata c.loop-pos.pos c.if-ranks-pos-eq0.true) c.loop-pos.invariant
