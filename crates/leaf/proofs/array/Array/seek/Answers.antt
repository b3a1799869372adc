use Rattle.std.proofs.Common.{◌<◌, ◌∙◌, inl, inr, arith}
use Rattle.ranks.specs.Words.{ranks_of}
use Rattle.ranks.proofs.Words.{digits_lt, none_past, none_alone, rank_alone}
use Rattle.leaf.proofs.Turns.{seen_none, seen_skip, seen_before, seen_after, tame_none, tame_less, tame_greater, tame_inside, parted}
use Rattle.leaf.proofs.Sides.{arranged, answered_less, answered_equal, answered_greater}
use Rattle.leaf.proofs.Wholes.{whole_out}
use Rattle.leaf.proofs.array.Array.seek.Goals as goal
use Rattle.leaf.proofs.array.Array.seek.Goals.{then-rank-min_max_rank+then-rank-max_min_rank+in-Less, then-rank-min_max_rank+then-rank-max_min_rank+in-Greater, else-rank-min_max_rank, else-rank-min_max_rank-via-then-rank-min_max_rank+else-rank-max_min_rank, else-rank-min_max_rank-via-else-rank-min_max_rank}

pub loop-pos-init : goal.loop-pos-init
loop-pos-init g c = record { tame = tame_none _; seen = λ _. seen_none _ _ (digits_lt 15 c.args.self.now.metadata) }

pub loop-pos-preserved : goal.loop-pos-preserved
loop-pos-preserved g c =
    let O = g.K.Equivalent.order in
    let P = g.Q.Equivalent.order in
    let A = g.met.Q.Comparable.agree in
    let x = g.Q.Equivalent.spells c.args.key.now in
    let slots = c.args.slots.now in
    let pos = c.loop-pos.pos in
    let t = c.loop-pos.invariant.tame in
    let h : pos < 15 = omega arith in
    let r = c.rank_at-rank.ensures.value ∙ rank_alone c.args.self.now.metadata pos in
    record {
      tame = elim c.if-rank-min_max_rank.branch [
        | then-rank-min_max_rank+then-rank-max_min_rank+in-Less w ↦ rw (w.max_min_rank-is, w.min_max_rank-is, w.min_max_pos-is) (tame_less t h r (omega arith))
        | then-rank-min_max_rank+then-rank-max_min_rank+in-Greater w ↦ rw (w.max_min_rank-is, w.min_max_rank-is, w.min_max_pos-is) (tame_greater t h r (omega arith))
        | else-rank-min_max_rank w ↦ rw (w.max_min_rank-is, w.min_max_rank-is, w.min_max_pos-is) t
      ];
      seen = λ so.
          let s = c.loop-pos.invariant.seen so in
          let o = arranged O slots c.requires g.met.K.Equivalent.lawful (ranks_of c.args.self.now.metadata) (whole_out c.args.self.now.whole).apart so x in
          elim c.if-rank-min_max_rank.branch [
            | then-rank-min_max_rank+then-rank-max_min_rank+in-Less w ↦
                let z = answered_less O P A x slots c.requires pos h c.index-slots-pos.result c.index-slots-pos.is w.in-Less.ensures in
                rw (w.max_min_rank-is, w.min_max_rank-is, r) (seen_after h o s (omega arith) (omega arith) z)
            | then-rank-min_max_rank+then-rank-max_min_rank+in-Greater w ↦
                let z = answered_greater O P A x slots c.requires pos h c.index-slots-pos.result c.index-slots-pos.is w.in-Greater.ensures in
                rw (w.max_min_rank-is, w.min_max_rank-is, r) (seen_before h o s (omega arith) z)
            | else-rank-min_max_rank w ↦
                rw (w.max_min_rank-is, w.min_max_rank-is) (seen_skip h o s (elim w.else-rank-min_max_rank.branch [
                  | else-rank-min_max_rank-via-then-rank-min_max_rank+else-rank-max_min_rank v ↦ inl (omega arith)
                  | else-rank-min_max_rank-via-else-rank-min_max_rank v ↦ inr (omega arith)
                ]))
          ];
    }

pub returns-in-Equal : goal.returns-in-Equal
returns-in-Equal g c =
    let O = g.K.Equivalent.order in
    let P = g.Q.Equivalent.order in
    let pos = c.loop-pos.pos in
    let h : pos < 15 = omega arith in
    record {
      inside = (h, omega (arith, c.rank_at-rank.ensures.value, rank_alone c.args.self.now.metadata pos));
      sought = λ _. answered_equal O P g.met.Q.Comparable.agree (g.Q.Equivalent.spells c.args.key.now) c.args.slots.now c.requires pos h c.index-slots-pos.result c.index-slots-pos.is c.in-Equal.ensures;
    }

pub returns-after-loop-pos : goal.returns-after-loop-pos
returns-after-loop-pos g c = record {
  inside = tame_inside _ c.loop-pos.invariant.tame;
  sought = λ so. parted _ (none_past c.args.self.now.metadata _ (omega arith)) (digits_lt 15 c.args.self.now.metadata) c.loop-pos.invariant.tame (c.loop-pos.invariant.seen so);
}

pub returns-then-ranks-pos-eq0 : goal.returns-then-ranks-pos-eq0
returns-then-ranks-pos-eq0 g c = record {
  inside = tame_inside _ c.loop-pos.invariant.tame;
  sought = λ so. parted _ (none_alone c.args.self.now.metadata _ c.if-ranks-pos-eq0.true) (digits_lt 15 c.args.self.now.metadata) c.loop-pos.invariant.tame (c.loop-pos.invariant.seen so);
}
