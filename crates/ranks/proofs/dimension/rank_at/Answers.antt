use Rattle.std.proofs.Common.{◌*◌, ◌/◌, ◌^◌, sym, ◌∙◌, arith}
use Rattle.std.proofs.lemmas.Nat.{and_mask}
use Rattle.ranks.proofs.Words.{get_or_digits}
use Rattle.ranks.proofs.dimension.rank_at.Goals as goal

pub returns : goal.returns
returns c =
    let m = and_mask (c.args.metadata / 2 ^ (4 * c.args.pos)) 4 in
    record { value = m ∙ sym (get_or_digits 15 c.args.metadata c.args.pos c.requires); bound = omega arith }
