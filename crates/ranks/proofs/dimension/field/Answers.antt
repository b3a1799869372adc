use Rattle.std.proofs.Common.{◌*◌, ◌^◌, ap, ◌∙◌, arith}
use Rattle.std.proofs.lemmas.Nat.{shl_whole}
use Rattle.ranks.proofs.dimension.field.Goals as goal

pub returns : goal.returns
returns c = let e = c.from.ensures in shl_whole c.from.result 4 (4 * c.args.pos) 64 (omega arith) (omega arith) ∙ ap (λ r. r * 2 ^ (4 * c.args.pos)) e
