use Rattle.std.proofs.Common.{◌≡◌, ◌^◌, sym, refl, ap, ◌∙◌, arith}
use Rattle.std.proofs.lemmas.Bool.Decides.{nat_tests}
use Rattle.ranks.specs.Words.{digits, ranks_of}
use Rattle.ranks.proofs.Words.{empty_read}
use Rattle.ranks.proofs.dimension.cleared.Goals as goal

retired_none : ranks_of (2 ^ 62) ≡ ranks_of 0
unfolding digits
retired_none = refl

pub returns-then-left-eq0 : goal.returns-then-left-eq0
returns-then-left-eq0 c =
    let e = c.with_rank-left.ensures in
    let z = empty_read c.with_rank-left.result _ _ e in
    record {
      ranks = retired_none ∙ ap ranks_of (sym c.if-left-eq0.true) ∙ e.ranks;
      flags = grind (arith, nat_tests);
    }

pub returns-else-left-eq0 : goal.returns-else-left-eq0
returns-else-left-eq0 c =
    let z = empty_read c.with_rank-left.result _ _ c.with_rank-left.ensures in
    grind (arith, nat_tests)
