use Rattle.std.proofs.Common.{refl}
use lib.Count.{ones}
use Rattle.ranks.specs.Words.{digits}
use Rattle.leaf.proofs.Wholes.{whole_fresh}
use Rattle.leaf.proofs.array.Array.new.Goals as goal

pub invariant_of-result : goal.invariant_of-result
invariant_of-result c = record { whole = ∣ whole_fresh ∣₁ }

pub returns : goal.returns
unfolding digits ones
returns c = refl
