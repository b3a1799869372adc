use Rattle.std.proofs.Common.{refl, arith}
use Rattle.ranks.proofs.Uses.{ones_more}
use Rattle.leaf.proofs.Wholes.{made_same, whole_out, whole_more, more_fits}
use Rattle.leaf.proofs.array.Array.take_use.Goals as goal

pub overflow_mul-self : goal.overflow_mul-self
overflow_mul-self c = omega (arith, more_fits (whole_out c.args.self.now.whole) c.requires)

pub overflow_add-self : goal.overflow_add-self
overflow_add-self c = omega (arith, more_fits (whole_out c.args.self.now.whole) c.requires)

pub invariant_of-self : goal.invariant_of-self
invariant_of-self c = record { whole = ∣ whole_more (whole_out c.args.self.now.whole) c.requires ∣₁ }

pub returns-clause-state : goal.returns-clause-state
returns-clause-state c =
    let a = c.args.self.now in
    made_same refl (ones_more a.bitmap) refl
