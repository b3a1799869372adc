use Rattle.leaf.proofs.Wholes.{whole_out, whole_freeze}
use Rattle.leaf.proofs.array.Array.freeze.Goals as goal

pub invariant_of-self : goal.invariant_of-self
invariant_of-self c = record { whole = ∣ whole_freeze (whole_out c.args.self.now.whole) _ c.freeze-self.ensures ∣₁ }
