use Rattle.leaf.proofs.Wholes.{whole_out, whole_thaw}
use Rattle.leaf.proofs.array.Array.unfreeze.Goals as goal

pub invariant_of-self : goal.invariant_of-self
invariant_of-self c = record { whole = ∣ whole_thaw (whole_out c.args.self.now.whole) _ c.unfreeze-self.ensures ∣₁ }
