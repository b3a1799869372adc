use Rattle.std.proofs.Common.{refl}
use Rattle.leaf.specs.Rules.{state_of}
use Rattle.leaf.proofs.Wholes.{made_same, whole_out, whole_less, less_ones, spare_some}
use Rattle.leaf.proofs.exit_guard.GiveBackOnExit.exit.Goals as goal

pub invariant_of-array : goal.invariant_of-array
invariant_of-array c =
    let a = c.args.array.now in
    record { whole = ∣ whole_less (whole_out a.whole) (spare_some (state_of a) c.requires) c.requires.0 c.requires.1 ∣₁ }

pub returns : goal.returns
returns c =
    let a = c.args.array.now in
    made_same refl (less_ones (whole_out a.whole) (spare_some (state_of a) c.requires)) refl
