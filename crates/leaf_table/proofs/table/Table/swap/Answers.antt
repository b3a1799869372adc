use Rattle.std.proofs.Common.{arith}
use Rattle.leaf_table.proofs.Sounds.{sound_out, sound_swap}
use Rattle.leaf_table.proofs.table.Table.swap.Goals as goal

pub invariant_of-self : goal.invariant_of-self
invariant_of-self c =
    let s = sound_out c.args.self.now.sound in
    record { sound = ∣ sound_swap c.args.self.now.seats _ c.args.s c.args.t (omega (arith, c.requires.0, s.places)) (omega (arith, c.requires.1, s.places)) c.swap.ensures.after s ∣₁ }
