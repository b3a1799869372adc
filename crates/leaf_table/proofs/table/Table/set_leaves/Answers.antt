use Rattle.leaf_table.proofs.Sounds.{sound_out, sound_leaves}
use Rattle.leaf_table.proofs.table.Table.set_leaves.Goals as goal

pub invariant_of-self : goal.invariant_of-self
invariant_of-self c = record { sound = ∣ sound_leaves c.args.leaves c.requires.table c.requires.marked (sound_out c.args.self.now.sound) ∣₁ }
