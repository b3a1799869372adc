use Rattle.leaf_table.proofs.Sounds.{sound_out, sound_children}
use Rattle.leaf_table.proofs.table.Table.set_children.Goals as goal

pub invariant_of-self : goal.invariant_of-self
invariant_of-self c = record { sound = ∣ sound_children c.args.children c.requires (sound_out c.args.self.now.sound) ∣₁ }
