use Rattle.leaf_table.proofs.Sounds.{sound_out, sound_put}
use Rattle.leaf_table.proofs.table.Table.set_leaf.Goals as goal

pub invariant_of-self : goal.invariant_of-self
invariant_of-self c = record { sound = ∣ sound_put c.args.n c.args.array c.requires.inside c.requires.marked (sound_out c.args.self.now.sound) ∣₁ }
