use Rattle.std.proofs.Common.{ℕ, refl}
use Rattle.leaf_table.proofs.Sounds.{sound_fresh, all_fresh}
use Rattle.leaf_table.proofs.States.{node_fresh, kept_fresh}
use Rattle.leaf_table.proofs.table.Table.new.Goals as goal

pub invariant_of-result : goal.invariant_of-result
invariant_of-result g c = record { sound = ∣ sound_fresh c.new.result c.new-2.result c.new.ensures c.new-2.ensures ∣₁ }

pub returns-clause-fresh : goal.returns-clause-fresh
returns-clause-fresh g c slots =
    let each = λ (n : ℕ). all_fresh c.new-2.result 17 n c.new-2.ensures in
    (node_fresh _ slots refl c.new.ensures each, kept_fresh _ slots refl c.new.ensures each g.K.Equivalent.order)
