use Rattle.leaf_table.proofs.States.{found}
use Rattle.leaf_table.proofs.table.Table.target.Goals as goal

pub returns : goal.returns
returns g c =
    let e = c.min_greater_equal.ensures in
    let f = found g.K.Equivalent.order (g.Q.Equivalent.spells c.args.key.now) c.args.self.now c.args.slots.now c.part.result.now c.part.ensures.part c.min_greater_equal.result e.live c.unwrap_or.result c.unwrap_or.ensures g.met.K.Equivalent.lawful c.requires e.least in
    record { inside = f.inside; live = f.live; aimed = f.aimed; leaf = λ k. (f.at k).0; last = λ k. (f.at k).1 }
