use Rattle.std.proofs.Common.{rules}
use Rattle.leaf.specs.Rules.{state_of}
use Rattle.leaf.proofs.Finds.{live_from, least_from}
use Rattle.leaf.proofs.array.Array.min_greater_equal.Goals as goal

pub returns : goal.returns
returns g c =
    let e = c.seek.ensures in
    record {
      live = live_from (state_of c.args.self.now).ranks c.seek.result _ (search rules) e.inside;
      least = λ so. least_from g.K.Equivalent.order g.met.K.Equivalent.lawful c.args.self.now c.args.slots.now c.requires so (g.Q.Equivalent.spells c.args.key.now) c.seek.result _ (search rules) e.inside (e.sought so);
    }
