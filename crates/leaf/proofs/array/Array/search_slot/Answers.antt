use Rattle.std.proofs.Common.{◌∙◌}
use Rattle.leaf.specs.Rules.{state_of}
use Rattle.leaf.proofs.Finds.{live_ok, found}
use Rattle.leaf.proofs.array.Array.search_slot.Goals as goal

pub returns : goal.returns
returns g c =
    let e = c.seek.ensures in
    record {
      live = rw c.ok.ensures.value (live_ok (state_of c.args.self.now).ranks c.seek.result e.inside);
      found = λ so. c.ok.ensures.value ∙ found g.K.Equivalent.order g.met.K.Equivalent.lawful c.args.self.now c.args.slots.now c.requires so (g.Q.Equivalent.spells c.args.key.now) c.seek.result e.inside (e.sought so);
    }
