use Rattle.std.proofs.Common.{ap, ◌∙◌, arith}
use Rattle.leaf.specs.Rules.{state_of}
use Rattle.leaf.proofs.Files.{held_room, held_bound, held_spare}
use Rattle.leaf.proofs.array.Array.hold_use.Goals as goal

pub returns : goal.returns
returns c =
    let a = c.args.self.now in
    let h = c.new.result.array.now in
    let e = ap state_of c.new.ensures.kept ∙ c.take_use.ensures.state in
    record {
      same_array = c.new.ensures.same_array;
      held = e;
      spare = held_spare a h e;
      room = λ p. omega (arith, held_bound a h e p, held_room a h e);
    }
