use Rattle.std.proofs.lemmas.Result.{on_ok_weaker, on_err_weaker}
use Rattle.std.proofs.Common.{ap}
use Rattle.leaf.specs.Calls.{Filled}
use Rattle.leaf.specs.Rules.{state_of}
use Rattle.leaf_table.proofs.Sounds.{leaf_back}
use Rattle.leaf_table.proofs.Leaves.{marked_filled}
use Rattle.leaf_table.proofs.Steps.{Seat, sound_step, at_place, only_put, filed_at}
use Rattle.leaf_table.proofs.table.Table.insert_at.Goals as goal

pub invariant_of-self : goal.invariant_of-self
invariant_of-self g c =
    let e = c.insert_in.ensures in
    record { sound = sound_step c.args.self.now c.args.t (record { inside = c.requires.inside; number = c.seat-n.result; is = c.seat-n.ensures.value; past = c.index-leaves-n.result }) c.insert_in.new.array c.insert_in.result (on_ok_weaker c.insert_in.result (λ f _. marked_filled _ _ f) e.filled) (on_err_weaker c.insert_in.result (λ u. ap state_of u.0) e.unchanged) }

pub returns : goal.returns
returns g c =
    let rec = c.args.self.now in
    let slots = c.args.slots.now in
    let seat : Seat rec c.args.t = record { inside = c.requires.inside; number = c.seat-n.result; is = c.seat-n.ensures.value; past = c.index-leaves-n.result } in
    let e = c.insert_in.ensures in
    record {
      only = only_put rec c.args.t seat slots c.insert_in.new.array _ c.insert_in.new.slots e.others;
      refused = e.refused;
      unchanged = on_err_weaker c.insert_in.result (λ u. (leaf_back rec seat.number seat.past c.insert_in.new.array _ u.0, u.1)) e.unchanged;
      filled = on_ok_weaker c.insert_in.result (at_place rec c.args.t seat c.insert_in.new.array Filled) e.filled;
      filed = λ so. filed_at rec c.args.t seat slots g.K.Equivalent.order g.met.K.Equivalent.lawful c.requires.size so c.args.entry c.args.upsert c.insert_in.new.array _ c.insert_in.new.slots e.others c.insert_in.result e.inserted;
    }
