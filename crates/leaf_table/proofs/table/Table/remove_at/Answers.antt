use Rattle.std.proofs.lemmas.Result.{IfOk-weaker, on_err_weaker}
use Rattle.std.proofs.Common.{get_or, refl}
use Rattle.leaf.specs.Calls.{Struck}
use Rattle.leaf_table.proofs.Sounds.{array_of, leaf_back}
use Rattle.leaf_table.proofs.Strikes.{marked_struck}
use Rattle.leaf_table.proofs.Steps.{Seat, sound_step, at_place, only_put, asked_at, struck_at}
use Rattle.leaf_table.proofs.table.Table.remove_at.Goals as goal

pub invariant_of-self : goal.invariant_of-self
invariant_of-self g c =
    let e = c.remove_in.ensures in
    record { sound = sound_step c.args.self.now c.args.t (record { inside = c.requires.inside; number = c.seat-n.result; is = c.seat-n.ensures.value; past = c.index-leaves-n.result }) c.remove_in.new.array c.remove_in.result (IfOk-weaker c.remove_in.result _ _ (λ _ o m. marked_struck (get_or c.args.self.now.leaves c.seat-n.result c.index-leaves-n.result) _ o.at m o.live o.state) e.struck) e.unchanged }

pub returns : goal.returns
returns g c =
    let O = g.K.Equivalent.order in
    let rec = c.args.self.now in
    let slots = c.args.slots.now in
    let seat : Seat rec c.args.t = record { inside = c.requires.inside; number = c.seat-n.result; is = c.seat-n.ensures.value; past = c.index-leaves-n.result } in
    let a = get_or rec.leaves seat.number seat.past in
    let a' = c.remove_in.new.array in
    let x = g.Q.Equivalent.spells c.args.key.now in
    let c₀ = c.args.condition.now in
    let c' = c.remove_in.new.condition in
    let r = c.remove_in.result in
    let e = c.remove_in.ensures in
    record {
      only = only_put rec c.args.t seat slots a' _ slots (λ _ _ _. refl);
      refused = e.refused;
      unchanged = on_err_weaker r (λ u. leaf_back rec seat.number seat.past a' _ (array_of a' a u)) e.unchanged;
      off = IfOk-weaker r _ _ (λ o. at_place rec c.args.t seat a' (λ v w. Struck v w o)) e.struck;
      struck = λ so. struck_at rec c.args.t seat slots O g.met.K.Equivalent.lawful c.requires.size so g.C.Condition.verdict g.C.Condition.after c₀ x a' c' r e.removed _;
      asked = λ so. asked_at rec c.args.t seat slots O g.met.K.Equivalent.lawful c.requires.size so g.C.Condition.verdict g.C.Condition.after c₀ x a' c' r e.removed;
    }
