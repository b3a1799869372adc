use Rattle.std.proofs.Common.{sym, refl, ap, ◌∙◌, subst, arith}
use Rattle.leaf_table.proofs.Sounds.{table_of}
use Rattle.leaf_node.specs.States.{Kept}
use Rattle.leaf_node.specs.Strikes.{StruckAt}
use Rattle.leaf_node.specs.declared.leaf_node.LeafNode.{LeafNode}
use Rattle.leaf_node.proofs.Steps.{on_err_when, table_sorted}
use Rattle.leaf_node.proofs.Strikes.{asked_of, struck, kept_struck}
use Rattle.leaf_node.proofs.leaf_node.LeafNode.strike_target.Goals as goal

-- The table that is left is compared part by part: a body that sets one of them after the step is judged by that part.
pub returns : goal.returns
returns g c =
    let O = g.K.Equivalent.order in
    let rec = c.args.self.now.table in
    let slots = c.args.slots.now in
    let x = g.Q.Equivalent.spells c.args.key.now in
    let says = g.C.Condition.verdict c.args.condition.now in
    let t = c.target-t.result in
    let aim = c.target-t.ensures in
    let step = c.remove_at in
    let left = step.new.self in
    let e = step.ensures in
    let sorted = λ (k : Kept O rec slots). (table_sorted O rec slots k).leaves t aim.inside in
    record {
      refused = e.refused;
      gone = simp (e.only.gone, c.if-self.false);
      unchanged = on_err_when step.result (λ bad u. ap {B = LeafNode} (λ t. record { table = t }) (sym (table_of left _ refl refl refl (grind (arith, e.only.gone, c.if-self.false, bad))) ∙ u)) e.unchanged;
      struck = λ k.
          let s = table_sorted O rec slots k in
          subst (λ z. StruckAt O says rec slots (O.place x) z step.result)
          (table_of left _ refl refl refl (simp (e.only.gone, c.if-self.false)))
          (struck O g.met.K.Equivalent.lawful says rec slots c.requires c.if-self.false x t aim.inside (aim.aimed s) (aim.leaf s) left step.result (e.struck (sorted k)));
      asked = λ k. asked_of O rec slots c.if-self.false x t (aim.leaf (table_sorted O rec slots k)) g.C.Condition.after c.args.condition.now step.new.condition (e.asked (sorted k));
      kept = λ k. let w = kept_struck O says rec slots k t aim.inside (O.place x) left e.only step.result e.unchanged (e.struck (sorted k)) in record { leaves = w.leaves; bounds = w.bounds };
    }
