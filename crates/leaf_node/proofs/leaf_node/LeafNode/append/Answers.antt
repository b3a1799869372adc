use Rattle.std.proofs.Common.{sym, refl, ◌∙◌, subst, arith}
use Rattle.leaf_lists.specs.Stands.{entry_of}
use Rattle.leaf_table.proofs.Sounds.{table_of}
use Rattle.leaf_node.specs.Steps.{Appended}
use Rattle.leaf_node.proofs.Steps.{on_err_when, table_sorted, appended}
use Rattle.leaf_node.proofs.leaf_node.LeafNode.append.Goals as goal

-- The table that is left is compared part by part: a body that sets one of them after the step is judged by that part.
pub returns : goal.returns
returns g c =
    let O = g.K.Equivalent.order in
    let rec = c.args.self.now.table in
    let slots = c.args.slots.now in
    let t = c.target-t.result in
    let aim = c.target-t.ensures in
    let step = c.insert_at in
    let left = step.new.self in
    let e = step.ensures in
    record {
      refused = e.refused;
      gone = simp (e.only.gone, c.if-self.false);
      unchanged = on_err_when step.result (λ bad u. (sym (table_of left _ refl refl refl (grind (arith, e.only.gone, c.if-self.false, bad))) ∙ u.0, u.1)) e.unchanged;
      appended = λ k.
          let s = table_sorted O rec slots k in
          subst (λ z. Appended O rec slots (entry_of c.args.entry) c.args.upsert z step.new.slots step.result)
          (table_of left _ refl refl refl (simp (e.only.gone, c.if-self.false)))
          (appended O g.met.K.Equivalent.lawful rec slots c.requires k c.if-self.false (entry_of c.args.entry) c.args.upsert _ (g.met.K.Comparable.own c.args.entry.key) t aim.inside (aim.aimed s) (aim.leaf s) left step.new.slots e.only step.result (e.filed (s.leaves t aim.inside)));
    }
