use Rattle.leaf_table.proofs.States.{sorted_none}
use Rattle.leaf_node.proofs.leaf_node.LeafNode.new.Goals as goal

pub returns : goal.returns
returns g c slots =
    let f = c.new-table.ensures.fresh slots in
    (f.0, record { leaves = λ n _. sorted_none g.K.Equivalent.order _ _ (c.new-table.ensures.blank n); bounds = f.1.table_sorted.bounds })
