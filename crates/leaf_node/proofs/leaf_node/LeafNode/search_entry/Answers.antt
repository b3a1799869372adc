use Rattle.leaf_node.proofs.Steps.{table_sorted}
use Rattle.leaf_node.proofs.leaf_node.LeafNode.search_entry.Goals as goal

pub returns : goal.returns
returns g c =
    let sorted = table_sorted g.K.Equivalent.order c.args.self.now.table c.args.slots.now in
    record { answer = λ k. c.search_entry.ensures.answer (sorted k); entry = λ k. c.search_entry.ensures.entry (sorted k) }
