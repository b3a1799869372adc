use Rattle.std.proofs.Common.{get_or, sym, ap, ◌∙◌, arith}
use Rattle.lists.specs.Leaves.{lookup, lives}
use Rattle.leaf_table.specs.Records.{state_no}
use Rattle.leaf_table.specs.States.{part, TableSorted}
use Rattle.leaf_table.proofs.Sounds.{sound_out, state_read}
use Rattle.leaf_table.proofs.States.{found_leaf, found_state}
use Rattle.leaf_table.proofs.table.Table.search_entry.Goals as goal

pub returns : goal.returns
returns g c =
    let O = g.K.Equivalent.order in
    let x = g.Q.Equivalent.spells c.args.key.now in
    let rec = c.args.self.now in
    let slots = c.args.slots.now in
    let n = c.seat-n.result in
    let h = c.seat-n.ensures.inside in
    let at = c.seat-n.ensures.value in
    let d = c.index-self-n.result in
    let entry = λ (k : TableSorted O rec slots).
    found_leaf O g.met.K.Equivalent.lawful x rec slots k c.target.result c.target.ensures.inside (get_or rec.leaves n d)
    (state_read rec.leaves n d (omega (arith, (sound_out rec.sound).table)) ∙ ap (state_no rec.leaves) at)
    c.part.result.now (c.part.ensures.part ∙ ap (λ m. part m slots) at)
    c.part.ensures.long
    c.search_entry.result c.search_entry.ensures
    ∙ sym (ap (λ l. lookup O (O.place x) (lives l)) (c.target.ensures.leaf k)) in
    record { answer = λ k. found_state O (O.place x) rec slots _ c.if-self.false (entry k); entry = λ k _. entry k }
