use Rattle.std.proofs.Common.{◌≡◌, true, false, ◌⊎◌, set, is_ok, sym, ap, ◌∙◌, subst, inl, inr, arith, rules}
use Rattle.ranks.specs.Dimensions.{slot_pos}
use Rattle.leaf.specs.Rules.{state_of}
use Rattle.leaf.specs.Slots.{sides}
use Rattle.leaf.specs.Seeks.{Inside}
use Rattle.leaf.proofs.Finds.{found_some}
use Rattle.leaf.proofs.Files.{held_room, held_ranks, held_flags, held_took, held_state, held_filled, held_sought, held_back, answers_duplicate, refused, inserted}
use Rattle.leaf.proofs.array.Array.insert.Goals as goal
use Rattle.leaf.proofs.array.Array.insert.Goals.{else-not-upsert-via-then-not-upsert+else-is_ok, else-not-upsert-via-else-not-upsert}

pub returns-then-is_ok-clause-inserted : goal.returns-then-is_ok-clause-inserted
returns-then-is_ok-clause-inserted g c so =
    let O = g.K.Equivalent.order in
    let a = c.args.self.now in
    let h = c.hold_use-guard.result.array.now in
    let e = c.hold_use-guard.ensures.held in
    let slots = c.args.slots.now in
    let x = c.args.entry.key in
    let spot = c.seek-spot.result in
    let back = held_back a h e in
    let inside = subst (λ rs. Inside rs spot) (held_ranks a h e) c.seek-spot.ensures.inside in
    let sought = held_sought a h e O slots spot _ x (g.met.K.Comparable.own x) c.seek-spot.ensures.sought so in
    refused O a slots c.args.entry c.args.upsert _ _
    (answers_duplicate (state_of a) (sides O x slots) c.args.upsert (omega (arith, held_flags a h e)) c.if-not-upsert.true (found_some O g.met.K.Equivalent.lawful a slots c.requires so x spot inside sought ∙ sym c.if-is_ok.ensures.value))
    (search (rules, back)) so

pub invariant_of-guard : goal.invariant_of-guard
invariant_of-guard g c =
    let a = c.args.self.now in
    let h = c.hold_use-guard.result.array.now in
    let e = c.hold_use-guard.ensures.held in
    (∣ held_took a h e c.word_with-guard.result c.slot_pos-pos.result c.seek-spot.result (omega (arith, held_flags a h e)) (c.slot_pos-pos.ensures.value ∙ ap slot_pos c.uses-bitmap_pos.ensures) c.seek-spot.ensures.inside c.word_with-guard.ensures ∣₁, tt)

pub returns-clause-filled : goal.returns-clause-filled
returns-clause-filled g c =
    let a = c.args.self.now in
    let h = c.hold_use-guard.result.array.now in
    let e = c.hold_use-guard.ensures.held in
    held_filled a h e c.word_with-guard.result c.slot_pos-pos.result c.seek-spot.result (omega (arith, held_flags a h e)) (c.slot_pos-pos.ensures.value ∙ ap slot_pos c.uses-bitmap_pos.ensures) c.seek-spot.ensures.inside c.word_with-guard.ensures _ (search rules)

pub returns-clause-inserted : goal.returns-clause-inserted
returns-clause-inserted g c so =
    let O = g.K.Equivalent.order in
    let a = c.args.self.now in
    let h = c.hold_use-guard.result.array.now in
    let e = c.hold_use-guard.ensures.held in
    let slots = c.args.slots.now in
    let new = c.args.entry in
    let spot = c.seek-spot.result in
    let at = c.slot_pos-pos.ensures.value ∙ ap slot_pos c.uses-bitmap_pos.ensures in
    let z = held_flags a h e in
    let inside = subst (λ rs. Inside rs spot) (held_ranks a h e) c.seek-spot.ensures.inside in
    let sought = held_sought a h e O slots spot _ new.key (g.met.K.Comparable.own new.key) c.seek-spot.ensures.sought so in
    let free : (c.args.upsert ≡ true) ⊎ (is_ok spot ≡ false) = elim c.else-not-upsert.branch [
      | else-not-upsert-via-then-not-upsert+else-is_ok w ↦ inr (sym w.if-is_ok.ensures.value)
      | else-not-upsert-via-else-not-upsert w ↦ inl w.if-not-upsert.false
    ] in
    inserted O g.met.K.Equivalent.lawful a slots c.requires new so spot inside sought c.args.upsert _ _ (held_room a h e) (omega arith) free (search rules ∙ held_state a h e c.word_with-guard.result c.slot_pos-pos.result spot (omega arith) at c.seek-spot.ensures.inside c.word_with-guard.ensures) (ap (λ p. set slots p new) at)
