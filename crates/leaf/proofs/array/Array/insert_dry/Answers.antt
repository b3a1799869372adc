use Rattle.std.proofs.Common.{refl, ap, ◌∙◌, subst, arith}
use lib.Count.{ones}
use Rattle.ranks.specs.Dimensions.{slot_pos}
use Rattle.ranks.specs.Words.{ranks_of, flags_of, Reads}
use Rattle.ranks.proofs.Words.{length_digits}
use Rattle.ranks.proofs.Uses.{ones_more, slot_lt}
use Rattle.leaf.specs.Seeks.{taken}
use Rattle.leaf.proofs.Effects.{took}
use Rattle.leaf.proofs.Finds.{filed_is}
use Rattle.leaf.proofs.Wholes.{made_same, whole_out, whole_more, whole_took, not_full}
use Rattle.leaf.proofs.array.Array.insert_dry.Goals as goal

pub word_with-requires : goal.word_with-requires
word_with-requires g c = record {
  inside = c.seek-spot.ensures.inside;
  room = λ p. omega (arith, (not_full c.args.self.now c.requires.room).0, (whole_out c.args.self.now.whole).bound p);
  free = c.slot_pos.ensures.inside;
}

pub returns : goal.returns
returns g c =
    let a = c.args.self.now in
    let rs = ranks_of a.metadata in
    let w = whole_out a.whole in
    let u = ones a.bitmap in
    let full = not_full a c.requires.room in
    let spot = c.seek-spot.result in
    let i = c.seek-spot.ensures.inside in
    let at = c.slot_pos.ensures.value ∙ ap slot_pos c.uses-bitmap_pos.ensures in
    let r = subst (λ p. Reads c.word_with.result (taken rs spot p) (flags_of a.metadata)) at c.word_with.ensures in
    record {
      next = c.uses-bitmap_pos.ensures;
      fits = whole_took (whole_more w full.0) u c.word_with.result (taken rs spot (slot_pos u)) (ones_more a.bitmap) full.1 r (took rs spot u (slot_pos u) (length_digits 15 a.metadata) (slot_lt u full.0) i w.bound w.apart);
      word = λ so. made_same (r.ranks ∙ filed_is g.K.Equivalent.order g.met.K.Equivalent.lawful a c.args.slots.now c.requires.size so (g.Q.Equivalent.spells c.args.key.now) spot (slot_pos u) i (c.seek-spot.ensures.sought so)) refl r.flags;
    }
