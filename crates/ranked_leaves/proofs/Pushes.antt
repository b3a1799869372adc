-- A filing with the greatest rank leaves the other ranks as they are.
use Rattle.std.proofs.Common.{◌≡◌, ◌+◌, ◌<◌, List, [], ◌∷◌, ◌++◌, length, get_or, set, None, refl, ap, ◌∙◌, arith}
use lib.Count.{ones}
use Rattle.std.proofs.lemmas.List.{get_or-set_same, get_or-set_other}
use Rattle.ranks.specs.Dimensions.{slot_pos}
use Rattle.ranks.specs.Words.{ranks_of}
use Rattle.ranks.proofs.Uses.{slot_lt}
use Rattle.ranks.proofs.Words.{length_digits}
use Rattle.leaf.specs.Rules.{state_of}
use Rattle.leaf.specs.Calls.{pushed}
use Rattle.leaf.specs.declared.array.Array.{Array}
use Rattle.leaf.specs.declared.data_block.Slot.{Slot}
use Rattle.leaf_lists.specs.Stands.{entry_of}
use Rattle.ranked_leaves.specs.RanksStand.{ranked_in, ranked_of}
use Rattle.leaf_lists.proofs.Uses.{slot_other}
use Rattle.ranked_leaves.proofs.Changes.{changed_push}

rank_last : (a : Array) → ones a.bitmap < 15 → get_or (set (ranks_of a.metadata) (slot_pos (ones a.bitmap)) (ones a.bitmap + 1)) (slot_pos (ones a.bitmap)) 0 ≡ ones a.bitmap + 1
rank_last a room = get_or-set_same (ranks_of a.metadata) (slot_pos (ones a.bitmap)) (ones a.bitmap + 1) 0 (omega (arith, slot_lt (ones a.bitmap) room, length_digits 15 a.metadata))

-- the ranks of the others stay, whatever the slots hold
pub ranked_push : {K V : Type 0} (a : Array) (slots : List (Slot K V)) → length slots ≡ 15 → (new : Slot K V) (a' : Array) (slots' : List (Slot K V)) → ones a.bitmap < 15 → state_of a' ≡ pushed None (state_of a) → slots' ≡ set slots (slot_pos (ones a.bitmap)) new → ranked_of a' slots' ≡ ranked_of a slots ++ record { rank = ones a.bitmap + 1; entry = entry_of new } ∷ []
ranked_push a slots n new a' slots' room st wr =
    let rs = ranks_of a.metadata in
    let u = ones a.bitmap in
    let f = slot_pos u in
    ap (λ s. ranked_in s slots') st
    ∙ changed_push (λ l. l) (λ r e. r) refl (λ x l. refl) rs (set rs f (u + 1)) slots slots' n new u (u + 1) room wr (rank_last a room) (λ i s l _. get_or-set_other rs f (slot_pos i) (u + 1) 0 (slot_other u i room l))
