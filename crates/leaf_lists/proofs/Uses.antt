-- The leaf of some uses, one use at a time.
--     Step     use b, and the uses after it
use Rattle.std.proofs.Common.{◌≡◌, ℕ, suc, ◌+◌, ◌<◌, ◌≢◌, ◌⊎◌, List, ◌∷◌, length, get_or, Some, ap, ◌∙◌, inl, inr, ⊎_elim, arith}
use Rattle.std.specs.List.{slice_get}
use Rattle.std.proofs.lemmas.Bool.{cases_lt, eq-eqb, ne_eqb, cond-true, cond-false}
use Rattle.ranks.specs.Dimensions.{slot_pos}
use Rattle.ranks.proofs.Uses.{slot_lt, slot_once}
use Rattle.lists.specs.Leaves.{live, dead}
use Rattle.leaf.specs.declared.data_block.Slot.{Slot}
use Rattle.leaf.proofs.Sides.{nth_in}
use Rattle.leaf_lists.specs.Stands.{entry_of, marked, onto, leaf_from}

-- an earlier use took another slot
pub slot_other : (u i : ℕ) → u < 15 → i < u → slot_pos i ≢ slot_pos u
slot_other u i h l e = absurd (omega (arith, slot_once i u (omega arith) h e))

module _ {K V : Type 0} where
  pub marked_dead : (r : ℕ) (s : Slot K V) → r ≡ 0 → marked r s ≡ dead (entry_of s)
  marked_dead r s z = cond-true _ _ _ (eq-eqb r 0 z)

  pub marked_live : (r : ℕ) (s : Slot K V) → 0 < r → marked r s ≡ live (entry_of s)
  marked_live r s h = cond-false _ _ _ (ne_eqb r 0 (λ z. omega arith))

module _ {K V : Type 0} (rs : List ℕ) (slots : List (Slot K V)) where
  pub record Dead (b m : ℕ) (s : Slot K V) : Type 0 where
    pub rank : get_or rs (slot_pos b) 0 ≡ 0
    pub is : leaf_from rs slots b (suc m) ≡ dead (entry_of s) ∷ leaf_from rs slots (b + 1) m

  pub record Live (b m : ℕ) (s : Slot K V) : Type 0 where
    pub rank : 0 < get_or rs (slot_pos b) 0
    pub is : leaf_from rs slots b (suc m) ≡ live (entry_of s) ∷ leaf_from rs slots (b + 1) m

  pub record Step (b m : ℕ) : Type 0 where
    pub slot : Slot K V
    pub here : slice_get slots (slot_pos b) ≡ Some slot
    pub mark : Dead b m slot ⊎ Live b m slot

  pub step : length slots ≡ 15 → (b m : ℕ) → b < 15 → Step b m
  step n b m h =
      let s = nth_in slots (slot_pos b) (omega (arith, slot_lt b h)) in
      let r = get_or rs (slot_pos b) 0 in
      let e = ap (λ o. onto r o (leaf_from rs slots (b + 1) m)) s.1 in
      record {
        slot = s.0;
        here = s.1;
        mark = ⊎_elim
            (λ l. inr (record { rank = l; is = e ∙ ap (λ c. c ∷ leaf_from rs slots (b + 1) m) (marked_live r s.0 l) }))
            (λ z. inl (record { rank = omega arith; is = e ∙ ap (λ c. c ∷ leaf_from rs slots (b + 1) m) (marked_dead r s.0 (omega arith)) }))
            (cases_lt 0 r);
      }
