-- Leaves with ranks: without the ranks their functions are those of the leaf lists.
use Rattle.std.proofs.Common.{◌≡◌, ℕ, zero, suc, ◌+◌, ◌<◌, Bool, true, false, cond, ◌||◌, eqb, ◌≢◌, List, [], ◌∷◌, ◌++◌, map, length, Some, None, Option, sym, refl, ap, ◌∙◌, ap₂, ⊎_elim, arith}
use Rattle.std.proofs.lemmas.Bool.{cases_eq, eq-eqb, ne_eqb, cond-true, cond-false}
use Rattle.std.proofs.lemmas.Bool.Decides.{nat_tests}
use Rattle.keys.specs.Orders.{Order, meets}
use Rattle.ranks.specs.Words.{lift}
use Rattle.lists.specs.Leaves.{Entry, live, dead, Leaf, placed, kill, append}
use Rattle.leaf.specs.Rules.{State}
use Rattle.leaf.specs.declared.data_block.Slot.{Slot}
use Rattle.ranked_leaves.specs.Ranked.{RankedLeaf, plain, numbered, anew, raised, rank_of, below, cleared, taken}
use Rattle.leaf_lists.specs.Stands.{onto, leaf_from, leaf_in}
use Rattle.ranked_leaves.specs.RanksStand.{onto_ranked, ranked_from, ranked_in}

zero_lift : (low r : ℕ) → eqb (lift low r) 0 ≡ eqb r 0
zero_lift low r = grind (arith, nat_tests)

zero_cleared : (m : Bool) (r : ℕ) → (eqb r 0 || m) ≡ eqb (cond m 0 r) 0
zero_cleared m r = grind (arith, nat_tests)

module _ {K V : Type 0} where
  plain_onto : (r : ℕ) (o : Option (Slot K V)) (l : RankedLeaf K V) → plain (onto_ranked r o l) ≡ onto r o (plain l)
  plain_onto r None l = refl
  plain_onto r (Some s) l = refl

  plain_from : (rs : List ℕ) (slots : List (Slot K V)) (b m : ℕ) → plain (ranked_from rs slots b m) ≡ leaf_from rs slots b m
  plain_from rs slots b zero = refl
  plain_from rs slots b (suc m) = plain_onto _ _ (ranked_from rs slots (b + 1) m) ∙ ap (onto _ _) (plain_from rs slots (b + 1) m)

  pub plain_in : (s : State) (slots : List (Slot K V)) → plain (ranked_in s slots) ≡ leaf_in s slots
  plain_in s slots = plain_from s.ranks slots 0 s.uses

  pub plain_numbered : (n : ℕ) (es : List (Entry K V)) → plain (numbered (suc n) es) ≡ map live es
  plain_numbered n [] = refl
  plain_numbered n (e ∷ es) = ap₂ ◌∷◌ (cond-false _ _ _ (ne_eqb (suc n) 0 (λ z. omega arith))) (plain_numbered (suc n) es)

  pub plain_anew : (es : List (Entry K V)) → plain (anew es) ≡ map live es
  plain_anew es = plain_numbered 0 es

  pub numbered_push : (n : ℕ) (es : List (Entry K V)) (e : Entry K V) → numbered n (es ++ e ∷ []) ≡ numbered n es ++ record { rank = n + length es; entry = e } ∷ []
  numbered_push n [] e = let z : n ≡ n + 0 = omega arith in ap (λ k. record { rank = k; entry = e } ∷ []) z
  numbered_push n (x ∷ es) e =
      let z : suc n + length es ≡ n + suc (length es) = omega arith in
      ap (λ l. record { rank = n; entry = x } ∷ l) (numbered_push (suc n) es e ∙ ap (λ k. numbered (suc n) es ++ record { rank = k; entry = e } ∷ []) z)

  -- one live slot more
  pub plain_push : (l : RankedLeaf K V) (r : ℕ) (e : Entry K V) → 0 < r → plain (l ++ record { rank = r; entry = e } ∷ []) ≡ plain l ++ live e ∷ []
  plain_push [] r e h = ap (λ c. c ∷ []) (cond-false _ _ _ (ne_eqb r 0 (λ z. omega arith)))
  plain_push (x ∷ l) r e h = ap (λ k. cond (eqb x.rank 0) (dead x.entry) (live x.entry) ∷ k) (plain_push l r e h)

  plain_raised : (low : ℕ) (l : RankedLeaf K V) → plain (raised low l) ≡ plain l
  plain_raised low [] = refl
  plain_raised low (x ∷ l) = ap₂ (λ z k. cond z (dead x.entry) (live x.entry) ∷ k) (zero_lift low x.rank) (plain_raised low l)

module _ {K V : Type 0} (O : Order K) where
  kill_mark : (p : O.Place) (z : Bool) (e : Entry K V) (l : Leaf K V) → kill O p (cond z (dead e) (live e) ∷ l) ≡ cond (z || meets O p (placed O e)) (dead e) (live e) ∷ kill O p l
  kill_mark p true e l = refl
  kill_mark p false e l = refl

  pub plain_cleared : (p : O.Place) (l : RankedLeaf K V) → plain (cleared O p l) ≡ kill O p (plain l)
  plain_cleared p [] = refl
  plain_cleared p (x ∷ l) =
      ap₂ (λ z k. cond z (dead x.entry) (live x.entry) ∷ k) (sym (zero_cleared (meets O p (placed O x.entry)) x.rank)) (plain_cleared p l)
      ∙ sym (kill_mark p (eqb x.rank 0) x.entry (plain l))

  -- where no slot of the place is live, none dies
  none_killed : (p : O.Place) (l : RankedLeaf K V) → rank_of O p l ≡ 0 → kill O p (plain l) ≡ plain l
  none_killed p [] h = refl
  none_killed p (x ∷ l) h =
      let m = meets O p (placed O x.entry) in
      let r = x.rank in
      let k = rank_of O p l in
      let z : (eqb r 0 || m) ≡ eqb r 0 = grind (arith, nat_tests) in
      let i : k ≡ 0 = grind (arith, nat_tests) in
      kill_mark p (eqb r 0) x.entry (plain l) ∙ ap₂ (λ z k. cond z (dead x.entry) (live x.entry) ∷ k) z (none_killed p l i)

  pub plain_taken : (e : Entry K V) (l : RankedLeaf K V) → plain (taken O e l) ≡ append O e (plain l)
  plain_taken e l =
      let p = placed O e in
      let r = rank_of O p l in
      ⊎_elim
      (λ (z : r ≡ 0).
      ap plain (cond-true _ _ _ (eq-eqb r 0 z))
      ∙ plain_push (raised (below O p l) l) (below O p l + 1) e (omega arith)
      ∙ ap (λ k. k ++ live e ∷ []) (plain_raised (below O p l) l ∙ sym (none_killed p l z)))
      (λ (z : r ≢ 0).
      ap plain (cond-false _ _ _ (ne_eqb r 0 z))
      ∙ plain_push (cleared O p l) r e (omega arith)
      ∙ ap (λ k. k ++ live e ∷ []) (plain_cleared p l))
      (cases_eq r 0)
