-- Ranks still order keys once a key is filed by the rules.
use Rattle.std.proofs.Common.{◌≡◌, ℕ, ◌<◌, ◌≤◌, List, length, get_or, Some, None, Option, sym, ap, ◌∙◌, inl, inr, ⊎_elim, arith}
use Rattle.std.proofs.lemmas.Bool.{cases_eq, cases_lt}
use Rattle.leaf.specs.Rules.{floor, taken_from}
use Rattle.leaf.proofs.Effects.{Took, Effect, took_new, took_moved, effect_new, effect_moved}
use Rattle.leaf.proofs.Holders.{Held, greatest}
use Rattle.leaf.proofs.Sides.{Arranged, live_within}

module _ (rs ss : List ℕ) (nr : length rs ≡ 15) (ns : length ss ≡ 15) (ord : Arranged rs ss) where
  -- a live rank up to the greatest before the key is before it
  pub below : (p : ℕ) → 0 < get_or rs p 0 → get_or rs p 0 ≤ floor rs ss → get_or ss p 0 ≡ 0
  below p l h = elim (greatest rs ss).some [
    | inl z ↦ absurd (omega arith)
    | inr q ↦ ⊎_elim
        (λ e. ap (λ i. get_or ss i 0) (ord.apart p q.0 l (e ∙ sym q.3)) ∙ q.2)
        (λ n. ⊎_elim (λ one. absurd (omega (arith, q.2, ord.rises p q.0 (live_within rs nr p l) (omega (arith, q.1)) l (omega (arith, q.3)) one))) (λ z. omega arith) (cases_lt 0 (get_or ss p 0)))
        (cases_eq (get_or rs p 0) (floor rs ss))
  ]

  module _ (f : ℕ) (hf : f < 15) where
    pub took_filed : (o : Option ℕ) → Held rs ss o → (u : ℕ) → ((p : ℕ) → get_or rs p 0 ≤ u) → Took rs (taken_from o rs (floor rs ss) f) u f
    took_filed None h u b = took_new rs nr (floor rs ss) f hf u (elim (greatest rs ss).some [ inl z ↦ omega arith | inr q ↦ omega (arith, b q.0, q.3) ]) b ord.apart
    took_filed (Some o) h u b = took_moved rs nr o f (live_within rs nr o h.0) h.0 hf u b ord.apart

    pub effect_filed : (o : Option ℕ) → Held rs ss o → Effect ss (taken_from o rs (floor rs ss) f) f
    effect_filed None h = effect_new rs nr (floor rs ss) f hf ss (λ p _. below p) (λ p hp up. ⊎_elim
        (λ z. absurd (omega (arith, (greatest rs ss).most p (omega arith) z)))
        (λ z. ⊎_elim (λ one. absurd (h p (omega arith, one))) (λ w. omega arith) (cases_eq (get_or ss p 0) 1))
        (cases_eq (get_or ss p 0) 0))
    effect_filed (Some o) h = effect_moved rs nr o f (live_within rs nr o h.0) h.0 hf ss ord h.1
