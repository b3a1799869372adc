-- What a record keeps: taken out of its ghost field, and kept by each change of the word and the bitmap.
use Rattle.std.proofs.Common.{◌≡◌, ℕ, zero, suc, ◌+◌, ◌-◌, ◌*◌, ◌/◌, ◌%◌, ◌^◌, ◌<◌, ◌≤◌, Bool, true, false, cond, ◌&&◌, eqb, ◌⊎◌, List, [], ◌∷◌, get_or, set, replicate, sym, refl, ap, ◌∙◌, subst, inl, inr, ⊎_elim, arith, pow_mono}
use mathlib.Core.Logic.{∥∥₁_elim}
use native.Mathlib.Bridge.{le_prop}
use base.Stored.{Coded-set, coded_ℕ, coded_bool}
use lib.Count.{ones}
use Rattle.std.proofs.lemmas.Nat.{pow-add, pow_pos}
use Rattle.std.proofs.lemmas.Bool.{cases_eq, eqb-true, and_parts, and_from}
use Rattle.std.proofs.lemmas.Bool.Decides.{nat_tests}
use Rattle.ranks.specs.Dimensions.{slot_pos}
use Rattle.ranks.specs.Words.{digits, ranks_of, flags_of, is_retired, is_empty, Reads, cleared_flags}
use Rattle.ranks.specs.Indexes.{Apart}
use Rattle.ranks.proofs.Words.{encode_zero, encode_digits, word_split, empty_encode}
use Rattle.ranks.proofs.Uses.{ones_more, slot_once}
use Rattle.leaf.specs.Records.{Whole}
use Rattle.leaf.specs.Rules.{State, state_of, Spare}
use Rattle.leaf.specs.Calls.{is_full}
use Rattle.leaf.specs.declared.array.Array.{Array}
use Rattle.leaf.proofs.Effects.{Took}

abbrev pub made : List ℕ → ℕ → ℕ → State
made rs u f = record { ranks = rs; uses = u; flags = f }

pub made_same : {rs rs' : List ℕ} {u u' f f' : ℕ} → rs ≡ rs' → u ≡ u' → f ≡ f' → made rs u f ≡ made rs' u' f'
made_same {rs} {rs'} {u} {u'} {f} {f'} x y z = ap (λ r. made r u f) x ∙ ap (λ k. made rs' k f) y ∙ ap (made rs' u') z

pub spare_some : (s : State) → Spare s → 0 < s.uses
spare_some s h = omega (arith, h.1 0)

pub whole_out : {m b : ℕ} → ∥ Whole m b ∥₁ → Whole m b
whole_out t = record {
  uses = ∥∥₁_elim t (Coded-set coded_ℕ _ _) (λ w. w.uses);
  few = ∥∥₁_elim t le_prop (λ w. w.few);
  bound = λ p. ∥∥₁_elim t le_prop (λ w. w.bound p);
  apart = λ p q l e. ∥∥₁_elim t (Coded-set coded_ℕ _ _) (λ w. w.apart p q l e);
  unused = λ b l h. ∥∥₁_elim t (Coded-set coded_ℕ _ _) (λ w. w.unused b l h);
  flags = ∥∥₁_elim t (Coded-set coded_ℕ _ _) (λ w. w.flags);
  retired = λ h. ∥∥₁_elim t (Coded-set coded_bool _ _) (λ w. w.retired h);
}

fresh_ranks : ranks_of 0 ≡ replicate 15 0
unfolding digits
fresh_ranks = refl

pub whole_fresh : Whole 0 0
unfolding ones
whole_fresh =
    let none : (p : ℕ) → get_or (ranks_of 0) p 0 ≡ 0 = λ p. encode_zero (ranks_of 0) p (encode_digits 15 0) in
    record {
      uses = refl;
      few = omega arith;
      bound = λ p. omega (arith, none p);
      apart = λ p q l e. absurd (omega (arith, none p));
      unused = λ b l h. none (slot_pos b);
      flags = refl;
      retired = λ h. ap is_empty fresh_ranks;
    }

-- ---- a rank cleared

pub clear_cases : (rs : List ℕ) (p q : ℕ) → (get_or (set rs p 0) q 0 ≡ 0) ⊎ (get_or (set rs p 0) q 0 ≡ get_or rs q 0)
clear_cases [] p q = inl refl
clear_cases (r ∷ rs) zero zero = inl refl
clear_cases (r ∷ rs) zero (suc q) = inr refl
clear_cases (r ∷ rs) (suc p) zero = inr refl
clear_cases (r ∷ rs) (suc p) (suc q) = clear_cases rs p q

empty_set : (rs : List ℕ) (p : ℕ) → is_empty rs ≡ true → is_empty (set rs p 0) ≡ true
empty_set [] p e = e
empty_set (r ∷ rs) zero e = grind (arith, nat_tests)
empty_set (r ∷ rs) (suc p) e =
    let a = and_parts (eqb r 0) (is_empty rs) e in
    and_from (eqb r 0) (is_empty (set rs p 0)) a.0 (empty_set rs p a.1)

cleared_plain : (t : Bool) (f : ℕ) → f % 4 ≡ 0 → cond (t && eqb f 0) 4 f % 4 ≡ 0
cleared_plain t f z = grind (arith, nat_tests)

cleared_retired : (t : Bool) (f : ℕ) → (is_retired f ≡ true → t ≡ true) → is_retired (cond (t && eqb f 0) 4 f) ≡ true → t ≡ true
cleared_retired true f k e = refl
cleared_retired false f k e = k e

module _ {m b : ℕ} (w : Whole m b) where
  -- the next bitmap
  more_uses : 2 * b + 1 + 1 ≡ 2 ^ ones (2 * b + 1)
  more_uses = let p = ap (λ k. 2 ^ k) (ones_more b) ∙ pow-add 2 (ones b) 1 in omega (arith, w.uses)

  pub more_fits : ones b < 15 → b < 2 ^ 15
  more_fits h = let p : 2 ^ ones b ≤ 2 ^ 15 = pow_mono {i = ones b} {j = 15} (omega arith) in omega (arith, w.uses)

  pub whole_more : ones b < 15 → Whole m (2 * b + 1)
  whole_more h = record {
    uses = more_uses;
    few = omega (arith, ones_more b);
    bound = λ p. omega (arith, w.bound p, ones_more b);
    apart = w.apart;
    unused = λ a l. w.unused a (omega (arith, ones_more b));
    flags = w.flags;
    retired = w.retired;
  }

  -- the last use is given back
  module _ (some : 0 < ones b) where
    half : b ≡ 2 * (b / 2) + 1
    half =
        let e : ones b ≡ ones b - 1 + 1 = omega arith in
        let p = ap (λ k. 2 ^ k) e ∙ pow-add 2 (ones b - 1) 1 in
        omega (arith, w.uses, pow_pos (ones b - 1))

    pub less_ones : ones (b / 2) ≡ ones b - 1
    less_ones = omega (arith, ap ones half ∙ ones_more (b / 2))

    pub whole_less : get_or (ranks_of m) (slot_pos (ones b - 1)) 0 ≡ 0 → ((p : ℕ) → get_or (ranks_of m) p 0 < ones b) → Whole m (b / 2)
    whole_less z u = record {
      uses =
          let e : ones b ≡ ones (b / 2) + 1 = omega (arith, less_ones) in
          let p = ap (λ k. 2 ^ k) e ∙ pow-add 2 (ones (b / 2)) 1 in
          omega (arith, w.uses, half);
      few = omega (arith, less_ones, w.few);
      bound = λ p. omega (arith, less_ones, u p);
      apart = w.apart;
      unused = λ a l h. ⊎_elim
          (λ e. ap (λ k. get_or (ranks_of m) (slot_pos k) 0) e ∙ z)
          (λ n. w.unused a (omega (arith, less_ones)) h)
          (cases_eq a (ones b - 1));
      flags = w.flags;
      retired = w.retired;
    }

  -- other flags
  pub whole_flags : (m' f : ℕ) → Reads m' (ranks_of m) f → f % 4 ≡ 0 → (is_retired f ≡ true → is_retired (flags_of m) ≡ true) → Whole m' b
  whole_flags m' f r z k = record {
    uses = w.uses;
    few = w.few;
    bound = λ p. omega (arith, ap (λ rs. get_or rs p 0) r.ranks, w.bound p);
    apart = subst Apart (sym r.ranks) w.apart;
    unused = λ a l h. ap (λ rs. get_or rs (slot_pos a) 0) r.ranks ∙ w.unused a l h;
    flags = ap (λ x. x % 4) r.flags ∙ z;
    retired = λ t. ap is_empty r.ranks ∙ w.retired (k (sym (ap is_retired r.flags) ∙ t));
  }

  pub whole_freeze : (m' : ℕ) → Reads m' (ranks_of m) (flags_of m % 8 + 8) → Whole m' b
  whole_freeze m' r = let z = w.flags in whole_flags m' (flags_of m % 8 + 8) r (omega arith) (λ t. let e : (flags_of m % 8 + 8) / 4 % 2 ≡ flags_of m / 4 % 2 = omega arith in ap (λ x. eqb x 1) (sym e) ∙ t)

  pub whole_thaw : (m' : ℕ) → Reads m' (ranks_of m) (flags_of m % 8) → Whole m' b
  whole_thaw m' r = let z = w.flags in whole_flags m' (flags_of m % 8) r (omega arith) (λ t. let e : flags_of m % 8 / 4 % 2 ≡ flags_of m / 4 % 2 = omega arith in ap (λ x. eqb x 1) (sym e) ∙ t)

  -- the slot of the last use becomes live
  pub whole_took : (u m' : ℕ) (rs' : List ℕ) → ones b ≡ u + 1 → is_retired (flags_of m) ≡ false → Reads m' rs' (flags_of m) → Took (ranks_of m) rs' u (slot_pos u) → Whole m' b
  whole_took u m' rs' last live r t =
      let at : (p : ℕ) → get_or (ranks_of m') p 0 ≡ get_or rs' p 0 = λ p. ap (λ rs. get_or rs p 0) r.ranks in
      record {
        uses = w.uses;
        few = w.few;
        bound = λ p. omega (arith, at p, t.bound p);
        apart = subst Apart (sym r.ranks) t.apart;
        unused = λ a l k. at (slot_pos a) ∙ t.dead (slot_pos a) (λ e. absurd (omega (arith, w.few, slot_once a u k (omega (arith, w.few)) e))) (w.unused a l k);
        flags = ap (λ x. x % 4) r.flags ∙ w.flags;
        retired = λ e. let f : true ≡ false = sym e ∙ ap is_retired r.flags ∙ live in grind arith;
      }

  -- slot p is struck
  pub whole_struck : (p m' : ℕ) → p < 15 → Reads m' (set (ranks_of m) p 0) (cleared_flags (set (ranks_of m) p 0) (flags_of m)) → Whole m' b
  whole_struck p m' h r =
      let rs = ranks_of m in
      let at : (q : ℕ) → get_or (ranks_of m') q 0 ≡ get_or (set rs p 0) q 0 = λ q. ap (λ ds. get_or ds q 0) r.ranks in
      let near = clear_cases rs p in
      record {
        uses = w.uses;
        few = w.few;
        bound = λ q. elim (near q) [ inl z ↦ omega (arith, at q) | inr e ↦ omega (arith, at q, w.bound q) ];
        apart = λ q q' l e. elim (near q) [
          | inl z ↦ absurd (omega (arith, at q))
          | inr f ↦ elim (near q') [ inl z ↦ absurd (omega (arith, at q, at q')) | inr f' ↦ w.apart q q' (omega (arith, at q)) (omega (arith, at q, at q')) ]
        ];
        unused = λ a l k. elim (near (slot_pos a)) [ inl z ↦ at (slot_pos a) ∙ z | inr e ↦ at (slot_pos a) ∙ e ∙ w.unused a l k ];
        flags = ap (λ x. x % 4) r.flags ∙ cleared_plain (is_empty (set rs p 0)) (flags_of m) w.flags;
        retired = λ e. ap is_empty r.ranks ∙ cleared_retired (is_empty (set rs p 0)) (flags_of m) (λ t. empty_set rs p (w.retired t)) (sym (ap is_retired r.flags) ∙ e);
      }

-- the word of an array that is retired, and not frozen
pub retired_word : {m b : ℕ} → Whole m b → flags_of m ≡ 4 → m ≡ 2 ^ 62
retired_word {m} {b} w f =
    let e = eqb-true _ 0 (empty_encode (ranks_of m) ∙ w.retired (ap is_retired f)) in
    omega (arith, word_split m)

-- ---- room for one use more

pub not_full : (a : Array) → is_full (state_of a) ≡ false → (ones a.bitmap < 15) × (is_retired (flags_of a.metadata) ≡ false)
not_full a h = let l = (whole_out a.whole).few in (grind (arith, nat_tests), grind (arith, nat_tests))
