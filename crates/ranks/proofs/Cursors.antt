-- A cursor over the live slots: its steps, and that its slots come in order of rank.
use Rattle.std.proofs.Common.{◌≡◌, ℕ, zero, suc, ◌+◌, ◌-◌, ◌<◌, ◌≤◌, cond, not, eqb, List, [], ◌∷◌, ◌++◌, reverse, length, length-take-le, get_or, take, drop, set, Some, None, Option, sym, refl, ap, ◌∙◌, subst, inl, inr, ⊎_elim, arith}
use Rattle.std.proofs.lemmas.List.{drop_all, drop_more, drop-drop, get_or-drop, take-take, get_or-take, get_or_past, take_all, reverse-append, reverse-reverse}
use Rattle.std.proofs.lemmas.Bool.{cases_eq, cases_lt}
use Rattle.std.proofs.lemmas.List.Elements.{filter_more}
use Rattle.std.proofs.lemmas.Bool.Decides.{nat_tests}
use Rattle.ranks.specs.Words.{ranks_of}
use Rattle.ranks.specs.Indexes.{no_slot, Indexed, slots_of, ahead, behind, Gives, Rising, InOrder, Apart}
use Rattle.ranks.proofs.Words.{NoneLeft, length_digits, digits_lt}

-- ---- ranks that have no slot are passed over

skip : (xs : List ℕ) (n : ℕ) → ((i : ℕ) → i < n → get_or xs i 0 ≡ no_slot) → slots_of xs ≡ slots_of (drop n xs)
skip xs zero h = refl
skip [] (suc n) h = refl
skip (x ∷ xs) (suc n) h = let e = h 0 (omega arith) in let ih = skip xs n (λ i l. h (suc i) (omega arith)) in grind (arith, nat_tests)

skip_back : (xs : List ℕ) (n : ℕ) → ((i : ℕ) → n ≤ i → i < length xs → get_or xs i 0 ≡ no_slot) → slots_of xs ≡ slots_of (take n xs)
skip_back [] zero h = refl
skip_back [] (suc n) h = refl
skip_back (x ∷ xs) zero h = let e = h 0 (omega arith) (omega arith) in let ih = skip_back xs 0 (λ i l m. h (suc i) (omega arith) (omega arith)) in grind (arith, nat_tests)
skip_back (x ∷ xs) (suc n) h = let ih = skip_back xs n (λ i l m. h (suc i) (omega arith) (omega arith)) in grind (arith, nat_tests)

up_to : (xs : List ℕ) (a b : ℕ) → a ≤ b → ((i : ℕ) → a ≤ i → i < b → get_or xs i 0 ≡ no_slot) → slots_of (drop a xs) ≡ slots_of (drop b xs)
up_to xs a b l h =
    let e : a + (b - a) ≡ b = omega arith in
    skip (drop a xs) (b - a) (λ i m. get_or-drop a xs i 0 ∙ h (a + i) (omega arith) (omega arith)) ∙ ap slots_of (drop-drop (b - a) a xs ∙ ap (λ k. drop k xs) e)

down_to : (xs : List ℕ) (b a : ℕ) → a ≤ b → b ≤ length xs → ((i : ℕ) → a ≤ i → i < b → get_or xs i 0 ≡ no_slot) → slots_of (take b xs) ≡ slots_of (take a xs)
down_to xs b a l m h =
    skip_back (take b xs) a (λ i g o. let p : i < b = omega (arith, length-take-le b xs m) in get_or-take b xs i 0 p ∙ h i g p) ∙ ap slots_of (take-take a b xs l)

-- ---- a step

none : (todo : List ℕ → List ℕ) (ix : List ℕ) (r : Option ℕ) → r ≡ None → todo ix ≡ [] → Gives todo ix r ix
none todo ix r e f = rw e (record { gave = (f, f); last = refl; same = refl })

pub up_none : (ix : List ℕ) (r : Option ℕ) → r ≡ None → length ix ≡ 16 → get_or ix 0 0 ≤ 15 → ((i : ℕ) → get_or ix 0 0 + 1 ≤ i → i < 16 → get_or ix i 0 ≡ no_slot) → Gives ahead ix r ix
up_none [] r e n l h = absurd (omega arith)
up_none (a ∷ ss) r e n l h = none ahead (a ∷ ss) r e (up_to ss a 15 l (λ i m o. h (suc i) (omega arith) (omega arith)) ∙ ap slots_of (drop_all 15 ss (omega arith)))

pub up_some : (ix ix' : List ℕ) (k r f : ℕ) → (ix' ≡ set ix 0 k) × (r ≡ get_or ix k 0) → length ix ≡ 16 → f ≡ get_or ix 0 0 + 1 → (f ≤ k) × (k ≤ 15) × (get_or ix k 0 ≡ no_slot → ⊥) → ((i : ℕ) → f ≤ i → i < k → get_or ix i 0 ≡ no_slot) → Gives ahead ix (Some r) ix'
up_some [] _ k r f e n b l h = absurd (omega arith)
up_some (a ∷ ss) _ zero r f e n b l h = absurd (omega arith)
up_some (a ∷ ss) _ (suc k) r f e n b l h = let ne = l.2 in rw (e.0, e.1) (record {
  gave = up_to ss a k (omega arith) (λ i m o. h (suc i) (omega arith) (omega arith)) ∙ ap slots_of (drop_more ss k 0 (omega arith)) ∙ grind (arith, nat_tests);
  last = grind (arith, nat_tests);
  same = refl;
})

-- the greatest rank of the way down
abbrev pub top : ℕ → ℕ
top a = cond (eqb a 0) 15 (a - 1)

pub down_none : (ix : List ℕ) (r : Option ℕ) (t : ℕ) → r ≡ None → length ix ≡ 16 → t ≡ top (get_or ix 0 0) → t ≤ 15 → ((i : ℕ) → 0 < i → i ≤ t → get_or ix i 0 ≡ no_slot) → Gives behind ix r ix
down_none [] r t e n f m h = absurd (omega arith)
down_none (a ∷ ss) r t e n f m h = none behind (a ∷ ss) r e (ap reverse (down_to ss (top a) 0 (omega arith) (omega arith) (λ i o p. h (suc i) (omega arith) (omega arith))))

pub down_some : (ix ix' : List ℕ) (k r t : ℕ) → (ix' ≡ set ix 0 k) × (r ≡ get_or ix k 0) → length ix ≡ 16 → t ≡ top (get_or ix 0 0) → t ≤ 15 → (0 < k) × (k ≤ t) × (get_or ix k 0 ≡ no_slot → ⊥) → ((i : ℕ) → k < i → i ≤ t → get_or ix i 0 ≡ no_slot) → Gives behind ix (Some r) ix'
down_some [] _ k r t e n f m l h = absurd (omega arith)
down_some (a ∷ ss) _ zero r t e n f m l h = absurd (omega arith)
down_some (a ∷ ss) _ (suc k) r t e n f m l h =
    let ne = l.2 in
    let last : slots_of (take (k + 1) ss) ≡ slots_of (take k ss) ++ get_or ss k 0 ∷ [] = grind (arith, nat_tests, filter_more (λ x. not (eqb x no_slot)) ss k 0 (omega arith)) in
    let next : top (suc k) ≡ k = grind (arith, nat_tests) in
    rw (e.0, e.1) (record {
      gave = ap reverse (down_to ss (top a) (k + 1) (omega arith) (omega arith) (λ i m o. h (suc i) (omega arith) (omega arith)) ∙ last)
          ∙ reverse-append (slots_of (take k ss)) (get_or ss k 0 ∷ [])
          ∙ ap (λ j. get_or ss k 0 ∷ reverse (slots_of (take j ss))) (sym next);
      last = grind (arith, nat_tests);
      same = refl;
    })

-- a step that gives a slot leaves fewer to be given
pub gives_fewer : {todo : List ℕ → List ℕ} {ix ix' : List ℕ} {p : ℕ} → Gives todo ix (Some p) ix' → length (todo ix') < length (todo ix)
gives_fewer g = omega (arith, ap length g.gave)

-- ---- the slots of a word, by rank

dropped : (x : ℕ) (xs : List ℕ) → x ≡ no_slot → slots_of (x ∷ xs) ≡ slots_of xs
dropped x xs e = grind (arith, nat_tests)

kept : (x : ℕ) (xs : List ℕ) → (x ≡ no_slot → ⊥) → slots_of (x ∷ xs) ≡ x ∷ slots_of xs
kept x xs n = grind (arith, nat_tests)

-- xs stand for the ranks from r + 1 on: their slots have these ranks
abbrev Ranked : List ℕ → ℕ → List ℕ → Type 0
Ranked rs r xs = (i : ℕ) → i < length xs → (get_or xs i 0 ≡ no_slot → ⊥) → get_or rs (get_or xs i 0) 0 ≡ r + i + 1

rising : (rs xs : List ℕ) (k r : ℕ) → k ≤ r → Ranked rs r xs → Rising rs k (slots_of xs)
rising rs [] k r l h = tt
rising rs (x ∷ xs) k r l h =
    let later : Ranked rs (r + 1) xs = λ i m n. omega (arith, h (suc i) (omega arith) n) in
    ⊎_elim
    (λ e. rw (dropped x xs e) (rising rs xs k (r + 1) (omega arith) later))
    (λ n. let here = h 0 (omega arith) n in rw (kept x xs n) (omega arith, rising rs xs (get_or rs x 0) (r + 1) (omega arith) later))
    (cases_eq x no_slot)

abbrev Has : ℕ → List ℕ → Type 0
Has p ps = (i : ℕ) × (i < length ps) × (get_or ps i 0 ≡ p)

has : (xs : List ℕ) (i : ℕ) → i < length xs → (get_or xs i 0 ≡ no_slot → ⊥) → Has (get_or xs i 0) (slots_of xs)
has [] i l n = absurd (omega arith)
has (x ∷ xs) zero l n = rw (kept x xs n) (0, omega arith, refl)
has (x ∷ xs) (suc i) l n =
    let later = has xs i (omega arith) n in
    ⊎_elim (λ e. rw (dropped x xs e) later) (λ m. rw (kept x xs m) (suc later.0, omega (arith, later.1), later.2)) (cases_eq x no_slot)

-- no rank is left
pub indexed_all : (rs : List ℕ) (n : ℕ) (ix : List ℕ) → n ≤ 15 → NoneLeft rs n → Indexed rs n ix → Indexed rs 15 ix
indexed_all rs n ix l left s = record {
  long = s.long;
  start = s.start;
  each = λ r p h. ⊎_elim
      (λ none. inl (none.0, λ q m e. ⊎_elim (λ b. none.1 q b e) (λ b. omega (arith, left q b)) (cases_lt q n)))
      (λ some. inr (omega (arith, some.0), some.1))
      (s.each r p h);
}

pub index_order : (w : ℕ) (ix : List ℕ) → Indexed (ranks_of w) 15 ix → Apart (ranks_of w) → InOrder (ranks_of w) (ahead ix)
index_order w [] s apart = absurd (omega (arith, s.long))
index_order w (a ∷ ss) s apart = rw s.start (record {
  rising = rising (ranks_of w) ss 0 0 (omega arith) (λ i l n. ⊎_elim (λ none. absurd (n none.0)) (λ some. omega (arith, some.1)) (s.each (suc i) (omega arith) (omega (arith, s.long))));
  all = λ p live.
      let i : ℕ = get_or (ranks_of w) p 0 - 1 in
      let e : suc i ≡ get_or (ranks_of w) p 0 = omega arith in
      let h : p < 15 = ⊎_elim (λ h. h) (λ h. absurd (omega (arith, get_or_past (ranks_of w) p 0 (omega (arith, length_digits 15 w))))) (cases_lt p 15) in
      let l : i < 15 = omega (arith, digits_lt 15 w p) in
      ⊎_elim
      (λ none. absurd (none.1 p h (sym e)))
      (λ some. subst
      (λ q. Has q (slots_of ss))
      (apart (get_or ss i 0) p (omega (arith, some.1)) (some.1 ∙ e))
      (has ss i (omega (arith, s.long)) (λ z. omega (arith, some.0))))
      (s.each (suc i) (omega arith) (omega arith));
})

-- going down gives the same slots, the last first
pub down_up : (ix : List ℕ) → length ix ≡ 16 → get_or ix 0 0 ≡ 0 → reverse (behind ix) ≡ ahead ix
down_up [] n z = absurd (omega arith)
down_up (a ∷ ss) n z = rw z (reverse-reverse _ ∙ ap slots_of (take_all 15 ss (omega arith)))
