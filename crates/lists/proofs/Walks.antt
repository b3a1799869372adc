-- A full walk meets the entries of all leaves, in order, and each move gives one of them or none.
use Rattle.std.proofs.Common.{◌≡◌, ℕ, zero, suc, ◌<◌, List, [], ◌∷◌, ◌++◌, map, reverse, length, drop, sym, refl, ap, ◌∙◌, subst, inl, inr, append_assoc, arith}
use mathlib.Core.List.Memᴰ
use mathlib.Core.List.{reverse-append, Memᴰ}
use Rattle.std.proofs.lemmas.List.{append-nil}
use mathlib.Core.Option.{Option, some, none}
use Rattle.std.specs.List.{flat_map}
use Rattle.lists.specs.Walks.{Move, next, jump, get, rewind, Cursor, first, front, seek, after_next, after_jump, latest, goes, meetings, full_walk, back_to_front}

abbrev pub all_of : {A : Type 0} → List (List A) → List A
all_of ls = flat_map (λ es. es) ls

-- what is ahead in the leaves ls, of the first of which n entries were passed
abbrev ahead : {A : Type 0} → ℕ → List (List A) → List A
ahead n [] = []
ahead n (es ∷ ls) = drop n es ++ all_of ls

drop_one : {A : Type 0} (n : ℕ) (xs : List A) (y : A) (ys : List A) → drop n xs ≡ y ∷ ys → drop (suc n) xs ≡ ys
drop_one zero [] y ys h = absurd (grind arith)
drop_one zero (x ∷ xs) y ys h = cc
drop_one (suc n) [] y ys h = absurd (grind arith)
drop_one (suc n) (x ∷ xs) y ys h = drop_one n xs y ys h

-- where `seek` ends
seek_none : {A : Type 0} (i : ℕ) (ls : List (List A)) → seek i ls ≡ none → all_of ls ≡ []
seek_none i [] h = refl
seek_none i ([] ∷ ls) h = seek_none (suc i) ls h
seek_none i ((e ∷ es) ∷ ls) h = absurd (grind arith)

record Found {A : Type 0} (ls : List (List A)) (ms : List (List A)) (x : ℕ × A) : Type 0 where
  rest : List A
  more : List (List A)
  there : drop x.0 ls ≡ (x.1 ∷ rest) ∷ more
  is : all_of ms ≡ x.1 ∷ (rest ++ all_of more)

seek_some : {A : Type 0} (ls : List (List A)) (i : ℕ) (ms : List (List A)) → drop i ls ≡ ms → (x : ℕ × A) → seek i ms ≡ some x → Found ls ms x
seek_some ls i [] d x h = absurd (grind arith)
seek_some ls i ([] ∷ ms) d x h =
    let f = seek_some ls (suc i) ms (drop_one i ls [] ms d) x h in
    record { rest = f.rest; more = f.more; there = f.there; is = f.is }
seek_some ls i ((e ∷ es) ∷ ms) d x h =
    subst (Found ls ((e ∷ es) ∷ ms)) (some_is h) (record { rest = es; more = ms; there = d; is = refl })
  where
    some_is : some (i, e) ≡ some x → (i, e) ≡ x
    some_is k = cc

drop_none : {A : Type 0} (n : ℕ) → drop {A = A} n [] ≡ []
drop_none zero = refl
drop_none (suc n) = refl

drop_end : {A : Type 0} (n : ℕ) (xs : List A) → drop n xs ≡ [] → drop (suc n) xs ≡ []
drop_end zero [] h = refl
drop_end zero (x ∷ xs) h = absurd (grind arith)
drop_end (suc n) [] h = refl
drop_end (suc n) (x ∷ xs) h = drop_end n xs h

-- with n calls that give, the walk meets what is ahead
abbrev Meets : {A : Type 0} → ℕ → List (List A) → Type 0
Meets n ls = (i j : ℕ) → length (ahead j (drop i ls)) < n → meetings n ls (record { leaf = i; passed = j }) ≡ ahead j (drop i ls)

module _ {A : Type 0} (n : ℕ) (ls : List (List A)) (i j : ℕ) (ih : Meets n ls) where
  here : (es : List A) (ms : List (List A)) → drop i ls ≡ es ∷ ms → length (ahead j (es ∷ ms)) < suc n → (xs : List A) → drop j es ≡ xs → (o : Option (ℕ × A)) → seek (suc i) ms ≡ o → meetings (suc n) ls (record { leaf = i; passed = j }) ≡ ahead j (es ∷ ms)
  here es ms d h (x ∷ xs) e o s =
      let f = drop_one j es x xs e in
      let was : ahead j (es ∷ ms) ≡ x ∷ (xs ++ all_of ms) = ap (λ ys. ys ++ all_of ms) e in
      let is : ahead (suc j) (drop i ls) ≡ xs ++ all_of ms = ap (ahead (suc j)) d ∙ ap (λ ys. ys ++ all_of ms) f in
      let r = ih i (suc j) (rw is (omega (arith, rw was at h))) in
      grind arith
  here es ms d h [] e none s = let z = seek_none (suc i) ms s in let t = drop_one i ls es ms d in grind arith
  here es ms d h [] e (some x) s =
      let t = drop_one i ls es ms d in
      let f = seek_some ls (suc i) ms t x s in
      let was : ahead j (es ∷ ms) ≡ x.1 ∷ (f.rest ++ all_of f.more) = ap (λ ys. ys ++ all_of ms) e ∙ f.is in
      let is : ahead 1 (drop x.0 ls) ≡ f.rest ++ all_of f.more = ap (ahead 1) f.there in
      let r = ih x.0 1 (rw is (omega (arith, rw was at h))) in
      grind arith

  anywhere : (ms : List (List A)) → drop i ls ≡ ms → length (ahead j (drop i ls)) < suc n → meetings (suc n) ls (record { leaf = i; passed = j }) ≡ ahead j (drop i ls)
  anywhere [] d h = let k = drop_none {A = A} j in let t = drop_end i ls d in grind arith
  anywhere (es ∷ ms) d h = here es ms d (rw d at h) (drop j es) refl (seek (suc i) ms) refl ∙ ap (ahead j) (sym d)

met_ahead : {A : Type 0} (n : ℕ) (ls : List (List A)) → Meets n ls
met_ahead zero ls i j h = absurd (omega arith)
met_ahead (suc n) ls i j h = anywhere n ls i j (met_ahead n ls) (drop i ls) refl h

pub full_all : {A : Type 0} (ls : List (List A)) → full_walk ls ≡ all_of ls
full_all [] = refl
full_all (es ∷ ls) = met_ahead (suc (length (all_of (es ∷ ls)))) (es ∷ ls) 0 0 (omega arith)

all_join : {A : Type 0} (ls ms : List (List A)) → all_of (ls ++ ms) ≡ all_of ls ++ all_of ms
all_join [] ms = refl
all_join (es ∷ ls) ms = ap (λ xs. es ++ xs) (all_join ls ms) ∙ sym (append_assoc es (all_of ls) (all_of ms))

pub all_back : {A : Type 0} (ls : List (List A)) → all_of (back_to_front ls) ≡ reverse (all_of ls)
all_back [] = refl
all_back (es ∷ ls) =
    ap all_of (reverse-append (reverse es ∷ []) (map reverse ls))
    ∙ all_join (back_to_front ls) (reverse es ∷ [])
    ∙ ap (λ xs. xs ++ (reverse es ++ [])) (all_back ls)
    ∙ ap (λ xs. reverse (all_of ls) ++ xs) (append-nil (reverse es))
    ∙ sym (reverse-append es (all_of ls))

-- each entry that a move gives is an entry of some leaf
first_there : {A : Type 0} (xs : List A) (e : A) → first xs ≡ some e → Memᴰ e xs
first_there [] e h = absurd (grind arith)
first_there (x ∷ xs) e h = Memᴰ.head (cc)

drop_there : {A : Type 0} (n : ℕ) (xs : List A) {e : A} → Memᴰ e (drop n xs) → Memᴰ e xs
drop_there zero xs m = m
drop_there (suc n) [] m = m
drop_there (suc n) (x ∷ xs) m = Memᴰ.tail (drop_there n xs m)

front_there : {A : Type 0} (i : ℕ) (ls : List (List A)) {e : A} → Memᴰ e (front (drop i ls)) → Memᴰ e (all_of ls)
front_there zero [] m = m
front_there zero (es ∷ ls) m = Memᴰ.append_left (all_of ls) m
front_there (suc i) [] m = m
front_there (suc i) (es ∷ ls) m = Memᴰ.append_right es (front_there i ls m)

seek_there : {A : Type 0} (i : ℕ) (ls : List (List A)) (x : ℕ × A) → seek i ls ≡ some x → Memᴰ x.1 (all_of ls)
seek_there i [] x h = absurd (grind arith)
seek_there i ([] ∷ ls) x h = seek_there (suc i) ls x h
seek_there i ((e ∷ es) ∷ ls) x h = Memᴰ.head (cc)

rest_there : {A : Type 0} (n : ℕ) (ls : List (List A)) {e : A} → Memᴰ e (all_of (drop n ls)) → Memᴰ e (all_of ls)
rest_there zero ls m = m
rest_there (suc n) [] m = m
rest_there (suc n) (es ∷ ls) m = Memᴰ.append_right es (rest_there n ls m)

pub gives_there : {A : Type 0} (m : Move) (ls : List (List A)) (c : Cursor) (e : A) → (goes m ls c).entry ≡ some e → Memᴰ e (all_of ls)
gives_there {A} next ls c e h = front_there c.leaf ls (drop_there c.passed (front (drop c.leaf ls)) (first_there (drop c.passed (front (drop c.leaf ls))) e (same (first (drop c.passed (front (drop c.leaf ls)))) h)))
  where
    same : (o : Option A) → (after_next c o).entry ≡ some e → o ≡ some e
    same none k = k
    same (some x) k = k
gives_there {A} jump ls c e h = same (seek (suc c.leaf) (drop (suc c.leaf) ls)) refl h
  where
    same : (o : Option (ℕ × A)) → seek (suc c.leaf) (drop (suc c.leaf) ls) ≡ o → (after_jump (length ls) c o).entry ≡ some e → Memᴰ e (all_of ls)
    same none s k = absurd (grind arith)
    same (some x) s k = rest_there (suc c.leaf) ls (Memᴰ.cast (cc) (seek_there (suc c.leaf) (drop (suc c.leaf) ls) x s))
gives_there {A} get ls c e h = same c.passed h
  where
    same : (n : ℕ) → latest n (front (drop c.leaf ls)) ≡ some e → Memᴰ e (all_of ls)
    same zero k = absurd (grind arith)
    same (suc n) k = front_there c.leaf ls (drop_there n (front (drop c.leaf ls)) (first_there (drop n (front (drop c.leaf ls))) e k))
gives_there rewind ls c e h = absurd (grind arith)

pub reverse_there : {A : Type 0} (xs : List A) {e : A} → Memᴰ e (reverse xs) → Memᴰ e xs
reverse_there [] m = m
reverse_there (x ∷ xs) m = elim (Memᴰ.append_cases (reverse xs) (rw (reverse-append (x ∷ []) xs) at m)) [
  | inl k ↦ Memᴰ.tail (reverse_there xs k)
  | inr k ↦ Memᴰ.head (Memᴰ.eq_of_singleton k)
]
