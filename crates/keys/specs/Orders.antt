-- An order of keys: each key has a place, and of two places the first is before, at or after the second.
use Rattle.std.specs.Prelude.{◌≡◌, ℕ, Bool, true, false, cond, not, ℤ, Decides, ◌==◌, int_lt, nat_lt}
use Rattle.std.specs.declared.cmp.Ordering.TheVariants.{Less, Equal, Greater}
use Rattle.std.specs.declared.cmp.Ordering.{Ordering}

pub data Way : Type 0 where
  before : Way
  same : Way
  after : Way

pub record Order (K : Type 0) : Type 1 where
  pub Place : Type 0
  pub place : K → Place
  -- how the first place stands to the second
  pub way : Place → Place → Way

-- The law of an order: of two places exactly one of before, same and after holds (`way` is a function), the same place is equality, the
-- two ways round fit, and before is transitive.
pub record Ordered {K : Type 0} (O : Order K) : Type 0 where
  pub self : (p : O.Place) → O.way p p ≡ same
  pub only : (p q : O.Place) → O.way p q ≡ same → p ≡ q
  pub flip : (p q : O.Place) → O.way p q ≡ before → O.way q p ≡ after
  pub flop : (p q : O.Place) → O.way p q ≡ after → O.way q p ≡ before
  pub through : (p q r : O.Place) → O.way p q ≡ before → O.way q r ≡ before → O.way p r ≡ before

abbrev pub is_before : Way → Bool
is_before before = true
is_before same = false
is_before after = false

abbrev pub is_same : Way → Bool
is_same before = false
is_same same = true
is_same after = false

module _ {K : Type 0} (O : Order K) where
  abbrev pub precedes : O.Place → O.Place → Bool
  precedes p q = is_before (O.way p q)

  abbrev pub meets : O.Place → O.Place → Bool
  meets p q = is_same (O.way p q)

  -- the bound is not before the place
  abbrev pub within : K → O.Place → Bool
  within b p = not (precedes (O.place b) p)

  -- how the place of one key stands to that of another
  abbrev pub stands : K → K → Way
  stands x y = O.way (O.place x) (O.place y)

-- what `compare` answers
abbrev pub answered : Way → Ordering
answered before = Less
answered same = Equal
answered after = Greater

-- words for before and for same that fit how one place stands to another
abbrev pub InWords : Way → Type 0 → Type 0 → Type 0
InWords w Before Alike = Decides (is_before w) Before × Decides (is_same w) Alike

-- two orders of one key that say the same of any two keys
abbrev pub Agree : {K : Type 0} → Order K → Order K → Type 0
Agree {K} O P = (x y : K) → stands O x y ≡ stands P x y

-- a key that a key spells has the key's own place
abbrev pub Own : {K : Type 0} → Order K → (K → K) → Type 0
Own {K} O spells = (k : K) → O.place (spells k) ≡ O.place k

-- the order of numbers
abbrev pub way_of : ℕ → ℕ → Way
way_of x y = cond (nat_lt x y) before (cond (x == y) same after)

abbrev pub numbers : Order ℕ
numbers = record { Place = ℕ; place = λ n. n; way = way_of }

abbrev pub way_of_ints : ℤ → ℤ → Way
way_of_ints x y = cond (int_lt x y) before (cond (int_lt y x) after same)

abbrev pub integers : Order ℤ
integers = record { Place = ℤ; place = λ z. z; way = way_of_ints }

-- the order of what a key has
abbrev pub by : {K L : Type 0} → (K → L) → Order L → Order K
by f O = record { Place = O.Place; place = λ k. O.place (f k); way = O.way }

-- by the first, and by the second where the first says same
abbrev pub or_else : Way → Way → Way
or_else before w = before
or_else same w = w
or_else after w = after

abbrev pub then_by : {K : Type 0} → Order K → Order K → Order K
then_by O P = record { Place = O.Place × P.Place; place = λ k. (O.place k, P.place k); way = λ p q. or_else (O.way p.0 q.0) (P.way p.1 q.1) }

-- the reversed order
abbrev pub turned : Way → Way
turned before = after
turned same = same
turned after = before

abbrev pub reversed : {K R : Type 0} → (R → K) → Order K → Order R
reversed of O = record { Place = O.Place; place = λ r. O.place (of r); way = λ p q. turned (O.way p q) }
