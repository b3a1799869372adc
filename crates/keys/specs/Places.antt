-- What an order says of two places, that the orders of specs/Orders are orders, and that the words for samples and pages fit theirs.
use Rattle.std.specs.Prelude.{◌≡◌, ◌<◌, true, ◌⊎◌, refl}
use Rattle.std.proofs.Common.{ap, inl, inr, arith}
use Rattle.std.proofs.lemmas.Int.{ints}
use Rattle.std.proofs.lemmas.Bool.Decides.{nat_tests}
use Rattle.keys.specs.Orders.{Order, Ordered, Way, before, same, after, is_same, turned, numbers, integers, by, then_by, reversed, stands, InWords}
use Rattle.keys.specs.Samples.{samples, Sooner}
use Rattle.keys.specs.Pages.{pages}
use Rattle.keys.specs.declared.sample.Sample.{Sample}
use Rattle.keys.specs.declared.page.Page.{Page}

pub ways : (w : Way) → (w ≡ before) ⊎ ((w ≡ same) ⊎ (w ≡ after))
ways before = inl refl
ways same = inr (inl refl)
ways after = inr (inr refl)

module _ {K : Type 0} (O : Order K) (L : Ordered O) where
  -- same is the other way round too
  pub same_back : (p q : O.Place) → O.way p q ≡ same → O.way q p ≡ same
  same_back p q h = let e = L.only p q h in cc (L.self p)

  pub same_place : (p q : O.Place) → is_same (O.way p q) ≡ true → p ≡ q
  same_place p q h = L.only p q (grind arith)

pub numbers_ordered : Ordered numbers
numbers_ordered = record {
  self = λ p. grind (arith, nat_tests);
  only = λ p q h. grind (arith, nat_tests);
  flip = λ p q h. grind (arith, nat_tests);
  flop = λ p q h. grind (arith, nat_tests);
  through = λ p q r h k. grind (arith, nat_tests);
}

pub integers_ordered : Ordered integers
integers_ordered = record {
  self = λ p. grind (arith, ints);
  only = λ p q h. grind (arith, ints);
  flip = λ p q h. grind (arith, ints);
  flop = λ p q h. grind (arith, ints);
  through = λ p q r h k. grind (arith, ints);
}

pub by_ordered : {K L : Type 0} (f : K → L) (O : Order L) → Ordered O → Ordered (by f O)
by_ordered f O L = record { self = L.self; only = L.only; flip = L.flip; flop = L.flop; through = L.through }

pub then_ordered : {K : Type 0} (O P : Order K) → Ordered O → Ordered P → Ordered (then_by O P)
then_ordered O P L M = record {
  self = λ p. let a = L.self p.0 in let b = M.self p.1 in grind arith;
  only = λ p q h. let a = L.only p.0 q.0 in let b = M.only p.1 q.1 in grind arith;
  flip = λ p q h. let a = L.flip p.0 q.0 in let s = same_back O L p.0 q.0 in let b = M.flip p.1 q.1 in grind arith;
  flop = λ p q h. let a = L.flop p.0 q.0 in let s = same_back O L p.0 q.0 in let b = M.flop p.1 q.1 in grind arith;
  through = λ p q r h k.
      let a = L.through p.0 q.0 r.0 in
      let s = L.only p.0 q.0 in
      let t = L.only q.0 r.0 in
      let b = M.through p.1 q.1 r.1 in
      grind arith;
}

pub reversed_ordered : {K R : Type 0} (of : R → K) (O : Order K) → Ordered O → Ordered (reversed of O)
reversed_ordered of O L = record {
  self = λ p. ap turned (L.self p);
  only = λ p q h. L.only p q (grind arith);
  flip = λ p q h. ap turned (L.flop p q (grind arith));
  flop = λ p q h. ap turned (L.flip p q (grind arith));
  through = λ p q r h k. ap turned (L.flip r p (L.through r q p (L.flop q r (grind arith)) (L.flop p q (grind arith))));
}

pub sooner_said : (x y : Sample) → InWords (stands samples x y) (Sooner x y) (x ≡ y)
sooner_said x y = (grind (arith, ints, nat_tests), grind (arith, ints, nat_tests))

pub lower_said : (x y : Page) → InWords (stands pages x y) (x.address < y.address) (x.address ≡ y.address)
lower_said x y = (grind (arith, nat_tests), grind (arith, nat_tests))
