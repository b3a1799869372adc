-- What the pass finds in an array whose ranks order its keys.
use Rattle.std.proofs.Common.{◌≡◌, ℕ, ◌<◌, List, length, get_or, is_some, Some, None, Option, Result, Ok, Err, MatchResult, is_ok, sym, ap, ◌∙◌, ⊎_elim, arith}
use Rattle.std.specs.Result.{result_ok}
use Rattle.std.proofs.lemmas.List.{length-map}
use Rattle.std.proofs.lemmas.Bool.{cases_lt}
use Rattle.keys.specs.Orders.{Order, Ordered}
use Rattle.ranks.specs.Words.{ranks_of}
use Rattle.ranks.proofs.Words.{length_digits}
use Rattle.leaf.specs.Slots.{side, sides, Sorted}
use Rattle.leaf.specs.Rules.{holder, floor, taken_from, Live, Least, LeastFrom}
use Rattle.leaf.specs.Seeks.{Inside, taken, Parted, Sought}
use Rattle.leaf.specs.declared.array.Array.{Array}
use Rattle.leaf.specs.declared.data_block.Slot.{Slot}
use Rattle.leaf.specs.declared.seek.Gap.{Gap}
use Rattle.leaf.proofs.Sides.{Arranged, live_within, arranged}
use Rattle.leaf.proofs.Wholes.{whole_out}
use Rattle.leaf.proofs.Holders.{Holds, one_at_most, holder_same, holder_between, taken_filed}

pub live_ok : (rs : List ℕ) (spot : Result ℕ Gap) → Inside rs spot → Live rs (result_ok spot)
live_ok rs (Ok p) i = i
live_ok rs (Err gap) i = tt

pub live_from : (rs : List ℕ) (spot : Result ℕ Gap) (r : Option ℕ) → MatchResult spot (λ p. r ≡ Some p) (λ gap. r ≡ gap.next) → Inside rs spot → Live rs r
live_from rs (Ok p) r e i = rw e i
live_from rs (Err gap) r e i = rw e i.1

module _ {K V : Type 0} (O : Order K) (L : Ordered O) (a : Array) (slots : List (Slot K V)) (n : length slots ≡ 15) (so : Sorted O (ranks_of a.metadata) slots) (x : K) where
  abbrev rs : List ℕ
  rs = ranks_of a.metadata

  abbrev ss : List ℕ
  ss = sides O x slots

  nr : length rs ≡ 15
  nr = length_digits 15 a.metadata

  ns : length ss ≡ 15
  ns = length-map slots (side O x) ∙ n

  pub seen : Arranged rs ss
  seen = arranged O slots n L rs (whole_out a.whole).apart so x

  -- one live slot at most is at a place
  pub only_one : (p q : ℕ) → Holds rs ss p → Holds rs ss q → p ≡ q
  only_one = one_at_most rs ss nr ns seen

  pub found : (spot : Result ℕ Gap) → Inside rs spot → Sought rs ss spot → result_ok spot ≡ holder rs ss
  found (Ok p) i s = sym (holder_same rs ss nr ns seen p i.1 s)
  found (Err gap) i s = sym (holder_between rs ss nr ns seen i.0 s)

  pub found_some : (spot : Result ℕ Gap) → Inside rs spot → Sought rs ss spot → is_some (holder rs ss) ≡ is_ok spot
  found_some (Ok p) i s = ap is_some (sym (found (Ok p) i s))
  found_some (Err gap) i s = ap is_some (sym (found (Err gap) i s))

  pub filed_is : (spot : Result ℕ Gap) (f : ℕ) → Inside rs spot → Sought rs ss spot → taken rs spot f ≡ taken_from (holder rs ss) rs (floor rs ss) f
  filed_is = taken_filed rs ss nr ns seen

  -- of two live slots that of the lower rank is before, where the other is not after
  least_same : (p : ℕ) → p < 15 → 0 < get_or rs p 0 → get_or ss p 0 ≡ 1 → Least rs ss p
  least_same p h l e = record {
    live = l;
    reached = omega arith;
    least = λ q lq sq. ⊎_elim (λ b. absurd (omega (arith, seen.rises q p (live_within rs nr q lq) h lq b sq))) (λ b. b) (cases_lt (get_or rs q 0) (get_or rs p 0));
  }

  least_between : (low : ℕ) (next : Option ℕ) → Live rs next → Parted rs ss low next → LeastFrom rs ss next
  least_between low None v p = λ q l. p.below q (live_within rs nr q l) l (p.least q (live_within rs nr q l))
  least_between low (Some best) v p = record {
    live = v.1;
    reached = omega (arith, p.above best v.0 p.least.0);
    least = λ q lq sq. ⊎_elim (λ up. p.least.1 q (live_within rs nr q lq) up) (λ up. absurd (omega (arith, p.below q (live_within rs nr q lq) lq up))) (cases_lt low (get_or rs q 0));
  }

  -- the slot at the key's place, or else the next one
  pub least_from : (spot : Result ℕ Gap) (r : Option ℕ) → MatchResult spot (λ p. r ≡ Some p) (λ gap. r ≡ gap.next) → Inside rs spot → Sought rs ss spot → LeastFrom rs ss r
  least_from (Ok p) r e i s = rw e (least_same p i.0 i.1 s)
  least_from (Err gap) r e i s = rw e (least_between gap.low gap.next i.1 s)
