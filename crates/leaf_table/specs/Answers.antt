-- What the calls of a node answer, as answers of the leaf lists.
use Rattle.std.specs.Prelude.{ℕ, true, false, Ok, Err, Result}
use Rattle.keys.specs.declared.refusal.Refusal.{Refusal}
use Rattle.lists.specs.Nodes.{Answer, filed, struck, refused}
use Rattle.leaf.specs.declared.result.RemoveOutcome.{RemoveOutcome}
use Rattle.leaf.specs.declared.result.RemoveOutcome.TheVariants.{Success, Retired}

module _ {K V : Type 0} where
  -- of a filing: the moved count, or why it is refused
  abbrev pub filing_answer : Result ℕ Refusal → Answer K V
  filing_answer (Ok moved) = filed moved
  filing_answer (Err r) = refused r

  -- of a strike
  abbrev pub strike_answer : Result RemoveOutcome Refusal → Answer K V
  strike_answer (Ok Success) = struck false
  strike_answer (Ok Retired) = struck true
  strike_answer (Err r) = refused r
