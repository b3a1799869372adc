-- How often a condition that says yes n times does so.
use Rattle.std.proofs.Common.{◌≡◌, min, ltb, List, [], ◌∷◌, length, arith}
use Rattle.std.proofs.lemmas.Bool.Decides.{nat_tests}
use Rattle.keys.specs.declared.condition.FirstN.{FirstN}
use Rattle.keys.specs.Conditions.{countdown, yeses}

pub yeses_first : {V : Type 0} (c : FirstN) (vs : List V) → yeses (λ x _. ltb 0 x.left) (λ x _. countdown x) c vs ≡ min c.left (length vs)
yeses_first c [] = omega arith
yeses_first c (v ∷ vs) = let ih = yeses_first (countdown c) vs in grind (arith, nat_tests)
