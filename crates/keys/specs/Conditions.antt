-- What the conditions say of a value, and of the values of a list, asked in turn.
use Rattle.std.specs.Prelude.{ℕ, ◌+◌, ◌-◌, Bool, cond, List, [], ◌∷◌, ◌==◌}
use Rattle.keys.specs.declared.condition.FirstN.{FirstN}

-- whether a value of this status is not available
abbrev pub is_unavailable : ℕ → Bool
is_unavailable status = status == 255

-- one yes fewer is left, if any is
abbrev pub countdown : FirstN → FirstN
countdown c = record { left = c.left - 1 }

-- how often a condition says yes
abbrev pub yeses : {C V : Type 0} → (C → V → Bool) → (C → V → C) → C → List V → ℕ
yeses verdict after c [] = 0
yeses verdict after c (v ∷ vs) = cond (verdict c v) 1 0 + yeses verdict after (after c v) vs
