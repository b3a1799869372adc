-- How a number with its status is printed.
use Rattle.std.specs.Prelude.{ℕ, List, ◌∷◌, ◌++◌, Some, None, Option}
use Rattle.std.specs.Fmt.{decimal}

-- the number, a blank, the status
abbrev pub with_status : Option (List ℕ) → ℕ → Option (List ℕ)
with_status None status = None
with_status (Some number) status = Some (number ++ 32 ∷ decimal status)
