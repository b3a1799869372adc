-- The number of each refusal and of each answer, and when stored bytes are refused.
use Rattle.std.specs.Prelude.{◌≡◌, ℕ, List, length, Result, Ok, Err, MatchResult, ◌≢◌}
use Rattle.keys.specs.declared.refusal.Refusal.{Refusal}
use Rattle.keys.specs.declared.refusal.Refusal.TheVariants.{Duplicate, Full, NotStruck, Frozen, NotFound, SlotCount, StoredLength}

abbrev pub number : Refusal → ℕ
number Duplicate = 1
number Full = 2
number NotStruck = 3
number Frozen = 4
number NotFound = 5
number SlotCount = 6
number StoredLength = 7

-- an answer that is no refusal has the number 0
abbrev pub number_of : {A : Type 0} → Result A Refusal → ℕ
number_of (Ok a) = 0
number_of (Err r) = number r

-- four bytes get an answer of which P holds, and any others are refused
abbrev pub IfFour : {A : Type 0} → List ℕ → (A → Type 0) → Result A Refusal → Type 0
IfFour bytes P r = MatchResult r (λ a. (length bytes ≡ 4) × P a) (λ e. (e ≡ StoredLength) × (length bytes ≢ 4))
