-- The order of samples, by itself and in plain words, and the sample that four bytes spell.
use Rattle.std.specs.Prelude.{◌≡◌, ℕ, ◌+◌, ◌*◌, ◌<◌, ◌⊎◌, List, ◌<ℤ◌, slice_index}
use Rattle.std.proofs.Common.{to_z}
use Rattle.std.specs.Int.{w16}
use Rattle.keys.specs.Orders.{Order, numbers, integers, by, then_by}
use Rattle.keys.specs.declared.sample.Sample.{Sample}

-- by event, then time, then channel
abbrev pub samples : Order Sample
samples = then_by (by (λ s. s.event) numbers) (then_by (by (λ s. s.time) integers) (by (λ s. s.channel) numbers))

-- the same in plain words
abbrev pub Sooner : Sample → Sample → Type 0
Sooner a b = (a.event < b.event) ⊎ ((a.event ≡ b.event) × ((a.time <ℤ b.time) ⊎ ((a.time ≡ b.time) × (a.channel < b.channel))))

-- event, time in two's complement with the high byte first, channel
abbrev pub sample_of : List ℕ → Sample
sample_of b = record { event = slice_index b 0; time = to_z w16 (slice_index b 1 * 256 + slice_index b 2); channel = slice_index b 3 }
