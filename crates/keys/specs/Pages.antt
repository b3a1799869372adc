-- The order of pages, and the page that four bytes spell.
use Rattle.std.specs.Prelude.{ℕ, ◌+◌, ◌*◌, List, slice_index}
use Rattle.keys.specs.Orders.{Order, numbers, by}
use Rattle.keys.specs.declared.page.Page.{Page}

-- by address
abbrev pub pages : Order Page
pages = by (λ p. p.address) numbers

-- the address, the high byte first
abbrev pub page_of : List ℕ → Page
page_of b = record { address = slice_index b 0 * 16777216 + slice_index b 1 * 65536 + slice_index b 2 * 256 + slice_index b 3 }
