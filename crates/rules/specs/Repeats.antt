-- The rule `Repeat`. Assumes nothing.
use Rattle.std.specs.Prelude.{ℕ, ◌-◌, ◌%◌, Bool, ◌&&◌, Option, ◌==◌, nat_le}
use Rattle.coding.specs.Rows.{Row}
use Rattle.coding.specs.Blocks.{most_fragments}
use Rattle.rules.specs.Filling.{row_if, numbered, single}

abbrev pub repeat_serves : ℕ → ℕ → Bool
repeat_serves a m = a == 7 && nat_le 1 m && nat_le m most_fragments

-- only mark ((n - 1) mod m) + 1 is yes
abbrev pub repeat_row : ℕ → ℕ → ℕ → Option Row
repeat_row a m n = row_if (numbered (repeat_serves a m) n) (single m ((n - 1) % m))
