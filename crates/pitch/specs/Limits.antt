-- How large a pitch table is. Assumes nothing.
use Rattle.std.specs.Prelude.{ℕ}

abbrev pub most_millimetres : ℕ
most_millimetres = 2000
