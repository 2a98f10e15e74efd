-- Rows of marks. Assumes nothing.
use Rattle.std.specs.Prelude.{◌≡◌, ℕ, Bool, List, length}

-- a row is a list of marks, each yes or no: which fragments of a block a coded fragment adds up
abbrev pub Row : Type 0
Row = List Bool

-- a row for blocks of m fragments has m marks
abbrev pub IsRow : ℕ → Row → Type 0
IsRow m r = length r ≡ m
