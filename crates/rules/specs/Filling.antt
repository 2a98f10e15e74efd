-- What a line rule answers, and what it leaves in the list of marks. Assumes nothing.
use Rattle.std.specs.Prelude.{ℕ, Bool, true, false, ◌&&◌, List, ◌++◌, length, drop, replicate, Some, None, Ok, Err, codes, Option, Result, nat_le, slice_set}
use Rattle.coding.specs.Rows.{Row}
use Rattle.rules.specs.declared.line_rule.RowFault.{RowFault}
use Rattle.rules.specs.declared.line_rule.RowFault.TheVariants.{Short, NoRow}

-- the last fragment number that can have a row: N has 14 bits
abbrev pub last_number : ℕ
last_number = 16383

-- the word for a fault
abbrev pub fault_text : RowFault → List ℕ
fault_text Short = codes "short"
fault_text NoRow = codes "none"

-- the answer, where the test says whether the list is long enough
abbrev pub answered : Bool → Option Row → Result (Unit {0}) RowFault
answered false row = Err Short
answered true None = Err NoRow
answered true (Some row) = Ok tt

-- the list after it: its first places are the row, and the rest stays
abbrev pub filled : Bool → Option Row → List Bool → List Bool
filled false row marks = marks
filled true None marks = marks
filled true (Some row) marks = row ++ drop (length row) marks

-- how long the row is, where the first test says whether there is room for it, and the second whether there is one
abbrev pub length_if : Bool → Bool → ℕ → Result ℕ RowFault
length_if false row m = Err Short
length_if true false m = Err NoRow
length_if true true m = Ok m

-- whether number n has a row, where the pair is served
abbrev pub numbered : Bool → ℕ → Bool
numbered served n = served && nat_le 1 n && nat_le n last_number

-- the row, where the test passes
abbrev pub row_if : Bool → Row → Option Row
row_if true row = Some row
row_if false row = None

-- m marks, of which only the one at place k, from 0, is yes
abbrev pub single : ℕ → ℕ → Row
single m k = slice_set (replicate m false) k true
