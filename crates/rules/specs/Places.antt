-- The marks of a row as text. Assumes nothing.
use Rattle.std.specs.Prelude.{ℕ, Bool, cond, List, [], ◌++◌, codes, decimal}
use Rattle.std.specs.List.{flat_map, enumerate_from}
use Rattle.coding.specs.Rows.{Row}

-- a yes mark is written as a space and its place, and any other not at all
abbrev pub place_text : ℕ × Bool → List ℕ
place_text p = cond p.1 (codes " " ++ decimal p.0) []

-- the places of the yes marks, from 1, each after a space
abbrev pub places_text : Row → List ℕ
places_text marks = flat_map place_text (enumerate_from 1 marks)
