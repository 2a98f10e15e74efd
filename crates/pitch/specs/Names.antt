-- How an axis is written. Assumes nothing.
use Rattle.std.specs.Prelude.{ℕ, List, codes}
use Rattle.pitch.specs.declared.table.Axis.{Axis}
use Rattle.pitch.specs.declared.table.Axis.TheVariants.{X, Y, Z}

abbrev pub axis_name : Axis → List ℕ
axis_name X = codes "X"
axis_name Y = codes "Y"
axis_name Z = codes "Z"
