use Rattle.std.proofs.Common.{◌≡◌, ◌++◌, take, vec_items}
use Rattle.std.specs.List.{flat_map, AllByRecursion as All}
use Rattle.pitch.specs.Block.{head_of, four_of}
use Rattle.pitch.proofs.Blocks.{Fitting}
use Rattle.pitch.proofs.pack.pack.Given as goal

abbrev pub invariant-loop-e : goal.invariant-loop-e
invariant-loop-e l = (vec_items l.out ≡ head_of l.table.axis l.table.screw l.count ++ flat_map four_of (take l.e-index (vec_items l.table.entries))) × All Fitting (take l.e-index (vec_items l.table.entries))
