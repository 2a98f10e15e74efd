use Rattle.std.proofs.Common.{◌≡◌, ◌++◌, take, vec_items, string_bytes}
use Rattle.std.specs.List.{flat_map, AllByRecursion as All}
use Rattle.pitch_text.specs.Text.{head_lines, line_of}
use Rattle.pitch_text.proofs.Shows.{Fits16}
use Rattle.pitch_text.proofs.show.show.Given as goal

abbrev pub invariant-loop-e : goal.invariant-loop-e
invariant-loop-e l = (string_bytes l.out ≡ head_lines l.table.axis l.table.screw ++ flat_map line_of (take l.e-index (vec_items l.table.entries))) × All Fits16 (take l.e-index (vec_items l.table.entries))
