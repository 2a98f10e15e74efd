use Rattle.std.proofs.Common.{◌≡◌, ◌++◌, map, take, drop}
use Rattle.layers.specs.Spared.{retired}
use Rattle.layers.proofs.scan.retire.Given as goal

abbrev pub invariant-loop-spare : goal.invariant-loop-spare
invariant-loop-spare l = l.spares ≡ map (retired l.p) (take l.spare-index l.initial.spares) ++ drop l.spare-index l.initial.spares
