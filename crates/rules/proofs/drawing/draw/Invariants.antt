use Rattle.std.proofs.Common.{◌≡◌, ◌-◌, ◌/◌, false, replicate}
use Rattle.rules.specs.Draws.{drawn, draws, seed}
use Rattle.rules.specs.Bound.{rejected}
use Rattle.rules.proofs.drawing.draw.Given as goal

-- what the rest of the draw gives is what all of it gives
abbrev pub invariant-values : goal.invariant-values
invariant-values l = drawn l.m l.register.value ≡ drawn l.m l.initial.register.value

-- the values that still fall out: at most 20
abbrev pub decreases-values : goal.decreases-values
decreases-values l = rejected 21 l.m l.register.value

-- what the draws that are left give is what all of them give
abbrev pub invariant-draws : goal.invariant-draws
invariant-draws l = draws (l.m / 2 - l.counter) l.m l.register.value l.row ≡ draws (l.m / 2) l.m (seed l.m l.n) (replicate l.m false)
