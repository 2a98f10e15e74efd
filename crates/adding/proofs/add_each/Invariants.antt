use Rattle.std.proofs.Common.{◌≡◌}
use Rattle.adding.proofs.Turns.{begun}
use Rattle.adding.proofs.add_each.Given as goal

abbrev pub invariant-loop-i : goal.invariant-loop-i
invariant-loop-i g l = l.a ≡ begun g.E.Element.sum l.i l.initial.a l.b
