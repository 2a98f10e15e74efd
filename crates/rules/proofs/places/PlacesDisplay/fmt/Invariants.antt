use Rattle.std.specs.Fmt.{HasWritten, IsPlainFormatter}
use Rattle.rules.proofs.Written.{first_places}
use Rattle.rules.proofs.places.PlacesDisplay.fmt.Given as goal

abbrev pub invariant-loop-i : goal.invariant-loop-i
invariant-loop-i g l =
    IsPlainFormatter l.initial.f → HasWritten g.W.Write.write_str_gives l.initial.f (first_places l.i l.self.0.now) l.f
