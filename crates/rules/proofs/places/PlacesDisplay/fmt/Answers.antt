use Rattle.std.proofs.Common.{◌<◌, ◌≤◌, length, rules, arith}
use Rattle.std.proofs.Output.{has_written_append, has_written_of_eq}
use Rattle.rules.proofs.Written.{one_more, all_places}
use Rattle.rules.proofs.places.PlacesDisplay.fmt.Goals as goal

pub loop-i-preserved : goal.loop-i-preserved
loop-i-preserved g c = λ plain.
    let within : c.loop-i.i < length c.args.self.now.0.now = omega arith in
    has_written_of_eq _ _ _ _ _ (one_more _ _ within) (has_written_append _ _ _ _ _ _ (c.loop-i.invariant plain) (search rules))

pub returns-clause-writes : goal.returns-clause-writes
returns-clause-writes g c = λ plain ok.
    let end : length c.args.self.now.0.now ≤ c.loop-i.i = omega arith in
    has_written_of_eq _ _ _ _ _ (all_places _ _ end) (c.loop-i.invariant plain)
