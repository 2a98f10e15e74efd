use Rattle.std.proofs.Common.{◌≡◌, true, false, codes, arith, rules}
use Rattle.std.specs.Str.{bytes_eq}
use Rattle.std.proofs.lemmas.Grind.{common_steps}
use Rattle.pitch_text.proofs.text.pair_statement.Goals as goal

pub returns-in-screw : goal.returns-in-screw
returns-in-screw c =
    let no_axis : bytes_eq c.args.first.now (codes "axis") ≡ false = search rules in
    let screw : bytes_eq c.args.first.now (codes "screw") ≡ true = grind (arith, common_steps) in
    rw (no_axis, screw) c.screw_statement.ensures

pub returns-in_default : goal.returns-in_default
returns-in_default c =
    let no_axis : bytes_eq c.args.first.now (codes "axis") ≡ false = search rules in
    let no_screw : bytes_eq c.args.first.now (codes "screw") ≡ false = search rules in
    rw (no_axis, no_screw) c.errors_statement.ensures
