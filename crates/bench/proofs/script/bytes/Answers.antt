use Rattle.std.proofs.Common.{rules}
use Rattle.hex.proofs.HexLemmas.{decode_of-ok}
use Rattle.bench.proofs.script.bytes.Goals as goal

pub returns-in_ok-decode-in_default : goal.returns-in_ok-decode-in_default
returns-in_ok-decode-in_default c =
    let sized = (decode_of-ok c.args.text.now c.in_ok-decode-in_default.field-0.items c.in_ok-decode-in_default.ensures.ok).2 in
    search rules
