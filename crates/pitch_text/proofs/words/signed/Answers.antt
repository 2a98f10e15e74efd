use Rattle.std.proofs.Common.{Some, None, sym, ap, ◌∙◌, w16, SFits, rules}
use Rattle.std.proofs.lemmas.Int.{to_z-of_z}
use Rattle.pitch_text.proofs.Scans.{signed_minus}
use Rattle.pitch_text.proofs.words.signed.Goals as goal

pub returns-in_err-n : goal.returns-in_err-n
returns-in_err-n c =
    c.from_residual.ensures ∙ sym (signed_minus c.args.word.now None (search rules) (search rules) c.in_err-n.ensures.value)

pub returns-then-word-eq45 : goal.returns-then-word-eq45
returns-then-word-eq45 c =
    let fits : SFits w16 c.negated.result = search rules in
    ap Some (to_z-of_z w16 c.negated.result fits ∙ c.negated.ensures) ∙ sym (signed_minus c.args.word.now (Some c.in_ok-n.n) (search rules) (search rules) c.in_ok-n.ensures.value)
