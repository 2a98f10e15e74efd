use Rattle.std.proofs.Common.{sym, ◌∙◌, rules}
use Rattle.pitch_text.proofs.Scans.{read_more, read_stop, read_all, numeral_some}
use Rattle.pitch_text.proofs.words.number.Goals as goal

pub returns-in_err-n : goal.returns-in_err-n
returns-in_err-n c = rw c.from_residual.ensures (record {
  value = sym (numeral_some c.args.limit c.args.word.now (search rules) ∙ (c.loop-x.invariant.0 ∙ read_stop c.args.limit c.loop-x.n c.args.word.now c.loop-x.x-index (search rules) (sym c.in_err-n.ensures.value)));
  bound = tt;
})

pub loop-x-preserved : goal.loop-x-preserved
loop-x-preserved c =
    (c.loop-x.invariant.0 ∙ read_more c.args.limit c.loop-x.n c.in_ok-n.n c.args.word.now c.loop-x.x-index (search rules) (sym c.in_ok-n.ensures.value), c.in_ok-n.ensures.bound)

pub returns : goal.returns
returns c = record {
  value = sym (numeral_some c.args.limit c.args.word.now (search rules) ∙ (c.loop-x.invariant.0 ∙ read_all c.args.limit c.loop-x.n c.args.word.now c.loop-x.x-index (search rules)));
  bound = c.loop-x.invariant.1;
}
