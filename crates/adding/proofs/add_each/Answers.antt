use Rattle.std.proofs.Common.{◌≡◌, add-one, ◌∙◌, arith}
use Rattle.adding.specs.Sums.{sum}
use Rattle.adding.proofs.Turns.{begun_more, begun_all, sum_back}
use Rattle.adding.proofs.add_each.Goals as goal

pub loop-i-preserved : goal.loop-i-preserved
loop-i-preserved g c =
    let read = rw c.loop-i.invariant at c.index-a-i.is in
    let more = begun_more g.E.Element.sum c.args.a.now c.args.b.now c.loop-i.i _ _ (omega arith) (omega arith) read c.index-b-i.is in
    let one = add-one c.loop-i.i in
    cc

pub returns : goal.returns
returns g c =
    let element = g.E.Element in
    let whole : c.loop-i.a ≡ sum element.sum c.args.a.now c.args.b.now = c.loop-i.invariant ∙ begun_all element.sum c.args.a.now c.args.b.now c.loop-i.i (omega arith) c.requires in
    let back = sum_back g.met.E.Element.laws c.args.a.now c.args.b.now c.requires in
    record { whole = whole; back = rw whole back }
