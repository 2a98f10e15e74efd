use Rattle.std.proofs.Common.{◌≡◌, take, vec_items, rules}
use Rattle.std.proofs.lemmas.List.{take_all}
use Rattle.pitch.proofs.Blocks.{packed_all, parsed_block}
use Rattle.pitch.proofs.pack.pack.Goals as goal

pub returns-clause-back : goal.returns-clause-back
returns-clause-back c =
    let whole : take c.loop-e.e-index (vec_items c.args.table.now.entries) ≡ vec_items c.args.table.now.entries = search (rules, take_all) in
    let all = packed_all c.args.table.now.axis c.args.table.now.screw c.len-count.result c.loop-e.e-index (vec_items c.args.table.now.entries) (vec_items c.loop-e.out) (search rules) whole (search rules) (search rules) c.loop-e.invariant in
    rw all.0 (parsed_block _ all.1)
