use Rattle.std.proofs.Common.{◌≡◌, length, get_or, ap, arith, rules, Some}
use Rattle.std.proofs.lemmas.List.{take_rest}
use Rattle.pitch.specs.Block.{entries_in, axis_of}
use Rattle.pitch.proofs.Blocks.{length_entries, unpacked, block_back}
use Rattle.pitch.proofs.pack.unpack.Goals as goal

pub invariant_of-result : goal.invariant_of-result
invariant_of-result c =
    let bs = c.args.bytes.now in
    let es : c.in_ok-entries.entries.items ≡ entries_in bs c.from-count.result = unpacked bs _ _ c.from-count.result (take_rest bs 8) (search rules) c.in_ok-entries.ensures in
    record { few = omega (arith, ap length es, length_entries bs c.from-count.result) }

pub returns : goal.returns
returns c =
    let bs = c.args.bytes.now in
    let is : axis_of (get_or bs 2 0) ≡ Some c.in_ok-axis.axis = search rules in
    let es : c.in_ok-entries.entries.items ≡ entries_in bs c.from-count.result = unpacked bs _ _ c.from-count.result (take_rest bs 8) (search rules) c.in_ok-entries.ensures in
    record {
      answer = search rules;
      block = block_back bs (λ i. omega (arith, c.type_inv.bytes i)) c.in_ok-axis.axis c.from_le_bytes-screw.result c.from-count.result c.in_ok-entries.entries.items (search rules) (search rules) es (search rules) (search rules) (search rules) (search rules) is (search rules);
    }
