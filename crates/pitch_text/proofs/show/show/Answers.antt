use Rattle.std.proofs.Common.{◌≡◌, ◌++◌, take, vec_items, string_bytes, ap, ◌∙◌, rules}
use Rattle.std.specs.List.{flat_map, AllByRecursion as All}
use Rattle.std.proofs.lemmas.List.{take_all}
use Rattle.pitch.specs.Block.{parts_of}
use Rattle.pitch_text.specs.Text.{head_lines, line_of, text_of}
use Rattle.pitch_text.proofs.Shows.{Fits16, text_back}
use Rattle.pitch_text.proofs.show.show.Goals as goal

pub returns : goal.returns
returns c =
    let whole : take c.loop-e.e-index (vec_items c.args.table.now.entries) ≡ vec_items c.args.table.now.entries = search (rules, take_all) in
    let is : string_bytes c.loop-e.out ≡ text_of (parts_of c.args.table.now) = c.loop-e.invariant.0 ∙ ap (λ xs. head_lines c.args.table.now.axis c.args.table.now.screw ++ flat_map line_of xs) whole in
    let fits : All Fits16 (vec_items c.args.table.now.entries) = rw whole at c.loop-e.invariant.1 in
    record {
      text = is;
      back = rw is (text_back (parts_of c.args.table.now) (search rules) (search rules) fits);
    }
