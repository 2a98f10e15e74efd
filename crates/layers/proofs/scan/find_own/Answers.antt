use Rattle.std.proofs.Common.{length, ap, ◌∙◌, rules, tests}
use Rattle.std.proofs.lemmas.Iterator.{YieldsList-from_slice}
use Rattle.std.proofs.lemmas.Iterator.Search.{position_from_yields_List}
use Rattle.layers.specs.declared.spare.Spare.TheVariants.{Free}
use Rattle.layers.specs.Lowest.{found}
use Rattle.layers.specs.Spared.{is_of}
use Rattle.layers.proofs.Lows.{low_position}
use Rattle.layers.proofs.scan.find_own.Goals as goal

pub returns : goal.returns
returns c =
    let xs = c.args.spares.now in
    position_from_yields_List (is_of c.args.p) _ _ _ c.position.ensures.ran (YieldsList-from_slice xs cc) (λ x b q k. search (rules, tests))
    ∙ ap (found (length xs)) (low_position (is_of c.args.p) xs Free)
