use Rattle.std.proofs.Common.{rules}
use Rattle.std.proofs.lemmas.List.Edits.{map_over_more}
use Rattle.layers.specs.Spared.{retired}
use Rattle.layers.proofs.scan.retire.Goals as goal

pub loop-spare-preserved : goal.loop-spare-preserved
loop-spare-preserved c = search (rules, map_over_more (retired c.args.p))
