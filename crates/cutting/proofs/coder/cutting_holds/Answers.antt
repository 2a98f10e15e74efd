use Rattle.cutting.proofs.Fragments.{is_block, whole_again}
use Rattle.cutting.proofs.coder.cutting_holds.Goals as goal

pub returns-clause-block : goal.returns-clause-block
returns-clause-block c = is_block

pub returns-clause-whole : goal.returns-clause-whole
returns-clause-whole c = whole_again
