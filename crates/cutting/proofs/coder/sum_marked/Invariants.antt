use Rattle.std.proofs.Common.{◌≡◌, length}
use Rattle.coding.specs.Blocks.{coded, xors}
use Rattle.cutting.specs.Cuts.{cut}
use Rattle.cutting.proofs.Turns.{left}
use Rattle.cutting.proofs.coder.sum_marked.Given as goal

-- what is added so far and the marked fragments that are left give what all give
abbrev pub invariant-loop-marked : goal.invariant-loop-marked
invariant-loop-marked l = record {
  long : length l.part ≡ length l.initial.part;
  all : xors l.part (left (length l.initial.part) l.marks l.marked-index l.rest) ≡ coded (length l.initial.part) l.marks (cut (length l.marks) (length l.initial.part) l.block);
}
