use Rattle.std.proofs.Common.{◌≡◌, ◌≤◌, drop}
use Rattle.pitch_text.specs.Words.{read_on}
use Rattle.pitch_text.proofs.words.number.Given as goal

abbrev pub invariant-loop-x : goal.invariant-loop-x
invariant-loop-x l = (read_on l.limit 0 l.word ≡ read_on l.limit l.n (drop l.x-index l.word)) × (l.n ≤ l.limit)
