use Rattle.std.proofs.Common.{◌≡◌, length, drop}
use Rattle.pitch_text.specs.Words.{lines_of}
use Rattle.pitch_text.specs.Text.{sofar_of, read_lines, read_text}
use Rattle.pitch_text.proofs.text.read_table.Given as goal

abbrev pub invariant-loop-piece : goal.invariant-loop-piece
invariant-loop-piece l = (l.line ≡ length l.yielded) × (read_lines l.line (sofar_of l.reading) (drop l.line (lines_of l.text)) ≡ read_text l.text)
