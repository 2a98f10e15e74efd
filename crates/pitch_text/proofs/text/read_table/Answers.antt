use Rattle.std.proofs.Common.{◌≡◌, ◌<◌, ◌≤◌, ◌+◌, length, get_or, Ok, Err, arith, rules, tests}
use Rattle.std.proofs.lemmas.List.{length_push}
use Rattle.pitch_text.specs.declared.text.What.{What}
use Rattle.pitch_text.specs.Words.{without_feed, lines_of}
use Rattle.pitch_text.specs.Text.{statement_in, line_taken, sofar_of, read_text}
use Rattle.pitch_text.proofs.Texts.{lines_le, read_line, refused, read_end}
use Rattle.pitch_text.proofs.Pieces.{line_turn, piece_end}
use Rattle.pitch_text.proofs.text.read_table.Goals as goal
use Rattle.pitch_text.proofs.text.read_table.Goals.{In-Some}

turn : (c : In-Some) → (length c.loop-piece.yielded < length (lines_of c.args.text.now)) × (without_feed c.in-Some.piece.now ≡ get_or (lines_of c.args.text.now) (length c.loop-piece.yielded) (without_feed c.in-Some.piece.now))
turn c = line_turn _ _ _ _ c.args.text.now c.loop-piece.yielded c.next.result c.loop-piece.yielded_by (search rules) (search rules) (λ x b q k. search (rules, tests)) c.next.ensures.steps c.in-Some.piece c.in-Some.is

pub overflow_add-line : goal.overflow_add-line
overflow_add-line c =
    let within : c.loop-piece.line + 1 ≤ length c.args.text.now = omega (arith, (turn c).0, lines_le c.args.text.now) in
    search rules

pub returns-in_err-reading : goal.returns-in_err-reading
returns-in_err-reading c =
    let t = turn (goal.at.returns-in_err-reading c).In-Some in
    let failed : (w : What) × (c.take.result ≡ Err w) × (c.from_residual.result ≡ Err (record { line = c.loop-piece.line + 1; what = w })) = search rules in
    let first : without_feed c.in-Some.piece.now ≡ get_or (lines_of c.args.text.now) c.loop-piece.line (without_feed c.in-Some.piece.now) = rw c.loop-piece.invariant.0 t.1 in
    let answer = rw (failed.1, c.without_feed.ensures) at c.take.ensures in
    rw failed.2 (refused c.loop-piece.line (sofar_of c.loop-piece.reading) (lines_of c.args.text.now) (without_feed c.in-Some.piece.now) (read_text c.args.text.now) (omega arith) first c.loop-piece.invariant.1 failed.0 answer)

pub loop-piece-preserved : goal.loop-piece-preserved
loop-piece-preserved c =
    let t = turn (goal.at.loop-piece-preserved c).In-Some in
    let took : line_taken (statement_in (without_feed c.in-Some.piece.now)) (sofar_of c.loop-piece.reading) ≡ Ok (sofar_of c.in_ok-reading.reading) = search rules in
    let first : without_feed c.in-Some.piece.now ≡ get_or (lines_of c.args.text.now) c.loop-piece.line (without_feed c.in-Some.piece.now) = rw c.loop-piece.invariant.0 t.1 in (
      omega (arith, length_push c.loop-piece.yielded c.in-Some.piece),
      read_line c.loop-piece.line (sofar_of c.loop-piece.reading) (lines_of c.args.text.now) (without_feed c.in-Some.piece.now) (read_text c.args.text.now) (omega arith) first c.loop-piece.invariant.1 (sofar_of c.in_ok-reading.reading) took,
    )

pub returns : goal.returns
returns c =
    let none : length c.loop-piece.yielded ≡ length (lines_of c.args.text.now) = piece_end _ _ _ _ c.args.text.now c.loop-piece.yielded c.next.result c.loop-piece.yielded_by (search rules) (search rules) (λ x b q k. search (rules, tests)) c.next.ensures.steps c.in-None.is in
    rw (read_end c.loop-piece.line (sofar_of c.loop-piece.reading) (lines_of c.args.text.now) (read_text c.args.text.now) (omega arith) c.loop-piece.invariant.1) at (c.table_of.ensures (length (lines_of c.args.text.now)))
