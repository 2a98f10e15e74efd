use Rattle.std.proofs.Common.{◌≡◌, ◌<◌, [], None, Some, not, drop, rules, tests, refl, sym, ◌∙◌, arith}
use Rattle.std.specs.List.{position_or_len}
use Rattle.std.proofs.lemmas.List.{take_rest}
use Rattle.std.proofs.lemmas.Iterator.{YieldsList-from_slice}
use Rattle.std.proofs.lemmas.Iterator.Search.{position_from_yields_List}
use Rattle.pitch_text.specs.Words.{blank, ends_word, spoken}
use Rattle.pitch_text.proofs.Scans.{no_word, comment_at, word_at, end_is}
use Rattle.pitch_text.proofs.words.next_word.Goals as goal

pub returns-in_err-start : goal.returns-in_err-start
returns-in_err-start c =
    let s = c.args.s.now in
    let found = position_from_yields_List (λ x. not (blank x)) _ _ c.position.result c.position.ensures.ran (YieldsList-from_slice s cc) (λ x b q k. search (rules, tests)) in
    let none : c.position.result ≡ None = search rules in
    let left : spoken s ≡ [] = no_word s (sym found ∙ none) in
    search rules

pub returns-then-end-eq0 : goal.returns-then-end-eq0
returns-then-end-eq0 c =
    let s = c.args.s.now in
    let found = position_from_yields_List (λ x. not (blank x)) _ _ c.position.result c.position.ensures.ran (YieldsList-from_slice s cc) (λ x b q k. search (rules, tests)) in
    let some : c.position.result ≡ Some c.in_ok-start.start = search rules in
    let word = c.iter-2.result.rest.now in
    let end = position_from_yields_List ends_word _ _ c.position-2.result c.position-2.ensures.ran (YieldsList-from_slice word cc) (λ x b q k. search (rules, tests)) in
    let cut : word ≡ drop c.in_ok-start.start s = search (rules, take_rest) in
    let stop : c.unwrap_or-end.result ≡ position_or_len ends_word (drop c.in_ok-start.start s) = (rw (take_rest s c.in_ok-start.start) at c.unwrap_or-end.ensures) ∙ end_is ends_word (drop c.in_ok-start.start s) c.position-2.result (rw cut at end) in
    let none : c.unwrap_or-end.result ≡ 0 = search rules in
    comment_at s c.in_ok-start.start (sym found ∙ some) (sym stop ∙ none)

pub returns : goal.returns
returns c =
    let s = c.args.s.now in
    let found = position_from_yields_List (λ x. not (blank x)) _ _ c.position.result c.position.ensures.ran (YieldsList-from_slice s cc) (λ x b q k. search (rules, tests)) in
    let some : c.position.result ≡ Some c.in_ok-start.start = search rules in
    let word = c.iter-2.result.rest.now in
    let end = position_from_yields_List ends_word _ _ c.position-2.result c.position-2.ensures.ran (YieldsList-from_slice word cc) (λ x b q k. search (rules, tests)) in
    let cut : word ≡ drop c.in_ok-start.start s = search (rules, take_rest) in
    let all = take_rest s c.in_ok-start.start in
    let stop : c.unwrap_or-end.result ≡ position_or_len ends_word (drop c.in_ok-start.start s) = (rw all at c.unwrap_or-end.ensures) ∙ end_is ends_word (drop c.in_ok-start.start s) c.position-2.result (rw cut at end) in
    let one : 0 < c.unwrap_or-end.result = search rules in
    let front = rw (all, stop) at c.split_at.ensures.front in
    let back = rw (all, stop) at c.split_at.ensures.back in
    word_at s c.in_ok-start.start (sym found ∙ some) (omega (arith, one, stop)) ∙ rw (front, back) refl
