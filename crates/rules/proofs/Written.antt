-- The text of a row, a mark at a time. Assumes nothing.
use Rattle.std.proofs.Common.{◌≡◌, ℕ, ◌+◌, ◌<◌, ◌≤◌, false, List, [], ◌∷◌, ◌++◌, length, get_or, take, sym, ap, ◌∙◌, arith}
use Rattle.std.specs.List.{flat_map, enumerate_from}
use Rattle.std.proofs.lemmas.List.{take_more, take_all, flat_map_more}
use Rattle.std.proofs.lemmas.List.FromFn.{length-enumerate_from, get_or-enumerate_from}
use Rattle.coding.specs.Rows.{Row}
use Rattle.rules.specs.Places.{place_text, places_text}

-- what the first i marks are written as
abbrev pub first_places : ℕ → Row → List ℕ
first_places i marks = flat_map place_text (take i (enumerate_from 1 marks))

pub one_more : (marks : Row) (i : ℕ) → i < length marks → first_places i marks ++ place_text (i + 1, get_or marks i false) ≡ first_places (i + 1) marks
one_more marks i h =
    let inside : i < length (enumerate_from 1 marks) = omega (arith, length-enumerate_from 1 marks) in
    let at = get_or-enumerate_from 1 marks i (0, false) h in
    let one : 1 + i ≡ i + 1 = omega arith in
    let here : get_or (enumerate_from 1 marks) i (0, false) ≡ (i + 1, get_or marks i false) = cc in
    flat_map_more place_text [] (take i (enumerate_from 1 marks)) (i + 1, get_or marks i false)
    ∙ ap (λ p. flat_map place_text (take i (enumerate_from 1 marks) ++ p ∷ [])) (sym here)
    ∙ ap (flat_map place_text) (sym (take_more (enumerate_from 1 marks) i (0, false) inside))

pub all_places : (marks : Row) (i : ℕ) → length marks ≤ i → first_places i marks ≡ places_text marks
all_places marks i h = ap (flat_map place_text) (take_all i (enumerate_from 1 marks) (omega (arith, length-enumerate_from 1 marks)))
