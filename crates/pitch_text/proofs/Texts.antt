-- Reading a text, a line at a time. Assumes nothing.
use Rattle.std.proofs.Common.{◌≡◌, ℕ, ◌+◌, ◌<◌, ◌≤◌, true, false, cond, eqb, ◌⊎◌, List, [], ◌∷◌, length, get_or, drop, is_ok, Ok, Err, Result, sym, refl, ap, ◌∙◌, subst, inl, inr, arith}
use Rattle.std.proofs.lemmas.List.{drop_more, drop_all}
use Rattle.std.proofs.lemmas.Bool.{both_ways}
use Rattle.pitch_text.specs.declared.text.What.{What}
use Rattle.pitch_text.specs.declared.text.What.TheVariants.{Memory}
use Rattle.pitch_text.specs.declared.text.TextFault.{TextFault}
use Rattle.pitch.specs.Block.{Parts}
use Rattle.pitch_text.specs.Words.{before, onto, lines_of}
use Rattle.pitch_text.specs.Text.{Sofar, start, has_axis, has_screw, ready, statement_in, line_taken, go_on, read_lines, at_end, NotAfter}
use Rattle.pitch_text.proofs.Scans.{after, lines_more}

pub lines_cut : (xs : List ℕ) → 0 < length xs → lines_of xs ≡ before 10 xs ∷ lines_of (after 10 xs)
lines_cut [] h = absurd (omega arith)
lines_cut (x ∷ xs) h = lines_more x xs

-- a fault in the lines after the first n has a later line
not_after : (k n : ℕ) (s : Sofar) (ls : List (List ℕ)) → k ≤ n → NotAfter k (read_lines n s ls)
not_after k n start [] le = le
not_after k n (has_axis a) [] le = le
not_after k n (has_screw s) [] le = le
not_after k n (ready p) [] le = tt
not_after k n s (l ∷ ls) le =
    elim (line_taken (statement_in l) s) as (λ o. NotAfter k (go_on (n + 1) o (λ t. read_lines (n + 1) t ls))) [
      | Err w ↦ omega arith
      | Ok t ↦ not_after k (n + 1) t ls (omega arith)
    ]

-- there are no more lines than bytes
pub lines_le : (xs : List ℕ) → length (lines_of xs) ≤ length xs
lines_le [] = omega arith
lines_le (x ∷ xs) = elim (eqb x 10) as (λ b. length (cond b ([] ∷ lines_of xs) (onto x (lines_of xs))) ≤ length (x ∷ xs)) [
  | true ↦ omega (arith, lines_le xs)
  | false ↦ omega (arith, onto_le x (lines_of xs), lines_le xs)
]
  where
    onto_le : (y : ℕ) (ls : List (List ℕ)) → length (onto y ls) ≤ length ls + 1
    onto_le y [] = omega arith
    onto_le y (l ∷ ls) = omega arith

-- after n of all the lines, the next of them is `one`
module _ (n : ℕ) (s : Sofar) (all : List (List ℕ)) (one : List ℕ) (want : Result Parts TextFault) (left : n < length all) (first : one ≡ get_or all n one) (inv : read_lines n s (drop n all) ≡ want) where
  unfolded : go_on (n + 1) (line_taken (statement_in one) s) (λ t. read_lines (n + 1) t (drop (n + 1) all)) ≡ want
  unfolded = let next : drop n all ≡ one ∷ drop (n + 1) all = drop_more all n one left ∙ ap (λ l. l ∷ drop (n + 1) all) (sym first) in sym (ap (read_lines n s) next) ∙ inv

  -- it was read
  pub read_line : (t : Sofar) → line_taken (statement_in one) s ≡ Ok t → read_lines (n + 1) t (drop (n + 1) all) ≡ want
  read_line t e = rw e at unfolded

  -- it was refused
  pub refused : (w : What) → (line_taken (statement_in one) s ≡ Err w) ⊎ ((w ≡ Memory) × (is_ok (line_taken (statement_in one) s) ≡ true))
      → (want ≡ Err (record { line = n + 1; what = w })) ⊎ ((w ≡ Memory) × (1 ≤ n + 1) × (n + 1 ≤ length all) × NotAfter (n + 1) want)
  refused w (inl e) = inl (sym (rw e at unfolded))
  refused w (inr e) = inr (e.0, omega arith, omega arith, no_fault (line_taken (statement_in one) s) refl)
    where
      no_fault : (o : Result Sofar What) → line_taken (statement_in one) s ≡ o → NotAfter (n + 1) want
      no_fault (Ok t) is = subst (NotAfter (n + 1)) (read_line t is) (not_after (n + 1) (n + 1) t (drop (n + 1) all) (omega arith))
      no_fault (Err v) is = let z : true ≡ false = sym e.1 ∙ ap is_ok is in absurd (both_ways false refl (sym z))

-- no line is left
pub read_end : (n : ℕ) (s : Sofar) (all : List (List ℕ)) (want : Result Parts TextFault) → n ≡ length all → read_lines n s (drop n all) ≡ want → at_end n s ≡ want
read_end n s all want none inv = sym (ap (read_lines n s) (drop_all n all (omega arith))) ∙ inv
