-- A loop that adds up the marked fragments of a block. Assumes nothing.
use Rattle.std.proofs.Common.{◌≡◌, ℕ, zero, suc, ◌+◌, ◌-◌, ◌<◌, ◌≤◌, min, Bool, true, false, List, [], ◌∷◌, ◌++◌, length, get_or, take, drop, sym, ap, ◌∙◌, arith, length-take}
use lib.Bits.{bit_xor}
use lib.ListN.{length-replicate}
use Rattle.std.proofs.lemmas.List.{drop_all, drop_more, take_min, drop_min}
use Rattle.adding.specs.Sums.{added}
use Rattle.adding.specs.Laws.{byte_laws}
use Rattle.adding.proofs.Lists.{length-sum, sum_assoc, sum_comm, sum_zeros, added-filled}
use Rattle.coding.specs.Rows.{Row}
use Rattle.coding.specs.Blocks.{zeros, xors, coded}
use Rattle.cutting.specs.Cuts.{fragment, cut}
use Rattle.cutting.proofs.Fragments.{length-fragment}

pub length-coded : (s : ℕ) (marks : Row) (m : ℕ) (bytes : List ℕ) → length (coded s marks (cut m s bytes)) ≡ s
length-coded s [] m bytes = length-replicate s 0
length-coded s (x ∷ marks) zero bytes = length-replicate s 0
length-coded s (false ∷ marks) (suc m) bytes = length-coded s marks m (drop s bytes)
length-coded s (true ∷ marks) (suc m) bytes =
    length-sum bit_xor (fragment s bytes) (coded s marks (cut m s (drop s bytes))) (length-fragment s bytes ∙ sym (length-coded s marks m (drop s bytes)))
    ∙ length-fragment s bytes

-- ---- the marks from i on, and what is left of the bytes there

-- what they add up to
abbrev pub left : ℕ → Row → ℕ → List ℕ → List ℕ
left s marks i rest = coded s (drop i marks) (cut (length marks - i) s rest)

module _ (s : ℕ) (marks : Row) (i : ℕ) (rest : List ℕ) (within : i < length marks) where
  -- with the mark at i taken apart
  apart : (b : Bool) → get_or marks i false ≡ b → left s marks i rest ≡ coded s (b ∷ drop (i + 1) marks) (cut (suc (length marks - (i + 1))) s rest)
  apart b is =
      let row : drop i marks ≡ b ∷ drop (i + 1) marks = drop_more marks i false within ∙ ap (λ x. x ∷ drop (i + 1) marks) is in
      let one : length marks - i ≡ suc (length marks - (i + 1)) = omega arith in
      rw (row, one)

  pub left_no : get_or marks i false ≡ false → left s marks i rest ≡ left s marks (i + 1) (drop (min s (length rest)) rest)
  left_no is = rw drop_min (apart false is)

  pub left_yes : (part : List ℕ) → get_or marks i false ≡ true → length part ≡ s
      → xors part (left s marks i rest) ≡ xors (added bit_xor part (take (min s (length rest)) rest)) (left s marks (i + 1) (drop (min s (length rest)) rest))
  left_yes part is long =
      let n = min s (length rest) in
      let taken : length part ≡ length (take n rest) + (s - length rest) = omega (arith, length-take n rest) in
      let front : added bit_xor part (take n rest) ≡ xors part (fragment s rest) =
      added-filled byte_laws part (take n rest) (s - length rest) taken ∙ ap (λ t. xors part (t ++ zeros (s - length rest))) (take_min s rest) in
      ap (xors part) (apart true is)
      ∙ sym (sum_assoc byte_laws part (fragment s rest) (left s marks (i + 1) (drop s rest)))
      ∙ rw (front, drop_min s rest)

pub left_none : (s : ℕ) (marks : Row) (i : ℕ) (part rest : List ℕ) → length marks ≤ i → length part ≡ s → xors part (left s marks i rest) ≡ part
left_none s marks i part rest end long = rw (drop_all i marks end) (sum_zeros byte_laws s part long)

pub from_zeros : (s : ℕ) (marks : Row) (bytes : List ℕ) → xors (zeros s) (left s marks 0 bytes) ≡ coded s marks (cut (length marks) s bytes)
from_zeros s marks bytes =
    let all : length marks - 0 ≡ length marks = omega arith in
    rw all (sum_comm byte_laws (zeros s) (coded s marks (cut (length marks) s bytes)) ∙ sum_zeros byte_laws s _ (length-coded s marks (length marks) bytes))
