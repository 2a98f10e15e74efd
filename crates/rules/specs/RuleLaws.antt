-- The laws of a line rule, kept by `Published` and by `Repeat`. Assumes nothing.
use Rattle.std.specs.Prelude.{◌≡◌, ℕ, zero, suc, ◌-◌, ◌/◌, ◌%◌, ◌<◌, Bool, true, false, List, length, replicate, Option, Some, None, nat_le, slice_set, refl}
use Rattle.std.proofs.Common.{◌∙◌, rules}
use Rattle.std.proofs.lemmas.List.{length-set, length-replicate}
use Rattle.std.proofs.lemmas.Bool.{cond_both}
use Rattle.coding.specs.Rows.{Row, IsRow}
use Rattle.rules.specs.Filling.{last_number, row_if, numbered, single}
use Rattle.rules.specs.Draws.{width, drawn, draws, seed, published_serves, published_row, published_marks}
use Rattle.rules.specs.Repeats.{repeat_serves, repeat_row}

-- the laws of a line rule that serves such pairs of FragAlgo and M, and has such rows for the pairs and each number
pub record RuleLaws (served : ℕ → ℕ → Bool) (row : ℕ → ℕ → ℕ → Option Row) : Type 0 where
  -- FragAlgo has three bits
  pub algorithms : (a m : ℕ) → 7 < a → served a m ≡ false
  -- a pair that is not served has no row
  pub unserved : (a m n : ℕ) → served a m ≡ false → row a m n ≡ None
  -- nor has a number above the last
  pub beyond : (a m n : ℕ) → last_number < n → row a m n ≡ None
  -- a row for M has M marks
  pub whole : (a m n : ℕ) (marks : Row) → row a m n ≡ Some marks → IsRow m marks

-- ## How long a row is

pub length-single : (m k : ℕ) → length (single m k) ≡ m
length-single m k = length-set (replicate m false) k true ∙ length-replicate m false

pub length-draws : (count m x : ℕ) (marks : List Bool) → length (draws count m x marks) ≡ length marks
unfolding draws
length-draws zero m x marks = refl
length-draws (suc count) m x marks = length-draws count m (drawn m x) (slice_set marks (drawn m x % width m) true) ∙ length-set marks (drawn m x % width m) true

pub length_published : (m n : ℕ) → length (published_marks m n) ≡ m
length_published m n =
    cond_both (nat_le n m) (single m (n - 1)) (draws (m / 2) m (seed m n) (replicate m false)) (λ row. length row ≡ m)
    (λ _. length-single m (n - 1))
    (λ _. length-draws (m / 2) m (seed m n) (replicate m false) ∙ length-replicate m false)

-- ## The laws, of a rule that has a row where the pair is served and the number can have one

pub unserved : (served : Bool) (n : ℕ) (row : Row) → served ≡ false → row_if (numbered served n) row ≡ None
unserved = search rules

pub beyond : (served : Bool) (n : ℕ) (row : Row) → last_number < n → row_if (numbered served n) row ≡ None
beyond = search rules

pub row_if_whole : (t : Bool) (row : Row) (m : ℕ) → length row ≡ m → (marks : Row) → row_if t row ≡ Some marks → length marks ≡ m
row_if_whole true row m h marks e = cc
row_if_whole false row m h marks e = cc

-- a rule whose rows are numbered keeps the laws where it serves no FragAlgo above 7, and its rows for M have M marks
pub numbered_laws : (serves : ℕ → ℕ → Bool) (marks : ℕ → ℕ → Row) → ((a m : ℕ) → 7 < a → serves a m ≡ false) → ((m n : ℕ) → IsRow m (marks m n))
    → RuleLaws serves (λ a m n. row_if (numbered (serves a m) n) (marks m n))
numbered_laws serves marks none_above rows = record {
  algorithms = none_above;
  unserved = λ a m n. unserved (serves a m) n (marks m n);
  beyond = λ a m n. beyond (serves a m) n (marks m n);
  whole = λ a m n. row_if_whole (numbered (serves a m) n) (marks m n) m (rows m n);
}

pub published_laws : RuleLaws published_serves published_row
published_laws = numbered_laws published_serves published_marks (search rules) length_published

pub repeat_laws : RuleLaws repeat_serves repeat_row
repeat_laws = numbered_laws repeat_serves (λ m n. single m ((n - 1) % m)) (search rules) (λ m n. length-single m ((n - 1) % m))
