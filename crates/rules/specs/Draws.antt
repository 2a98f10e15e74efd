-- The rule `Published`: a shift register draws the marks. Assumes nothing.
use Rattle.std.specs.Prelude.{ℕ, zero, suc, ◌+◌, ◌-◌, ◌*◌, ◌/◌, ◌%◌, ◌^◌, Bool, true, false, cond, ◌&&◌, List, [], ◌∷◌, replicate, Option, ◌==◌, bit_xor, nat_le, nat_lt, slice_set}
use Rattle.std.specs.List.{list_any}
use Rattle.coding.specs.Rows.{Row}
use Rattle.coding.specs.Blocks.{most_fragments}
use Rattle.rules.specs.Filling.{row_if, numbered, single}

-- bit k of x, bit 0 the lowest
abbrev pub bit : ℕ → ℕ → ℕ
bit k x = x / 2 ^ k % 2

-- the next value of the register
unfoldable pub step : ℕ → ℕ
step x = x / 2 + 2 ^ 22 * bit_xor (bit 0 x) (bit 5 x)

-- whether a number is one of a list
abbrev pub one_of : ℕ → List ℕ → Bool
one_of m ps = list_any (λ p. m == p) ps

-- the powers of two up to 256
abbrev pub powers : List ℕ
powers = 1 ∷ 2 ∷ 4 ∷ 8 ∷ 16 ∷ 32 ∷ 64 ∷ 128 ∷ 256 ∷ []

-- what a value is divided by: m, and one more where m is a power of two
abbrev pub width : ℕ → ℕ
width m = m + cond (one_of m powers) 1 0

-- a value is within when its rest is below m; else it falls out
unfoldable pub within : ℕ → ℕ → Bool
within m x = nat_lt (x % width m) m

-- the first value after x that is within, among the first `most`
unfoldable pub draw : ℕ → ℕ → ℕ → ℕ
draw zero m x = x
draw (suc most) m x = cond (within m (step x)) (step x) (draw most m (step x))

-- a draw looks at 21 values, and one of them is within, since at most 20 fall out in a row
unfoldable pub drawn : ℕ → ℕ → ℕ
drawn m x = draw 21 m x

-- as many draws, each setting a mark
unfoldable pub draws : ℕ → ℕ → ℕ → List Bool → List Bool
draws zero m x marks = marks
draws (suc count) m x marks = draws count m (drawn m x) (slice_set marks (drawn m x % width m) true)

-- where the register starts for number n
abbrev pub seed : ℕ → ℕ → ℕ
seed m n = 1 + 1001 * (n - m)

abbrev pub published_serves : ℕ → ℕ → Bool
published_serves a m = a == 0 && nat_le 4 m && nat_le m most_fragments

abbrev pub published_marks : ℕ → ℕ → Row
published_marks m n = cond (nat_le n m) (single m (n - 1)) (draws (m / 2) m (seed m n) (replicate m false))

abbrev pub published_row : ℕ → ℕ → ℕ → Option Row
published_row a m n = row_if (numbered (published_serves a m) n) (published_marks m n)
