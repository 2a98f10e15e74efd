-- The lowest number below k that passes a test, or k. Assumes nothing.
use Rattle.std.specs.Prelude.{ℕ, zero, suc, ◌+◌, Bool, cond, Some, None, Option, nat_lt}

-- the lowest of the n numbers from j on that passes, or the number after them
abbrev pub lowest_from : (ℕ → Bool) → ℕ → ℕ → ℕ
lowest_from t j zero = j
lowest_from t j (suc n) = cond (t j) j (lowest_from t (j + 1) n)

-- the lowest number below k that passes, or k
abbrev pub lowest : (ℕ → Bool) → ℕ → ℕ
lowest t k = lowest_from t 0 k

-- a number below k that was found, or none
abbrev pub found : ℕ → ℕ → Option ℕ
found k n = cond (nat_lt n k) (Some n) None
