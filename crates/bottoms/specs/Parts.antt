-- Parts of n bytes that lie one after another in a buffer. Assumes nothing.
use Rattle.std.proofs.Common.{ap, le-div_iff_mul-le, suc-mul, add-one, arith}
use Rattle.std.specs.Prelude.{ℕ, ◌+◌, ◌-◌, ◌*◌, ◌/◌, ◌<◌, ◌≤◌, min, List, ◌++◌, length, take, drop}
use Rattle.cells.specs.Meaning.{most_cells}

-- how many whole parts a buffer of so many bytes has, as far as a store may have cells
abbrev pub whole_parts : ℕ → ℕ → ℕ
whole_parts len n = min (len / n) most_cells

-- part p
abbrev pub part_at : ℕ → List ℕ → ℕ → List ℕ
part_at n buf p = take n (drop (p * n) buf)

-- the buffer with other bytes as part p: what lies before it and after it stays
abbrev pub with_part : ℕ → List ℕ → ℕ → List ℕ → List ℕ
with_part n buf p part = take (p * n) buf ++ (part ++ drop (p * n + n) buf)

-- the buffer with these bytes written from place `at` on, as far as there is room
abbrev pub put : List ℕ → ℕ → List ℕ → List ℕ
put buf at part = take at buf ++ (take (length buf - at) part ++ drop (at + length part) buf)

-- a whole part lies within the buffer
pub part_room : (len n p : ℕ) → 1 ≤ n → p < whole_parts len n → p * n + n ≤ len
part_room len n p some h =
    let k : p + 1 ≤ len / n = omega arith in
    let m : (p + 1) * n ≤ len = (le-div_iff_mul-le some).0 k in
    omega (arith, suc-mul p n, ap (λ k. k * n) (add-one p))
