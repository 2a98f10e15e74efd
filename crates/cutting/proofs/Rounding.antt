-- A quotient rounded up. Assumes nothing.
use Rattle.std.proofs.Common.{◌≡◌, ℕ, ◌+◌, ◌-◌, ◌*◌, ◌/◌, ◌%◌, ◌<◌, ◌≤◌, ap, ◌∙◌, ⊎_elim, arith}
use Rattle.std.proofs.lemmas.Nat.{div-mul-add, div-add-mod'}
use Rattle.std.proofs.lemmas.Bool.{cases_lt}
use Rattle.std.specs.Int.{div_ceil}

-- a quotient read off the parts
rounded : (n s b r k : ℕ) → n ≡ (b + k) * s + r → r < s → n / s ≡ b + k
rounded n s b r k e h = ap (λ x. x / s) e ∙ div-mul-add (b + k) s r h

pub ceil_is : (n s : ℕ) → 0 < n → 0 < s → div_ceil n s ≡ (n - 1) / s + 1
ceil_is n s hn hs =
    let b = (n - 1) / s in
    let r = (n - 1) % s in
    let parts : b * s + r ≡ n - 1 = div-add-mod' (n - 1) s in
    let whole = div-add-mod' n s in
    ⊎_elim
    (λ (lt : r + 1 < s).
    let q : n / s ≡ b + 0 = rounded n s b (r + 1) 0 (omega arith) lt in
    let left : (b + 0) * s + n % s ≡ n = rw q at whole in
    omega arith)
    (λ (le : s ≤ r + 1).
    let q : n / s ≡ b + 1 = rounded n s b 0 1 (omega arith) hs in
    let left : (b + 1) * s + n % s ≡ n = rw q at whole in
    omega arith)
    (cases_lt (r + 1) s)
