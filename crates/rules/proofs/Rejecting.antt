-- In one draw at most 20 values fall out. Assumes nothing.
--
-- A value falls out only where m is a power of two, and then it is m mod (m + 1). Let x and the value after it, x / 2 + 2^22 * b, both be so.
-- Twice the second is x - (x mod 2) + 2^23 * b, so 2^23 * b and (x mod 2) - 1 agree mod m + 1. Since neither 2^23 nor 2^23 + 1 is a multiple of
-- m + 1, b is 0 and x is odd. So bit 5 of x is set too: x is above 32, and the value after it is half of it. From below 2^24 on, x can be halved
-- so 19 times.
use Rattle.std.specs.Prelude.{◌≡◌, ℕ, zero, suc, ◌+◌, ◌*◌, ◌/◌, ◌%◌, ◌^◌, ◌<◌, ◌≤◌, Bool, true, false, cond, not, ◌&&◌, ◌||◌, List, [], ◌∷◌, ◌==◌, ◌≢◌, bit_xor, nat_lt, refl}
use Rattle.std.specs.List.{list_all}
use Rattle.std.proofs.Common.{sym, ap, ◌∙◌, ⊎_elim, arith, mul_left_comm}
use Rattle.std.proofs.Math.Nat.{div-add-mod, add-mul-mod_self_left}
use Rattle.std.proofs.lemmas.Nat.{mod_below}
use Rattle.std.proofs.lemmas.Bool.{not-true, cases_Bool, or_cases, and_parts, eqb-true, eq-eqb, ltb-false, ltb-true, lt-ltb, cond-true, cond-false, both_ways}
use Rattle.rules.specs.Draws.{bit, step, one_of, powers, width, within}
use Rattle.rules.specs.Bound.{rejected}
use Rattle.rules.proofs.Steps.{fed, fed_below}

-- ## Two values in a row that fall out

-- whether m + l and 2^23 * b agree mod m + 1
abbrev agree : ℕ → ℕ → ℕ → Bool
agree m l b = (m + l) % (m + 1) == 8388608 * b % (m + 1)

-- whether they do at no l and b, but for an odd value that is not fed
abbrev apart : ℕ → Bool
apart m = nat_lt m 4 || (not (agree m 0 0) && (not (agree m 0 1) && not (agree m 1 1)))

at_one : (test : ℕ → Bool) (m : ℕ) (ps : List ℕ) → one_of m ps ≡ true → list_all test ps ≡ true → test m ≡ true
at_one test m [] t all = absurd (both_ways false refl t)
at_one test m (p ∷ ps) t all =
    let parts = and_parts (test p) (list_all test ps) all in
    ⊎_elim (λ e. ap test (eqb-true m p e) ∙ parts.0) (λ e. at_one test m ps e parts.1) (or_cases (m == p) (one_of m ps) t)

-- computed over the list of powers
powers-apart : (m : ℕ) → one_of m powers ≡ true → apart m ≡ true
powers-apart m t = at_one apart m powers t refl

-- x leaves l at halving and m at dividing by m + 1, and so does the next, x / 2 + 2^22 * b: then m + l and 2^23 * b agree
agreeing : (m x b : ℕ) → x % (m + 1) ≡ m → (x / 2 + 4194304 * b) % (m + 1) ≡ m → agree m (x % 2) b ≡ true
agreeing m x b h k =
    let y = x / 2 + 4194304 * b in
    let q = x / (m + 1) in
    let p = y / (m + 1) in
    let first : x ≡ (m + 1) * q + m = sym (div-add-mod x (m + 1)) ∙ ap (λ r. (m + 1) * q + r) h in
    let next : y ≡ (m + 1) * p + m = sym (div-add-mod y (m + 1)) ∙ ap (λ r. (m + 1) * p + r) k in
    let twice : (m + 1) * (2 * p) ≡ 2 * ((m + 1) * p) = mul_left_comm (m + 1) 2 p in
    let both : m + x % 2 + (m + 1) * (2 * p) ≡ 8388608 * b + (m + 1) * q = omega arith in
    eq-eqb _ _ (sym (add-mul-mod_self_left (m + x % 2) (m + 1) (2 * p)) ∙ ap (λ n. n % (m + 1)) both ∙ add-mul-mod_self_left (8388608 * b) (m + 1) q)

-- two tests that cannot both pass
not_both : (b : Bool) → not b ≡ true → b ≢ true
not_both b h t = both_ways b (not-true b h) t

odd_not_fed : (m l b : ℕ) → 4 ≤ m → apart m ≡ true → l < 2 → b < 2 → agree m l b ≡ true → (b ≡ 0) × (l ≡ 1)
odd_not_fed m l b h4 all hl hb t =
    ⊎_elim
    (λ small. absurd (omega (arith, ltb-true m 4 small)))
    (λ far.
    let one = and_parts (not (agree m 0 0)) (not (agree m 0 1) && not (agree m 1 1)) far in
    let two = and_parts (not (agree m 0 1)) (not (agree m 1 1)) one.1 in
    cases l b hl hb t one.0 two.0 two.1)
    (or_cases (nat_lt m 4) _ all)
  where
    cases : (l b : ℕ) → l < 2 → b < 2 → agree m l b ≡ true → not (agree m 0 0) ≡ true → not (agree m 0 1) ≡ true → not (agree m 1 1) ≡ true → (b ≡ 0) × (l ≡ 1)
    cases zero zero hl hb t x y z = absurd (not_both (agree m 0 0) x t)
    cases zero (suc zero) hl hb t x y z = absurd (not_both (agree m 0 1) y t)
    cases (suc zero) zero hl hb t x y z = (refl, refl)
    cases (suc zero) (suc zero) hl hb t x y z = absurd (not_both (agree m 1 1) z t)
    cases zero (suc (suc b)) hl hb t x y z = absurd (omega arith)
    cases (suc zero) (suc (suc b)) hl hb t x y z = absurd (omega arith)
    cases (suc (suc l)) b hl hb t x y z = absurd (omega arith)

same_bits : (a b : ℕ) → a < 2 → b < 2 → bit_xor a b ≡ 0 → a ≡ b
same_bits zero zero ha hb e = refl
same_bits zero (suc b) ha hb e = sym e
same_bits (suc zero) zero ha hb e = e
same_bits (suc zero) (suc zero) ha hb e = refl
same_bits (suc zero) (suc (suc b)) ha hb e = absurd (omega arith)
same_bits (suc (suc a)) b ha hb e = absurd (omega arith)

step_is : (x : ℕ) → step x ≡ x / 2 + 4194304 * fed x
unfolding step fed
step_is x = refl

pub step_below : (x : ℕ) → x < 2 ^ 24 → step x < 2 ^ 24
step_below x h = omega (arith, step_is x, fed_below x)

-- a value of a power of two that falls out
out : (m x : ℕ) → one_of m powers ≡ true → within m x ≡ false → x % (m + 1) ≡ m
unfolding within
out m x t bad =
    let w : width m ≡ m + 1 = ap (λ c. m + cond c 1 0) t in
    let high : m ≤ x % width m = ltb-false (x % width m) m bad in
    let low : x % width m < width m = mod_below x (width m) (omega arith) in
    let e : x % width m ≡ m = omega arith in
    ap (λ n. x % n) (sym w) ∙ e

above : (x : ℕ) → fed x ≡ 0 → x % 2 ≡ 1 → 33 ≤ x
unfolding fed
above x z o = let five : bit 0 x ≡ bit 5 x = same_bits (bit 0 x) (bit 5 x) (omega arith) (omega arith) z in omega arith

-- it is above 32, and half of it is next
halves : (m x : ℕ) → one_of m powers ≡ true → 4 ≤ m → within m x ≡ false → within m (step x) ≡ false → (step x ≡ x / 2) × (33 ≤ x)
halves m x t h4 bad next =
    let e : (x / 2 + 4194304 * fed x) % (m + 1) ≡ m = ap (λ y. y % (m + 1)) (sym (step_is x)) ∙ out m (step x) t next in
    let s : (fed x ≡ 0) × (x % 2 ≡ 1) = odd_not_fed m (x % 2) (fed x) h4 (powers-apart m t) (omega arith) (fed_below x) (agreeing m x (fed x) (out m x t bad) e) in
    (omega (arith, step_is x, s.0), above x s.0 s.1)

-- ## How many fall out

-- a proof by whether the next value is within
pub by_next : {P : Type 0} (m x : ℕ) → (within m (step x) ≡ true → P) → (within m (step x) ≡ false → P) → P
by_next m x here out = ⊎_elim here out (cases_Bool (within m (step x)))

-- 32, doubled j times
abbrev doubled : ℕ → ℕ
doubled zero = 32
doubled (suc j) = 2 * doubled j

pub rejected_in : (most m x : ℕ) → within m (step x) ≡ true → rejected (suc most) m x ≡ 0
unfolding rejected
rejected_in most m x t = cond-true (within m (step x)) 0 (suc (rejected most m (step x))) t

pub rejected_out : (most m x : ℕ) → within m (step x) ≡ false → rejected (suc most) m x ≡ suc (rejected most m (step x))
unfolding rejected
rejected_out most m x t = cond-false (within m (step x)) 0 (suc (rejected most m (step x))) t

pub rejected_none : (m x : ℕ) → rejected 0 m x ≡ 0
unfolding rejected
rejected_none m x = refl

-- after a value that fell out and is below 32 * 2^j
run : (most j m x : ℕ) → one_of m powers ≡ true → 4 ≤ m → x < doubled j → within m x ≡ false → rejected most m x ≤ j
run zero j m x t h4 below bad = omega (arith, rejected_none m x)
run (suc most) zero m x t h4 below bad =
    by_next m x
    (λ e. omega (arith, rejected_in most m x e))
    (λ e. absurd (omega (arith, (halves m x t h4 bad e).1)))
run (suc most) (suc j) m x t h4 below bad =
    by_next m x
    (λ e. omega (arith, rejected_in most m x e))
    (λ e. omega (arith, rejected_out most m x e, run most j m (step x) t h4 (omega (arith, (halves m x t h4 bad e).0)) e))

-- where m is no power of two, no value falls out
all_in : (m x : ℕ) → one_of m powers ≡ false → 4 ≤ m → within m x ≡ true
unfolding within
all_in m x t h4 =
    let w : width m ≡ m + 0 = ap (λ c. m + cond c 1 0) t in
    let low : x % width m < width m = mod_below x (width m) (omega arith) in
    lt-ltb (x % width m) m (omega arith)

pub few : (most m x : ℕ) → 4 ≤ m → m ≤ 256 → x < 2 ^ 24 → rejected most m x ≤ 20
few zero m x h4 h below = omega (arith, rejected_none m x)
few (suc most) m x h4 h below =
    by_next m x
    (λ e. omega (arith, rejected_in most m x e))
    (λ e.
    ⊎_elim
    (λ t. omega (arith, rejected_out most m x e, run most 19 m (step x) t h4 (step_below x below) e))
    (λ t. absurd (both_ways (within m (step x)) e (all_in m (step x) t h4)))
    (cases_Bool (one_of m powers)))

-- after a value that fell out at most 19 more do
pub few_after : (most m x : ℕ) → 4 ≤ m → m ≤ 256 → x < 2 ^ 24 → within m (step x) ≡ false → rejected most m (step x) ≤ 19
few_after most m x h4 h below e =
    let one_more : rejected (suc most) m x ≤ 20 = few (suc most) m x h4 h below in
    omega (arith, rejected_out most m x e)
