-- The code's bits and tests, and those of the definitions. Assumes nothing.
use Rattle.std.specs.Prelude.{◌≡◌, ℕ, ◌+◌, ◌*◌, ◌/◌, ◌%◌, ◌<◌, ◌≤◌, ◌==◌, bit_and, bit_xor, refl}
use Rattle.std.proofs.Common.{ap, ◌∙◌, arith}
use Rattle.std.specs.Int.Count.{ones}
use Rattle.std.proofs.lemmas.Nat.{and_mask, xor_lt}
use Rattle.std.proofs.lemmas.Bool.{agree_below_at}
use Rattle.rules.specs.Draws.{bit, step, one_of, powers}

-- ## The step

bit_0 : (x : ℕ) → bit_and x 1 ≡ bit 0 x
bit_0 x = let low : bit_and x 1 ≡ x % 2 = and_mask x 1 in omega arith

bit_5 : (x : ℕ) → bit_and (x / 32) 1 ≡ bit 5 x
bit_5 x = and_mask (x / 32) 1

-- what a step feeds in
unfoldable pub fed : ℕ → ℕ
fed x = bit_xor (bit 0 x) (bit 5 x)

pub fed_below : (x : ℕ) → fed x < 2
unfolding fed
fed_below x = xor_lt 1 (bit 0 x) (bit 5 x) (omega arith) (omega arith)

-- the code's way to get it
pub fed_code : (x : ℕ) → bit_xor (bit_and x 1) (bit_and (x / 32) 1) ≡ fed x
unfolding fed
fed_code x = ap (λ n. bit_xor n (bit_and (x / 32) 1)) (bit_0 x) ∙ ap (bit_xor (bit 0 x)) (bit_5 x)

pub step_code : (x : ℕ) → x / 2 + (bit_xor (bit_and x 1) (bit_and (x / 32) 1) * 4194304) % 4294967296 ≡ step x
unfolding step fed
step_code x = omega (arith, fed_code x, fed_below x)

-- ## The test for a power of two, computed at each M

pub power_test : (m : ℕ) → m ≤ 256 → (ones m == 1) ≡ one_of m powers
unfolding ones
power_test m h = agree_below_at (λ k. ones k == 1) (λ k. one_of k powers) 257 m refl (omega arith)
