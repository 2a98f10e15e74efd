-- How many values fall out in a row in one draw. Assumes nothing.
use Rattle.std.specs.Prelude.{◌≡◌, ℕ, zero, suc, ◌%◌, ◌^◌, ◌<◌, ◌≤◌, cond}
use Rattle.coding.specs.Blocks.{most_fragments}
use Rattle.rules.specs.Filling.{last_number}
use Rattle.rules.specs.Draws.{step, width, within, drawn, seed}

-- how many values fall out before one is within, looking at the first `most` values after x
unfoldable pub rejected : ℕ → ℕ → ℕ → ℕ
rejected zero m x = 0
rejected (suc most) m x = cond (within m (step x)) 0 (suc (rejected most m (step x)))

-- the register after as many draws
unfoldable pub reached : ℕ → ℕ → ℕ → ℕ
reached zero m x = x
reached (suc count) m x = reached count m (drawn m x)

-- in each draw for each fragment number at most k values fall out in a row, however many are looked at
abbrev pub FewRejected : ℕ → Type 0
FewRejected k = (m n count most : ℕ) → 4 ≤ m → m ≤ most_fragments → m < n → n ≤ last_number → rejected most m (reached count m (seed m n)) ≤ k

-- and the register stays below 2^24, wherever a draw for a fragment number begins
abbrev pub RegisterSmall : Type 0
RegisterSmall = (m n count : ℕ) → m < n → n ≤ last_number → reached count m (seed m n) < 2 ^ 24

-- the register after as many steps
unfoldable pub after : ℕ → ℕ → ℕ
after zero x = x
after (suc count) x = after count (step x)

-- wherever the register stands, of the next k + 1 values not all fall out
abbrev pub NoLongRun : ℕ → Type 0
NoLongRun k = (m x : ℕ) → 4 ≤ m → m ≤ most_fragments → x < 2 ^ 24 → ((j : ℕ) → 1 ≤ j → j ≤ suc k → m ≤ after j x % width m) → ⊥

-- a draw ends at the first value below m: after j + 1 steps, with j at most k, and all before it fall out
abbrev pub DrawsTheFirst : ℕ → Type 0
DrawsTheFirst k =
    (m x : ℕ) → 4 ≤ m → m ≤ most_fragments → x < 2 ^ 24
    → (j : ℕ) × (j ≤ k) × (drawn m x ≡ after (suc j) x) × (after (suc j) x % width m < m) × ((i : ℕ) → i < j → m ≤ after (suc i) x % width m)

-- at most k values fall out in a row, and a draw takes the first that does not
pub record Bounded (k : ℕ) : Type 0 where
  pub few : FewRejected k
  pub register : RegisterSmall
  pub run : NoLongRun k
  pub first : DrawsTheFirst k
