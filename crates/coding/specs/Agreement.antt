-- Which blocks agree with what was received, and how much more is needed to tell them apart. Assumes nothing.
use Rattle.std.specs.Prelude.{◌≡◌, ℕ, ◌≤◌, List, length}
use Rattle.std.specs.List.{AllByRecursion}
use Rattle.coding.specs.Rows.{Row, IsRow}
use Rattle.coding.specs.Blocks.{coded, Bytes, IsBlock}

-- a row and the bytes that came with it: one linear equation for the block (bytes are of any kind V that can be added)
pub record Equation (V : Type 0) : Type 0 where
  pub row : Row
  pub bytes : V

-- m marks and s bytes
abbrev pub Proper : ℕ → ℕ → Equation (List ℕ) → Type 0
Proper m s a = IsRow m a.row × Bytes s a.bytes

-- a block agrees with a row and bytes when its coded fragment under that row is those bytes
abbrev pub Agrees : ℕ → List (List ℕ) → Equation (List ℕ) → Type 0
Agrees s b a = coded s a.row b ≡ a.bytes

abbrev pub AgreesAll : ℕ → List (List ℕ) → List (Equation (List ℕ)) → Type 0
AgreesAll s b accepted = AllByRecursion (Agrees s b) accepted

-- two blocks have equal coded fragments under each of the rows
abbrev pub SameUnder : ℕ → List Row → List (List ℕ) → List (List ℕ) → Type 0
SameUnder s rows b b' = AllByRecursion (λ (r : Row). coded s r b ≡ coded s r b') rows

-- further rows leave one block: two blocks that agree with all accepted and have equal coded fragments under those rows are equal
abbrev pub LeavesOne : ℕ → ℕ → List (Equation (List ℕ)) → List Row → Type 0
LeavesOne m s accepted rows =
    (b b' : List (List ℕ)) → IsBlock m s b → IsBlock m s b' → AgreesAll s b accepted → AgreesAll s b' accepted
    → SameUnder s rows b b' → b ≡ b'

-- k is the least number of further rows that leaves one block: some k rows do, and no shorter list does
abbrev pub LeastFurther : ℕ → ℕ → List (Equation (List ℕ)) → ℕ → Type 0
LeastFurther m s accepted k =
    ((rows : List Row) × (length rows ≡ k) × AllByRecursion (IsRow m) rows × LeavesOne m s accepted rows)
    × ((rows : List Row) → AllByRecursion (IsRow m) rows → LeavesOne m s accepted rows → k ≤ length rows)

-- some block agrees with all
abbrev pub SomeBlock : ℕ → ℕ → List (Equation (List ℕ)) → Type 0
SomeBlock m s accepted = (b : List (List ℕ)) × IsBlock m s b × AgreesAll s b accepted

-- b is the one block that agrees with all
abbrev pub OnlyBlock : ℕ → ℕ → List (Equation (List ℕ)) → List (List ℕ) → Type 0
OnlyBlock m s accepted b =
    IsBlock m s b × AgreesAll s b accepted × ((b' : List (List ℕ)) → IsBlock m s b' → AgreesAll s b' accepted → b' ≡ b)
