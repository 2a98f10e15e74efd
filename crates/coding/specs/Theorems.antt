-- What coding and elimination promise, in the words of blocks, rows and agreement. Assumes nothing.
use Rattle.std.specs.Prelude.{◌≡◌, ℕ, ◌<◌, ◌≢◌, ◌↔◌, List, [], ◌∷◌, length, replicate}
use Rattle.adding.specs.Sums.{sum, differ}
use Rattle.coding.specs.Rows.{Row, IsRow}
use Rattle.coding.specs.Blocks.{zeros, xors, coded, Bytes, IsBlock}
use Rattle.coding.specs.Agreement.{Equation, Proper, Agrees, AgreesAll, LeastFurther, SomeBlock, OnlyBlock}
use Rattle.coding.specs.Lines.{Slot, Slot.empty, missing, Fits, Sound, reduce, Outcome.dependent, Outcome.into, arrive, settle}

-- ---- coding

-- coding is linear in the row: the coded fragment under the sum of two rows is the sum of the two coded fragments
abbrev pub LinearInRow : Type 0
LinearInRow =
    (m s : ℕ) (r r' : Row) (b : List (List ℕ)) → IsRow m r → IsRow m r' → IsBlock m s b
    → coded s (sum differ r r') b ≡ xors (coded s r b) (coded s r' b)

-- and in the block: the coded fragment of the sum of two blocks, fragment by fragment, is the sum of the two coded fragments
abbrev pub LinearInBlock : Type 0
LinearInBlock =
    (m s : ℕ) (r : Row) (b b' : List (List ℕ)) → IsBlock m s b → IsBlock m s b'
    → coded s r (sum xors b b') ≡ xors (coded s r b) (coded s r b')

-- ---- lines and cells on their own

-- m lines, with cells of s bytes
abbrev pub System : ℕ → ℕ → List (Slot (List ℕ)) → Type 0
System m s ls = (length ls ≡ m) × Sound (Bytes s) ls

-- a block that agrees with the lines agrees with a row and bytes exactly when it agrees with what reducing leaves of them
abbrev pub ReducingKeeps : Type 0
ReducingKeeps =
    (m s : ℕ) (ls : List (Slot (List ℕ))) (a : Equation (List ℕ)) (b : List (List ℕ)) → System m s ls → Proper m s a → IsBlock m s b
    → Fits (zeros s) xors ls b → Agrees s b (reduce xors ls a.row a.bytes) ↔ Agrees s b a

-- some block agrees with the lines, whatever they are
abbrev pub AlwaysABlock : Type 0
AlwaysABlock =
    (m s : ℕ) (ls : List (Slot (List ℕ))) → System m s ls → (b : List (List ℕ)) × IsBlock m s b × Fits (zeros s) xors ls b

-- where a line is empty, two different blocks do
abbrev pub TwoWhereEmpty : Type 0
TwoWhereEmpty =
    (m s : ℕ) (ls : List (Slot (List ℕ))) → 0 < s → System m s ls → 0 < missing ls
    → (b b' : List (List ℕ)) × IsBlock m s b × IsBlock m s b' × Fits (zeros s) xors ls b × Fits (zeros s) xors ls b' × (b ≢ b')

-- ---- lines reached by accepted fragments

-- from empty lines, by the accepted rows and bytes, the newest first: one that leaves zeros is known and changes no line, any other one fills a line
pub data Reached (m s : ℕ) : List (Equation (List ℕ)) → List (Slot (List ℕ)) → Type 0 where
  start : Reached m s [] (replicate m empty)
  known : {accepted : List (Equation (List ℕ))} {ls : List (Slot (List ℕ))} (a : Equation (List ℕ))
      → Reached m s accepted ls → Proper m s a → arrive ls a ≡ dependent (zeros s) → Reached m s (a ∷ accepted) ls
  taken : {accepted : List (Equation (List ℕ))} {ls : List (Slot (List ℕ))} (ls' : List (Slot (List ℕ))) (a : Equation (List ℕ))
      → Reached m s accepted ls → Proper m s a → arrive ls a ≡ into ls' → Reached m s (a ∷ accepted) ls'

-- the lines stand for exactly the blocks that agree with all that was accepted
pub record StandsFor (m s : ℕ) (accepted : List (Equation (List ℕ))) (ls : List (Slot (List ℕ))) : Type 0 where
  pub size : length ls ≡ m
  pub sound : Sound (Bytes s) ls
  pub same : (b : List (List ℕ)) → IsBlock m s b → AgreesAll s b accepted ↔ Fits (zeros s) xors ls b

abbrev pub LinesStandFor : Type 0
LinesStandFor =
    (m s : ℕ) (accepted : List (Equation (List ℕ))) (ls : List (Slot (List ℕ))) → Reached m s accepted ls → StandsFor m s accepted ls

-- the number of empty lines is the least number of further rows that leaves one block
abbrev pub MissingLeast : Type 0
MissingLeast =
    (m s : ℕ) → 0 < s → (accepted : List (Equation (List ℕ))) (ls : List (Slot (List ℕ))) → Reached m s accepted ls
    → LeastFurther m s accepted (missing ls)

-- with no line empty, settling gives the one block that agrees with all that was accepted
abbrev pub SettledBlock : Type 0
SettledBlock =
    (m s : ℕ) (accepted : List (Equation (List ℕ))) (ls : List (Slot (List ℕ))) → Reached m s accepted ls
    → missing ls ≡ 0 → OnlyBlock m s accepted (settle (zeros s) xors ls)

-- a row and bytes leave no yes and bytes other than zeros exactly when no block agrees with them and all accepted before
abbrev pub ContradictionExact : Type 0
ContradictionExact =
    (m s : ℕ) (accepted : List (Equation (List ℕ))) (ls : List (Slot (List ℕ))) → Reached m s accepted ls
    → (a : Equation (List ℕ)) → Proper m s a
    → ((q : List ℕ) × (arrive ls a ≡ dependent q) × (q ≢ zeros s)) ↔ (SomeBlock m s (a ∷ accepted) → ⊥)

-- ---- all of them

pub record Theorems : Type 0 where
  pub rows : LinearInRow
  pub blocks : LinearInBlock
  pub reducing : ReducingKeeps
  pub some : AlwaysABlock
  pub two : TwoWhereEmpty
  pub lines : LinesStandFor
  pub missing : MissingLeast
  pub settled : SettledBlock
  pub contradicts : ContradictionExact
