-- A triangular system of lines with their cells, by recursion on the position. Assumes nothing.
use Rattle.std.specs.Prelude.{◌≡◌, ℕ, suc, Bool, true, false, List, [], ◌∷◌, length}
use Rattle.adding.specs.Sums.{sum, differ}
use Rattle.coding.specs.Rows.{Row}
use Rattle.coding.specs.Blocks.{marked, xors}
use Rattle.coding.specs.Agreement.{Equation}

-- a line and its cell. A line is empty, or a row whose first yes is at the line's own position; only the marks beyond that are kept here
pub data Slot (V : Type 0) : Type 0 where
  empty : Slot V
  filled : Row → V → Slot V

-- how many lines are empty
abbrev pub missing : {V : Type 0} → List (Slot V) → ℕ
missing [] = 0
missing (empty ∷ ls) = suc (missing ls)
missing (filled t q ∷ ls) = missing ls

-- a block agrees with every filled line and its cell
abbrev pub Fits : {V : Type 0} → V → (V → V → V) → List (Slot V) → List V → Type 0
Fits none add [] b = Unit {0}
Fits none add (l ∷ ls) [] = Unit {0}
Fits none add (empty ∷ ls) (f ∷ b) = Fits none add ls b
Fits none add (filled t q ∷ ls) (f ∷ b) = (add f (marked none add t b) ≡ q) × Fits none add ls b

-- every filled line has a mark for each position beyond its own, and a cell of the right kind
abbrev pub Sound : {V : Type 0} → (V → Type 0) → List (Slot V) → Type 0
Sound In [] = Unit {0}
Sound In (empty ∷ ls) = Sound In ls
Sound In (filled t q ∷ ls) = (length t ≡ length ls) × In q × Sound In ls

abbrev pub before : {V : Type 0} → Bool → Equation V → Equation V
before m x = record { row = m ∷ x.row; bytes = x.bytes }

-- reducing: at each position, from the first on, where the row has a yes and the line is filled, the line is added to the row and its cell
-- to the bytes
abbrev pub reduce : {V : Type 0} → (V → V → V) → List (Slot V) → Row → V → Equation V
reduce add [] c p = record { row = c; bytes = p }
reduce add (l ∷ ls) [] p = record { row = []; bytes = p }
reduce add (l ∷ ls) (false ∷ c) p = before false (reduce add ls c p)
reduce add (empty ∷ ls) (true ∷ c) p = before true (reduce add ls c p)
reduce add (filled t q ∷ ls) (true ∷ c) p = before false (reduce add ls (sum differ c t) (add p q))

-- what becomes of a reduced row: without a yes it depends on the lines, and its bytes are left; any other fills the line of its first yes
pub data Outcome (V : Type 0) : Type 0 where
  dependent : V → Outcome V
  into : List (Slot V) → Outcome V

abbrev pub behind : {V : Type 0} → Slot V → Outcome V → Outcome V
behind l (dependent p) = dependent p
behind l (into ls) = into (l ∷ ls)

abbrev pub place : {V : Type 0} → List (Slot V) → Row → V → Outcome V
place [] c p = dependent p
place (l ∷ ls) [] p = dependent p
place (l ∷ ls) (false ∷ c) p = behind l (place ls c p)
place (l ∷ ls) (true ∷ c) p = into (filled c p ∷ ls)

abbrev pub insert : {V : Type 0} → (V → V → V) → List (Slot V) → Row → V → Outcome V
insert add ls c p = let x = reduce add ls c p in place ls x.row x.bytes

-- a row and bytes at lines with cells of bytes
abbrev pub arrive : List (Slot (List ℕ)) → Equation (List ℕ) → Outcome (List ℕ)
arrive ls a = insert xors ls a.row a.bytes

-- settling, from the last line back: each cell with the settled cells added that its line marks; `none` where a line is empty
abbrev pub settle : {V : Type 0} → V → (V → V → V) → List (Slot V) → List V
settle none add [] = []
settle none add (empty ∷ ls) = none ∷ settle none add ls
settle none add (filled t q ∷ ls) = add q (marked none add t (settle none add ls)) ∷ settle none add ls
