-- Worked cases of the published rule and of elimination, in one table that is computed over the definitions. Assumes nothing.
use Rattle.std.specs.Prelude.{◌≡◌, ℕ, zero, suc, ◌-◌, ◌%◌, Bool, true, false, cond, List, [], ◌∷◌, length, replicate, is_some, Some, unwrap_or, Option, ◌==◌, slice_set}
use Rattle.std.specs.List.{list_all}
use Rattle.coding.specs.Rows.{Row}
use Rattle.coding.specs.Blocks.{zeros, xors}
use Rattle.coding.specs.Lines.{Slot, Slot.empty, missing, Outcome, Outcome.dependent, Outcome.into, arrive, settle}
use Rattle.rules.specs.Draws.{step, width, seed, published_row}

-- what became of a fragment
pub data Said : Type 0 where
  known taken contradicts : Said

-- a fragment received: its number, its bytes, what became of it, and how many lines are then empty
pub record Received : Type 0 where
  pub number : ℕ
  pub bytes : List ℕ
  pub said : Said
  pub left : ℕ

pub data Case : Type 0 where
  -- of m fragments, number n marks these, counted from 1
  marks : (m n : ℕ) → List ℕ → Case
  -- of m fragments, the register for number n gives these values of r, those that fall out among them
  values : (m n : ℕ) → List ℕ → Case
  -- m fragments of s bytes: what is received from the start on, and the cells once no line is empty
  session : (m s : ℕ) → List Received → List (List ℕ) → Case

abbrev receive : ℕ → ℕ → Said → ℕ → Received
receive n x a k = record { number = n; bytes = x ∷ []; said = a; left = k }

abbrev pub table : List Case
table =
    marks 5 6 (1 ∷ 3 ∷ [])
    ∷ marks 5 7 (1 ∷ 3 ∷ [])
    ∷ marks 5 8 (2 ∷ 4 ∷ [])
    ∷ marks 5 12 (4 ∷ [])
    ∷ marks 5 14 (4 ∷ 5 ∷ [])
    ∷ marks 4 13 (4 ∷ 2 ∷ [])
    ∷ values 4 13 (4 ∷ 3 ∷ 4 ∷ 1 ∷ [])
    ∷ session 5 1
    (receive 1 0x01 taken 4 ∷ receive 6 0x05 taken 3 ∷ receive 8 0x0A taken 2 ∷ receive 14 0x18 taken 1 ∷ receive 12 0x08 taken 0 ∷ [])
    ((0x01 ∷ []) ∷ (0x02 ∷ []) ∷ (0x04 ∷ []) ∷ (0x08 ∷ []) ∷ (0x10 ∷ []) ∷ [])
    ∷ session 5 1 (receive 6 0x05 taken 4 ∷ receive 7 0x05 known 4 ∷ receive 7 0x04 contradicts 4 ∷ []) []
    ∷ []

-- ---- what a case says

abbrev pub marking : ℕ → List ℕ → Row
marking m [] = replicate m false
marking m (k ∷ ks) = slice_set (marking m ks) (k - 1) true

abbrev pub register_values : ℕ → ℕ → ℕ → List ℕ
register_values zero m x = []
register_values (suc count) m x = step x % width m ∷ register_values count m (step x)

-- the row, which a case makes sure is there
abbrev pub row_or : Option Row → Row
row_or row = unwrap_or row []

abbrev pub all_zero : List ℕ → Bool
all_zero xs = list_all (λ x. x == 0) xs

abbrev pub saying : Outcome (List ℕ) → Said
saying (dependent q) = cond (all_zero q) known contradicts
saying (into ls) = taken

abbrev pub filling : List (Slot (List ℕ)) → Outcome (List ℕ) → List (Slot (List ℕ))
filling ls (dependent q) = ls
filling ls (into ls') = ls'

abbrev pub outcome : ℕ → List (Slot (List ℕ)) → Received → Outcome (List ℕ)
outcome m ls a = arrive ls (record { row = row_or (published_row 0 m a.number); bytes = a.bytes })

abbrev pub Follows : ℕ → ℕ → List (Slot (List ℕ)) → List Received → List (List ℕ) → Type 0
Follows m s ls [] cells = cond (missing ls == 0) (settle (zeros s) xors ls) [] ≡ cells
Follows m s ls (a ∷ rest) cells =
    (is_some (published_row 0 m a.number) ≡ true)
    × (saying (outcome m ls a) ≡ a.said)
    × (missing (filling ls (outcome m ls a)) ≡ a.left)
    × Follows m s (filling ls (outcome m ls a)) rest cells

abbrev pub Holds : Case → Type 0
Holds (marks m n ks) = published_row 0 m n ≡ Some (marking m ks)
Holds (values m n rs) = register_values (length rs) m (seed m n) ≡ rs
Holds (session m s received cells) = Follows m s (replicate m empty) received cells
