-- What a store of cells means. Assumes nothing.
use Rattle.std.specs.Prelude.{◌≡◌, ℕ, ◌<◌, ◌≤◌, Bool, List, length, Option}

-- the most cells of a store, and the most bytes of a cell
abbrev pub most_cells : ℕ
most_cells = 512

abbrev pub largest_cell : ℕ
largest_cell = 239

pub record Meaning : Type 0 where
  -- how many cells there are, numbered from 0, and how many bytes each has
  pub count : ℕ
  pub size : ℕ
  -- the bytes of cell p
  pub cell : ℕ → List ℕ
  -- whether cell p takes a write now
  pub takes : ℕ → Bool
  -- which cells will take a write once these bytes are written to cell p, where the kind of store can tell that beforehand;
  -- a kind that tells nothing has None here
  pub after : ℕ → List ℕ → Option (ℕ → Bool)

-- what every store keeps to
pub record Bounded (m : Meaning) : Type 0 where
  pub few : m.count ≤ most_cells
  pub some : 1 ≤ m.size
  pub short : m.size ≤ largest_cell
  pub whole : (p : ℕ) → p < m.count → length (m.cell p) ≡ m.size
