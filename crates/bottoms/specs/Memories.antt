-- What memory means: cells that lie one after another in a buffer. Assumes nothing.
use Rattle.std.specs.Prelude.{ℕ, min, max, true, List, length, Some}
use Rattle.std.proofs.Common.{arith, length-take, length-drop}
use Rattle.cells.specs.Meaning.{Meaning, Bounded, largest_cell}
use Rattle.cells.specs.Calls.{padded}
use Rattle.bottoms.specs.Parts.{whole_parts, part_at, with_part, part_room}

-- the wished size of a cell, brought into the sizes that a cell may have
abbrev pub cell_size : ℕ → ℕ
cell_size wished = max 1 (min wished largest_cell)

-- a buffer with cells of z bytes: cell p lies at p × z, and every cell takes a write, always
abbrev pub memory : ℕ → List ℕ → Meaning
memory z buf = record {
  count = whole_parts (length buf) z;
  size = z;
  cell = part_at z buf;
  takes = λ _. true;
  after = λ _ _. Some (λ _. true);
}

-- the buffer once the bytes were written to cell p: its part is they and then zeros, and every other byte stays
unfoldable pub memory_buffer : ℕ → List ℕ → ℕ → List ℕ → List ℕ
memory_buffer z buf p bytes = with_part z buf p (padded z bytes)

pub memory_bounded : (wished : ℕ) (buf : List ℕ) → Bounded (memory (cell_size wished) buf)
memory_bounded wished buf = record {
  few = omega arith;
  some = omega arith;
  short = omega arith;
  whole = λ p h.
      let r = part_room (length buf) (cell_size wished) p (omega arith) h in
      simp (length-take, length-drop) (omega arith);
}
