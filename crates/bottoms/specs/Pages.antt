-- What flash means: pages of 256 bytes, each with a cell, filler, and the erases left to it. Assumes nothing.
use Rattle.std.specs.Prelude.{◌≡◌, ℕ, ◌+◌, ◌-◌, ◌*◌, ◌/◌, ◌%◌, ◌^◌, ◌<◌, ◌≤◌, Bool, cond, List, [], ◌∷◌, ◌++◌, length, take, drop, replicate, Some, ◌==◌, ◌≢◌, nat_lt, slice_index}
use Rattle.std.proofs.Common.{arith, length-take, length-drop}
use Rattle.cells.specs.Meaning.{Meaning, Bounded}
use Rattle.cells.specs.Calls.{padded}
use Rattle.bottoms.specs.Parts.{part_at, with_part, whole_parts, part_room}

-- the bytes of a page, of its cell, and of the filler between cell and erases left
abbrev pub page_bytes : ℕ
page_bytes = 256

abbrev pub flash_cell : ℕ
flash_cell = 239

abbrev pub filler : ℕ
filler = 13

-- the erases left to a page: its bytes 252 to 255, least first
abbrev pub erases_left : List ℕ → ℕ
erases_left page = slice_index page 252 + slice_index page 253 * 256 + slice_index page 254 * 65536 + slice_index page 255 * 16777216

-- a number as four bytes, least first
abbrev pub least_first : ℕ → List ℕ
least_first n = (n % 256) ∷ (n / 256 % 256) ∷ (n / 65536 % 256) ∷ (n / 16777216 % 256) ∷ []

-- what follows the cell in a page with so many erases left: bytes 239 to 251 are 0xFF
abbrev pub page_end : ℕ → List ℕ
page_end left = replicate filler 255 ++ least_first left

-- a page with these bytes in its cell and so many erases left: bytes 0 to 238 are the cell, and then comes its end
abbrev pub page_of : List ℕ → ℕ → List ℕ
page_of bytes left = padded flash_cell bytes ++ page_end left

-- a page once the bytes were written to it: one erase is spent
abbrev pub written_page : List ℕ → List ℕ → List ℕ
written_page page bytes = page_of bytes (erases_left page - 1)

-- the page of a buffer that holds cell p
abbrev pub page_at : List ℕ → ℕ → List ℕ
page_at buf p = part_at page_bytes buf p

-- the buffer once the bytes were written to cell p: its page is made anew, and every other byte stays
unfoldable pub flash_buffer : List ℕ → ℕ → List ℕ → List ℕ
flash_buffer buf p bytes = with_part page_bytes buf p (written_page (page_at buf p) bytes)

-- whether cell q takes a write after one to cell p: as before, but cell p needs an erase more than the one that is spent
abbrev pub takes_after : List ℕ → ℕ → ℕ → Bool
takes_after buf p q = nat_lt (cond (q == p) 1 0) (erases_left (page_at buf q))

-- a buffer's whole pages: a cell takes a write as long as it has an erase left, and can be read always
abbrev pub flash : List ℕ → Meaning
flash buf = record {
  count = whole_parts (length buf) page_bytes;
  size = flash_cell;
  cell = λ p. take flash_cell (page_at buf p);
  takes = λ p. nat_lt 0 (erases_left (page_at buf p));
  after = λ p _. Some (takes_after buf p);
}

pub flash_bounded : (buf : List ℕ) → Bounded (flash buf)
flash_bounded buf = record {
  few = omega arith;
  some = omega arith;
  short = omega arith;
  whole = λ p h.
      let r = part_room (length buf) page_bytes p (omega arith) h in
      simp (length-take, length-drop) (omega arith);
}

-- a write of these bytes to cell p, its place and length being right, and the erases left a number of four bytes
pub record PageWrite (buf : List ℕ) (p : ℕ) (bytes : List ℕ) : Type 0 where
  pub place : p < whole_parts (length buf) page_bytes
  pub short : length bytes ≤ flash_cell
  pub small : erases_left (page_at buf p) < 2 ^ 32

-- what it makes of the buffer
pub record FlashLaws : Type 0 where
  -- the cell is the bytes and then zeros
  pub cell : (buf bytes : List ℕ) (p : ℕ) → PageWrite buf p bytes → take flash_cell (page_at (flash_buffer buf p bytes) p) ≡ padded flash_cell bytes
  -- the filler is 0xFF
  pub filled : (buf bytes : List ℕ) (p : ℕ) → PageWrite buf p bytes → take filler (drop flash_cell (page_at (flash_buffer buf p bytes) p)) ≡ replicate filler 255
  -- the erases left to it are one less
  pub lowered : (buf bytes : List ℕ) (p : ℕ) → PageWrite buf p bytes → erases_left (page_at (flash_buffer buf p bytes) p) ≡ erases_left (page_at buf p) - 1
  -- every other page stays, erases left and all, a part of a page at the end too; and so does the length
  pub others : (buf bytes : List ℕ) (p q : ℕ) → PageWrite buf p bytes → (q ≢ p) → page_at (flash_buffer buf p bytes) q ≡ page_at buf q
  pub length : (buf bytes : List ℕ) (p : ℕ) → PageWrite buf p bytes → length (flash_buffer buf p bytes) ≡ length buf
