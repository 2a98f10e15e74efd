-- What the calls of a store answer, and what they make of its meaning. Assumes nothing.
use Rattle.std.specs.Prelude.{◌≡◌, ℕ, ◌-◌, ◌<◌, Bool, cond, List, ◌++◌, length, take, replicate, is_ok, Some, Ok, Err, Result, ◌≢◌, nat_le, nat_lt}
use Rattle.cells.specs.Meaning.{Meaning}
use Rattle.cells.specs.declared.fault.StoreFault.{StoreFault}
use Rattle.cells.specs.declared.fault.StoreFault.TheVariants.{Place, Length, Worn}

abbrev pub Answer : Type 0
Answer = Result (Unit {0}) StoreFault

-- a call for n bytes of cell p, where there are so many cells of so many bytes: refused for its place, then for its length, else answered so
abbrev pub admitted_then : ℕ → ℕ → ℕ → ℕ → Answer → Answer
admitted_then count size p n answer = cond (nat_lt p count) (cond (nat_le n size) answer (Err (Length p))) (Err (Place p))

abbrev pub admitted : ℕ → ℕ → ℕ → ℕ → Answer
admitted count size p n = admitted_then count size p n (Ok tt)

abbrev pub read_answer : Meaning → ℕ → ℕ → Answer
read_answer m p n = admitted m.count m.size p n

-- whether a write of these bytes to cell p is accepted, its place and length being right
abbrev pub accepts : Meaning → ℕ → List ℕ → Bool
accepts m p bytes = m.takes p

-- a write: refused for its place, then for its length, then as worn
abbrev pub write_answer : Meaning → ℕ → List ℕ → Answer
write_answer m p bytes = admitted_then m.count m.size p (length bytes) (cond (accepts m p bytes) (Ok tt) (Err (Worn p)))

-- a cell of so many bytes once these were written to it: they, and then zeros
abbrev pub padded : ℕ → List ℕ → List ℕ
padded size bytes = bytes ++ replicate (size - length bytes) 0

-- a read of cell p into a list that held `out` and then holds `filled`
pub record ReadBy (m : Meaning) (p : ℕ) (out : List ℕ) (r : Answer) (filled : List ℕ) : Type 0 where
  pub answer : r ≡ read_answer m p (length out)
  pub bytes : filled ≡ cond (is_ok r) (take (length out) (m.cell p)) out

-- an accepted write of the bytes to cell p makes the meaning m into n
pub record Written (m : Meaning) (p : ℕ) (bytes : List ℕ) (n : Meaning) : Type 0 where
  pub count : n.count ≡ m.count
  pub size : n.size ≡ m.size
  pub here : n.cell p ≡ padded m.size bytes
  pub others : (q : ℕ) → q < m.count → (q ≢ p) → n.cell q ≡ m.cell q
  -- which cells take a write then, where that was told beforehand
  pub wear : (t : ℕ → Bool) → m.after p bytes ≡ Some t → (q : ℕ) → q < m.count → n.takes q ≡ t q

-- what a write makes of the meaning m: a refused one, nothing
abbrev pub Becomes : Meaning → ℕ → List ℕ → Answer → Meaning → Type 0
Becomes m p bytes (Ok _) n = Written m p bytes n
Becomes m p bytes (Err _) n = n ≡ m

-- a write of the bytes to cell p, answered r
pub record WroteBy (m : Meaning) (p : ℕ) (bytes : List ℕ) (r : Answer) (n : Meaning) : Type 0 where
  pub answer : r ≡ write_answer m p bytes
  pub becomes : Becomes m p bytes r n
