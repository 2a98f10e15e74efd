-- Blocks and their coded fragments. Assumes nothing.
use Rattle.std.specs.Prelude.{◌≡◌, ℕ, ◌<◌, true, false, List, [], ◌∷◌, length, replicate, bit_xor}
use Rattle.std.specs.List.{AllByRecursion}
use Rattle.adding.specs.Sums.{sum}
use Rattle.coding.specs.Rows.{Row}

-- the most fragments of a block, and the most bytes of a fragment
abbrev pub most_fragments : ℕ
most_fragments = 256

abbrev pub largest_fragment : ℕ
largest_fragment = 239

-- s zero bytes
abbrev pub zeros : ℕ → List ℕ
zeros s = replicate s 0

-- the exclusive or of two lists of bytes, place by place
abbrev pub xors : List ℕ → List ℕ → List ℕ
xors = sum bit_xor

-- s bytes
abbrev pub Bytes : ℕ → List ℕ → Type 0
Bytes s p = (length p ≡ s) × AllByRecursion (λ (x : ℕ). x < 256) p

-- a block: m fragments of s bytes
abbrev pub IsBlock : ℕ → ℕ → List (List ℕ) → Type 0
IsBlock m s b = (length b ≡ m) × AllByRecursion (Bytes s) b

-- the elements of a list that a row marks, added up; `none` where it marks nothing
abbrev pub marked : {V : Type 0} → V → (V → V → V) → Row → List V → V
marked none add [] b = none
marked none add (m ∷ r) [] = none
marked none add (false ∷ r) (f ∷ b) = marked none add r b
marked none add (true ∷ r) (f ∷ b) = add f (marked none add r b)

-- the coded fragment of a block of fragments of s bytes under a row
abbrev pub coded : ℕ → Row → List (List ℕ) → List ℕ
coded s r b = marked (zeros s) xors r b
