-- A block of bytes as fragments. Assumes nothing.
use Rattle.std.specs.Prelude.{◌≡◌, ℕ, zero, suc, ◌-◌, ◌*◌, ◌<◌, ◌≤◌, List, [], ◌∷◌, ◌++◌, length, take, drop}
use Rattle.std.specs.List.{flat_map, AllByRecursion}
use Rattle.coding.specs.Blocks.{zeros, IsBlock}

-- the first s bytes, and zeros where there are not so many
abbrev pub fragment : ℕ → List ℕ → List ℕ
fragment s bytes = take s bytes ++ zeros (s - length bytes)

-- m fragments of s bytes, one after another
abbrev pub cut : ℕ → ℕ → List ℕ → List (List ℕ)
cut zero s bytes = []
cut (suc m) s bytes = fragment s bytes ∷ cut m s (drop s bytes)

-- bytes cut into m fragments of s are a block
abbrev pub CutIsBlock : Type 0
CutIsBlock = (m s : ℕ) (bytes : List ℕ) → AllByRecursion (λ (x : ℕ). x < 256) bytes → IsBlock m s (cut m s bytes)

-- where they fit, the fragments put together again are the bytes and then zeros
abbrev pub CutIsWhole : Type 0
CutIsWhole =
    (m s : ℕ) (bytes : List ℕ) → length bytes ≤ m * s → flat_map (λ (f : List ℕ). f) (cut m s bytes) ≡ bytes ++ zeros (m * s - length bytes)
