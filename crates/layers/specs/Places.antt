-- Laws of the spares: where the cells lie, which spare is next, and what a write changes of that. Assumes nothing.
use Rattle.std.specs.Prelude.{◌≡◌, ℕ, ◌+◌, ◌<◌, ◌≤◌, Bool, true, false, ◌⊎◌, List, length, replicate, ◌≢◌, slice_index_or}
use Rattle.layers.specs.declared.spare.Spare.{Spare}
use Rattle.layers.specs.declared.spare.Spare.TheVariants.{Free}
use Rattle.layers.specs.Spared.{most_spares, is_free, place_of, next_spare, takes_by, target, table_after}

-- the spare j of k is unused, and its cell takes a write, where t tells which cells below do
pub record CanServe (k b : ℕ) (table : List Spare) (t : ℕ → Bool) (j : ℕ) : Type 0 where
  pub within : j < k
  pub unused : is_free (slice_index_or table j Free) ≡ true
  pub takes : t (b + j) ≡ true

-- the table `then` has cell p at place `at`, where no other cell was, and each other cell where `table` has it
pub record After (k b : ℕ) (table : List Spare) (p at : ℕ) (then : List Spare) : Type 0 where
  pub here : place_of k b then p ≡ at
  pub others : (q : ℕ) → q < b → (q ≢ p) → (place_of k b then q ≡ place_of k b table q) × (place_of k b table q ≢ at)

-- with k spares from place b on, and b cells before them
pub record SpareLaws : Type 0 where
  -- while every spare is unused, a cell's place is itself
  pub first : (k b p : ℕ) → place_of k b (replicate most_spares Free) p ≡ p
  -- a cell's place is a cell below, and two cells have two places
  pub below : (k b : ℕ) (table : List Spare) (p : ℕ) → p < b → place_of k b table p < b + k
  pub apart : (k b : ℕ) (table : List Spare) (p q : ℕ) → p < b → q < b → (q ≢ p) → place_of k b table q ≢ place_of k b table p
  -- a cell takes a write exactly when its place does or an unused spare does
  pub takes : (k b : ℕ) (table : List Spare) (t : ℕ → Bool) (p : ℕ) → takes_by k b table t p ≡ true → (t (place_of k b table p) ≡ true) ⊎ ((j : ℕ) × CanServe k b table t j)
  pub taken : (k b : ℕ) (table : List Spare) (t : ℕ → Bool) (p : ℕ) → (t (place_of k b table p) ≡ true) ⊎ ((j : ℕ) × CanServe k b table t j) → takes_by k b table t p ≡ true
  -- the next spare is the lowest that can serve
  pub next : (k b : ℕ) (table : List Spare) (t : ℕ → Bool) → next_spare k b table t < k → CanServe k b table t (next_spare k b table t)
  pub lowest : (k b : ℕ) (table : List Spare) (t : ℕ → Bool) (j : ℕ) → CanServe k b table t j → next_spare k b table t ≤ j
  -- a write goes to the cell's place if that takes it, else to the next spare
  pub stays : (k b : ℕ) (table : List Spare) (t : ℕ → Bool) (p : ℕ) → t (place_of k b table p) ≡ true → target k b table t p ≡ place_of k b table p
  pub moves : (k b : ℕ) (table : List Spare) (t : ℕ → Bool) (p : ℕ) → t (place_of k b table p) ≡ false → target k b table t p ≡ b + next_spare k b table t
  -- where it went is the cell's place from then on, and the other cells' places stay
  pub after : (k b : ℕ) (table : List Spare) (t : ℕ → Bool) (p : ℕ) → p < b → k ≤ length table → takes_by k b table t p ≡ true → After k b table p (target k b table t p) (table_after k b table t p)
  -- a spare once used stays used
  pub used : (k b : ℕ) (table : List Spare) (t : ℕ → Bool) (p j : ℕ) → is_free (slice_index_or table j Free) ≡ false → is_free (slice_index_or (table_after k b table t p) j Free) ≡ false
