-- A store whose last cells below are held back as spares, for cells that take no write. Assumes nothing.
use Rattle.std.specs.Prelude.{◌≡◌, ℕ, ◌+◌, ◌-◌, ◌<◌, min, Bool, true, false, cond, ◌&&◌, ◌||◌, List, map, ◌==◌, nat_lt, slice_index_or, slice_set, refl}
use Rattle.std.proofs.Common.{arith, ltb-true}
use Rattle.std.specs.Option.{option_map}
use Rattle.cells.specs.Meaning.{Meaning, Bounded}
use Rattle.cells.specs.Calls.{accepts}
use Rattle.layers.specs.Lowest.{lowest}
use Rattle.layers.specs.declared.spare.Spare.{Spare}
use Rattle.layers.specs.declared.spare.Spare.TheVariants.{Free, Spent, Of}
use Rattle.layers.specs.declared.spares.Spares.{Spares}

-- the most cells that are held back
abbrev pub most_spares : ℕ
most_spares = 16

-- whether a spare is the place of cell p
abbrev pub is_of : ℕ → Spare → Bool
is_of p Free = false
is_of p Spent = false
is_of p (Of q) = q == p

-- whether a spare is unused
abbrev pub is_free : Spare → Bool
is_free Free = true
is_free Spent = false
is_free (Of q) = false

-- the spare once it is the place of cell p no more: used up, if it was that
abbrev pub retired : ℕ → Spare → Spare
retired p Free = Free
retired p Spent = Spent
retired p (Of q) = cond (q == p) Spent (Of q)

-- how many of c cells are held back, where `held` were asked for
abbrev pub kept : ℕ → ℕ → ℕ
kept held c = min (min held most_spares) c

-- which of the k spares is the place of cell p, or k
abbrev pub own_spare : ℕ → List Spare → ℕ → ℕ
own_spare k table p = lowest (λ j. is_of p (slice_index_or table j Free)) k

-- where cell p lies, with k spares from place b on: at its spare, or at itself
unfoldable pub place_of : ℕ → ℕ → List Spare → ℕ → ℕ
place_of k b table p = cond (nat_lt (own_spare k table p) k) (b + own_spare k table p) p

-- whether the spare j is unused and its cell passes the test
abbrev pub usable : ℕ → List Spare → (ℕ → Bool) → ℕ → Bool
usable b table t j = is_free (slice_index_or table j Free) && t (b + j)

-- the lowest such spare, or k
abbrev pub next_spare : ℕ → ℕ → List Spare → (ℕ → Bool) → ℕ
next_spare k b table t = lowest (usable b table t) k

-- whether cell p takes a write, where t tells which cells below do: its place does, or an unused spare
abbrev pub takes_by : ℕ → ℕ → List Spare → (ℕ → Bool) → ℕ → Bool
takes_by k b table t p = t (place_of k b table p) || nat_lt (next_spare k b table t) k

-- where a write to cell p goes: to its place if that takes it, or else to the next spare
abbrev pub target : ℕ → ℕ → List Spare → (ℕ → Bool) → ℕ → ℕ
target k b table t p = cond (t (place_of k b table p)) (place_of k b table p) (b + next_spare k b table t)

-- the spare j becomes the place of cell p, in the place of any other
abbrev pub moved_to : List Spare → ℕ → ℕ → List Spare
moved_to table j p = slice_set (map (retired p) table) j (Of p)

-- the table once a write to cell p was taken
abbrev pub table_after : ℕ → ℕ → List Spare → (ℕ → Bool) → ℕ → List Spare
table_after k b table t p = cond (t (place_of k b table p)) table (moved_to table (next_spare k b table t) p)

-- which cells of the store below accept a write of the bytes
abbrev pub accepting : Meaning → List ℕ → ℕ → Bool
accepting m bytes at = accepts m at bytes

-- the meaning with k spares from place b on; it tells of its cells what follows from what the store below tells
abbrev pub spared : ℕ → ℕ → List Spare → Meaning → Meaning
spared k b table m = record {
  count = b;
  size = m.size;
  cell = λ p. m.cell (place_of k b table p);
  takes = takes_by k b table m.takes;
  after = λ p bytes. option_map (takes_by k b (table_after k b table (accepting m bytes) p)) (m.after (target k b table (accepting m bytes) p) bytes);
}

-- how many cells of a store that means m are held back, where `held` were asked for
abbrev pub held_by : ℕ → Meaning → ℕ
held_by held m = kept held m.count

-- how many cells are left then
abbrev pub left_by : ℕ → Meaning → ℕ
left_by held m = m.count - kept held m.count

-- the meaning with the last cells held back
abbrev pub spares : ℕ → List Spare → Meaning → Meaning
spares held table m = spared (held_by held m) (left_by held m) table m

-- The same of a layer over a store of type S, given what each such store means.
-- how many cells are held back
abbrev pub held_in : {S : Type 0} → (S → Meaning) → Spares S → ℕ
held_in meaning s = held_by s.held (meaning s.below)

-- how many cells are left
abbrev pub left_in : {S : Type 0} → (S → Meaning) → Spares S → ℕ
left_in meaning s = left_by s.held (meaning s.below)

-- where cell p lies below
abbrev pub place_in : {S : Type 0} → (S → Meaning) → Spares S → ℕ → ℕ
place_in meaning s p = place_of (held_in meaning s) (left_in meaning s) s.table p

-- what the layer means
abbrev pub spares_of : {S : Type 0} → (S → Meaning) → Spares S → Meaning
spares_of meaning s = spares s.held s.table (meaning s.below)

-- where a write of the bytes to cell p goes below
abbrev pub goes_to : {S : Type 0} → (S → Meaning) → Spares S → ℕ → List ℕ → ℕ
goes_to meaning s p bytes = target (held_in meaning s) (left_in meaning s) s.table (accepting (meaning s.below) bytes) p

-- the table once that write was taken
abbrev pub table_then : {S : Type 0} → (S → Meaning) → Spares S → ℕ → List ℕ → List Spare
table_then meaning s p bytes = table_after (held_in meaning s) (left_in meaning s) s.table (accepting (meaning s.below) bytes) p

-- a cell lies on a cell of the store below
pub place_below : (k b : ℕ) (table : List Spare) (p : ℕ) → p < b → place_of k b table p < b + k
unfolding place_of
place_below k b table p h = by (nat_lt (own_spare k table p) k) refl where
  by : (t : Bool) → nat_lt (own_spare k table p) k ≡ t → cond t (b + own_spare k table p) p < b + k
  by true e = omega (arith, ltb-true (own_spare k table p) k e)
  by false e = omega arith

-- the layer keeps to what every store keeps to
pub spares_bounded : (held : ℕ) (table : List Spare) (m : Meaning) → Bounded m → Bounded (spares held table m)
spares_bounded held table m bounds = record {
  few = omega (arith, bounds.few);
  some = bounds.some;
  short = bounds.short;
  whole = λ p h.
      let k = held_by held m in
      let b = left_by held m in
      bounds.whole (place_of k b table p) (omega (arith, place_below k b table p h));
}
