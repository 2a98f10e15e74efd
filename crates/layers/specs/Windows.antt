-- A window on the store below: n cells from place f, cut to what is there. Assumes nothing.
use Rattle.std.specs.Prelude.{ℕ, ◌+◌, ◌-◌, min}
use Rattle.std.proofs.Common.{arith}
use Rattle.std.specs.Option.{option_map}
use Rattle.cells.specs.Meaning.{Meaning, Bounded}
use Rattle.layers.specs.declared.window.Window.{Window}

-- the meaning of the window: its cell p is cell f + p of the store below, and it tells of its cells what the store below tells of them
abbrev pub windowed : ℕ → ℕ → Meaning → Meaning
windowed f n m = record {
  count = min n (m.count - f);
  size = m.size;
  cell = λ p. m.cell (f + p);
  takes = λ p. m.takes (f + p);
  after = λ p bytes. option_map (λ t q. t (f + q)) (m.after (f + p) bytes);
}

-- the window keeps to what every store keeps to
pub windowed_bounded : (f n : ℕ) (m : Meaning) → Bounded m → Bounded (windowed f n m)
windowed_bounded f n m b = record {
  few = omega (arith, b.few);
  some = b.some;
  short = b.short;
  whole = λ p h. b.whole (f + p) (omega arith);
}

-- what a window over a store of type S means, given what each such store means
abbrev pub window_of : {S : Type 0} → (S → Meaning) → Window S → Meaning
window_of meaning w = windowed w.from w.cells (meaning w.below)
