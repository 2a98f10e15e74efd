use Rattle.std.proofs.Common.{◌≡◌, ℕ, ◌<◌, false}
use Rattle.layers.specs.Spared.{usable, accepting}
use Rattle.layers.proofs.scan.try_spares.Given as goal

abbrev pub invariant-loop-j : goal.invariant-loop-j
invariant-loop-j g l =
    let m = g.S.Store.meaning l.initial.below in
    (g.S.Store.meaning l.below ≡ m) × ((i : ℕ) → i < l.j → usable l.base l.spares (accepting m l.bytes) i ≡ false)
