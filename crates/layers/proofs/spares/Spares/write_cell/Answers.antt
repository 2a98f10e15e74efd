use Rattle.std.proofs.Common.{◌≡◌, ◌≤◌, length, is_ok, Err, sym, refl, rules}
use Rattle.cells.specs.declared.fault.StoreFault.TheVariants.{Worn}
use Rattle.layers.proofs.Writes.{wrote_here, wrote_spare, wrote_nowhere}
use Rattle.layers.proofs.spares.Spares.write_cell.Goals as goal

pub returns-then-is_ok : goal.returns-then-is_ok
returns-then-is_ok g c =
    let s = c.args.self.now in
    let w =
    wrote_here s.held s.table _ _ _ c.requires.here c.requires.short c.place_of-at.result c.place_of-at.ensures _ c.write.result c.write.ensures
    (sym {b = is_ok c.write.result} c.if-is_ok.ensures.value) in
    record { store = w.store; below = w.below; table = w.changed; kept = refl {a = s.held} }

pub returns-in_err-j : goal.returns-in_err-j
returns-in_err-j g c =
    let s = c.args.self.now in
    let long : c.spare_cells.result ≤ length s.table = search rules in
    let is : c.from_residual.result ≡ Err (Worn c.args.p) = search rules in
    let w =
    wrote_nowhere s.held s.table _ _ _ c.requires.here c.requires.short c.place_of-at.result c.place_of-at.ensures _ c.write.result c.write.ensures
    (sym {b = is_ok c.write.result} c.if-is_ok.ensures.value) c.spare_cells.result c.count-base.result c.spare_cells.ensures c.count-base.ensures long _ c.try_spares.result c.try_spares.ensures.which
    c.try_spares.ensures.becomes c.in_err-j.ensures.ok_part c.from_residual.result is in
    record { store = w.store; below = w.below; table = w.changed; kept = refl {a = s.held} }

pub returns : goal.returns
returns g c =
    let s = c.args.self.now in
    let long : c.spare_cells.result ≤ length s.table = search rules in
    let w =
    wrote_spare s.held s.table _ _ _ c.requires.here c.requires.short c.place_of-at.result c.place_of-at.ensures _ c.write.result c.write.ensures
    (sym {b = is_ok c.write.result} c.if-is_ok.ensures.value) c.spare_cells.result c.count-base.result c.spare_cells.ensures c.count-base.ensures long _ c.try_spares.result c.try_spares.ensures.which
    c.try_spares.ensures.becomes c.in_ok-j.j c.in_ok-j.ensures.ok_part _ c.move_to.ensures in
    record { store = w.store; below = w.below; table = w.changed; kept = refl {a = s.held} }
