use Rattle.std.proofs.Common.{◌+◌, ◌≤◌, length, ap, ◌∙◌, rules}
use Rattle.layers.specs.Spared.{left_in, place_of}
use Rattle.layers.proofs.Moves.{place_some, place_none}
use Rattle.layers.proofs.spares.Spares.place_of.Goals as goal

pub returns-in-Some : goal.returns-in-Some
returns-in-Some g c =
    let left = left_in g.S.Store.meaning c.args.self.now in
    let table = c.args.self.now.table in
    let long : c.spare_cells.result ≤ length table = search rules in
    ap (λ b. b + c.in-Some.own) c.count.ensures
    ∙ place_some c.spare_cells.result left table long c.args.p c.in-Some.own c.in-Some.ensures
    ∙ ap (λ k. place_of k left table c.args.p) c.spare_cells.ensures

pub returns-in-None : goal.returns-in-None
returns-in-None g c =
    let left = left_in g.S.Store.meaning c.args.self.now in
    let table = c.args.self.now.table in
    let long : c.spare_cells.result ≤ length table = search rules in
    place_none c.spare_cells.result left table long c.args.p c.in-None.ensures
    ∙ ap (λ k. place_of k left table c.args.p) c.spare_cells.ensures
