use Rattle.std.proofs.Common.{◌+◌, subst, IfErr}
use Rattle.sgb_graph.specs.Private.Insert.{IsRefusedAt}
use Rattle.sgb_graph.proofs.Cells.{many_slots}
use Rattle.sgb_graph.proofs.graph.arena.Arena.reserve.Goals as goal

pub returns-clause-err : goal.returns-clause-err
returns-clause-err c =
    subst (λ n. IfErr c.make_room.result (IsRefusedAt (n + c.args.count))) (many_slots c.self.inside.cells.items c.self.inside.fields.items c.self.view_is c.self.inside.cells.ok.0) c.make_room.ensures.err
