use Rattle.std.proofs.Common.{◌∙◌, ap, arith}
use Rattle.std.specs.List.{list_all}
use Rattle.sgb_graph.specs.Honest.{are_allowed}
use Rattle.sgb_graph.specs.Private.Vertices.{first_at}
use Rattle.sgb_graph.specs.declared.graph.Vertex.{Vertex}
use Rattle.sgb_graph.proofs.Vertices.{rows-honest}
use Rattle.sgb_graph.proofs.graph.vertices.Vertices.is_honest.Goals as goal

pub returns : goal.returns
returns c =
    let a = c.self.inside in
    let letters = c.args.letters.now in
    c.are_all_allowed.ensures
    ∙ (ap (list_all (are_allowed letters)) c.deref.ensures.value
    ∙ (rows-honest letters a.labels.items (first_at a.firsts.items) a.fields.items (omega (arith, c.self.invariant.1, a.labels.ok.0, a.fields.ok.0))
    ∙ ap (list_all (λ (v : Vertex). are_allowed letters v.fields)) c.self.view_is))
