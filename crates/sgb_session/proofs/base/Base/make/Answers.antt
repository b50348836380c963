use Rattle.std.proofs.Common.{◌≡◌, ap, ◌∙◌, sym, subst, List, [], ◌∷◌, ◌++◌, Ok, None}
use Rattle.sgb_graph.specs.Graph.{n_of, m_of}
use Rattle.sgb_script.specs.declared.command.Single.TheVariants as commands
use Rattle.sgb_session.specs.declared.reply.SingleReply.TheVariants.{Made}
use Rattle.sgb_session.specs.declared.table.Entry.{Entry}
use Rattle.sgb_session.specs.Private.Making.{MakesGraph, Performs}
use Rattle.sgb_session.specs.State.{refusal_of_making}
use Rattle.sgb_session.proofs.MakerSteps.{make_done}
use Rattle.sgb_session.proofs.EditSteps.{state}
use Rattle.sgb_session.proofs.base.Base.make.Goals as goal

pub returns-in-Ok : goal.returns-in-Ok
returns-in-Ok c =
    let d = c.self.inside.generator in
    let t = c.self.inside.table in
    let e = c.make_boxed.new.generator in
    let name = c.args.name in
    let m = c.args.maker.now in
    let g = c.in-Ok.boxed in
    let command = commands.Make name m in
    let u : List Entry = t ++ record { name = name; graph = g } ∷ [] in
    let shown = c.get-graph.ensures in
    let free : refusal_of_making (state d t) name m ≡ None = ap (λ s. refusal_of_making s name m) c.self.view_is ∙ c.in_ok-judge.ensures in
    let done = make_done d e t name m (g, c.in-Ok.delta) free (subst (MakesGraph d e t m) c.in-Ok.is c.make_boxed.ensures) in
    subst (λ s. Performs s (state e c.push.new.self) command (Ok (c.in-Ok.delta, Made name c.n.result c.m.result))) c.self.view_is
    (subst (λ v. Performs (state d t) (state e v) command (Ok (c.in-Ok.delta, Made name c.n.result c.m.result))) (sym c.push.ensures)
    (subst (λ k. Performs (state d t) (state e u) command (Ok (c.in-Ok.delta, Made name k c.m.result))) (sym (c.n.ensures.value ∙ ap n_of shown))
    (subst (λ k. Performs (state d t) (state e u) command (Ok (c.in-Ok.delta, Made name (n_of g) k))) (sym (c.m.ensures.value ∙ ap m_of shown)) done)))
