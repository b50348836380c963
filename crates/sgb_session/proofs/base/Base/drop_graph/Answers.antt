use Rattle.std.proofs.Common.{◌∙◌, subst, sym, Ok}
use Rattle.sgb_script.specs.declared.command.Single.TheVariants as commands
use Rattle.sgb_session.specs.declared.reply.SingleDelta.TheVariants as kept
use Rattle.sgb_session.specs.declared.reply.SingleReply.TheVariants.{Done}
use Rattle.sgb_session.specs.Private.Making.{Performs}
use Rattle.sgb_session.proofs.EditSteps.{state, graph_dropped}
use Rattle.sgb_session.proofs.base.Base.drop_graph.Goals as goal

pub returns : goal.returns
returns c =
    let d = c.self.inside.generator in
    let t = c.self.inside.table in
    let u = c.remove-entry.new.self in
    let x = c.remove-entry.result in
    let i = c.in-Some.place in
    let name = c.args.name.now in
    subst (λ s. Performs s (state d u) (commands.Drop name) (Ok (kept.Dropped i x.name x.graph, Done))) c.self.view_is
    (graph_dropped d t u name i x (sym c.find.ensures ∙ c.in-Some.is) c.remove-entry.ensures.entry c.remove-entry.ensures.table c.remove-entry.ensures.few)
