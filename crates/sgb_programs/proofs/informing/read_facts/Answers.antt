use Rattle.std.proofs.Common.{◌≡◌, ◌⊎◌, Err, IfErr, sym, subst}
use Rattle.std.proofs.lemmas.Result.{err_from_is_err_and}
use Rattle.sgb_graph.specs.declared.refusal.Refusal.TheVariants.{NoRoom}
use Rattle.sgb_programs.specs.Informed.{informed}
use Rattle.sgb_programs.proofs.InfoOutput.{text_refused, graph_refused, graph_taken}
use Rattle.sgb_programs.proofs.informing.read_facts.Goals as goal

pub returns-in_err-graph-clause-err : goal.returns-in_err-graph-clause-err
returns-in_err-graph-clause-err c =
    let p = err_from_is_err_and c.from_residual.result c.from_residual.ensures.1 in
    subst (λ r. IfErr r (λ e. (e ≡ NoRoom) ⊎ (informed c.args.rule c.args.text.now ≡ Err e))) (sym p.1)
    (text_refused c.args.rule c.args.text.now c.in_err-graph.field-0.0 p.0 p.2 c.in_err-graph.ensures.refusal)

pub returns-in_err-facts-clause-err : goal.returns-in_err-facts-clause-err
returns-in_err-facts-clause-err c =
    let p = err_from_is_err_and c.from_residual-in_err-facts.result c.from_residual-in_err-facts.ensures.1 in
    subst (λ r. IfErr r (λ e. (e ≡ NoRoom) ⊎ (informed c.args.rule c.args.text.now ≡ Err e))) (sym p.1)
    (graph_refused c.args.rule c.args.text.now c.in_ok-graph.graph c.in_err-facts.field-0.0 p.0 c.in_ok-graph.ensures.graph p.2 c.in_err-facts.ensures.err)

pub returns-clause-graph : goal.returns-clause-graph
returns-clause-graph c = graph_taken c.args.rule c.args.text.now c.in_ok-graph.graph c.in_ok-graph.ensures.graph c.in_ok-facts.ensures.ok.0
