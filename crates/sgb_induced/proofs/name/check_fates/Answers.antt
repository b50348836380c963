use Rattle.std.proofs.Common.{is_some, unwrap_or, sym, ap, ◌∙◌, arith}
use Rattle.sgb_graph.specs.Graph.{n_of}
use Rattle.sgb_induced.specs.declared.fate.Fate.TheVariants.{Copies}
use Rattle.sgb_induced.specs.Fate.{fates_of, has_fate}
use Rattle.sgb_induced.specs.Image.{has_name}
use Rattle.sgb_induced.proofs.Roles.{fates_refused, names_refused}
use Rattle.sgb_induced.proofs.CopyNames.{name_fits}
use Rattle.sgb_induced.proofs.Ranges.{all_range_more, all_range_fails}
use Rattle.sgb_induced.proofs.name.check_fates.Goals as goal

pub returns-in_default-clause-err : goal.returns-in_default-clause-err
returns-in_default-clause-err c =
    fates_refused c.args.graph.now (all_range_fails (has_fate c.args.graph.now) (n_of c.args.graph.now) c.loop-v.v (omega arith) (ap is_some (sym c.fate_at.ensures ∙ c.in_default.is)))

pub returns-then-not-has_name-clause-err : goal.returns-then-not-has_name-clause-err
returns-then-not-has_name-clause-err c =
    let fits = name_fits c.args.graph.now c.loop-v.v c.in-Some.fate (omega arith) (ap (λ o. unwrap_or o (Copies 0)) (sym c.in-Some.is ∙ c.fate_at.ensures)) c.label.ensures.value c.has_name.ensures in
    names_refused c.args.graph.now (all_range_fails (has_name c.args.graph.now (fates_of c.args.graph.now)) (n_of c.args.graph.now) c.loop-v.v (omega arith) (sym fits ∙ c.if-not-has_name.true))

pub loop-v-preserved : goal.loop-v-preserved
loop-v-preserved c =
    let fits = name_fits c.args.graph.now c.loop-v.v c.in-Some.fate (omega arith) (ap (λ o. unwrap_or o (Copies 0)) (sym c.in-Some.is ∙ c.fate_at.ensures)) c.label.ensures.value c.has_name.ensures in
    record {
      fates = all_range_more (has_fate c.args.graph.now) c.loop-v.v c.loop-v.invariant.fates (ap is_some (sym c.fate_at.ensures ∙ c.in-Some.is));
      names = all_range_more (has_name c.args.graph.now (fates_of c.args.graph.now)) c.loop-v.v c.loop-v.invariant.names (sym fits ∙ c.if-not-has_name.false);
    }
