use Rattle.std.proofs.Common.{◌==◌, not, length, Some, None, rules, tests, refl, ◌∙◌}
use Rattle.std.proofs.lemmas.Iterator.Consumers.{YieldsList-from_rest}
use Rattle.std.proofs.lemmas.Iterator.Search.{find_from_yields_List}
use Rattle.sgb_import.specs.Lines.{LineOf}
use Rattle.sgb_import.specs.Private.Cursors.{seen}
use Rattle.sgb_import.proofs.Graph6Texts.{second_graph-found}
use Rattle.sgb_import.proofs.graph6.second_graph.Goals as goal

pub returns-in_err-line : goal.returns-in_err-line
returns-in_err-line c =
    let found = find_from_yields_List (λ (l : LineOf). not (length l.bytes == 0)) _ _ None c.in_err-line.ensures.ran
    (YieldsList-from_rest {shows = seen} c.args.lines refl) (λ x b q k. search (rules, tests)) in
    c.from_residual.ensures ∙ second_graph-found c.args.lines None found

pub returns : goal.returns
returns c =
    let found = find_from_yields_List (λ (l : LineOf). not (length l.bytes == 0)) _ _ (Some c.in_ok-line.line) c.in_ok-line.ensures.ran
    (YieldsList-from_rest {shows = seen} c.args.lines refl) (λ x b q k. search (rules, tests)) in
    second_graph-found c.args.lines (Some c.in_ok-line.line) found
