use Rattle.std.proofs.Common.{ap, sym, ◌∙◌, find}
use Rattle.std.specs.Option.{option_map}
use Rattle.sgb_import.specs.Edges.{is_comment}
use Rattle.sgb_import.specs.Private.Cursors.{seen}
use Rattle.sgb_import.specs.Private.EdgesRead.{capped}
use Rattle.sgb_import.proofs.EdgesHeads.{first_is, none_is}
use Rattle.sgb_import.specs.Lines.{lines}
use Rattle.sgb_import.proofs.edges_header.find_header.Goals as goal

pub returns-then-is_comment : goal.returns-then-is_comment
returns-then-is_comment c =
    c.header_in.ensures
    ∙ ap (option_map capped) (sym (first_is (seen c.in-Some.line) c.next.new.self (lines c.args.text.now)
    (ap (find is_comment) (sym c.in-Some.ensures.steps) ∙ c.loop-line.invariant)
    (sym c.is_comment.ensures ∙ c.if-is_comment.true)))

pub returns : goal.returns
returns c =
    ap (option_map capped) (sym (none_is (lines c.args.text.now) (ap (find is_comment) (sym c.in-None.ensures.steps.0) ∙ c.loop-line.invariant)))
