use Rattle.std.proofs.Common.{ap, inr, refl, subst, sym, ◌∙◌}
use Rattle.sgb_import.specs.Edges.{edge_fault, edges_in, ends_of}
use Rattle.sgb_import.specs.Lines.{words}
use Rattle.sgb_import.specs.Private.Cursors.{seen}
use Rattle.sgb_import.specs.Private.EdgesRead.{IsRead, Tells}
use Rattle.sgb_import.specs.Refusal.{at_line}
use Rattle.sgb_import.proofs.EdgesRun.{fault_of_edge, no_edge_more, not_edge, took}
use Rattle.sgb_import.proofs.edges.read_line.Goals as goal

pub returns-then-not-is_edge-clause-none : goal.returns-then-not-is_edge-clause-none
returns-then-not-is_edge-clause-none c = λ before read.
    not_edge c.args.list c.args.header before (seen c.args.line) (sym c.is_edge.ensures ∙ c.if-not-is_edge.true)

pub returns-then-not-is_edge-clause-read : goal.returns-then-not-is_edge-clause-read
returns-then-not-is_edge-clause-read c = λ before read.
    subst (λ es. IsRead c.args.list c.args.header es c.args.gathered.now.names c.args.gathered.now.links.items)
    (sym (no_edge_more before (seen c.args.line) (sym c.is_edge.ensures ∙ c.if-not-is_edge.true))) read

pub returns-in-Ok-clause-none : goal.returns-in-Ok-clause-none
returns-in-Ok-clause-none c = λ before read.
    (took c.args.list c.args.header before (seen c.args.line) c.read_edge.new.gathered.names c.read_edge.new.gathered.links.items
    (sym c.is_edge.ensures ∙ c.if-not-is_edge.false) (ends_of (words c.args.line.bytes.now)) refl (c.in-Ok.ensures.ok (edges_in before) read)).0

pub returns-in-Ok-clause-read : goal.returns-in-Ok-clause-read
returns-in-Ok-clause-read c = λ before read.
    (took c.args.list c.args.header before (seen c.args.line) c.read_edge.new.gathered.names c.read_edge.new.gathered.links.items
    (sym c.is_edge.ensures ∙ c.if-not-is_edge.false) (ends_of (words c.args.line.bytes.now)) refl (c.in-Ok.ensures.ok (edges_in before) read)).1

pub returns-in-Err-Text-clause-err : goal.returns-in-Err-Text-clause-err
returns-in-Err-Text-clause-err c = λ before read.
    inr (ap (at_line c.args.line.number)
    (fault_of_edge c.args.list c.args.header before (seen c.args.line) (sym c.is_edge.ensures ∙ c.if-not-is_edge.false)
    ∙ subst (Tells (edge_fault c.args.list c.args.header (edges_in before) (ends_of (words c.args.line.bytes.now)))) c.in-Err-Text.field-0-is
    (c.in-Err-Text.ensures.err (edges_in before) read)))
