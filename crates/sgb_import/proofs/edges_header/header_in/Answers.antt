use Rattle.std.proofs.Common.{◌∙◌, sym}
use Rattle.sgb_import.specs.Lines.{words}
use Rattle.sgb_import.proofs.EdgesHeads.{header_lacks, header_reads, header_short}
use Rattle.sgb_import.proofs.edges_header.header_in.Goals as goal

pub returns-in_err-hash : goal.returns-in_err-hash
returns-in_err-hash c =
    c.from_residual.ensures ∙ header_short c.args.line.number (words c.args.line.bytes.now) c.in_err-hash.ensures

pub returns-then-not-is_hash : goal.returns-then-not-is_hash
returns-then-not-is_hash c =
    header_lacks c.args.line.number (words c.args.line.bytes.now) _ c.in_ok-hash.ensures (sym c.is_hash.ensures ∙ c.if-not-is_hash.true)

pub returns : goal.returns
returns c =
    c.header_with.ensures
    ∙ header_reads c.args.line.number (words c.args.line.bytes.now) _ c.in_ok-hash.ensures (sym c.is_hash.ensures ∙ c.if-not-is_hash.false)
    c.is_directed_kind.ensures c.natural.ensures c.natural-2.ensures
