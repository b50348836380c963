use Rattle.std.proofs.Common.{map}
use Rattle.sgb_import.specs.Edges.{edges_in}
use Rattle.sgb_import.specs.Private.Cursors.{seen}
use Rattle.sgb_import.specs.Private.EdgesRead.{IsRead}
use Rattle.sgb_import.proofs.EdgesRun.{edge_line_fault}
use Rattle.sgb_import.proofs.LineFaults.{FaultFree}
use Rattle.sgb_import.proofs.edges.read_lines.Given as goal

abbrev pub invariant-loop-line : goal.invariant-loop-line
invariant-loop-line l = record {
  free : FaultFree (edge_line_fault l.list l.header) (map seen l.yielded);
  read : IsRead l.list l.header (edges_in (map seen l.yielded)) l.gathered.names l.gathered.links.items;
}
