use Rattle.std.proofs.Common.{map}
use Rattle.sgb_plan.proofs.Plans.{NamesOf}
use Rattle.sgb_perms.specs.Perms.{row_vertex}
use Rattle.sgb_perms.proofs.names.name_vertices.Given as goal

abbrev pub invariant-loop-v : goal.invariant-loop-v
invariant-loop-v l = NamesOf l.fn.builder (map row_vertex l.rows.rows) l.builder row_vertex l.rows.rows l.v
