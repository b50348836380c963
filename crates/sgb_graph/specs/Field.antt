-- The places of the utility fields, and the numbers of arcs.
use Rattle.std.specs.Prelude.{ℕ}
use Rattle.sgb_graph.specs.declared.field.ArcNo.{ArcNo}
use Rattle.sgb_graph.specs.declared.field.VertexField.{VertexField}
use Rattle.sgb_graph.specs.declared.field.VertexField.TheVariants.{U, V, W, X, Y, Z}
use Rattle.sgb_graph.specs.declared.field.ArcField.{ArcField}
use Rattle.sgb_graph.specs.declared.field.ArcField.TheVariants.{A, B}
use Rattle.sgb_graph.specs.declared.field.GraphField.{GraphField}
use Rattle.sgb_graph.specs.declared.field.GraphField.TheVariants.{Uu, Vv, Ww, Xx, Yy, Zz}

abbrev pub vertex_place : VertexField → ℕ
vertex_place U = 0
vertex_place V = 1
vertex_place W = 2
vertex_place X = 3
vertex_place Y = 4
vertex_place Z = 5

abbrev pub arc_place : ArcField → ℕ
arc_place A = 0
arc_place B = 1

abbrev pub graph_place : GraphField → ℕ
graph_place Uu = 0
graph_place Vv = 1
graph_place Ww = 2
graph_place Xx = 3
graph_place Yy = 4
graph_place Zz = 5

-- the number as an `ArcNo`
abbrev pub arc_no : ℕ → ArcNo
arc_no k = record { 0 = k }
