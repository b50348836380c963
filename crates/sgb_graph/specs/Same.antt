-- Graphs compared by all that contracts see of them.
use Rattle.std.specs.Prelude.{Option, Some, None, Bool, true, false, ◌&&◌, nat_eq}
use Rattle.std.specs.Cmp.Lexicographic.{pointwise}
use Rattle.std.specs.Ordering.{int_eq}
use Rattle.sgb_graph.specs.declared.field.Tip.{Tip}
use Rattle.sgb_graph.specs.declared.field.Tip.TheVariants as tips
use Rattle.sgb_graph.specs.declared.field.Util.{Util}
use Rattle.sgb_graph.specs.declared.field.Util.TheVariants.{Zero, Int, Vertex, Arc, Text}
use Rattle.sgb_graph.specs.Graph.{GraphOf, VertexOf, ArcOf}

abbrev pub tip_eq : Tip → Tip → Bool
tip_eq tips.Zero tips.Zero = true
tip_eq tips.One tips.One = true
tip_eq (tips.To v) (tips.To w) = nat_eq v.0 w.0
tip_eq _ _ = false

abbrev pub util_eq : Util → Util → Bool
util_eq Zero Zero = true
util_eq (Int z) (Int y) = int_eq z y
util_eq (Vertex v) (Vertex w) = nat_eq v.0 w.0
util_eq (Arc a) (Arc b) = nat_eq a.0 b.0
util_eq (Text s) (Text t) = pointwise nat_eq s t
util_eq _ _ = false

abbrev pub entry_eq : Option ArcOf → Option ArcOf → Bool
entry_eq None None = true
entry_eq (Some d) (Some e) = tip_eq d.tip e.tip && int_eq d.len e.len && pointwise util_eq d.fields e.fields
entry_eq _ _ = false

abbrev pub vertex_eq : VertexOf → VertexOf → Bool
vertex_eq x y = pointwise nat_eq x.label y.label && pointwise util_eq x.fields y.fields && pointwise nat_eq x.arcs y.arcs

unfoldable pub graph_eq : GraphOf → GraphOf → Bool
graph_eq g h =
    pointwise nat_eq g.id h.id
    && pointwise nat_eq g.types h.types
    && pointwise util_eq g.fields h.fields
    && pointwise vertex_eq g.vertices h.vertices
    && pointwise entry_eq g.entries h.entries
