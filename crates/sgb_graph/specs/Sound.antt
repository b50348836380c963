-- Whether a graph is sound, as a test.
use Rattle.std.specs.Prelude.{◌^◌, ℕ, ℤ, pos, negsuc, List, length, Option, Some, None, is_some, Bool, true, not, ◌&&◌, ◌==◌, nat_lt, nat_le, slice_index_or, if◌then◌else◌}
use Rattle.std.specs.List.{list_all, range_with_len}
use Rattle.std.specs.Ordering.{int_eq}
use Rattle.sgb_graph.specs.declared.field.Tip.{Tip}
use Rattle.sgb_graph.specs.declared.field.Tip.TheVariants as tips
use Rattle.sgb_graph.specs.declared.field.Util.{Util}
use Rattle.sgb_graph.specs.declared.field.Util.TheVariants.{Zero, Int, Vertex, Arc, Text}
use Rattle.sgb_graph.specs.Text.{is_text_byte}
use Rattle.sgb_graph.specs.Types.{is_letter}
use Rattle.sgb_graph.specs.Graph.{GraphOf, VertexOf, ArcOf, n_of, made_of, has_arc, listings}

-- the number is one of 64 bits
abbrev pub fits_i64 : ℤ → Bool
fits_i64 (pos n) = nat_lt n (2 ^ 63)
fits_i64 (negsuc n) = nat_lt n (2 ^ 63)

abbrev pub is_text : List ℕ → Bool
is_text t = nat_le (length t) 4095 && list_all is_text_byte t

abbrev pub is_id : List ℕ → Bool
is_id t = is_text t && nat_le (length t) 160

abbrev pub is_types : List ℕ → Bool
is_types ts = (length ts == 14) && list_all is_letter ts

-- a tip and a value, where there are n vertices and these arcs
abbrev pub is_tip : ℕ → Tip → Bool
is_tip n tips.Zero = true
is_tip n tips.One = true
is_tip n (tips.To v) = nat_lt v.0 n

abbrev pub is_value : ℕ → List (Option ArcOf) → Util → Bool
is_value n es Zero = true
is_value n es (Int z) = not (int_eq z (pos 0)) && fits_i64 z
is_value n es (Vertex v) = nat_lt v.0 n
is_value n es (Arc a) = is_some (slice_index_or es a.0 None)
is_value n es (Text t) = not (length t == 0) && is_text t

-- so many values
abbrev pub are_values : ℕ → List (Option ArcOf) → ℕ → List Util → Bool
are_values n es size us = (length us == size) && list_all (is_value n es) us

abbrev pub is_vertex : ℕ → List (Option ArcOf) → VertexOf → Bool
is_vertex n es v = is_text v.label && are_values n es 6 v.fields

-- an arc, or a hole
abbrev pub is_entry : ℕ → List (Option ArcOf) → Option ArcOf → Bool
is_entry n es None = true
is_entry n es (Some e) = is_tip n e.tip && fits_i64 e.len && are_values n es 2 e.fields

-- a live number is listed once, and a hole by no vertex
abbrev pub is_listed : GraphOf → ℕ → Bool
is_listed g k = listings k g.vertices == (if has_arc g k then 1 else 0)

-- each number given out is so listed, and no other number is listed
abbrev pub are_listed : GraphOf → Bool
are_listed g =
    list_all (is_listed g) (range_with_len 0 (made_of g))
    && list_all (λ v. list_all (λ k. nat_lt k (made_of g)) v.arcs) g.vertices

-- the graph is sound
unfoldable pub is_graph : GraphOf → Bool
is_graph g =
    are_listed g && is_id g.id && is_types g.types && are_values (n_of g) g.entries 6 g.fields
    && list_all (is_vertex (n_of g) g.entries) g.vertices && list_all (is_entry (n_of g) g.entries) g.entries
    && nat_le (n_of g) 65535 && nat_le (made_of g) 1000000
