-- Graphs: what a contract sees of one, and when it is sound.
use Rattle.std.specs.Prelude.{◌≡◌, ◌≢◌, ◌≤◌, ◌<◌, ◌+◌, ℕ, ℤ, pos, List, [], length, Option, Some, None, is_some, IsSome, IfSome, Bool, false, ◌==◌, nat_lt, All, count_by, sum_by, slice_index_or, if◌then◌else◌, FitsSigned}
use Rattle.std.specs.Int.{w64}
use Rattle.sgb_graph.specs.declared.field.Tip.{Tip}
use Rattle.sgb_graph.specs.declared.field.Tip.TheVariants as tips
use Rattle.sgb_graph.specs.declared.field.Util.{Util}
use Rattle.sgb_graph.specs.declared.field.Util.TheVariants.{Zero, Int, Vertex, Arc, Text}
use Rattle.sgb_graph.specs.Text.{IsText}
use Rattle.sgb_graph.specs.Types.{IsTypes}

-- a vertex: its label, its six fields, and the numbers of its arcs, the newest first
pub record VertexOf : Type 0 where
  pub label : List ℕ
  pub fields : List Util
  pub arcs : List ℕ

-- an arc: where it leads, its length, and its two fields
pub record ArcOf : Type 0 where
  pub tip : Tip
  pub len : ℤ
  pub fields : List Util

-- a graph: its vertices by number, and by number its arcs, where `None` is a hole
pub record GraphOf : Type 0 where
  pub id : List ℕ
  pub types : List ℕ
  pub fields : List Util
  pub vertices : List VertexOf
  pub entries : List (Option ArcOf)

-- what stands at a number that no vertex has
abbrev pub no_vertex : VertexOf
no_vertex = record { label = []; fields = []; arcs = [] }

-- how many vertices there are, how many arc numbers were given out, and how many arcs live
abbrev pub n_of : GraphOf → ℕ
n_of g = length g.vertices

abbrev pub made_of : GraphOf → ℕ
made_of g = length g.entries

abbrev pub m_of : GraphOf → ℕ
m_of g = count_by is_some g.entries

abbrev pub vertex_at : GraphOf → ℕ → VertexOf
vertex_at g v = slice_index_or g.vertices v no_vertex

abbrev pub label_of : GraphOf → ℕ → List ℕ
label_of g v = (vertex_at g v).label

abbrev pub arcs_of : GraphOf → ℕ → List ℕ
arcs_of g v = (vertex_at g v).arcs

abbrev pub arc_at : GraphOf → ℕ → Option ArcOf
arc_at g k = slice_index_or g.entries k None

abbrev pub has_vertex : GraphOf → ℕ → Bool
has_vertex g v = nat_lt v (n_of g)

abbrev pub has_arc : GraphOf → ℕ → Bool
has_arc g k = is_some (arc_at g k)

-- how often the number stands in the list, and in the lists of all vertices
abbrev pub occurrences : ℕ → List ℕ → ℕ
occurrences k = count_by (λ j. j == k)

abbrev pub listings : ℕ → List VertexOf → ℕ
listings k = sum_by (λ v. occurrences k v.arcs)

-- the field's value names the arc
abbrev pub is_name : ℕ → Util → Bool
is_name k Zero = false
is_name k (Int z) = false
is_name k (Vertex v) = false
is_name k (Arc a) = a.0 == k
is_name k (Text t) = false

abbrev pub names_in : ℕ → List Util → ℕ
names_in k = count_by (is_name k)

abbrev pub names_in_entry : ℕ → Option ArcOf → ℕ
names_in_entry k None = 0
names_in_entry k (Some e) = names_in k e.fields

-- how many fields of the graph, of its vertices and of its arcs name the arc
abbrev pub names_of : GraphOf → ℕ → ℕ
names_of g k = names_in k g.fields + sum_by (λ v. names_in k v.fields) g.vertices + sum_by (names_in_entry k) g.entries

-- a tip that names a vertex names one below n
abbrev pub IsTip : ℕ → Tip → Type 0
IsTip n tips.Zero = Unit {0}
IsTip n tips.One = Unit {0}
IsTip n (tips.To v) = v.0 < n

-- a value that a field may hold, where there are n vertices and these arcs
abbrev pub IsValue : ℕ → List (Option ArcOf) → Util → Type 0
IsValue n es Zero = Unit {0}
IsValue n es (Int z) = (z ≢ pos 0) × FitsSigned w64 z
IsValue n es (Vertex v) = v.0 < n
IsValue n es (Arc a) = IsSome (slice_index_or es a.0 None)
IsValue n es (Text t) = (t ≢ []) × IsText t

pub record IsVertex (n : ℕ) (es : List (Option ArcOf)) (v : VertexOf) : Type 0 where
  pub label : IsText v.label
  pub six : length v.fields ≡ 6
  pub values : All (IsValue n es) v.fields

pub record IsArc (n : ℕ) (es : List (Option ArcOf)) (e : ArcOf) : Type 0 where
  pub tip : IsTip n e.tip
  pub len : FitsSigned w64 e.len
  pub two : length e.fields ≡ 2
  pub values : All (IsValue n es) e.fields

-- an id: a text of at most 160 bytes
pub record IsId (t : List ℕ) : Type 0 where
  pub text : IsText t
  pub short : length t ≤ 160

-- a sound graph: each live number is listed once, by one vertex, and a hole by none; the texts, values, tips and
-- lengths are ones that a graph may hold; and the limits are kept
pub record IsGraph (g : GraphOf) : Type 0 where
  pub listed : (k : ℕ) → listings k g.vertices ≡ (if has_arc g k then 1 else 0)
  pub id : IsId g.id
  pub types : IsTypes g.types
  pub six : length g.fields ≡ 6
  pub values : All (IsValue (n_of g) g.entries) g.fields
  pub vertices : All (IsVertex (n_of g) g.entries) g.vertices
  pub arcs : All (λ o. IfSome o (IsArc (n_of g) g.entries)) g.entries
  pub few_vertices : n_of g ≤ 65535
  pub few_arcs : made_of g ≤ 1000000
