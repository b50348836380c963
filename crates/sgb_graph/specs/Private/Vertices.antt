-- A vertex is a label, a link and its fields, which are Zero beyond the fields that are kept.
use Rattle.std.specs.Prelude.{[], None, ◌≡◌, ◌≢◌, ℕ, suc, List, ◌∷◌, Option, slice_index_or, slice_set}
use Rattle.sgb_graph.specs.declared.graph.Vertex.{Vertex}
use Rattle.sgb_graph.specs.New.{six_zeros}
use Rattle.sgb_graph.specs.declared.field.ArcNo.{ArcNo}
use Rattle.sgb_graph.specs.declared.field.Util.{Util}

-- the link and the fields of the vertex of this number
abbrev pub first_at : List (Option ArcNo) → ℕ → Option ArcNo
first_at ks v = slice_index_or ks v None

abbrev pub values_at : List (List Util) → ℕ → List Util
values_at fs v = slice_index_or fs v six_zeros

abbrev pub row : List ℕ → Option ArcNo → List Util → Vertex
row label first us = record { label = label; fields = us; first = first }

-- the vertices of these labels, with the link and the fields of each number
abbrev pub rows : List (List ℕ) → (ℕ → Option ArcNo) → (ℕ → List Util) → List Vertex
rows [] firsts values = []
rows (l ∷ ls) firsts values = row l (firsts 0) (values 0) ∷ rows ls (λ v. firsts (suc v)) (λ v. values (suc v))

-- each vertex has the fields that it had
abbrev pub SameValues : List (List Util) → List (List Util) → Type 0
SameValues fs gs = (j : ℕ) → values_at gs j ≡ values_at fs j

-- vertex v has these fields, and each other those that it had
pub record PutsValues (fs : List (List Util)) (v : ℕ) (us : List Util) (gs : List (List Util)) : Type 0 where
  pub here : values_at gs v ≡ us
  pub others : (j : ℕ) → j ≢ v → values_at gs j ≡ values_at fs j

-- a vertex without arcs
abbrev pub unlinked : List ℕ → List Util → Vertex
unlinked label us = row label None us

-- a vertex with another label, link or value
abbrev pub with_name : List ℕ → Vertex → Vertex
with_name label v = record v { label = label }

abbrev pub with_first : Option ArcNo → Vertex → Vertex
with_first link v = record v { first = link }

abbrev pub with_value : ℕ → Util → Vertex → Vertex
with_value i u v = record v { fields = slice_set v.fields i u }

abbrev pub blank : Vertex
blank = record { label = []; fields = six_zeros; first = None }
