-- Laying chains of records into a graph.
use Rattle.std.specs.Prelude.{◌≡◌, ◌<◌, ◌≤◌, ℕ, pos, ◌+◌, List, [], ◌∷◌, length, map, slice_index_or, min, None, Some, Option, IfSome}
use Rattle.sgb_graph.specs.declared.field.ArcNo.{ArcNo}
use Rattle.sgb_graph.specs.declared.field.VertexNo.{VertexNo}
use Rattle.sgb_graph.specs.declared.field.Tip.TheVariants as tips
use Rattle.sgb_graph.specs.declared.field.Util.TheVariants.{Zero}
use Rattle.sgb_graph.specs.declared.delta.CutArc.{CutArc}
use Rattle.sgb_graph.specs.declared.parts.ArcPart.{ArcPart}
use Rattle.sgb_graph.specs.declared.parts.VertexPart.{VertexPart}
use Rattle.sgb_graph.specs.declared.refusal.Refusal.{Refusal}
use Rattle.sgb_graph.specs.declared.refusal.Refusal.TheVariants.{BadOperand}
use Rattle.sgb_graph.specs.Chain.{Leads}
use Rattle.sgb_graph.specs.Graph.{GraphOf, ArcOf, IsGraph, n_of, made_of, m_of, vertex_at, label_of, arcs_of, arc_at, occurrences, names_of}
use Rattle.sgb_graph.specs.New.{new_graph}
use Rattle.sgb_graph.specs.Parts.{vertex_part}
use Rattle.sgb_graph.specs.declared.graph.Vertex as vertex
use Rattle.sgb_graph.specs.declared.graph.arena.Cell.{Cell}
use Rattle.sgb_graph.specs.declared.graph.arena.Slot.{Slot}
use Rattle.sgb_graph.specs.declared.graph.lay.Chained.{Chained}
use Rattle.sgb_graph.specs.Private.Cells.{two_zeros, slot_with}
use Rattle.sgb_graph.specs.Private.Link.{number_before, vertex_in}
use Rattle.sgb_graph.specs.Private.Vertices.{with_first}

-- the links of the records, and the number that follows by them
abbrev pub links_of : List ArcPart → List (Option ArcNo)
links_of rs = map (λ r. r.next) rs

abbrev pub link_at : List (Option ArcNo) → ℕ → Option ArcNo
link_at ls k = slice_index_or ls k None

-- the same, where a number above the most that there are is that one, which none has
abbrev pub kept_link : ℕ → Option ArcNo → Option ArcNo
kept_link most None = None
kept_link most (Some k) = Some (record { 0 = min k.0 most })

abbrev pub kept_links : ℕ → List ArcPart → List (Option ArcNo)
kept_links most rs = map (λ r. kept_link most r.next) rs

-- the graph's lists are the chains along these links; what its arcs hold is open
pub record Lays (vs : List VertexPart) (ls : List (Option ArcNo)) (g : GraphOf) : Type 0 where
  pub n : n_of g ≡ length vs
  pub made : made_of g ≡ length ls
  pub lists : (w : ℕ) → w < n_of g → Leads (link_at ls) (vertex_part vs w).first (arcs_of g w) None
  pub graph : IsGraph g

-- the same for the vertices below v, while the others list nothing
pub record Laying (vs : List VertexPart) (ls : List (Option ArcNo)) (v : ℕ) (g : GraphOf) : Type 0 where
  pub n : n_of g ≡ length vs
  pub made : made_of g ≡ length ls
  pub lists : (w : ℕ) → w < v → Leads (link_at ls) (vertex_part vs w).first (arcs_of g w) None
  pub empty : (w : ℕ) → v ≤ w → arcs_of g w ≡ []
  pub graph : IsGraph g

-- the last number of a list
abbrev pub last_number : List ℕ → Option ArcNo
last_number ks = number_before ks (length ks)

-- the same, where v lists the front of its chain, up to `end`, and the rest begins at this link
pub record LayingAt (vs : List VertexPart) (ls : List (Option ArcNo)) (v : ℕ) (end link : Option ArcNo) (g : GraphOf) : Type 0 where
  pub n : n_of g ≡ length vs
  pub made : made_of g ≡ length ls
  pub lists : (w : ℕ) → w < v → Leads (link_at ls) (vertex_part vs w).first (arcs_of g w) None
  pub here : Leads (link_at ls) (vertex_part vs v).first (arcs_of g v) link
  pub last : end ≡ last_number (arcs_of g v)
  pub empty : (w : ℕ) → v < w → arcs_of g w ≡ []
  pub graph : IsGraph g

-- no graph lays these chains
abbrev pub RefusesToLay : List VertexPart → List (Option ArcNo) → Refusal → Type 0
RefusesToLay vs ls e = (e ≡ BadOperand) × ((h : GraphOf) → Lays vs ls h → ⊥)

-- an arc that is to be filled, last in the list of its owner
abbrev pub laid_arc : GraphOf → ArcNo → VertexNo → CutArc
laid_arc g number owner =
    record { number = number; owner = owner; place = length (arcs_of g owner.0); tip = tips.Zero; len = pos 0; fields = Zero ∷ Zero ∷ [] }

-- what is kept of the record of a number while chains are followed, and what stands beyond all records
abbrev pub any_row : Chained
any_row = record { owner = None; next = None }

abbrev pub row_at : List Chained → ℕ → Chained
row_at rows k = slice_index_or rows k any_row

abbrev pub nexts : List Chained → List (Option ArcNo)
nexts rows = map (λ (r : Chained). r.next) rows

-- of a record that stands in no chain, and of one that this vertex owns
abbrev pub unowned : ArcPart → Chained
unowned r = record { owner = None; next = kept_link 1000000 r.next }

abbrev pub owned_row : VertexNo → Chained → Chained
owned_row v r = record { owner = Some v; next = r.next }

-- its arc, its cell and its slot: one that leads nowhere yet, or a hole
abbrev pub laid_entry : Option VertexNo → Option ArcOf
laid_entry None = None
laid_entry (Some v) = Some (record { tip = tips.Zero; len = pos 0; fields = Zero ∷ Zero ∷ [] })

abbrev pub laid_cell : Chained → Cell
laid_cell r = record { owner = r.owner; tip = tips.Zero; next = r.next; names = 0; len = pos 0 }

abbrev pub laid_slot : Chained → Option Slot
laid_slot r = slot_with two_zeros (laid_cell r)

-- the names and values of g are those of h
pub record LikeBut (h g : GraphOf) : Type 0 where
  pub fields : g.fields ≡ h.fields
  pub n : n_of g ≡ n_of h
  pub labels : (w : ℕ) → label_of g w ≡ label_of h w
  pub values : (w : ℕ) → (vertex_at g w).fields ≡ (vertex_at h w).fields

-- the rows tell the arcs of a graph of n vertices and their owners, and so many are holes
pub record Tells (rows : List Chained) (holes n : ℕ) (g : GraphOf) : Type 0 where
  pub entries : (k : ℕ) → arc_at g k ≡ laid_entry (row_at rows k).owner
  pub owners : (k : ℕ) → IfSome (row_at rows k).owner (λ v. occurrences k (arcs_of g v.0) ≡ 1)
  pub names : (k : ℕ) → names_of g k ≡ 0
  pub left : holes + m_of g ≡ made_of g
  pub new : LikeBut (new_graph n) g

-- the rows tell a graph whose lists are the chains
pub record Owns (vs : List VertexPart) (rows : List Chained) (holes : ℕ) : Type 0 where
  pub graph : GraphOf
  pub lays : Lays vs (nexts rows) graph
  pub tells : Tells rows holes (length vs) graph

-- the same for the vertices below v
pub record OwnsBelow (vs : List VertexPart) (v : ℕ) (rows : List Chained) (holes : ℕ) : Type 0 where
  pub graph : GraphOf
  pub laying : Laying vs (nexts rows) v graph
  pub tells : Tells rows holes (length vs) graph

-- and for the front of v's chain, where the rest begins at this link
pub record OwnsUpTo (vs : List VertexPart) (v : ℕ) (link : Option ArcNo) (rows : List Chained) (holes : ℕ) : Type 0 where
  pub graph : GraphOf
  pub end : Option ArcNo
  pub laying : LayingAt vs (nexts rows) v end link graph
  pub tells : Tells rows holes (length vs) graph

-- each vertex below v is linked to the front of its chain, and all else is as before
pub record FirstsBelow (us : List vertex.Vertex) (parts : List VertexPart) (v : ℕ) (ws : List vertex.Vertex) : Type 0 where
  pub len : length ws ≡ length us
  pub linked : (w : ℕ) → w < v → vertex_in ws w ≡ with_first (kept_link 1000000 (vertex_part parts w).first) (vertex_in us w)
  pub rest : (w : ℕ) → v ≤ w → vertex_in ws w ≡ vertex_in us w

abbrev pub FirstsOf : List vertex.Vertex → List VertexPart → List vertex.Vertex → Type 0
FirstsOf us parts ws = FirstsBelow us parts (length parts) ws
