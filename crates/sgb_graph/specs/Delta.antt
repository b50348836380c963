-- What an edit keeps for its undoing, and which graph it leaves.
use Rattle.std.specs.Prelude.{◌≡◌, ℕ, ℤ, List, None, FitsSigned}
use Rattle.std.specs.Int.{w64}
use Rattle.sgb_graph.specs.declared.field.VertexNo.{VertexNo}
use Rattle.sgb_graph.specs.declared.field.ArcNo.{ArcNo}
use Rattle.sgb_graph.specs.declared.field.Place.{Place}
use Rattle.sgb_graph.specs.declared.field.Util.{Util}
use Rattle.sgb_graph.specs.declared.delta.CutArc.{CutArc}
use Rattle.sgb_graph.specs.declared.delta.GraphDelta.{GraphDelta}
use Rattle.sgb_graph.specs.declared.delta.GraphDelta.TheVariants.{NewArc, NewEdge, Cut, SetLen, SetUtil, SetLabel, SetId, SetTypes}
use Rattle.sgb_graph.specs.Set.{IsStorable}
use Rattle.sgb_graph.specs.Graph.{GraphOf, IsGraph, made_of, label_of}
use Rattle.sgb_graph.specs.Edit.{with_arc, with_edge, without_arc, with_len, with_util, with_label, util_at, entry_at, owner_of, place_of, stored, refusal_of_arc, refusal_of_edge, refusal_of_cut, refusal_of_len, refusal_of_util, refusal_of_label, refusal_of_id}

-- what a cut of arc k keeps: its number, its owner, its place and the arc
abbrev pub cut_arc : GraphOf → ℕ → CutArc
cut_arc g k =
    let e = entry_at g k in
    record {
      number = record { 0 = k };
      owner = record { 0 = owner_of g k };
      place = place_of g k;
      tip = e.tip;
      len = e.len;
      fields = e.fields;
    }

-- for each edit: it met the graph g, was accepted, kept the delta and left the graph h
pub record LeftByArc (g : GraphOf) (k : ArcNo) (h : GraphOf) : Type 0 where
  pub from : ℕ
  pub to : ℕ
  pub len : ℤ
  pub graph : IsGraph g
  pub accepted : refusal_of_arc g from to ≡ None
  pub fits : FitsSigned w64 len
  pub number : k ≡ record { 0 = made_of g }
  pub left : h ≡ with_arc g from to len

pub record LeftByEdge (g : GraphOf) (k : ArcNo) (h : GraphOf) : Type 0 where
  pub from : ℕ
  pub to : ℕ
  pub len : ℤ
  pub graph : IsGraph g
  pub accepted : refusal_of_edge g from to ≡ None
  pub fits : FitsSigned w64 len
  pub number : k ≡ record { 0 = made_of g }
  pub left : h ≡ with_edge g from to len

pub record LeftByCut (g : GraphOf) (c : CutArc) (h : GraphOf) : Type 0 where
  pub graph : IsGraph g
  pub accepted : refusal_of_cut g c.number.0 ≡ None
  pub arc : c ≡ cut_arc g c.number.0
  pub left : h ≡ without_arc g c.number.0

pub record LeftByLen (g : GraphOf) (k : ArcNo) (old : ℤ) (h : GraphOf) : Type 0 where
  pub len : ℤ
  pub graph : IsGraph g
  pub accepted : refusal_of_len g k.0 ≡ None
  pub kept : old ≡ (entry_at g k.0).len
  pub left : h ≡ with_len g k.0 len

pub record LeftByUtil (g : GraphOf) (p : Place) (old : Util) (h : GraphOf) : Type 0 where
  pub value : Util
  pub graph : IsGraph g
  pub accepted : refusal_of_util g p value ≡ None
  pub fits : IsStorable (stored value)
  pub kept : old ≡ util_at g p
  pub left : h ≡ with_util g p (stored value)

pub record LeftByLabel (g : GraphOf) (v : VertexNo) (old : List ℕ) (h : GraphOf) : Type 0 where
  pub label : List ℕ
  pub graph : IsGraph g
  pub accepted : refusal_of_label g v.0 ≡ None
  pub kept : old ≡ label_of g v.0
  pub left : h ≡ with_label g v.0 label

pub record LeftById (g : GraphOf) (old : List ℕ) (h : GraphOf) : Type 0 where
  pub id : List ℕ
  pub graph : IsGraph g
  pub accepted : refusal_of_id id ≡ None
  pub kept : old ≡ g.id
  pub left : h ≡ record g { id = id }

pub record LeftByTypes (g : GraphOf) (old : List ℕ) (h : GraphOf) : Type 0 where
  pub types : List ℕ
  pub graph : IsGraph g
  pub kept : old ≡ g.types
  pub left : h ≡ record g { types = types }

-- an edit met g, kept the delta and left h
abbrev pub LeftBy : GraphOf → GraphDelta → GraphOf → Type 0
LeftBy g (NewArc k) h = LeftByArc g k h
LeftBy g (NewEdge k) h = LeftByEdge g k h
LeftBy g (Cut c) h = LeftByCut g c h
LeftBy g (SetLen k old) h = LeftByLen g k old h
LeftBy g (SetUtil p old) h = LeftByUtil g p old h
LeftBy g (SetLabel v old) h = LeftByLabel g v old h
LeftBy g (SetId old) h = LeftById g old h
LeftBy g (SetTypes old) h = LeftByTypes g old h
