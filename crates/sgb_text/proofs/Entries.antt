-- The records of arcs, as they are written.
use Rattle.std.proofs.Common.{◌≡◌, ℕ, ℤ, ◌<◌, List, [], ◌∷◌, length, Option, Some, None, IfSome, Result, Ok, Err, IfOk, MatchOption, pos, refl, sym, ap, ◌∙◌, arith, subst, w64, to_z, of_z, FitsSigned, length-take, get_or}
use Rattle.std.specs.Option.{option_map}
use Rattle.std.specs.Fmt.{signed_decimal}
use Rattle.std.proofs.lemmas.Int.{to_z-of_z}
use Rattle.std.proofs.lemmas.List.Elements.{All-get_or}
use Rattle.sgb_graph.specs.declared.field.ArcNo.{ArcNo}
use Rattle.sgb_graph.specs.declared.field.Tip.{Tip}
use Rattle.sgb_graph.specs.declared.field.Tip.TheVariants as tips
use Rattle.sgb_graph.specs.declared.field.Util.{Util}
use Rattle.sgb_graph.specs.declared.field.Util.TheVariants.{Zero}
use Rattle.sgb_graph.specs.declared.graph.read.ArcView.{ArcView}
use Rattle.sgb_graph.specs.Graph.{GraphOf, ArcOf, VertexOf, no_vertex, vertex_at, IsVertex, IsGraph, IsArc, n_of, made_of, arc_at}
use Rattle.sgb_graph.specs.Honest.{arc_letters, vertex_letters}
use Rattle.sgb_graph.specs.Edit.{owner_of, entry_at, arc_or, no_arc}
use Rattle.sgb_graph.specs.Read.{arc_view, entry_view, first_of}
use Rattle.sgb_text.specs.Layout.{laid}
use Rattle.sgb_text.specs.Clean.{clean_of, clean_vertex, clean_arc, dirt_in, dirt_in_entry}
use Rattle.sgb_text.specs.Save.{tip_text, link_text, arc_items, entry_items, hole, next_link, arc_record, field_items}
use Rattle.sgb_text.specs.Private.Page.{PageOf, with_line, with_record}
use Rattle.sgb_text.proofs.Fields.{clean_items, get_or_any}
use Rattle.sgb_text.proofs.CleanGraphs.{arc_clean, vertex_clean, n_clean, next_clean, zeros_clean, zeros_spotless}
use Rattle.sgb_text.proofs.RecordLists.{record_line}

pub when_if : {T E : Type 0} {P Q : T → Type 0} (r : Result T E) → ((x : T) → P x → Q x) → IfOk r P → IfOk r Q
when_if (Ok x) f h = f x h
when_if (Err e) f h = h

-- an entry that is seen is there
view_there : (v : ℕ) (o : Option ArcOf) (a : ArcView) → Some a ≡ entry_view v o → o ≡ Some (arc_or no_arc o)
view_there v None a e = cc
view_there v (Some x) a e = refl

view_absent : (v : ℕ) (o : Option ArcOf) → None ≡ entry_view v o → o ≡ None
view_absent v None e = refl
view_absent v (Some x) e = cc

pub entry_there : (g : GraphOf) (k : ℕ) (a : ArcView) → Some a ≡ arc_view g k → arc_at g k ≡ Some (entry_at g k)
entry_there g k a e = view_there (owner_of g k) (arc_at g k) a e

pub entry_absent : (g : GraphOf) (k : ℕ) → None ≡ arc_view g k → arc_at g k ≡ None
entry_absent g k e = view_absent (owner_of g k) (arc_at g k) e

len_fits : (n : ℕ) (es : List (Option ArcOf)) (o : Option ArcOf) (e : ArcOf) → o ≡ Some e → IfSome o (IsArc n es) → FitsSigned w64 e.len
len_fits n es None e same h = cc
len_fits n es (Some x) e same h = let it : x ≡ e = cc in subst (λ (y : ArcOf). FitsSigned w64 y.len) it h.len

-- a length as the code has it
pub len_is : (g : GraphOf) (k : ℕ) (len : ℤ) (e : ArcOf) → IsGraph g → k < made_of g → arc_at g k ≡ Some e → len ≡ e.len → to_z w64 (of_z w64 len) ≡ e.len
len_is g k len e sound within at same =
    ap (λ z. to_z w64 (of_z w64 z)) same
    ∙ to_z-of_z w64 e.len (len_fits (n_of g) g.entries (arc_at g k) e at (All-get_or (λ o. IfSome o (IsArc (n_of g) g.entries)) g.entries k None within sound.arcs))

record_is : (g : GraphOf) (k : ℕ) (o : Option ArcOf) → arc_at g k ≡ o → arc_record (clean_of g) k ≡ laid 0 (entry_items g.types (next_link g k) (option_map (clean_arc g.types) o))
unfolding arc_record clean_of
record_is g k o at =
    ap (λ link. laid 0 (entry_items g.types link (arc_at (clean_of g) k))) (next_clean g k)
    ∙ ap (λ x. laid 0 (entry_items g.types (next_link g k) x)) (arc_clean g k ∙ ap (option_map (clean_arc g.types)) at)

pub live_record : (g : GraphOf) (k : ℕ) (e : ArcOf) (p q : PageOf) (tip : Tip) (link : Option ArcNo) (len : ℤ) (letters : List ℕ) (us : List Util)
    → arc_at g k ≡ Some e → p.column ≡ 0 → tip ≡ e.tip → link ≡ next_link g k → len ≡ e.len → letters ≡ arc_letters g.types → us ≡ e.fields
    → q ≡ with_record p (tip_text tip ∷ link_text link ∷ signed_decimal len ∷ clean_items letters us)
    → q ≡ with_line p (arc_record (clean_of g) k)
live_record g k e p q tip link len letters us at front a b c d f written =
    written
    ∙ ap (λ t. with_record p (tip_text t ∷ link_text link ∷ signed_decimal len ∷ clean_items letters us)) a
    ∙ ap (λ l. with_record p (tip_text e.tip ∷ link_text l ∷ signed_decimal len ∷ clean_items letters us)) b
    ∙ ap (λ z. with_record p (tip_text e.tip ∷ link_text (next_link g k) ∷ signed_decimal z ∷ clean_items letters us)) c
    ∙ ap (λ ls. with_record p (tip_text e.tip ∷ link_text (next_link g k) ∷ signed_decimal e.len ∷ clean_items ls us)) d
    ∙ ap (λ xs. with_record p (tip_text e.tip ∷ link_text (next_link g k) ∷ signed_decimal e.len ∷ clean_items (arc_letters g.types) xs)) f
    ∙ record_line p (arc_items g.types (next_link g k) (clean_arc g.types e)) front
    ∙ ap (with_line p) (sym (record_is g k (Some e) at))

pub hole_record : (g : GraphOf) (k : ℕ) (p q : PageOf) (len : ℤ) (letters : List ℕ)
    → arc_at g k ≡ None → p.column ≡ 0 → len ≡ pos 0 → letters ≡ arc_letters g.types → length letters ≡ 2
    → q ≡ with_record p (tip_text tips.Zero ∷ link_text None ∷ signed_decimal len ∷ clean_items letters (Zero ∷ Zero ∷ []))
    → q ≡ with_line p (arc_record (clean_of g) k)
hole_record g k p q len letters at front c d two written =
    written
    ∙ ap (λ z. with_record p (tip_text tips.Zero ∷ link_text None ∷ signed_decimal z ∷ clean_items letters (Zero ∷ Zero ∷ []))) c
    ∙ ap (λ xs. with_record p (tip_text tips.Zero ∷ link_text None ∷ signed_decimal (pos 0) ∷ field_items letters xs)) (zeros_clean letters two)
    ∙ ap (λ ls. with_record p (tip_text tips.Zero ∷ link_text None ∷ signed_decimal (pos 0) ∷ field_items ls (Zero ∷ Zero ∷ []))) d
    ∙ record_line p (arc_items g.types None hole) front
    ∙ ap (with_line p) (sym (record_is g k None at))

pub live_dirt : (g : GraphOf) (k : ℕ) (e : ArcOf) (letters : List ℕ) (us : List Util) (n : ℕ) → arc_at g k ≡ Some e → letters ≡ arc_letters g.types → us ≡ e.fields
    → n ≡ dirt_in letters us → n ≡ dirt_in_entry g.types (arc_at g k)
live_dirt g k e letters us n at d f counted =
    counted ∙ ap (λ ls. dirt_in ls us) d ∙ ap (dirt_in (arc_letters g.types)) f ∙ sym (ap (dirt_in_entry g.types) at)

pub hole_dirt : (g : GraphOf) (k : ℕ) (letters : List ℕ) (n : ℕ) → arc_at g k ≡ None → length letters ≡ 2 → n ≡ dirt_in letters (Zero ∷ Zero ∷ []) → n ≡ dirt_in_entry g.types (arc_at g k)
hole_dirt g k letters n at two counted = counted ∙ zeros_spotless letters two ∙ sym (ap (dirt_in_entry g.types) at)

-- the first arc of a vertex, as the code reads it
pub first_read : (ks rest : List ℕ) (r : Option ArcNo) → MatchOption r ((ks ≡ []) × (rest ≡ [])) (λ x. ks ≡ x.0 ∷ rest) → r ≡ first_of ks
first_read ks rest None h = ap first_of (sym h.0)
first_read ks rest (Some x) h = ap first_of (sym h)

pub vertex_six : (g : GraphOf) (v : ℕ) (letters : List ℕ) → IsGraph g → v < n_of g → letters ≡ vertex_letters g.types → length (vertex_at g v).fields ≡ length letters
vertex_six g v letters sound within same =
    omega (arith, (All-get_or (IsVertex (n_of g) g.entries) g.vertices v no_vertex within sound.vertices).six, ap length same, length-take 6 g.types, sound.types.fourteen)

pub first_vertex : (g : GraphOf) (v : ℕ) (d : VertexOf) → v < n_of g → get_or (clean_of g).vertices v d ≡ clean_vertex g.types (vertex_at g v)
first_vertex g v d within = get_or_any (clean_of g).vertices v d no_vertex (subst (λ (n : ℕ). v < n) (sym (n_clean g)) within) ∙ vertex_clean g v
