-- Lemmas on the spokes of a vertex.
use Rattle.std.proofs.Common.{◌≡◌, ℕ, Option, Some, None, is_some, Bool, true, inl, inr, refl, ◌<◌, ◌≤◌, List, [], ◌∷◌, ◌++◌, length, take, map, All, IfSome, sym, ap, subst, ◌∙◌, arith, append_assoc}
use Rattle.std.specs.List.{list_all}
use Rattle.std.proofs.lemmas.Bool.{cases_Bool, cases_lt}
use Rattle.std.proofs.lemmas.List.Folds.{list_all_at}
use Rattle.sgb_graph.specs.declared.field.Tip.{Tip}
use Rattle.sgb_graph.specs.declared.field.Tip.TheVariants.{Zero, One, To}
use Rattle.sgb_graph.specs.Graph.{GraphOf, ArcOf, arc_at, has_arc, IsGraph, IsArc, IsTip, n_of, made_of}
use Rattle.sgb_graph.specs.Edit.{entry_at, arc_or, no_arc}
use Rattle.sgb_graph.proofs.Graphs.{made_of_live, no_arc_past}
use Rattle.sgb_graph.specs.Read.{is_vertex_tip, leads_on}
use Rattle.sgb_graph.specs.Operand.{refusal_of_operand, tip_number, spoke_of, spokes, IsWithin}
use Rattle.sgb_graph.proofs.SetLemmas.{unless_ok}
use Rattle.std.proofs.lemmas.List.{append-nil, take-append-le, take_all, length-append}
use Rattle.std.proofs.lemmas.List.Elements.{All-map}
use Rattle.sgb_graph.specs.Paired.{walk}
use Rattle.sgb_graph.specs.declared.spoke.Spoke.{Spoke}

-- ---- where spokes lead
tip_within : (n : ℕ) (t : Tip) → 0 < n → IsTip n t → tip_number t < n
tip_within n Zero some is = some
tip_within n One some is = some
tip_within n (To v) some is = is

arc_within : (n : ℕ) (es : List (Option ArcOf)) (o : Option ArcOf) → 0 < n → IfSome o (IsArc n es) → tip_number (arc_or no_arc o).tip < n
arc_within n es None some is = some
arc_within n es (Some e) some is = tip_within n e.tip some is.tip

pub entry_within : (g : GraphOf) (k : ℕ) → IsGraph g → 0 < n_of g → tip_number (entry_at g k).tip < n_of g
entry_within g k sound some =
    elim (cases_lt k (made_of g)) [
      | inl made ↦ arc_within (n_of g) g.entries (arc_at g k) some (sound.arcs k None made)
      | inr past ↦ let none = no_arc_past g k past in subst (λ o. tip_number (arc_or no_arc o).tip < n_of g) (sym none) some
    ]

pub spokes_within : (directed : Bool) (g : GraphOf) (v : ℕ) → IsGraph g → v < n_of g → All (IsWithin (n_of g)) (spokes directed g v)
unfolding spokes
spokes_within directed g v sound h =
    All-map (IsWithin (n_of g)) (λ k. spoke_of (entry_at g k)) (walk directed g v) (λ i d low. entry_within g _ sound (omega arith))

-- ---- reading them
-- these spokes are written behind the start, and those of the numbers are to follow
pub record Reads (g : GraphOf) (start all : List Spoke) (into : List Spoke) (rest : List ℕ) : Type 0 where
  pub same : into ++ map (λ k. spoke_of (entry_at g k)) rest ≡ start ++ all
  pub kept : take (length start) into ≡ start
  pub more : length start ≤ length into

pub reads_start : (directed : Bool) (g : GraphOf) (v : ℕ) (start : List Spoke) (rest : List ℕ) → rest ≡ walk directed g v → Reads g start (spokes directed g v) start rest
unfolding spokes
reads_start directed g v start rest is = record {
  same = ap (λ ks. start ++ map (λ k. spoke_of (entry_at g k)) ks) is;
  kept = take_all (length start) start (omega arith);
  more = omega arith;
}

pub reads_one : {g : GraphOf} {start all into new : List Spoke} {rest after : List ℕ} {k : ℕ} {s : Spoke} → rest ≡ k ∷ after → s ≡ spoke_of (entry_at g k) → Reads g start all into rest → new ≡ into ++ s ∷ [] → Reads g start all new after
reads_one {g} {start} {all} {into} {new} {rest} {after} {k} {s} steps is reads pushed =
    let f : ℕ → Spoke = λ j. spoke_of (entry_at g j) in
    record {
      same = ap (λ ss. ss ++ map f after) pushed
          ∙ (append_assoc into (s ∷ []) (map f after)
          ∙ (ap (λ t. into ++ (t ∷ map f after)) is ∙ (ap (λ ks. into ++ map f ks) (sym steps) ∙ reads.same)));
      kept = ap (take (length start)) pushed ∙ (take-append-le (length start) into (s ∷ []) reads.more ∙ reads.kept);
      more = let longer = reads.more in omega (arith, ap length pushed, length-append into (s ∷ []));
    }

pub reads_end : {g : GraphOf} {start all into : List Spoke} {rest : List ℕ} → rest ≡ [] → Reads g start all into rest → into ≡ start ++ all
reads_end {g} {start} {all} {into} {rest} none reads =
    sym (append-nil into) ∙ (ap (λ ks. into ++ map (λ k. spoke_of (entry_at g k)) ks) (sym none) ∙ reads.same)

tip_is : (t : Tip) → is_vertex_tip t ≡ true → t ≡ To (record { 0 = tip_number t })
tip_is Zero is = absurd cc
tip_is One is = absurd cc
tip_is (To v) is = refl

to_vertex : (o : Option ArcOf) → leads_on o ≡ true → is_some o ≡ true → (arc_or no_arc o).tip ≡ To (record { 0 = tip_number (arc_or no_arc o).tip })
to_vertex None leads live = absurd cc
to_vertex (Some e) leads live = tip_is e.tip leads

pub tip_of_operand : (g : GraphOf) (k : ℕ) → refusal_of_operand g ≡ None → has_arc g k ≡ true → (entry_at g k).tip ≡ To (record { 0 = tip_number (entry_at g k).tip })
tip_of_operand g k is live =
    elim (cases_Bool (leads_on (arc_at g k))) [
      | inl leads ↦ to_vertex (arc_at g k) leads live
      | inr not_so ↦ absurd (let wrong = list_all_at leads_on g.entries k None (made_of_live g k live) not_so in let all = unless_ok (list_all leads_on g.entries) is in cc)
    ]
