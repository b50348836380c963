-- Lemmas on the lengths of arcs, as a loop passes over all arcs.
use Rattle.std.proofs.Common.{◌≡◌, ◌≤◌, ◌<◌, ◌+◌, ℕ, ℤ, List, [], ◌∷◌, ◌++◌, take, Option, None, Some, refl, sym, ap, ◌∙◌}
use Rattle.std.specs.List.{reduce, filter_map}
use Rattle.std.specs.Option.{option_map}
use Rattle.std.proofs.lemmas.List.{take_more, take_all, append-nil}
use Rattle.std.proofs.lemmas.List.Elements.{filter_map-append}
use Rattle.std.proofs.lemmas.List.Sums.{fold_push}
use Rattle.sgb_graph.specs.declared.graph.read.ArcView.{ArcView}
use Rattle.sgb_graph.specs.Graph.{GraphOf, ArcOf, made_of, arc_at}
use Rattle.sgb_graph.specs.Edit.{owner_of}
use Rattle.sgb_graph.specs.Read.{arc_view, entry_view}
use Rattle.sgb_info.specs.Degrees.{lengths}
use Rattle.sgb_info.specs.Private.Extremes.{extended}

reduce_push : (f : ℤ → ℤ → ℤ) (zs : List ℤ) (z : ℤ) → reduce f (zs ++ z ∷ []) ≡ Some (extended f (reduce f zs) z)
reduce_push f [] z = refl
reduce_push f (y ∷ ys) z = ap Some (fold_push f y ys z)

-- the lengths of the arcs below k
abbrev pub met : GraphOf → ℕ → List ℤ
met g k = filter_map (option_map (λ (e : ArcOf). e.len)) (take k g.entries)

met_more : (g : GraphOf) (k : ℕ) → k < made_of g → met g (k + 1) ≡ met g k ++ filter_map (option_map (λ (e : ArcOf). e.len)) (arc_at g k ∷ [])
met_more g k made =
    ap (filter_map (option_map (λ (e : ArcOf). e.len))) (take_more g.entries k None made)
    ∙ filter_map-append (option_map (λ (e : ArcOf). e.len)) (take k g.entries) (arc_at g k ∷ [])

pub met_all : (g : GraphOf) (k : ℕ) → made_of g ≤ k → met g k ≡ lengths g
unfolding lengths
met_all g k all = ap (filter_map (option_map (λ (e : ArcOf). e.len))) (take_all k g.entries all)

-- what is shown of an arc has its length
len_shown : (v : ℕ) (o : Option ArcOf) (a : Option ArcView) → a ≡ entry_view v o → option_map (λ (e : ArcOf). e.len) o ≡ option_map (λ (b : ArcView). b.len) a
len_shown v None a is = ap (option_map (λ (b : ArcView). b.len)) (sym is)
len_shown v (Some e) a is = ap (option_map (λ (b : ArcView). b.len)) (sym is)

module _ (f : ℤ → ℤ → ℤ) (g : GraphOf) (k : ℕ) (made : k < made_of g) where
  pub best_none : (best : Option ℤ) → None ≡ arc_view g k → best ≡ reduce f (met g k) → best ≡ reduce f (met g (k + 1))
  best_none best none so_far =
      let len : option_map (λ (e : ArcOf). e.len) (arc_at g k) ≡ None = len_shown (owner_of g k) (arc_at g k) None none in
      so_far ∙ ap (reduce f) (sym (met_more g k made ∙ rw len (append-nil (met g k))))

  pub best_one : (best : Option ℤ) (a : ArcView) (z : ℤ) → Some a ≡ arc_view g k → best ≡ reduce f (met g k) → z ≡ extended f best a.len → Some z ≡ reduce f (met g (k + 1))
  best_one best a z shown so_far is =
      let len : option_map (λ (e : ArcOf). e.len) (arc_at g k) ≡ Some a.len = len_shown (owner_of g k) (arc_at g k) (Some a) shown in
      ap Some (is ∙ ap (λ b. extended f b a.len) so_far) ∙ (sym (reduce_push f (met g k) a.len) ∙ ap (reduce f) (sym (met_more g k made ∙ rw len refl)))
