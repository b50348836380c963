-- Lemmas on the arcs that lead to a vertex, as a loop passes over all arcs.
use Rattle.std.proofs.Common.{◌≡◌, ◌≤◌, ◌<◌, ◌+◌, ◌==◌, ℕ, List, length, get_or, set, take, None, Some, inl, inr, sym, ap, ◌∙◌, arith}
use Rattle.std.specs.List.{count_by}
use Rattle.std.proofs.lemmas.List.{get_or_read, get_or-set_other, get_or-set_same, length-take, take_all}
use Rattle.std.proofs.lemmas.List.FromFn.{fill_by_all}
use Rattle.std.proofs.lemmas.Bool.{cases_Bool, eqb-true, eqb-false}
use Rattle.std.proofs.lemmas.List.Sums.{count_by_more_yes, count_by_more_no, count_by-le-length}
use Rattle.sgb_graph.specs.declared.field.VertexNo.{VertexNo}
use Rattle.sgb_graph.specs.Graph.{GraphOf, n_of, made_of}
use Rattle.sgb_info.specs.Degrees.{leads_to, in_degrees, in_degree}
use Rattle.sgb_info.specs.Private.Targets.{IsTarget}

-- of the arcs below k these lead to each vertex
abbrev pub Counted : GraphOf → ℕ → List ℕ → Type 0
Counted g k ds = (v : ℕ) → v < n_of g → get_or ds v 0 ≡ count_by (leads_to v) (take k g.entries)

pub counted_none : (g : GraphOf) (k : ℕ) (ds : List ℕ) → k < made_of g → IsTarget g k None → Counted g k ds → Counted g (k + 1) ds
counted_none g k ds made none counted v within =
    counted v within ∙ sym (count_by_more_no (leads_to v) g.entries k None made (none v))

pub counted_one : (g : GraphOf) (k : ℕ) (w : VertexNo) (ds : List ℕ) (d : ℕ) → k < made_of g → length ds ≡ n_of g → IsTarget g k (Some w) → Counted g k ds
    → d ≡ get_or ds w.0 d → Counted g (k + 1) (set ds w.0 (d + 1))
counted_one g k w ds d made long target counted read v within =
    elim (cases_Bool (w.0 == v)) [
      | inl same ↦
          let is = eqb-true w.0 v same in
          let low : w.0 < length ds = omega (arith, long, target.0) in
          let here : get_or (set ds w.0 (d + 1)) v 0 ≡ d + 1 = ap (λ k. get_or (set ds w.0 (d + 1)) k 0) (sym is) ∙ get_or-set_same ds w.0 (d + 1) 0 low in
          let was : d ≡ get_or ds v 0 = get_or_read ds w.0 d low read 0 ∙ ap (λ k. get_or ds k 0) is in
          here ∙ (ap (λ n. n + 1) (was ∙ counted v within) ∙ sym (count_by_more_yes (leads_to v) g.entries k None made (target.1 v ∙ same)))
      | inr other ↦
          let ne = eqb-false w.0 v other in
          let here : get_or (set ds w.0 (d + 1)) v 0 ≡ get_or ds v 0 = get_or-set_other ds w.0 v (d + 1) 0 (λ e. ne (sym e)) in
          here ∙ (counted v within ∙ sym (count_by_more_no (leads_to v) g.entries k None made (target.1 v ∙ other)))
    ]

pub counted_few : (g : GraphOf) (k w : ℕ) (ds : List ℕ) (d : ℕ) → length ds ≡ n_of g → w < n_of g → Counted g k ds → d ≡ get_or ds w d → d ≤ k
counted_few g k w ds d long within counted read =
    omega (arith, get_or_read ds w d (omega (arith, long, within)) read 0, counted w within, count_by-le-length (leads_to w) (take k g.entries), length-take k g.entries)

pub counted_all : (g : GraphOf) (k : ℕ) (ds : List ℕ) → made_of g ≤ k → length ds ≡ n_of g → Counted g k ds → ds ≡ in_degrees g
unfolding in_degrees
counted_all g k ds all long counted =
    fill_by_all (in_degree g) ds (n_of g) 0 long (λ v within. counted v within ∙ ap (λ es. count_by (leads_to v) es) (take_all k g.entries all))
