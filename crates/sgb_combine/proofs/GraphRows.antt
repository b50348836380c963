-- Lemmas on the rows of a graph.
use Rattle.std.proofs.Common.{◌≡◌, ◌<◌, ◌≤◌, ◌+◌, ◌-◌, ℕ, List, [], ◌∷◌, ◌++◌, length, get_or, take, drop, Bool, true, All, inl, inr, sym, ap, ap₂, subst, ◌∙◌, arith}
use Rattle.std.specs.List.{filter}
use Rattle.std.proofs.Math.Seq.{get_or-append_seam, drop-append_seam}
use Rattle.std.proofs.lemmas.Bool.{cases_lt}
use Rattle.std.proofs.lemmas.List.{length-append, length-drop, get_or_append_left, drop-append-le, take-append-le, take_all}
use Rattle.std.proofs.lemmas.List.Elements.{All-filter}
use Rattle.sgb_graph.specs.Graph.{GraphOf, IsGraph, n_of}
use Rattle.sgb_graph.specs.declared.spoke.Spoke.{Spoke}
use Rattle.sgb_graph.specs.Operand.{spokes, IsWithin}
use Rattle.sgb_graph.proofs.Spokes.{spokes_within}
use Rattle.sgb_combine.specs.declared.spec.ProductSpec.{ProductSpec}
use Rattle.sgb_combine.specs.Combined.{is_upward}
use Rattle.sgb_combine.specs.Private.Pruned.{pruned, pruned_at}
use Rattle.sgb_combine.specs.Private.Rows.{IsCut, AreRows, row_of}

pub row_kept : (all directed : Bool) (g : GraphOf) (v : ℕ) (ss : List Spoke) → ss ≡ spokes directed g v → filter (is_upward all v) ss ≡ row_of all directed g v
unfolding row_of
row_kept all directed g v ss is = ap (filter (is_upward all v)) is

pub row_within : (all directed : Bool) (g : GraphOf) (v : ℕ) → All (IsWithin (n_of g)) (spokes directed g v) → All (IsWithin (n_of g)) (row_of all directed g v)
unfolding row_of
row_within all directed g v within = All-filter (is_upward all v) (IsWithin (n_of g)) (spokes directed g v) within

pub row_sound : (all directed : Bool) (g : GraphOf) (v : ℕ) → IsGraph g → v < n_of g → All (IsWithin (n_of g)) (row_of all directed g v)
row_sound all directed g v sound h = row_within all directed g v (spokes_within directed g v sound h)

-- ---- one row more
cut_kept : (ss items row : List Spoke) (a b : ℕ) → IsCut ss items a b → IsCut ss (items ++ row) a b
cut_kept ss items row a b cut = record {
  low = cut.low;
  high = omega (arith, cut.high, length-append items row);
  row =
      let low : a ≤ length items = omega (arith, cut.low, cut.high) in
      let short : b - a ≤ length (drop a items) = omega (arith, cut.low, cut.high, length-drop a items) in
      ap (take (b - a)) (drop-append-le a items row low) ∙ (take-append-le (b - a) (drop a items) row short ∙ cut.row);
}

cut_new : (items row : List Spoke) → IsCut row (items ++ row) (length items) (length (items ++ row))
cut_new items row = record {
  low = omega (arith, length-append items row);
  high = omega arith;
  row =
      ap (take (length (items ++ row) - length items)) (drop-append_seam items row)
      ∙ take_all (length (items ++ row) - length items) row (omega (arith, length-append items row));
}

pub rows_more : (f : ℕ → List Spoke) (v : ℕ) (items row new : List Spoke) (starts more : List ℕ) → AreRows f v items starts → row ≡ f v → new ≡ items ++ row → more ≡ starts ++ length new ∷ [] → AreRows f (v + 1) new more
rows_more f v items row new starts more rows is added pushed =
    let end : ℕ = length new in
    let at_end : get_or more (v + 1) 0 ≡ end =
    ap (λ ns. get_or ns (v + 1) 0) pushed ∙ (ap (λ i. get_or (starts ++ end ∷ []) i 0) (sym rows.count) ∙ get_or-append_seam starts end [] 0) in
    let before : (i : ℕ) → i < v + 1 → get_or more i 0 ≡ get_or starts i 0 =
    λ i low. ap (λ ns. get_or ns i 0) pushed ∙ get_or_append_left starts (end ∷ []) 0 i (omega (arith, rows.count)) in
    record {
      count = ap length pushed ∙ (length-append starts (end ∷ []) ∙ ap (λ k. k + 1) rows.count);
      last = at_end;
      cut = λ w low. elim (cases_lt w v) [
        | inl old ↦
            let a = before w (omega arith) in
            let b = before (w + 1) (omega arith) in
            subst (λ its. IsCut (f w) its (get_or more w 0) (get_or more (w + 1) 0)) (sym added)
            (subst (λ i. IsCut (f w) (items ++ row) i (get_or more (w + 1) 0)) (sym a)
            (subst (λ i. IsCut (f w) (items ++ row) (get_or starts w 0) i) (sym b) (cut_kept (f w) items row (get_or starts w 0) (get_or starts (w + 1) 0) (rows.cut w old))))
        | inr past ↦
            let here : w ≡ v = omega arith in
            let a : get_or more w 0 ≡ length items = before w (omega arith) ∙ (ap (λ i. get_or starts i 0) here ∙ rows.last) in
            let b : get_or more (w + 1) 0 ≡ length (items ++ row) = ap (λ i. get_or more (i + 1) 0) here ∙ (at_end ∙ ap length added) in
            subst (λ its. IsCut (f w) its (get_or more w 0) (get_or more (w + 1) 0)) (sym added)
            (subst (λ i. IsCut (f w) (items ++ row) i (get_or more (w + 1) 0)) (sym a)
            (subst (λ i. IsCut (f w) (items ++ row) (length items) i) (sym b)
            (subst (λ ss. IsCut ss (items ++ row) (length items) (length (items ++ row))) (is ∙ ap f (sym here)) (cut_new items row))))
      ];
    }

-- ---- one pair of a row
pub below_k : {b k n : ℕ} → b < k → k ≡ n → b < n
below_k low is = omega (arith, low, is)

pub pruned_as : (spec : ProductSpec) (h : GraphOf) (a b k : ℕ) (from above all upward : List Spoke) → k ≡ n_of h → all ≡ row_of true spec.directed h b → upward ≡ row_of spec.directed spec.directed h b → pruned spec k a b from above all upward ≡ pruned_at spec h a from above b
pruned_as spec h a b k from above all upward wide whole up =
    ap (λ n. pruned spec n a b from above all upward) wide
    ∙ ap₂ (λ ss ts. pruned spec (n_of h) a b from above ss ts) whole up
