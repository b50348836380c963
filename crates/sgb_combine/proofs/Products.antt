-- Lemmas on products: what is inserted from a pair is what its definition says.
use Rattle.std.proofs.Common.{◌≡◌, ◌<◌, ◌≤◌, ◌+◌, ◌*◌, ℕ, zero, suc, List, [], ◌++◌, map, Bool, true, cond, All, refl, sym, ap, ap₂, ◌∙◌, arith}
use Rattle.std.specs.List.{flat_map, filter, range_with_len}
use Rattle.std.proofs.lemmas.List.Elements.{filter-append}
use Rattle.sgb_graph.specs.Graph.{GraphOf, IsGraph, n_of}
use Rattle.sgb_graph.specs.Builder.{along, Insertion}
use Rattle.sgb_graph.specs.declared.spoke.Spoke.{Spoke}
use Rattle.sgb_graph.specs.Operand.{spokes, IsWithin}
use Rattle.sgb_graph.proofs.Spokes.{spokes_within}
use Rattle.sgb_combine.specs.declared.spec.ProductSpec.{ProductSpec}
use Rattle.sgb_combine.specs.Combined.{is_upward}
use Rattle.sgb_combine.specs.Product.{has_single, has_double, pair_number, first_steps, second_steps, both_steps, product_at}
use Rattle.sgb_combine.specs.Private.Rows.{row_of}
use Rattle.sgb_combine.specs.Private.Pruned.{IsRowWithin, is_above, scaled, singles, doubles, pruned, pruned_at}
use Rattle.sgb_combine.proofs.LowerPairs.{cond_in, filter_all, firsts_up, seconds_up, boths_up, next_row}

all_row : (directed : Bool) (h : GraphOf) (b : ℕ) → row_of true directed h b ≡ spokes directed h b
unfolding row_of
all_row directed h b = filter_all (spokes directed h b)

up_row : (directed : Bool) (h : GraphOf) (b : ℕ) → row_of directed directed h b ≡ filter (is_upward directed b) (spokes directed h b)
unfolding row_of
up_row directed h b = refl

pub product_is : (spec : ProductSpec) (g h : GraphOf) (a b : ℕ) (from above : List Spoke) → b < n_of h → IsGraph h → from ≡ row_of spec.directed spec.directed g a → above ≡ filter (is_above a) from → pruned_at spec h a from above b ≡ product_at spec g h a b
unfolding pruned product_at
product_is spec g h a b from above low sound from_is above_is =
    let d = spec.directed in
    let k = n_of h in
    let ss = spokes d g a in
    let ts = spokes d h b in
    let up = is_upward d (pair_number k a b) in
    let fr : from ≡ filter (is_upward d a) ss = from_is ∙ up_row d g a in
    let first : filter up (first_steps k b ss) ≡ map (scaled k b) from = firsts_up d k a b ss low ∙ ap (map (scaled k b)) (sym fr) in
    let second : filter up (second_steps k a ts) ≡ map (scaled 1 (a * k)) (row_of d d h b) = seconds_up d k a b ts ∙ ap (map (scaled 1 (a * k))) (sym (up_row d h b)) in
    let one : filter up (cond (has_single spec.kind) (first_steps k b ss ++ second_steps k a ts) []) ≡ singles (has_single spec.kind) k a b from (row_of d d h b) =
    cond_in (filter up) (has_single spec.kind) (first_steps k b ss ++ second_steps k a ts) refl
    ∙ ap (λ xs. cond (has_single spec.kind) xs []) (filter-append up (first_steps k b ss) (second_steps k a ts) ∙ ap₂ (λ xs ys. xs ++ ys) first second) in
    let both : filter up (cond (has_double spec.kind) (both_steps k ss ts) []) ≡ doubles (has_double spec.kind) d k a from above (row_of true d h b) (row_of d d h b) =
    cond_in (filter up) (has_double spec.kind) (both_steps k ss ts) refl
    ∙ (ap (λ xs. cond (has_double spec.kind) xs []) (boths_up d k a b ss ts from above (row_of d d h b) low (spokes_within d h b sound low) fr above_is (up_row d h b))
    ∙ ap (λ us. doubles (has_double spec.kind) d k a from above us (row_of d d h b)) (sym (all_row d h b))) in
    sym (ap (map (along (pair_number k a b)))
    (filter-append up (cond (has_single spec.kind) (first_steps k b ss ++ second_steps k a ts) []) (cond (has_double spec.kind) (both_steps k ss ts) [])
    ∙ ap₂ (λ xs ys. xs ++ ys) one both))

-- over all second vertices
range_as : (f g : ℕ → List Insertion) (i n m : ℕ) → i + n ≤ m → ((b : ℕ) → b < m → f b ≡ g b) → flat_map f (range_with_len i n) ≡ flat_map g (range_with_len i n)
range_as f g i zero m h same = refl
range_as f g i (suc n) m h same = ap₂ (λ xs ys. xs ++ ys) (same i (omega arith)) (range_as f g (i + 1) n m (omega arith) same)

pub row_is : (spec : ProductSpec) (g h : GraphOf) (a : ℕ) (from above : List Spoke) → IsGraph h → from ≡ row_of spec.directed spec.directed g a → above ≡ filter (is_above a) from → flat_map (pruned_at spec h a from above) (range_with_len 0 (n_of h)) ≡ flat_map (product_at spec g h a) (range_with_len 0 (n_of h))
row_is spec g h a from above sound from_is above_is =
    range_as (pruned_at spec h a from above) (product_at spec g h a) 0 (n_of h) (n_of h) (omega arith)
    (λ b low. product_is spec g h a b from above low sound from_is above_is)

-- the numbers of the pairs of a vertex are within those of all
pub rows_within : (k n m : ℕ) (ss : List Spoke) → All (IsWithin n) ss → m ≡ n * k → All (IsRowWithin k m) ss
rows_within k n m ss within is i d low = let row = next_row _ n k (within i d low) in omega (arith, row, is)
