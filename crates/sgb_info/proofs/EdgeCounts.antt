-- Lemmas on sums over the vertices of a graph.
use Rattle.std.proofs.Common.{◌≡◌, ◌+◌, ℕ, zero, suc, [], ◌∷◌, ◌++◌, length, Bool, sym, ap, ◌∙◌, arith, add-one, zero-add}
use Rattle.std.specs.List.{range_with_len, sum_by}
use Rattle.std.proofs.lemmas.List.{length-map}
use Rattle.std.proofs.lemmas.List.Concat.{length-flat_map}
use Rattle.std.proofs.lemmas.List.Sums.{sum_by_push}
use Rattle.sgb_graph.specs.Graph.{GraphOf, n_of}
use Rattle.sgb_export.specs.Links.{links, links_at}
use Rattle.sgb_info.specs.Repeats.{tips}

range_suc : (a n : ℕ) → range_with_len a (suc n) ≡ range_with_len a n ++ (a + n) ∷ []
range_suc a zero = ap (λ k. k ∷ []) (omega arith)
range_suc a (suc n) = ap (λ ks. a ∷ ks) (range_suc (a + 1) n ∙ ap (λ k. range_with_len (a + 1) n ++ k ∷ []) (omega arith))

pub sum_more : (f : ℕ → ℕ) (n : ℕ) → sum_by f (range_with_len 0 (n + 1)) ≡ sum_by f (range_with_len 0 n) + f n
sum_more f n =
    rw add-one (ap (sum_by f) (range_suc 0 n)
    ∙ (sum_by_push f (range_with_len 0 n) (0 + n) ∙ ap (λ k. sum_by f (range_with_len 0 n) + f k) (zero-add n)))

pub tips_length : (directed : Bool) (g : GraphOf) (v : ℕ) → length (tips directed g v) ≡ length (links_at directed g v)
unfolding tips
tips_length directed g v = length-map (links_at directed g v) (λ l. l.to)

pub links_sum : (directed : Bool) (g : GraphOf) → sum_by (λ v. length (links_at directed g v)) (range_with_len 0 (n_of g)) ≡ length (links directed g)
unfolding links
links_sum directed g = sym (length-flat_map (links_at directed g) (range_with_len 0 (n_of g)))
