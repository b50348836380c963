-- A graph in graph6 as it is read, pair by pair.
use Rattle.std.proofs.Common.{◌≡◌, ℕ, ◌+◌, ◌<◌, true, false, cond, List, [], ◌∷◌, ◌++◌, get_or, sym, ap, ◌∙◌, append-nil}
use Rattle.std.proofs.lemmas.List.{map-append}
use Rattle.sgb_import.specs.declared.graph6.Pair.{Pair}
use Rattle.sgb_import.specs.declared.outline.Link.{Link}
use Rattle.sgb_import.specs.Graph6.{is_set, pairs, pair_count}
use Rattle.sgb_import.specs.Private.Outlined.{insertion_of}
use Rattle.sgb_import.specs.Private.Pairs.{edge_of, edges_below, AreRead, IsPair}
use Rattle.sgb_import.proofs.Graph6Pairs.{edges_below-more, IsPair-edge}

-- pair k is read where its bit is set, and passed over where it is not
pub AreRead-set : (n : ℕ) (body : List ℕ) (k : ℕ) (p q : Pair) (found : List Link) (l : Link) →
    AreRead n body k p found → k < pair_count n → is_set body k ≡ true → insertion_of l ≡ edge_of p → IsPair (k + 1) q → AreRead n body (k + 1) q (found ++ l ∷ [])
AreRead-set n body k p q found l r within set edge next = record {
  place = next;
  edges =
      map-append insertion_of found (l ∷ []) ∙ ap (λ es. es ++ insertion_of l ∷ []) r.edges
      ∙ ap (λ e. edges_below n body k ++ e ∷ []) (edge ∙ sym (IsPair-edge n k p (edge_of p) r.place within))
      ∙ ap (λ b. edges_below n body k ++ cond b (get_or (pairs n) k (edge_of p) ∷ []) []) (sym set)
      ∙ sym (edges_below-more n body k (edge_of p) within);
}

pub AreRead-unset : (n : ℕ) (body : List ℕ) (k : ℕ) (p q : Pair) (found : List Link) →
    AreRead n body k p found → k < pair_count n → is_set body k ≡ false → IsPair (k + 1) q → AreRead n body (k + 1) q found
AreRead-unset n body k p q found r within unset next = record {
  place = next;
  edges =
      r.edges ∙ sym (append-nil (edges_below n body k))
      ∙ ap (λ b. edges_below n body k ++ cond b (get_or (pairs n) k (edge_of p) ∷ []) []) (sym unset)
      ∙ sym (edges_below-more n body k (edge_of p) within);
}
