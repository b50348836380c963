-- Lemmas on names that are indexed.
use Rattle.std.proofs.Common.{◌≡◌, ◌+◌, ◌==◌, ℕ, List, [], ◌∷◌, ◌++◌, map, Bool, false, true, not, ◌||◌, refl, sym, ap, ap₂, ◌∙◌, arith}
use Rattle.std.specs.Cmp.Lexicographic.{pointwise}
use Rattle.std.specs.List.{list_any, range_with_len}
use Rattle.std.proofs.lemmas.List.{map-append}
use Rattle.std.proofs.lemmas.List.FromFn.{map-range_with_len_more}
use denote.Ref.{Bor}
use Rattle.indexmap.specs.IndexSet.{insert_key}
use Rattle.sgb_graph.specs.Graph.{GraphOf, label_of}
use Rattle.sgb_export.specs.Edges.{is_new}

abbrev pub shown : List (Bor (List ℕ)) → List (List ℕ)
shown keys = map (λ (k : Bor (List ℕ)). k.now) keys

-- the comparison by which keys are looked up
abbrev pub same_key : Bor (List ℕ) → Bor (List ℕ) → Bool
same_key j k = pointwise ◌==◌ j.now k.now

any_shown : (p : List ℕ → Bool) (ks : List (Bor (List ℕ))) → list_any (λ (k : Bor (List ℕ)). p k.now) ks ≡ list_any p (shown ks)
any_shown p [] = refl
any_shown p (k ∷ ks) = ap (λ b. p k.now || b) (any_shown p ks)

any_label : (g : GraphOf) (p : List ℕ → Bool) (vs : List ℕ) → list_any p (map (label_of g) vs) ≡ list_any (λ v. p (label_of g v)) vs
any_label g p [] = refl
any_label g p (v ∷ vs) = ap (λ b. p (label_of g v) || b) (any_label g p vs)

-- the index lacks the name of v where it is new
pub new_is : (g : GraphOf) (v : ℕ) (k : Bor (List ℕ)) (ks : List (Bor (List ℕ))) → shown ks ≡ map (label_of g) (range_with_len 0 v) → k.now ≡ label_of g v
    → not (list_any (same_key k) ks) ≡ is_new g v
new_is g v k ks before is =
    ap not (any_shown (pointwise ◌==◌ k.now) ks
    ∙ (ap (list_any (pointwise ◌==◌ k.now)) before
    ∙ (any_label g (pointwise ◌==◌ k.now) (range_with_len 0 v)
    ∙ ap (λ name. list_any (λ w. pointwise ◌==◌ name (label_of g w)) (range_with_len 0 v)) is)))

-- and then it has it, last
pub name_more : (g : GraphOf) (v : ℕ) (k : Bor (List ℕ)) (ks after : List (Bor (List ℕ))) → shown ks ≡ map (label_of g) (range_with_len 0 v) → k.now ≡ label_of g v
    → list_any (same_key k) ks ≡ false → after ≡ insert_key same_key ks k → shown after ≡ map (label_of g) (range_with_len 0 (v + 1))
name_more g v k ks after before is fresh put =
    ap shown put
    ∙ rw fresh (map-append (λ (x : Bor (List ℕ)). x.now) ks (k ∷ [])
    ∙ (ap₂ (λ xs y. xs ++ y ∷ []) before is ∙ sym (map-range_with_len_more (label_of g) 0 v v (omega arith))))

pub not_true : (b : Bool) → not b ≡ true → b ≡ false
not_true false is = refl
not_true true is = absurd cc
