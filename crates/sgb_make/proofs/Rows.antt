-- Lemmas on tables of links as they are written.
use Rattle.std.proofs.Common.{◌≡◌, ◌<◌, ◌+◌, ◌-◌, ℕ, List, [], ◌∷◌, ◌++◌, length, get_or, map, take, drop, sym, ap, ◌∙◌, append_assoc, arith}
use Rattle.std.specs.List.{flat_map, range_with_len}
use Rattle.std.proofs.lemmas.List.{map-id}
use Rattle.std.proofs.lemmas.List.FromFn.{map-range_with_len_more}
use Rattle.std.proofs.lemmas.Grind.{flat_map-append}
use Rattle.std.proofs.lemmas.List.{append-nil, length-map, length-take, get_or-drop}
use Rattle.std.proofs.Math.Seq.{get_or-append_right}

-- an element that a loop has not yet written over is as it was
pub not_yet : (f : ℕ → ℕ) (xs ys : List ℕ) (i : ℕ) → i < length xs → ys ≡ map f (take i xs) ++ drop i xs → get_or ys i 0 ≡ get_or xs i 0
not_yet f xs ys i below so =
    let here : length (map f (take i xs)) ≡ i = omega (arith, length-map (take i xs) f, length-take i xs) in
    let first : i - length (map f (take i xs)) ≡ 0 = omega (arith, here) in
    ap (λ t. get_or t i 0) so
    ∙ (get_or-append_right (map f (take i xs)) (drop i xs) i 0 (omega (arith, here))
    ∙ (ap (λ k. get_or (drop i xs) k 0) first
    ∙ (get_or-drop i xs 0 0 ∙ ap (λ k. get_or xs k 0) (omega arith))))

range_more : (n : ℕ) → range_with_len 0 (n + 1) ≡ range_with_len 0 n ++ n ∷ []
range_more n =
    sym (map-id (range_with_len 0 (n + 1)))
    ∙ (map-range_with_len_more (λ k. k) 0 n n (omega arith) ∙ ap (λ t. t ++ n ∷ []) (map-id (range_with_len 0 n)))

-- one more piece of a joined list is written
pub joined_more : (f : ℕ → List ℕ) (old now new : List ℕ) (i : ℕ) → now ≡ old ++ flat_map f (range_with_len 0 i) → new ≡ now ++ f i → new ≡ old ++ flat_map f (range_with_len 0 (i + 1))
joined_more f old now new i so written =
    written
    ∙ (ap (λ t. t ++ f i) so
    ∙ (append_assoc old (flat_map f (range_with_len 0 i)) (f i)
    ∙ ap (λ t. old ++ t) (ap (λ t. flat_map f (range_with_len 0 i) ++ t) (sym (append-nil (f i))) ∙ sym (ap (flat_map f) (range_more i) ∙ flat_map-append f (range_with_len 0 i) (i ∷ [])))))
