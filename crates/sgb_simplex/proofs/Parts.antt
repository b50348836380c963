-- Lists of one length, one behind the other.
use Rattle.std.proofs.Common.{◌≡◌, ◌<◌, ◌≤◌, ◌+◌, ◌*◌, ℕ, zero, suc, List, [], ◌∷◌, ◌++◌, length, get_or, take, drop, All, refl, sym, ap, ◌∙◌, arith}
use Rattle.std.specs.List.{flat_map}
use Rattle.std.proofs.lemmas.List.{take_at, drop_at, drop-drop, length-append}
use Rattle.std.proofs.lemmas.List.Elements.{All-head, All-tail}

pub record PartAt (all : List (List ℕ)) (w v start : ℕ) : Type 0 where
  pub inside : start + w ≤ length (flat_map (λ t. t) all)
  pub is : take w (drop start (flat_map (λ t. t) all)) ≡ get_or all v []

pub part_at : (all : List (List ℕ)) (w v start : ℕ) → All (λ t. length t ≡ w) all → v < length all → start ≡ v * w → PartAt all w v start
part_at [] w v start same less at = absurd (omega (arith, less))
part_at (t ∷ ts) w zero start same less at =
    let none : start ≡ 0 = omega (arith, at) in
    let long : length t ≡ w = All-head (λ u. length u ≡ w) t ts same in
    record {
      inside = omega (arith, none, long, length-append t (flat_map (λ u. u) ts));
      is = ap (λ k. take w (drop k (t ++ flat_map (λ u. u) ts))) none ∙ take_at t (flat_map (λ u. u) ts) w long;
    }
part_at (t ∷ ts) w (suc v) start same less at =
    let long : length t ≡ w = All-head (λ u. length u ≡ w) t ts same in
    let before : w + v * w ≡ start = omega (arith, at) in
    let part : PartAt ts w v (v * w) = part_at ts w v (v * w) (All-tail (λ u. length u ≡ w) t ts same) (omega (arith, less)) refl in
    record {
      inside = omega (arith, before, long, part.inside, length-append t (flat_map (λ u. u) ts));
      is = ap (λ k. take w (drop k (t ++ flat_map (λ u. u) ts))) (sym before)
          ∙ (ap (take w) (sym (drop-drop (v * w) w (t ++ flat_map (λ u. u) ts)) ∙ ap (drop (v * w)) (drop_at t (flat_map (λ u. u) ts) w long)) ∙ part.is);
    }
