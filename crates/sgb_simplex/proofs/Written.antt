-- Points as they are written one behind the other, each behind a prefix.
use Rattle.std.proofs.Common.{◌≡◌, ◌<◌, ◌≤◌, ◌+◌, ◌-◌, ℕ, suc, List, [], ◌∷◌, ◌++◌, length, set, take, drop, map, min, refl, sym, ap, ap₂, subst, ◌∙◌, arith, append_assoc}
use Rattle.std.specs.List.{flat_map, sum, range_with_len}
use Rattle.std.proofs.lemmas.List.Concat.{flat_map-append}
use Rattle.std.proofs.lemmas.List.{append-nil, drop_all, take_all, take-take, take-set}
use Rattle.sgb_simplex.specs.Points.{points}
use Rattle.sgb_simplex.proofs.Simplices.{piece, points_nil, points_between}

-- these lists, each behind the prefix
abbrev pub written : List ℕ → List (List ℕ) → List ℕ
written prefix ts = flat_map (λ t. prefix ++ t) ts

pub written-runs : (prefix : List ℕ) (f : ℕ → List (List ℕ)) (xs : List ℕ) → written prefix (flat_map f xs) ≡ flat_map (λ x. written prefix (f x)) xs
written-runs prefix f [] = refl
written-runs prefix f (x ∷ xs) = flat_map-append (λ t. prefix ++ t) (f x) (flat_map f xs) ∙ ap (λ ys. written prefix (f x) ++ ys) (written-runs prefix f xs)

-- a first element goes to the prefix
pub written-first : (prefix : List ℕ) (x : ℕ) (ts : List (List ℕ)) → written prefix (map (λ t. x ∷ t) ts) ≡ written (prefix ++ x ∷ []) ts
written-first prefix x [] = refl
written-first prefix x (t ∷ ts) =
    ap (λ ys. ys ++ written prefix (map (λ u. x ∷ u) ts)) (sym (append_assoc prefix (x ∷ []) t))
    ∙ ap (λ ys. ((prefix ++ x ∷ []) ++ t) ++ ys) (written-first prefix x ts)

-- where no coordinate is left, the prefix is the point
pub written_all : (bounds point : List ℕ) (place left : ℕ) → place ≡ length bounds → length point ≡ length bounds → left ≡ 0 → written (take place point) (points left (drop place bounds)) ≡ point
written_all bounds point place left at long none =
    let no_bounds : drop place bounds ≡ [] = drop_all place bounds (omega (arith, at)) in
    ap₂ (λ s l. written (take place point) (points s l)) none no_bounds
    ∙ (ap (written (take place point)) points_nil
    ∙ (append-nil (take place point ++ []) ∙ (append-nil (take place point) ∙ take_all place point (omega (arith, at, long)))))

-- the list was to be followed by all points with this sum and these bounds; those that begin with x and more are left
pub record LeftToWrite (start prefix : List ℕ) (s : ℕ) (all rest now : List ℕ) (x end : ℕ) : Type 0 where
  pub same : now ++ flat_map (λ y. written prefix (piece s rest y)) (range_with_len x (end - x)) ≡ start ++ written prefix (points s all)

pub left_start : (start prefix : List ℕ) (s b : ℕ) (all rest : List ℕ) (low high : ℕ) → all ≡ b ∷ rest → s ≤ sum all → low ≡ s - sum rest → high ≡ min b s + 1 → LeftToWrite start prefix s all rest start low high
left_start start prefix s b all rest low high cut less is end =
    let fits : s ≤ sum (b ∷ rest) = subst (λ l. s ≤ sum l) cut less in
    record {
      same = ap (λ ys. start ++ ys)
          (sym (ap (λ l. written prefix (points s l)) cut
          ∙ (ap (written prefix) (points_between s b rest low high fits is end) ∙ written-runs prefix (piece s rest) (range_with_len low (high - low)))));
    }

pub left_step : {start prefix all rest now new : List ℕ} {s x end : ℕ} → LeftToWrite start prefix s all rest now x end → x < end → new ≡ now ++ written (prefix ++ x ∷ []) (points (s - x) rest) → LeftToWrite start prefix s all rest new (x + 1) end
left_step {start} {prefix} {all} {rest} {now} {new} {s} {x} {end} left less wrote =
    let later : List ℕ = flat_map (λ y. written prefix (piece s rest y)) (range_with_len (x + 1) (end - (x + 1))) in
    let more : end - x ≡ suc (end - (x + 1)) = omega (arith, less) in
    let here : written prefix (piece s rest x) ≡ written (prefix ++ x ∷ []) (points (s - x) rest) = written-first prefix x (points (s - x) rest) in
    record {
      same = ap (λ l. l ++ later) wrote
          ∙ (append_assoc now (written (prefix ++ x ∷ []) (points (s - x) rest)) later
          ∙ (ap (λ ys. now ++ (ys ++ later)) (sym here)
          ∙ (ap (λ n. now ++ flat_map (λ y. written prefix (piece s rest y)) (range_with_len x n)) (sym more) ∙ left.same)));
    }

pub left_end : {start prefix all rest now : List ℕ} {s x end : ℕ} → LeftToWrite start prefix s all rest now x end → end ≤ x → now ≡ start ++ written prefix (points s all)
left_end {start} {prefix} {all} {rest} {now} {s} {x} {end} left done =
    let none : end - x ≡ 0 = omega (arith, done) in
    sym (append-nil now) ∙ (ap (λ n. now ++ flat_map (λ y. written prefix (piece s rest y)) (range_with_len x n)) (sym none) ∙ left.same)

-- a prefix is kept where a longer one is
pub kept_prefix : (place x : ℕ) (point new start : List ℕ) → take (place + 1) new ≡ take (place + 1) (set point place x) → take place point ≡ take place start → take place new ≡ take place start
kept_prefix place x point new start same kept =
    sym (take-take place (place + 1) new (omega arith))
    ∙ (ap (take place) same ∙ (take-take place (place + 1) (set point place x) (omega arith) ∙ (take-set point place x ∙ kept)))
