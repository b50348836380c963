-- Lemmas on positions as they count up.
use Rattle.std.proofs.Common.{◌≡◌, ◌<◌, ◌≤◌, ◌+◌, ◌*◌, ℕ, zero, suc, List, [], ◌∷◌, length, get_or, drop, set, replicate, refl, ap, ◌∙◌, arith}
use Rattle.std.proofs.lemmas.List.{at_drop_more, drop_all}
use Rattle.sgb_make.specs.declared.side.Side.{Side}
use Rattle.sgb_make.specs.Private.Rank.{cells, rank, IsOn, IsSmall}

pub length-on : (sides : List Side) (p : List ℕ) → IsOn sides p → length p ≡ length sides
length-on [] [] on = refl
length-on [] (x ∷ p) on = absurd on
length-on (a ∷ sides) [] on = absurd on
length-on (a ∷ sides) (x ∷ p) on = omega (arith, length-on sides p on.1)

pub on-at : (sides : List Side) (p : List ℕ) (k : ℕ) (d : Side) → k < length sides → IsOn sides p → get_or p k 0 < (get_or sides k d).size
on-at [] p k d below on = absurd (omega arith)
on-at (a ∷ sides) [] k d below on = absurd on
on-at (a ∷ sides) (x ∷ p) zero d below on = on.0
on-at (a ∷ sides) (x ∷ p) (suc k) d below on = on-at sides p k d (omega arith) on.1

pub on-set : (sides : List Side) (p : List ℕ) (k x : ℕ) (d : Side) → k < length sides → x < (get_or sides k d).size → IsOn sides p → IsOn sides (set p k x)
on-set [] p k x d below low on = absurd (omega arith)
on-set (a ∷ sides) [] k x d below low on = absurd on
on-set (a ∷ sides) (y ∷ p) zero x d below low on = (low, on.1)
on-set (a ∷ sides) (y ∷ p) (suc k) x d below low on = (on.0, on-set sides p k x d (omega arith) low on.1)

-- how many positions the sides from k on have
abbrev pub behind_cells : List Side → ℕ → ℕ
behind_cells sides k = cells (drop k sides)

rank-set : (sides : List Side) (p : List ℕ) (k x : ℕ) → k < length sides → IsOn sides p → rank sides (set p k x) + get_or p k 0 * behind_cells sides (suc k) ≡ rank sides p + x * behind_cells sides (suc k)
unfolding rank
rank-set [] p k x below on = absurd (omega arith)
rank-set (a ∷ sides) [] k x below on = absurd on
rank-set (a ∷ sides) (y ∷ p) zero x below on = omega arith
rank-set (a ∷ sides) (y ∷ p) (suc k) x below on = omega (arith, rank-set sides p k x (omega arith) on.1)

cells-cons : (a : Side) (sides : List Side) → cells (a ∷ sides) ≡ a.size * cells sides
unfolding cells
cells-cons a sides = refl

behind_cells-more : (sides : List Side) (k : ℕ) (d : Side) → k < length sides → behind_cells sides k ≡ (get_or sides k d).size * behind_cells sides (suc k)
behind_cells-more sides k d below =
    let is : k + 1 ≡ suc k = omega arith in
    at_drop_more cells sides k d below
    ∙ (cells-cons (get_or sides k d) (drop (k + 1) sides) ∙ ap (λ j. (get_or sides k d).size * cells (drop j sides)) is)

-- so far the coordinates from k on have been counted up
pub record Counted (sides : List Side) (old now : List ℕ) (k : ℕ) : Type 0 where
  pub on : IsOn sides now
  pub count : rank sides now + behind_cells sides k ≡ rank sides old + 1

pub counted_start : (sides : List Side) (p : List ℕ) (k : ℕ) → k ≡ length sides → IsOn sides p → Counted sides p p k
unfolding cells
counted_start sides p k is on =
    let one : behind_cells sides k ≡ 1 = ap cells (drop_all k sides (omega arith)) in
    record { on = on; count = omega (arith, one) }

-- one that is at its end begins anew
pub counted_more : {sides : List Side} {old now : List ℕ} {k m : ℕ} (d : Side) → m ≡ k + 1 → k < length sides → (get_or sides k d).size ≤ get_or now k 0 + 1 → Counted sides old now m → Counted sides old (set now k 0) k
counted_more {sides} {old} {now} {k} {m} d more below end c =
    let p = behind_cells sides (suc k) in
    let low = on-at sides now k d below c.on in
    let size : (get_or sides k d).size ≡ get_or now k 0 + 1 = omega arith in
    let all : behind_cells sides k ≡ get_or now k 0 * p + p = behind_cells-more sides k d below ∙ (ap (λ n. n * p) size ∙ omega arith) in
    let before : rank sides now + p ≡ rank sides old + 1 = ap (λ j. rank sides now + behind_cells sides j) (let is : suc k ≡ m = omega arith in is) ∙ c.count in
    record {
      on = on-set sides now k 0 d below (omega arith) c.on;
      count = omega (arith, rank-set sides now k 0 below c.on, all, before);
    }

-- one that is not counts up
pub counted_up : {sides : List Side} {old now : List ℕ} {k m : ℕ} (d : Side) → m ≡ k + 1 → k < length sides → Counted sides old now m → rank sides (set now k (get_or now k 0 + 1)) ≡ rank sides old + 1
counted_up {sides} {old} {now} {k} {m} d more below c =
    let p = behind_cells sides (suc k) in
    let x : ℕ = get_or now k 0 in
    let one : (x + 1) * p ≡ x * p + p = omega arith in
    let before : rank sides now + p ≡ rank sides old + 1 = ap (λ j. rank sides now + behind_cells sides j) (let is : suc k ≡ m = omega arith in is) ∙ c.count in
    omega (arith, rank-set sides now k (x + 1) below c.on, one, before)

pub zeros_on : (sides : List Side) → IsSmall sides → IsOn sides (replicate (length sides) 0)
zeros_on [] small = tt
zeros_on (a ∷ sides) small = (small.0, zeros_on sides small.2)

pub rank-zeros : (sides : List Side) → rank sides (replicate (length sides) 0) ≡ 0
unfolding rank
rank-zeros [] = refl
rank-zeros (a ∷ sides) = omega (arith, rank-zeros sides)

-- all have been counted up only where the position was the last
pub counted_all : {sides : List Side} {old now : List ℕ} {k : ℕ} → k ≡ 0 → rank sides old + 1 < cells sides → Counted sides old now k → ⊥
counted_all {sides} {old} {now} {k} none more c =
    let all : behind_cells sides k ≡ cells sides = ap (behind_cells sides) none in
    omega (arith, c.count, all, more)
