-- Eight words at once: what the lanes of a vector hold is a pass over eight words.
use Rattle.std.proofs.Common.{◌≡◌, ℕ, ◌+◌, ◌-◌, ◌%◌, ◌^◌, ◌<◌, ◌≤◌, ⊎_elim, List, length, get_or, replicate, bit_and, sym, ap, ap₂, ◌∙◌, subst, arith}
use Rattle.std.specs.Simd.Lanes.{chunk, put_chunk, zip2}
use Rattle.std.proofs.lemmas.Bool.{cases_lt}
use Rattle.std.proofs.lemmas.Nat.{and_mask}
use Rattle.std.proofs.lemmas.Simd.{get_or-chunk, get_or-put_chunk_above, get_or-put_chunk_at, get_or-put_chunk_below, get_or-replicate, get_or-zip2, length-chunk, length-put_chunk, length-replicate, length-zip2}
use Rattle.sgb_flip.specs.Generator.{AreSmall}
use Rattle.sgb_flip.specs.Private.Run.{IsRun}
use Rattle.sgb_flip.specs.Sequence.{difference}

-- ---- one lane
pub masked_difference : (a b : ℕ) → a < 2 ^ 31 → b < 2 ^ 31 → bit_and ((a + (2 ^ 32 - b)) % 2 ^ 32) (2 ^ 31 - 1) ≡ difference a b
unfolding difference
masked_difference a b p q = and_mask ((a + (2 ^ 32 - b)) % 2 ^ 32) 31 ∙ omega arith

-- ---- eight lanes
-- two vectors put together by g, and then masked by h, where that is f of two small words
pub run_lanes : (f g h : ℕ → ℕ → ℕ) (mask at from : ℕ) (ws : List ℕ)
    → ((a b : ℕ) → a < 2 ^ 31 → b < 2 ^ 31 → h (g a b) mask ≡ f a b)
    → AreSmall ws → at + 8 ≤ length ws → from + 8 ≤ length ws
    → IsRun f at from 8 ws (put_chunk at ws (zip2 h (zip2 g (chunk at 8 ws) (chunk from 8 ws)) (replicate 8 mask)))
run_lanes f g h mask at from ws is small to_end from_end =
    let xs : List ℕ = chunk at 8 ws in
    let ys : List ℕ = chunk from 8 ws in
    let zs : List ℕ = zip2 g (chunk at 8 ws) (chunk from 8 ws) in
    let out : List ℕ = zip2 h (zip2 g (chunk at 8 ws) (chunk from 8 ws)) (replicate 8 mask) in
    let x_count : length (chunk at 8 ws) ≡ 8 = length-chunk at 8 ws to_end in
    let y_count : length (chunk from 8 ws) ≡ 8 = length-chunk from 8 ws from_end in
    let z_count : length (zip2 g (chunk at 8 ws) (chunk from 8 ws)) ≡ 8 = length-zip2 g (chunk at 8 ws) (chunk from 8 ws) (x_count ∙ sym y_count) ∙ x_count in
    let m_count : length (replicate 8 mask) ≡ 8 = length-replicate 8 mask in
    let count : length (zip2 h (zip2 g (chunk at 8 ws) (chunk from 8 ws)) (replicate 8 mask)) ≡ 8 =
    length-zip2 h (zip2 g (chunk at 8 ws) (chunk from 8 ws)) (replicate 8 mask) (z_count ∙ sym m_count) ∙ z_count
    in
    record {
      length_is = length-put_chunk at ws out;
      changed = λ k lt.
          get_or-put_chunk_at at ws out k 0 (omega arith) (omega arith)
          ∙ get_or-zip2 h zs (replicate 8 mask) k 0 0 0 (omega arith) (omega arith)
          ∙ ap₂ h
          (get_or-zip2 g xs ys k 0 0 0 (omega arith) (omega arith)
          ∙ ap₂ g (get_or-chunk at 8 ws k 0 lt) (get_or-chunk from 8 ws k 0 lt))
          (get_or-replicate 8 k mask 0 lt)
          ∙ is (get_or ws (at + k) 0) (get_or ws (from + k) 0) (small (at + k) (omega arith)) (small (from + k) (omega arith));
      below = λ i lt. get_or-put_chunk_below at ws out i 0 lt;
      above = λ i le. get_or-put_chunk_above at ws out i 0 (omega arith);
    }

-- a pass leaves small words, where f gives them
pub AreSmall-run : (f : ℕ → ℕ → ℕ) (at from count : ℕ) (old new : List ℕ) → ((a b : ℕ) → f a b < 2 ^ 31) → IsRun f at from count old new → AreSmall old → AreSmall new
AreSmall-run f at from count old new f_small run small i h =
    let within : i < length old = omega (arith, run.length_is) in
    ⊎_elim
    (λ (under : i < at). subst (λ (x : ℕ). x < 2 ^ 31) (sym (run.below i under)) (small i within))
    (λ (on : at ≤ i).
    ⊎_elim
    (λ (inside : i < at + count).
    let here : at + (i - at) ≡ i = omega arith in
    subst (λ (x : ℕ). x < 2 ^ 31)
    (sym (ap (λ n. get_or new n 0) (sym here) ∙ run.changed (i - at) (omega arith)))
    (f_small (get_or old (at + (i - at)) 0) (get_or old (from + (i - at)) 0)))
    (λ (over : at + count ≤ i). subst (λ (x : ℕ). x < 2 ^ 31) (sym (run.above i over)) (small i within))
    (cases_lt i (at + count)))
    (cases_lt i at)
