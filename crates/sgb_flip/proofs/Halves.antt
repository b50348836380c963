-- The 55 words in two vectors: taken from memory, turned back by a batch, and put into memory again.
use Rattle.std.proofs.Common.{◌≡◌, ℕ, zero, suc, ◌+◌, ◌-◌, ◌%◌, ◌^◌, ◌<◌, ◌≤◌, ⊎_elim, List, ◌∷◌, ◌++◌, length, get_or, if◌then◌else◌, nat_lt, replicate, bit_and, sym, ap, ap₂, ◌∙◌, subst, arith}
use Rattle.std.specs.List.{range_with_len}
use Rattle.std.specs.Simd.Lanes.{chunk, pick_l, put_chunk, zip2}
use Rattle.std.proofs.lemmas.Bool.{cases_lt, le-ltb, lt-ltb}
use Rattle.std.proofs.lemmas.List.{ext_get_or, get_or-append_right, get_or_append_left, length-append}
use Rattle.std.proofs.lemmas.List.FromFn.{get_or-map-range_with_len, length-map-range_with_len}
use Rattle.std.proofs.lemmas.Nat.{and_mask}
use Rattle.std.proofs.lemmas.Simd.{get_or-chunk, get_or-put_chunk_above, get_or-put_chunk_at, get_or-replicate, get_or-zip2, length-chunk, length-put_chunk, length-replicate, length-zip2, pick_l-range_with_len}
use Rattle.sgb_flip.specs.Generator.{AreSmall}
use Rattle.sgb_flip.specs.Private.Halves.{AreHalves, whole}
use Rattle.sgb_flip.specs.Sequence.{joined, terms_after}
use Rattle.sgb_flip.proofs.Batches.{batch_before}

-- ---- the words that two vectors hold
pub length-whole : (low high : List ℕ) → length (whole low high) ≡ 55
unfolding whole
length-whole low high =
    length-map-range_with_len (λ i. (if nat_lt i 32 then get_or low i 0 else get_or high (i - 23) 0) % 2 ^ 31) 0 55

get_or-whole : (low high : List ℕ) (k : ℕ) → k < 55 → get_or (whole low high) k 0 ≡ (if nat_lt k 32 then get_or low k 0 else get_or high (k - 23) 0) % 2 ^ 31
unfolding whole
get_or-whole low high k h =
    get_or-map-range_with_len (λ i. (if nat_lt i 32 then get_or low i 0 else get_or high (i - 23) 0) % 2 ^ 31) 0 55 k k 0 h (omega arith)

get_or-whole_low : (low high : List ℕ) (k : ℕ) → k < 32 → get_or (whole low high) k 0 ≡ get_or low k 0 % 2 ^ 31
get_or-whole_low low high k h =
    get_or-whole low high k (omega arith)
    ∙ ap (λ b. (if b then get_or low k 0 else get_or high (k - 23) 0) % 2 ^ 31) (lt-ltb k 32 h)

get_or-whole_high : (low high : List ℕ) → AreHalves low high → (k : ℕ) → 24 ≤ k → k < 55 → get_or (whole low high) k 0 ≡ get_or high (k - 23) 0 % 2 ^ 31
get_or-whole_high low high halves k from lt =
    ⊎_elim
    (λ (both : k < 32).
    let here : 23 + (k - 23) ≡ k = omega arith in
    get_or-whole_low low high k both
    ∙ ap (λ x. x % 2 ^ 31) (sym (halves.alike (k - 23) (omega arith) (omega arith) ∙ ap (λ i. get_or low i 0) here)))
    (λ (past : 32 ≤ k).
    get_or-whole low high k lt
    ∙ ap (λ b. (if b then get_or low k 0 else get_or high (k - 23) 0) % 2 ^ 31) (le-ltb k 32 past))
    (cases_lt k 32)

rest-small : (x : ℕ) → x % 2 ^ 31 < 2 ^ 31
rest-small x = omega arith

pub AreSmall-whole : (low high : List ℕ) → AreSmall (whole low high)
AreSmall-whole low high i h =
    let lt : i < 55 = omega (arith, length-whole low high) in
    subst (λ (x : ℕ). x < 2 ^ 31) (sym (get_or-whole low high i lt))
    (rest-small (if nat_lt i 32 then get_or low i 0 else get_or high (i - 23) 0))

-- ---- taken from memory
get_or-first : (n k : ℕ) (xs : List ℕ) → k < n → get_or (chunk 0 n xs) k 0 ≡ get_or xs k 0
get_or-first n k xs lt =
    let here : 0 + k ≡ k = omega arith in
    get_or-chunk 0 n xs k 0 lt ∙ ap (λ i. get_or xs i 0) here

pub AreHalves-chunks : (ws : List ℕ) → length ws ≡ 55 → AreHalves (chunk 0 32 ws) (chunk 23 32 ws)
AreHalves-chunks ws count = record {
  low_count = length-chunk 0 32 ws (omega arith);
  high_count = length-chunk 23 32 ws (omega arith);
  alike = λ k from lt. get_or-chunk 23 32 ws k 0 (omega arith) ∙ sym (get_or-first 32 (23 + k) ws (omega arith));
}

small_rest : (x y : ℕ) → x ≡ y → y < 2 ^ 31 → x % 2 ^ 31 ≡ y
small_rest x y same h = omega arith

pub whole-chunks : (ws : List ℕ) → length ws ≡ 55 → AreSmall ws → whole (chunk 0 32 ws) (chunk 23 32 ws) ≡ ws
whole-chunks ws count small =
    let low : List ℕ = chunk 0 32 ws in
    let high : List ℕ = chunk 23 32 ws in
    ext_get_or 0 (whole (chunk 0 32 ws) (chunk 23 32 ws)) ws (length-whole low high ∙ sym count)
    (λ k h.
    let lt : k < 55 = omega (arith, length-whole low high) in
    ⊎_elim
    (λ (under : k < 32).
    get_or-whole_low low high k under
    ∙ small_rest (get_or low k 0) (get_or ws k 0) (get_or-first 32 k ws under) (small k (omega arith)))
    (λ (over : 32 ≤ k).
    let here : 23 + (k - 23) ≡ k = omega arith in
    get_or-whole_high low high (AreHalves-chunks ws count) k (omega arith) lt
    ∙ small_rest (get_or high (k - 23) 0) (get_or ws k 0)
    (get_or-chunk 23 32 ws (k - 23) 0 (omega arith) ∙ ap (λ i. get_or ws i 0) here) (small k (omega arith)))
    (cases_lt k 32))

-- ---- turned back by a batch
abbrev wrapped : ℕ → ℕ → ℕ
wrapped a b = (a + b) % 2 ^ 32

wrapped-joined : (a b x : ℕ) → x ≡ wrapped a b → x % 2 ^ 31 ≡ joined (a % 2 ^ 31) (b % 2 ^ 31)
unfolding joined
wrapped-joined a b x same = omega arith

-- what each lane of the next vectors is
pub record AreBefore (low high low' high' : List ℕ) : Type 0 where
  pub low_count : length low' ≡ 32
  pub high_count : length high' ≡ 32
  pub high_is : (k : ℕ) → 1 ≤ k → k < 32 → get_or high' k 0 ≡ wrapped (get_or high k 0) (get_or low (k - 1) 0)
  pub early_is : (k : ℕ) → k < 24 → get_or low' k 0 ≡ wrapped (get_or low k 0) (get_or high' (8 + k) 0)
  pub late_is : (k : ℕ) → 24 ≤ k → k < 32 → get_or low' k 0 ≡ wrapped (get_or low k 0) (get_or low (k - 24) 0)

pub AreHalves-before : (low high low' high' : List ℕ) → AreHalves low high → AreBefore low high low' high' → AreHalves low' high'
AreHalves-before low high low' high' halves before = record {
  low_count = before.low_count;
  high_count = before.high_count;
  alike = λ k from lt.
      let there : k - 1 ≡ 23 + k - 24 = omega arith in
      before.high_is k from (omega arith)
      ∙ ap₂ wrapped (halves.alike k from lt) (ap (λ i. get_or low i 0) there)
      ∙ sym (before.late_is (23 + k) (omega arith) (omega arith));
}

pub whole-before : (low high low' high' : List ℕ) → AreHalves low high → AreBefore low high low' high' → terms_after (whole low' high') 55 ≡ whole low high
whole-before low high low' high' halves before =
    let halves' : AreHalves low' high' = AreHalves-before low high low' high' halves before in
    batch_before (whole low high) (whole low' high') (length-whole low high) (length-whole low' high') (AreSmall-whole low high) (AreSmall-whole low' high')
    (λ k lt.
    let there : k + 31 - 23 ≡ 8 + k = omega arith in
    get_or-whole_low low' high' k (omega arith)
    ∙ wrapped-joined (get_or low k 0) (get_or high' (8 + k) 0) (get_or low' k 0) (before.early_is k lt)
    ∙ ap₂ joined (sym (get_or-whole_low low high k (omega arith)))
    (sym (get_or-whole_high low' high' halves' (k + 31) (omega arith) (omega arith) ∙ ap (λ i. get_or high' i 0 % 2 ^ 31) there)))
    (λ k from lt.
    let there : k - 23 - 1 ≡ k - 24 = omega arith in
    get_or-whole_high low' high' halves' k from lt
    ∙ wrapped-joined (get_or high (k - 23) 0) (get_or low (k - 24) 0) (get_or high' (k - 23) 0)
    (before.high_is (k - 23) (omega arith) (omega arith) ∙ ap (λ i. wrapped (get_or high (k - 23) 0) (get_or low i 0)) there)
    ∙ ap₂ joined (sym (get_or-whole_high low high halves k from lt)) (sym (get_or-whole_low low high (k - 24) (omega arith))))

-- the lanes of a vector, each one place on
abbrev turned : List ℕ → List ℕ
turned xs = pick_l 0 (xs ++ xs) (31 ∷ range_with_len 0 31)

get_or-turned : (xs : List ℕ) → length xs ≡ 32 → (k : ℕ) → 1 ≤ k → k < 32 → get_or (turned xs) k 0 ≡ get_or xs (k - 1) 0
get_or-turned xs count zero from lt = absurd (omega arith)
get_or-turned xs count (suc k) from lt =
    let here : k ≡ suc k - 1 = omega arith in
    let room : 0 + 31 ≤ length (xs ++ xs) = omega (arith, length-append xs xs) in
    ap (λ ys. get_or ys k 0) (pick_l-range_with_len 0 (xs ++ xs) 0 31 room)
    ∙ get_or-first 31 k (xs ++ xs) (omega arith)
    ∙ get_or_append_left xs xs 0 k (omega arith)
    ∙ ap (λ i. get_or xs i 0) here

-- the lanes of two vectors from the ninth of the first on
abbrev following : List ℕ → List ℕ → List ℕ
following xs ys = pick_l 0 (xs ++ ys) (range_with_len 8 32)

get_or-following : (xs ys : List ℕ) → length xs ≡ 32 → length ys ≡ 32 → (k : ℕ) → k < 32 → get_or (following xs ys) k 0 ≡ get_or (xs ++ ys) (8 + k) 0
get_or-following xs ys count count' k lt =
    let room : 8 + 32 ≤ length (xs ++ ys) = omega (arith, length-append xs ys) in
    ap (λ zs. get_or zs k 0) (pick_l-range_with_len 0 (xs ++ ys) 8 32 room)
    ∙ get_or-chunk 8 32 (xs ++ ys) k 0 lt

pub AreBefore-lanes : (low high : List ℕ) → AreHalves low high → AreBefore low high (zip2 wrapped low (following (zip2 wrapped high (turned low)) low)) (zip2 wrapped high (turned low))
AreBefore-lanes low high halves =
    let next : List ℕ = zip2 wrapped high (turned low) in
    let next_count : length (zip2 wrapped high (turned low)) ≡ 32 = length-zip2 wrapped high (turned low) halves.high_count ∙ halves.high_count in
    let lane : (k : ℕ) → k < 32 → get_or (zip2 wrapped low (following next low)) k 0 ≡ wrapped (get_or low k 0) (get_or (next ++ low) (8 + k) 0) =
    λ k lt.
    get_or-zip2 wrapped low (following next low) k 0 0 0 (omega (arith, halves.low_count)) lt
    ∙ ap (λ x. wrapped (get_or low k 0) x) (get_or-following next low next_count halves.low_count k lt)
    in
    record {
      low_count = length-zip2 wrapped low (following next low) halves.low_count ∙ halves.low_count;
      high_count = next_count;
      high_is = λ k from lt.
          get_or-zip2 wrapped high (turned low) k 0 0 0 (omega (arith, halves.high_count)) lt
          ∙ ap (λ x. wrapped (get_or high k 0) x) (get_or-turned low halves.low_count k from lt);
      early_is = λ k lt.
          lane k (omega arith)
          ∙ ap (λ x. wrapped (get_or low k 0) x) (get_or_append_left next low 0 (8 + k) (omega arith));
      late_is = λ k from lt.
          let there : 8 + k - 32 ≡ k - 24 = omega arith in
          lane k lt
          ∙ ap (λ x. wrapped (get_or low k 0) x)
          (get_or-append_right next low 32 (8 + k) 0 next_count (omega arith) ∙ ap (λ i. get_or low i 0) there);
    }

-- ---- put into memory
abbrev masked : List ℕ → List ℕ
masked xs = zip2 bit_and xs (replicate 32 2147483647)

length-masked : (xs : List ℕ) → length xs ≡ 32 → length (masked xs) ≡ 32
length-masked xs count = length-zip2 bit_and xs (replicate 32 2147483647) (count ∙ sym (length-replicate {A = ℕ} 32 2147483647)) ∙ count

get_or-masked : (xs : List ℕ) → length xs ≡ 32 → (k : ℕ) → k < 32 → get_or (masked xs) k 0 ≡ get_or xs k 0 % 2 ^ 31
get_or-masked xs count k lt =
    get_or-zip2 bit_and xs (replicate 32 2147483647) k 0 0 0 (omega arith) lt
    ∙ ap (λ m. bit_and (get_or xs k 0) m) (get_or-replicate 32 k 2147483647 0 lt)
    ∙ and_mask (get_or xs k 0) 31

pub whole-stored : (ws low high : List ℕ) → length ws ≡ 55 → AreHalves low high → put_chunk 0 (put_chunk 23 ws (masked high)) (masked low) ≡ whole low high
whole-stored ws low high count halves =
    let low_count : length (masked low) ≡ 32 = length-masked low halves.low_count in
    let high_count : length (masked high) ≡ 32 = length-masked high halves.high_count in
    let first : List ℕ = put_chunk 23 ws (masked high) in
    let first_count : length (put_chunk 23 ws (masked high)) ≡ 55 = length-put_chunk 23 ws (masked high) ∙ count in
    let both_count : length (put_chunk 0 first (masked low)) ≡ 55 = length-put_chunk 0 first (masked low) ∙ first_count in
    ext_get_or 0 (put_chunk 0 first (masked low)) (whole low high) (both_count ∙ sym (length-whole low high))
    (λ k h.
    let lt : k < 55 = omega (arith, both_count) in
    ⊎_elim
    (λ (under : k < 32).
    let here : k ≡ 0 + k = omega arith in
    ap (λ i. get_or (put_chunk 0 first (masked low)) i 0) here
    ∙ get_or-put_chunk_at 0 first (masked low) k 0 (omega arith) (omega arith)
    ∙ get_or-masked low halves.low_count k under
    ∙ sym (get_or-whole_low low high k under))
    (λ (over : 32 ≤ k).
    let here : k ≡ 23 + (k - 23) = omega arith in
    get_or-put_chunk_above 0 first (masked low) k 0 (omega arith)
    ∙ ap (λ i. get_or first i 0) here
    ∙ get_or-put_chunk_at 23 ws (masked high) (k - 23) 0 (omega arith) (omega arith)
    ∙ get_or-masked high halves.high_count (k - 23) (omega arith)
    ∙ sym (get_or-whole_high low high halves k (omega arith) lt))
    (cases_lt k 32))
