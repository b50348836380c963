-- Bits that are packed six a byte are read back.
use Rattle.std.proofs.Common.{◌≡◌, ℕ, ◌+◌, ◌-◌, ◌*◌, ◌/◌, ◌%◌, ◌<◌, ◌≤◌, ◌==◌, suc, Bool, true, false, List, [], ◌∷◌, length, get_or, refl, sym, ap, ap₂, zero, replicate, ◌++◌, ◌∙◌, arith, inl, inr}
use Rattle.std.proofs.lemmas.Bool.{cases_lt, and_from, le-leb}
use Rattle.std.proofs.lemmas.List.{get_or_past, get_or_append_left, get_or-append-add}
use Rattle.std.proofs.lemmas.Nat.Bits.{bit_at-zero}
use Rattle.std.specs.Int.{bit_at}
use Rattle.sgb_export.specs.Graph6.{digit, six_bits, packed}
use Rattle.sgb_import.specs.Graph6.{is_six_bits, is_set}
use Rattle.sgb_import.specs.Private.Pairs.{AreSixBits}

digit_small : (b : Bool) → digit b ≤ 1
digit_small true = omega arith
digit_small false = omega arith

digit_one : (b : Bool) → (digit b == 1) ≡ b
digit_one true = refl
digit_one false = refl

bit_0 : (a b c d e f : ℕ) → a ≤ 1 → b ≤ 1 → c ≤ 1 → d ≤ 1 → e ≤ 1 → f ≤ 1 → (63 + 32 * a + 16 * b + 8 * c + 4 * d + 2 * e + f - 63) / 32 % 2 ≡ a
bit_0 a b c d e f p q r s t u = omega arith

bit_1 : (a b c d e f : ℕ) → a ≤ 1 → b ≤ 1 → c ≤ 1 → d ≤ 1 → e ≤ 1 → f ≤ 1 → (63 + 32 * a + 16 * b + 8 * c + 4 * d + 2 * e + f - 63) / 16 % 2 ≡ b
bit_1 a b c d e f p q r s t u = omega arith

bit_2 : (a b c d e f : ℕ) → a ≤ 1 → b ≤ 1 → c ≤ 1 → d ≤ 1 → e ≤ 1 → f ≤ 1 → (63 + 32 * a + 16 * b + 8 * c + 4 * d + 2 * e + f - 63) / 8 % 2 ≡ c
bit_2 a b c d e f p q r s t u = omega arith

bit_3 : (a b c d e f : ℕ) → a ≤ 1 → b ≤ 1 → c ≤ 1 → d ≤ 1 → e ≤ 1 → f ≤ 1 → (63 + 32 * a + 16 * b + 8 * c + 4 * d + 2 * e + f - 63) / 4 % 2 ≡ d
bit_3 a b c d e f p q r s t u = omega arith

bit_4 : (a b c d e f : ℕ) → a ≤ 1 → b ≤ 1 → c ≤ 1 → d ≤ 1 → e ≤ 1 → f ≤ 1 → (63 + 32 * a + 16 * b + 8 * c + 4 * d + 2 * e + f - 63) / 2 % 2 ≡ e
bit_4 a b c d e f p q r s t u = omega arith

bit_5 : (a b c d e f : ℕ) → a ≤ 1 → b ≤ 1 → c ≤ 1 → d ≤ 1 → e ≤ 1 → f ≤ 1 → (63 + 32 * a + 16 * b + 8 * c + 4 * d + 2 * e + f - 63) / 1 % 2 ≡ f
bit_5 a b c d e f p q r s t u = omega arith

six_bits-small : (a b c d e f : Bool) → is_six_bits (six_bits a b c d e f) ≡ true
six_bits-small a b c d e f =
    let p = digit_small a in let q = digit_small b in let r = digit_small c in
    let s = digit_small d in let t = digit_small e in let u = digit_small f in
    and_from _ _ (le-leb 63 (six_bits a b c d e f) (omega arith)) (le-leb (six_bits a b c d e f) 126 (omega arith))

-- the six bits of the first byte
is_set-first : (a b c d e f : Bool) (body : List ℕ) (k : ℕ) → k < 6 →
    is_set (six_bits a b c d e f ∷ body) k ≡ get_or (a ∷ b ∷ c ∷ d ∷ e ∷ f ∷ []) k false
unfolding is_set
is_set-first a b c d e f body zero h = ap (λ (m : ℕ). m == 1) (bit_0 (digit a) (digit b) (digit c) (digit d) (digit e) (digit f) (digit_small a) (digit_small b) (digit_small c) (digit_small d) (digit_small e) (digit_small f)) ∙ digit_one a
is_set-first a b c d e f body (suc zero) h = ap (λ (m : ℕ). m == 1) (bit_1 (digit a) (digit b) (digit c) (digit d) (digit e) (digit f) (digit_small a) (digit_small b) (digit_small c) (digit_small d) (digit_small e) (digit_small f)) ∙ digit_one b
is_set-first a b c d e f body (suc (suc zero)) h = ap (λ (m : ℕ). m == 1) (bit_2 (digit a) (digit b) (digit c) (digit d) (digit e) (digit f) (digit_small a) (digit_small b) (digit_small c) (digit_small d) (digit_small e) (digit_small f)) ∙ digit_one c
is_set-first a b c d e f body (suc (suc (suc zero))) h = ap (λ (m : ℕ). m == 1) (bit_3 (digit a) (digit b) (digit c) (digit d) (digit e) (digit f) (digit_small a) (digit_small b) (digit_small c) (digit_small d) (digit_small e) (digit_small f)) ∙ digit_one d
is_set-first a b c d e f body (suc (suc (suc (suc zero)))) h = ap (λ (m : ℕ). m == 1) (bit_4 (digit a) (digit b) (digit c) (digit d) (digit e) (digit f) (digit_small a) (digit_small b) (digit_small c) (digit_small d) (digit_small e) (digit_small f)) ∙ digit_one e
is_set-first a b c d e f body (suc (suc (suc (suc (suc zero))))) h = ap (λ (m : ℕ). m == 1) (bit_5 (digit a) (digit b) (digit c) (digit d) (digit e) (digit f) (digit_small a) (digit_small b) (digit_small c) (digit_small d) (digit_small e) (digit_small f)) ∙ digit_one f
is_set-first a b c d e f body (suc (suc (suc (suc (suc (suc k)))))) h = absurd (omega arith)

-- the bits of those behind it
is_set-behind : (byte : ℕ) (body : List ℕ) (k : ℕ) → is_set (byte ∷ body) (6 + k) ≡ is_set body k
unfolding is_set
is_set-behind byte body k =
    let row : (6 + k) / 6 ≡ suc (k / 6) = omega arith in
    let column : (6 + k) % 6 ≡ k % 6 = omega arith in
    ap₂ (λ (i j : ℕ). bit_at (get_or (byte ∷ body) i 0 - 63) (5 - j) == 1) row column

-- there is none behind the last byte
is_set-none : (k : ℕ) → is_set [] k ≡ false
unfolding is_set
is_set-none k = ap (λ (m : ℕ). m == 1) (bit_at-zero (5 - k % 6))

is_set-last : (a b c d e f : Bool) (k : ℕ) → is_set (six_bits a b c d e f ∷ []) k ≡ get_or (a ∷ b ∷ c ∷ d ∷ e ∷ f ∷ []) k false
is_set-last a b c d e f k =
    elim (cases_lt k 6) [
      | inl lt ↦ is_set-first a b c d e f [] k lt
      | inr ge ↦
          let j : 6 + (k - 6) ≡ k = omega arith in
          ap (is_set (six_bits a b c d e f ∷ [])) (sym j) ∙ is_set-behind (six_bits a b c d e f) [] (k - 6) ∙ is_set-none (k - 6)
          ∙ sym (get_or_past (a ∷ b ∷ c ∷ d ∷ e ∷ f ∷ []) k false ge)
    ]

zeros_at : (m k : ℕ) → get_or (replicate m false) k false ≡ false
zeros_at zero k = refl
zeros_at (suc m) zero = refl
zeros_at (suc m) (suc k) = zeros_at m k

-- zeros behind change no bit
padded : (bits : List Bool) (m k : ℕ) → get_or (bits ++ replicate m false) k false ≡ get_or bits k false
padded [] m k = zeros_at m k
padded (b ∷ bits) m zero = refl
padded (b ∷ bits) m (suc k) = padded bits m k

pub packed-bit : (bits : List Bool) (k : ℕ) → is_set (packed bits) k ≡ get_or bits k false
unfolding packed
packed-bit [] k = is_set-none k
packed-bit (a ∷ []) k = is_set-last a false false false false false k ∙ padded (a ∷ []) 5 k
packed-bit (a ∷ (b ∷ [])) k = is_set-last a b false false false false k ∙ padded (a ∷ b ∷ []) 4 k
packed-bit (a ∷ (b ∷ (c ∷ []))) k = is_set-last a b c false false false k ∙ padded (a ∷ b ∷ c ∷ []) 3 k
packed-bit (a ∷ (b ∷ (c ∷ (d ∷ [])))) k = is_set-last a b c d false false k ∙ padded (a ∷ b ∷ c ∷ d ∷ []) 2 k
packed-bit (a ∷ (b ∷ (c ∷ (d ∷ (e ∷ []))))) k = is_set-last a b c d e false k ∙ padded (a ∷ b ∷ c ∷ d ∷ e ∷ []) 1 k
packed-bit (a ∷ (b ∷ (c ∷ (d ∷ (e ∷ (f ∷ bits)))))) k =
    let six = a ∷ b ∷ c ∷ d ∷ e ∷ f ∷ [] in
    elim (cases_lt k 6) [
      | inl lt ↦ is_set-first a b c d e f (packed bits) k lt ∙ sym (get_or_append_left six bits false k lt)
      | inr ge ↦
          let j : 6 + (k - 6) ≡ k = omega arith in
          ap (is_set (six_bits a b c d e f ∷ packed bits)) (sym j) ∙ is_set-behind (six_bits a b c d e f) (packed bits) (k - 6)
          ∙ packed-bit bits (k - 6) ∙ sym (get_or-append-add six bits (k - 6) false) ∙ ap (λ i. get_or (six ++ bits) i false) j
    ]

pub length-packed : (bits : List Bool) → length (packed bits) ≡ (length bits + 5) / 6
unfolding packed
length-packed [] = refl
length-packed (a ∷ []) = refl
length-packed (a ∷ (b ∷ [])) = refl
length-packed (a ∷ (b ∷ (c ∷ []))) = refl
length-packed (a ∷ (b ∷ (c ∷ (d ∷ [])))) = refl
length-packed (a ∷ (b ∷ (c ∷ (d ∷ (e ∷ []))))) = refl
length-packed (a ∷ (b ∷ (c ∷ (d ∷ (e ∷ (f ∷ bits)))))) = omega (arith, length-packed bits)

pub packed-six_bits : (bits : List Bool) → AreSixBits (packed bits)
unfolding packed
packed-six_bits [] = refl
packed-six_bits (a ∷ []) = and_from _ _ (six_bits-small a false false false false false) refl
packed-six_bits (a ∷ (b ∷ [])) = and_from _ _ (six_bits-small a b false false false false) refl
packed-six_bits (a ∷ (b ∷ (c ∷ []))) = and_from _ _ (six_bits-small a b c false false false) refl
packed-six_bits (a ∷ (b ∷ (c ∷ (d ∷ [])))) = and_from _ _ (six_bits-small a b c d false false) refl
packed-six_bits (a ∷ (b ∷ (c ∷ (d ∷ (e ∷ []))))) = and_from _ _ (six_bits-small a b c d e false) refl
packed-six_bits (a ∷ (b ∷ (c ∷ (d ∷ (e ∷ (f ∷ bits)))))) = and_from _ _ (six_bits-small a b c d e f) (packed-six_bits bits)
