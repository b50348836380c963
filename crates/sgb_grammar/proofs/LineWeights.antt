-- What lines weigh.
use Rattle.std.proofs.Common.{◌≡◌, ℕ, suc, ◌+◌, ◌-◌, ◌*◌, ◌/◌, ◌%◌, ◌^◌, ◌<◌, ◌≤◌, ◌==◌, not, Bool, true, List, [], ◌∷◌, ◌++◌, take, drop, length, get_or, refl, sym, subst, ap, ◌∙◌, inl, inr, arith, ◌&&◌, zero, length-append}
use Rattle.std.specs.List.{prefix_len}
use Rattle.std.proofs.lemmas.Bool.{cases_Bool, cases_eq, and_parts, eqb-true}
use Rattle.std.proofs.lemmas.List.{take_more, take-append-drop}
use Rattle.std.proofs.lemmas.Nat.{pow-add, shl_whole, shl_below}
use Rattle.std.proofs.Math.Nat.{pow-le-pow_right, add-mul-mod_self_right, mod-add-div', mod-eq_of_lt}
use Rattle.sgb_grammar.specs.Check.{code_of, lines_of, with_first, covered, weighed, check_of}

-- ---- weights

pub weighed-append : (xs ys : List ℕ) → weighed (xs ++ ys) ≡ weighed xs * 2 ^ length ys + weighed ys
unfolding weighed
weighed-append [] ys = omega arith
weighed-append (x ∷ xs) ys =
    let more = weighed-append xs ys in
    let power = ap (λ n. 2 ^ n) (length-append xs ys) ∙ pow-add 2 (length xs) (length ys) in
    ap (λ k. code_of x * k + weighed (xs ++ ys)) power
    ∙ ap (λ k. code_of x * (2 ^ length xs * 2 ^ length ys) + k) more
    ∙ (omega arith)

weighed_one : (b : ℕ) → weighed (b ∷ []) ≡ code_of b
unfolding weighed
weighed_one b = omega arith

pub weighed_more : (xs : List ℕ) (i : ℕ) → i < length xs → weighed (take (i + 1) xs) ≡ weighed (take i xs) * 2 + code_of (get_or xs i 0)
weighed_more xs i h =
    ap weighed (take_more xs i 0 h)
    ∙ weighed-append (take i xs) (get_or xs i 0 ∷ [])
    ∙ ap (λ k. weighed (take i xs) * 2 + k) (weighed_one (get_or xs i 0))

parts_of_sum : (a r q b c p : ℕ) → r + q * p ≡ a → a * b + c ≡ (r * b + c) + (q * b) * p
parts_of_sum a r q b c p e = ap (λ k. k * b + c) (sym e) ∙ (omega arith)

-- a number may be reduced before it is doubled
pub reduced : (a b c p : ℕ) → (a * b + c) % p ≡ (a % p * b + c) % p
reduced a b c p =
    ap (λ k. k % p) (parts_of_sum a (a % p) (a / p) b c p (mod-add-div' a p))
    ∙ add-mul-mod_self_right (a % p * b + c) (a / p * b) p

pub byte_adds : (v code : ℕ) (xs : List ℕ) (i : ℕ) → i < length xs → v ≡ weighed (take i xs) → code ≡ code_of (get_or xs i 0)
    → v * 2 + code ≡ weighed (take (i + 1) xs)
byte_adds v code xs i h e f =
    ap (λ k. k * 2 + code) e ∙ ap (λ k. weighed (take i xs) * 2 + k) f ∙ sym (weighed_more xs i h)

-- what a block weighs is small
pub byte_fits : (v code i : ℕ) → code < 256 → v + 255 ≤ 255 * 2 ^ i → v * 2 + code + 255 ≤ 255 * 2 ^ (i + 1)
byte_fits v code i h e =
    let power : 2 ^ (i + 1) ≡ 2 ^ i * 2 = pow-add 2 i 1 in
    let doubled : v * 2 + code + 255 ≤ 255 * (2 ^ i * 2) = omega (arith, h, e) in
    subst (λ k. v * 2 + code + 255 ≤ 255 * k) (sym power) doubled

pub block_fits : (v i : ℕ) → i ≤ 32 → v + 255 ≤ 255 * 2 ^ i → v < 2 ^ 40
block_fits v i h e =
    let power : 2 ^ i ≤ 2 ^ 32 = pow-le-pow_right (let two : 0 < 2 = omega arith in two) h in
    omega (arith, power, e)

pub nothing_alone : 0 ≡ weighed []
unfolding weighed
nothing_alone = refl

-- a sum stands before a block in 64 bits
pub sum_moved : (s k : ℕ) → s < 2 ^ 30 - 83 → k ≤ 32 → (s * 2 ^ k) % 2 ^ 64 ≡ s * 2 ^ k
sum_moved s k h few = shl_whole s 30 k 64 (omega (arith, h)) (omega (arith, few))

pub sum_fits : (s k : ℕ) → s < 2 ^ 30 - 83 → k ≤ 32 → s * 2 ^ k < 2 ^ 62
sum_fits s k h few =
    let room : 30 + k ≤ 62 = omega (arith, few) in
    let power : 2 ^ (30 + k) ≤ 2 ^ 62 = pow-le-pow_right (let two : 0 < 2 = omega arith in two) room in
    let moved : s * 2 ^ k < 2 ^ (30 + k) = shl_below s 30 k (omega (arith, h)) in
    omega (arith, power, moved)

pub line_weighs : (s p : ℕ) (xs ys : List ℕ)
    → (s * 2 ^ length (xs ++ ys) + weighed (xs ++ ys)) % p ≡ ((s * 2 ^ length xs + weighed xs) % p * 2 ^ length ys + weighed ys) % p
line_weighs s p xs ys =
    let power = ap (λ n. 2 ^ n) (length-append xs ys) ∙ pow-add 2 (length xs) (length ys) in
    let apart : s * (2 ^ length xs * 2 ^ length ys) + (weighed xs * 2 ^ length ys + weighed ys) ≡ (s * 2 ^ length xs + weighed xs) * 2 ^ length ys + weighed ys = omega arith in
    ap (λ k. (s * k + weighed (xs ++ ys)) % p) power
    ∙ ap (λ k. (s * (2 ^ length xs * 2 ^ length ys) + k) % p) (weighed-append xs ys)
    ∙ ap (λ k. k % p) apart
    ∙ reduced (s * 2 ^ length xs + weighed xs) (2 ^ length ys) (weighed ys) p

-- a block is the front of a line
pub block_weighs : (s v p : ℕ) (xs block rest : List ℕ) (k : ℕ) → block ≡ take k xs → rest ≡ drop k xs → v ≡ s * 2 ^ length block + weighed block
    → (s * 2 ^ length xs + weighed xs) % p ≡ (v % p * 2 ^ length rest + weighed rest) % p
block_weighs s v p xs block rest k e f g =
    let whole : xs ≡ block ++ rest = sym (ap (λ ys. ys ++ rest) e ∙ ap (λ ys. take k xs ++ ys) f ∙ take-append-drop k xs) in
    ap (λ ys. (s * 2 ^ length ys + weighed ys) % p) whole ∙ line_weighs s p block rest ∙ ap (λ k. (k % p * 2 ^ length rest + weighed rest) % p) (sym g)

pub nothing_weighs : (s p : ℕ) → s < p → (s * 2 ^ length {A = ℕ} [] + weighed []) % p ≡ s
unfolding weighed
nothing_weighs s p h = ap (λ k. k % p) (let same : s * 1 + 0 ≡ s = omega arith in same) ∙ mod-eq_of_lt h

-- ---- lines

pub covered_nothing : (bs : List ℕ) → bs ≡ [] → covered bs ≡ []
unfolding covered lines_of
covered_nothing bs e = rw e refl

pub line_ends : (bs : List ℕ) → prefix_len (λ b. not (b == 10)) bs < length bs
    → lines_of bs ≡ take (prefix_len (λ b. not (b == 10)) bs + 1) bs ∷ lines_of (drop (prefix_len (λ b. not (b == 10)) bs + 1) bs)
unfolding lines_of
line_ends [] h = absurd (omega arith)
line_ends (c ∷ cs) h = elim (cases_Bool (c == 10)) [
  | inl newline ↦ rw newline (ap (λ b. (b ∷ []) ∷ lines_of cs) (sym (eqb-true c 10 newline)))
  | inr other ↦
      let k = prefix_len (λ b. not (b == 10)) cs in
      let short : k < length cs = (let inside : 1 + k < suc (length cs) = rw other at h in omega arith) in
      let more : 1 + k + 1 ≡ suc (k + 1) = omega arith in
      rw (other, more) (ap (with_first c) (line_ends cs short))
]

pub last_line : (bs : List ℕ) → 0 < length bs → length bs ≤ prefix_len (λ b. not (b == 10)) bs → lines_of bs ≡ bs ∷ []
unfolding lines_of
last_line [] some h = absurd (omega arith)
last_line (c ∷ []) some h = elim (cases_Bool (c == 10)) [
  | inl newline ↦ absurd (let bad : 1 ≤ 0 = rw newline at h in omega arith)
  | inr other ↦ rw other refl
]
last_line (c ∷ d ∷ ds) some h = elim (cases_Bool (c == 10)) [
  | inl newline ↦ absurd (let bad : suc (length (d ∷ ds)) ≤ 0 = rw newline at h in omega arith)
  | inr other ↦
      let k = prefix_len (λ b. not (b == 10)) (d ∷ ds) in
      let short : length (d ∷ ds) ≤ k = (let inside : suc (length (d ∷ ds)) ≤ 1 + k = rw other at h in omega arith) in
      rw other (ap (with_first c) (last_line (d ∷ ds) (omega arith) short))
]

pub nil_from_length : (xs : List ℕ) → length xs ≡ 0 → xs ≡ []
nil_from_length [] e = refl
nil_from_length (x ∷ xs) e = absurd (omega arith)

-- ---- the whole

pub check_start : (bs : List ℕ) → check_of bs ≡ (0 * 2 ^ length (covered bs) + weighed (covered bs)) % (2 ^ 30 - 83)
unfolding check_of
check_start bs = ap (λ k. k % (2 ^ 30 - 83)) (let same : weighed (covered bs) ≡ 0 * 2 ^ length (covered bs) + weighed (covered bs) = omega arith in same)

-- ---- the table of codes

abbrev pub same_codes : List ℕ → ℕ → Bool
same_codes table zero = true
same_codes table (suc n) = (get_or table n 0 == code_of n) && same_codes table n

pub code_in : (table : List ℕ) (n b : ℕ) → same_codes table n ≡ true → b < n → get_or table b 0 ≡ code_of b
code_in table zero b e h = absurd (omega arith)
code_in table (suc n) b e h =
    let both = and_parts (get_or table n 0 == code_of n) (same_codes table n) e in
    elim (cases_eq b n) [
      | inl same ↦ rw same (eqb-true (get_or table n 0) (code_of n) both.0)
      | inr other ↦ code_in table n b both.1 (let less : b < n = omega arith in less)
    ]
