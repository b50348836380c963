-- Lemmas on the digits of small counts.
use Rattle.std.proofs.Common.{◌≡◌, ◌<◌, ◌≤◌, ◌+◌, ◌/◌, ◌%◌, ℕ, List, Result, Ok, Err, is_ok, OnOk, if◌then◌else◌, [], ◌∷◌, ◌++◌, decimal, sym, ap, ap₂, ◌∙◌, arith}
use Rattle.std.proofs.lemmas.Fmt.{decimal_digit}
use Rattle.itoa.proofs.Decimal.{decimal_two, decimal_pair}

pub one_digit : (n : ℕ) → n < 10 → (48 + n % 10) ∷ [] ≡ decimal n
one_digit n low = let is : n % 10 ≡ n = omega arith in ap (λ d. (48 + d) ∷ []) is ∙ sym (decimal_digit n low)

pub two_digits : (n : ℕ) → 10 ≤ n → n < 100 → (48 + n / 10 % 10) ∷ (48 + n % 10) ∷ [] ≡ decimal n
two_digits n high low =
    let is : n / 10 % 10 ≡ n / 10 = omega arith in
    ap (λ d. (48 + d) ∷ (48 + n % 10) ∷ []) is ∙ sym (decimal_two n high low)

-- the last two digits stand behind the others
behind_pair : (n : ℕ) → 100 ≤ n → n < 100000 → (front : List ℕ) → front ≡ decimal (n / 100) → front ++ (48 + n / 10 % 10) ∷ (48 + n % 10) ∷ [] ≡ decimal n
behind_pair n high low front is =
    let tens : n / 10 % 10 ≡ n % 100 / 10 = omega arith in
    let ones : n % 10 ≡ n % 100 % 10 = omega arith in
    ap₂ (λ t o. front ++ (48 + t) ∷ (48 + o) ∷ []) tens ones
    ∙ ap (λ ds. ds ++ (48 + n % 100 / 10) ∷ (48 + n % 100 % 10) ∷ []) is
    ∙ sym (decimal_pair n high (omega arith))

pub three_digits : (n : ℕ) → 100 ≤ n → n < 1000 → (48 + n / 100 % 10) ∷ (48 + n / 10 % 10) ∷ (48 + n % 10) ∷ [] ≡ decimal n
three_digits n high low = behind_pair n high (omega arith) ((48 + n / 100 % 10) ∷ []) (one_digit (n / 100) (omega arith))

pub four_digits : (n : ℕ) → 1000 ≤ n → n < 10000 → (48 + n / 1000 % 10) ∷ (48 + n / 100 % 10) ∷ (48 + n / 10 % 10) ∷ (48 + n % 10) ∷ [] ≡ decimal n
four_digits n high low =
    let thousands : n / 1000 % 10 ≡ n / 100 / 10 % 10 = omega arith in
    behind_pair n (omega arith) (omega arith) ((48 + n / 1000 % 10) ∷ (48 + n / 100 % 10) ∷ [])
    (ap (λ t. (48 + t) ∷ (48 + n / 100 % 10) ∷ []) thousands ∙ two_digits (n / 100) (omega arith) (omega arith))

pub five_digits : (n : ℕ) → 10000 ≤ n → n < 100000 → (48 + n / 10000) ∷ (48 + n / 1000 % 10) ∷ (48 + n / 100 % 10) ∷ (48 + n / 10 % 10) ∷ (48 + n % 10) ∷ [] ≡ decimal n
five_digits n high low =
    let front : n / 10000 ≡ n / 100 / 100 % 10 = omega arith in
    let thousands : n / 1000 % 10 ≡ n / 100 / 10 % 10 = omega arith in
    behind_pair n (omega arith) (omega arith) ((48 + n / 10000) ∷ (48 + n / 1000 % 10) ∷ (48 + n / 100 % 10) ∷ [])
    (ap₂ (λ f t. (48 + f) ∷ (48 + t) ∷ (48 + n / 100 % 10) ∷ []) front thousands ∙ three_digits (n / 100) (omega arith) (omega arith))

-- what is written where there is room
pub wrote : {T E : Type 0} (r : Result T E) (new old ds es : List ℕ) → new ≡ (if is_ok r then old ++ ds else old) → ds ≡ es → OnOk r (new ≡ old ++ es)
wrote (Ok x) new old ds es is same = is ∙ ap (λ xs. old ++ xs) same
wrote (Err e) new old ds es is same = tt
