-- Items read one by one.
use Rattle.std.proofs.Common.{◌≡◌, ℕ, suc, ◌+◌, ◌-◌, ◌<◌, ◌≤◌, List, [], ◌∷◌, ◌++◌, take, drop, length, get_or, replicate, Option, Some, None, refl, sym, ap, ◌∙◌, arith, set, inl, inr, Result, Ok, Err, false}
use Rattle.std.specs.Result.{is_err, OnOk}
use Rattle.std.proofs.lemmas.Bool.{true≢false}
use Rattle.std.proofs.Math.Seq.{drop-cons, take-suc-set}
use Rattle.std.proofs.lemmas.List.{append-nil, drop_all, take_all}
use Rattle.sgb_grammar.specs.declared.fault.Fault.{Fault}
use Rattle.sgb_grammar.specs.Reading.{behind, each_at, Fails}
use Rattle.sgb_grammar.proofs.QuotedRuns.{behind_both}

pub each_some : {A B : Type 0} (item : A → List ℕ → Option (B × List ℕ)) (k : A) (ks : List A) (bs rest : List ℕ) (x : B) → item k bs ≡ Some (x, rest) → each_at item (k ∷ ks) bs ≡ behind (x ∷ []) (each_at item ks rest)
unfolding each_at
each_some item k ks bs rest x e = rw e refl

each_none : {A B : Type 0} (item : A → List ℕ → Option (B × List ℕ)) (k : A) (ks : List A) (bs : List ℕ) → item k bs ≡ None → each_at item (k ∷ ks) bs ≡ None
unfolding each_at
each_none item k ks bs e = rw e refl

each_end : {A B : Type 0} (item : A → List ℕ → Option (B × List ℕ)) (bs : List ℕ) (xs : List B) → behind xs (each_at item [] bs) ≡ Some (xs, bs)
unfolding each_at
each_end item bs xs = ap (λ ys. Some (ys, bs)) (append-nil xs)

-- ---- items of one kind

left_over : (n i : ℕ) → i < n → n - i ≡ suc (n - (i + 1))
left_over n i h = omega arith

pub each_more : {A B : Type 0} (item : A → List ℕ → Option (B × List ℕ)) (k : A) (n i : ℕ) (bs rest : List ℕ) (xs : List B) (x : B) → i < n → item k bs ≡ Some (x, rest)
    → behind xs (each_at item (replicate (n - i) k) bs) ≡ behind (xs ++ (x ∷ [])) (each_at item (replicate (n - (i + 1)) k) rest)
each_more item k n i bs rest xs x h e =
    ap (λ j. behind xs (each_at item (replicate j k) bs)) (left_over n i h)
    ∙ ap (behind xs) (each_some item k (replicate (n - (i + 1)) k) bs rest x e)
    ∙ behind_both xs (x ∷ []) (each_at item (replicate (n - (i + 1)) k) rest)

pub each_stops : {A B : Type 0} (item : A → List ℕ → Option (B × List ℕ)) (k : A) (n i : ℕ) (bs : List ℕ) (xs : List B) → i < n → item k bs ≡ None
    → behind xs (each_at item (replicate (n - i) k) bs) ≡ None
each_stops item k n i bs xs h e =
    ap (λ j. behind xs (each_at item (replicate j k) bs)) (left_over n i h)
    ∙ ap (behind xs) (each_none item k (replicate (n - (i + 1)) k) bs e)

pub each_all : {A B : Type 0} (item : A → List ℕ → Option (B × List ℕ)) (k : A) (n i : ℕ) (bs : List ℕ) (xs : List B) → n ≤ i
    → behind xs (each_at item (replicate (n - i) k) bs) ≡ Some (xs, bs)
each_all item k n i bs xs h =
    let none : n - i ≡ 0 = omega arith in
    ap (λ j. behind xs (each_at item (replicate j k) bs)) none ∙ each_end item bs xs

-- ---- items of the kinds of a list, each put at its place

rest_of_kinds : {A : Type 0} (ks : List A) (i : ℕ) (d : A) → i < length ks → drop i ks ≡ get_or ks i d ∷ drop (i + 1) ks
rest_of_kinds ks i d h = let more : i + 1 ≡ suc i = omega arith in rw more (drop-cons ks i d h)

one_put : {B : Type 0} (ys : List B) (i : ℕ) (y : B) → i < length ys → take (i + 1) (set ys i y) ≡ take i ys ++ (y ∷ [])
one_put ys i y h = let more : i + 1 ≡ suc i = omega arith in rw more (take-suc-set ys i y h)

pub kind_more : {A B : Type 0} (item : A → List ℕ → Option (B × List ℕ)) (ks : List A) (d : A) (i : ℕ) (bs rest : List ℕ) (ys : List B) (y : B) → i < length ks → i < length ys → item (get_or ks i d) bs ≡ Some (y, rest)
    → behind (take i ys) (each_at item (drop i ks) bs) ≡ behind (take (i + 1) (set ys i y)) (each_at item (drop (i + 1) ks) rest)
kind_more item ks d i bs rest ys y h l e =
    let others = each_at item (drop (i + 1) ks) rest in
    ap (λ js. behind (take i ys) (each_at item js bs)) (rest_of_kinds ks i d h)
    ∙ ap (behind (take i ys)) (each_some item (get_or ks i d) (drop (i + 1) ks) bs rest y e)
    ∙ behind_both (take i ys) (y ∷ []) others
    ∙ ap (λ zs. behind zs others) (sym (one_put ys i y l))

pub kind_stops : {A B : Type 0} (item : A → List ℕ → Option (B × List ℕ)) (ks : List A) (d : A) (i : ℕ) (bs : List ℕ) (xs : List B) → i < length ks → item (get_or ks i d) bs ≡ None
    → behind xs (each_at item (drop i ks) bs) ≡ None
kind_stops item ks d i bs xs h e =
    ap (λ js. behind xs (each_at item js bs)) (rest_of_kinds ks i d h)
    ∙ ap (behind xs) (each_none item (get_or ks i d) (drop (i + 1) ks) bs e)

pub kind_all : {A B : Type 0} (item : A → List ℕ → Option (B × List ℕ)) (ks : List A) (i : ℕ) (bs : List ℕ) (ys : List B) → length ks ≤ i → length ys ≤ i
    → behind (take i ys) (each_at item (drop i ks) bs) ≡ Some (ys, bs)
kind_all item ks i bs ys h l =
    ap (λ js. behind (take i ys) (each_at item js bs)) (drop_all i ks h)
    ∙ ap (λ zs. behind zs (each_at item [] bs)) (take_all i ys l)
    ∙ each_end item bs ys

-- ---- a fault of a part is one of the whole

pub fails_along : {A B : Type 0} (e : Fault) (part : Option A) (whole : Option B) → Fails e part → (part ≡ None → whole ≡ None) → Fails e whole
fails_along e part whole (inl room) f = inl room
fails_along e part whole (inr fault) f = inr (fault.0, f fault.1)

pub when_ok : {T E : Type 0} (r : Result T E) (P : Type 0) → is_err r ≡ false → OnOk r P → P
when_ok (Ok x) P e h = h
when_ok (Err y) P e h = absurd (true≢false e)
