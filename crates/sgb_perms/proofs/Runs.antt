-- Runs of rows: what is left of one while a loop lists it, with the rows of each number below n.
use Rattle.std.proofs.Common.{◌≡◌, ◌<◌, ◌≤◌, ◌+◌, ◌-◌, ℕ, suc, List, [], ◌++◌, length, ◌⊎◌, inl, inr, sym, ap, ◌∙◌, arith, append_assoc}
use Rattle.std.specs.List.{flat_map, range_with_len}
use Rattle.std.proofs.lemmas.List.{append-nil, length-append}
use Rattle.sgb_graph.specs.declared.refusal.Refusal.{Refusal}
use Rattle.sgb_graph.specs.declared.refusal.Refusal.TheVariants.{NoRoom, TooLarge}
use Rattle.sgb_perms.specs.Private.Rows.{RowsOf, with_rows}

-- what `Lists` says of an `Err`
abbrev pub RefusesRows : RowsOf → List (List ℕ) → Refusal → Type 0
RefusesRows a more e = (e ≡ NoRoom) ⊎ ((e ≡ TooLarge) × (65535 < length a.rows + length more))

abbrev pub rows_of_all : (ℕ → List (List ℕ)) → ℕ → ℕ → List (List ℕ)
rows_of_all f i n = flat_map f (range_with_len i (n - i))

-- `a` was to list those of all numbers below n; `b` lists those below i
pub record RowsFrom (a b : RowsOf) (f : ℕ → List (List ℕ)) (i n : ℕ) : Type 0 where
  pub same : with_rows b (rows_of_all f i n) ≡ with_rows a (flat_map f (range_with_len 0 n))

with_rows-append : (b : RowsOf) (xs ys : List (List ℕ)) → with_rows b (xs ++ ys) ≡ with_rows (with_rows b xs) ys
with_rows-append b xs ys = ap (λ rs. record b { rows = rs }) (sym (append_assoc b.rows xs ys))

with_rows-nil : (b : RowsOf) → with_rows b [] ≡ b
with_rows-nil b = ap (λ rs. record b { rows = rs }) (append-nil b.rows)

all-cons : (f : ℕ → List (List ℕ)) (i n : ℕ) → i < n → rows_of_all f i n ≡ f i ++ rows_of_all f (i + 1) n
all-cons f i n less =
    let more : n - i ≡ suc (n - (i + 1)) = omega arith in
    ap (λ k. flat_map f (range_with_len i k)) more

pub run_start : (a : RowsOf) (f : ℕ → List (List ℕ)) (n : ℕ) → RowsFrom a a f 0 n
run_start a f n =
    let all : n - 0 ≡ n = omega arith in
    record { same = ap (λ k. with_rows a (flat_map f (range_with_len 0 k))) all }

pub run_some : {a b c : RowsOf} {f : ℕ → List (List ℕ)} {i n : ℕ} → i < n → RowsFrom a b f i n → c ≡ with_rows b (f i) → RowsFrom a c f (i + 1) n
run_some {a} {b} {c} {f} {i} {n} less run is =
    record {
      same =
          ap (λ d. with_rows d (rows_of_all f (i + 1) n)) is
          ∙ (sym (with_rows-append b (f i) (rows_of_all f (i + 1) n))
          ∙ (ap (with_rows b) (sym (all-cons f i n less)) ∙ run.same));
    }

pub run_refused : {a b : RowsOf} {f : ℕ → List (List ℕ)} {i n : ℕ} {e : Refusal} → i < n → RowsFrom a b f i n → RefusesRows b (f i) e → RefusesRows a (flat_map f (range_with_len 0 n)) e
run_refused less run (inl room) = inl room
run_refused {a} {b} {f} {i} {n} less run (inr many) =
    let left = rows_of_all f i n in
    let one = length-append b.rows left in
    let all = length-append a.rows (flat_map f (range_with_len 0 n)) in
    let same = ap (λ (d : RowsOf). length d.rows) run.same in
    let first = ap length (all-cons f i n less) ∙ length-append (f i) (rows_of_all f (i + 1) n) in
    inr (many.0, omega (arith, many.1, one, all, same, first))

pub run_end : {a b : RowsOf} {f : ℕ → List (List ℕ)} {i n : ℕ} → n ≤ i → RowsFrom a b f i n → b ≡ with_rows a (flat_map f (range_with_len 0 n))
run_end {a} {b} {f} {i} {n} past run =
    let none : n - i ≡ 0 = omega arith in
    sym (with_rows-nil b) ∙ (sym (ap (λ k. with_rows b (flat_map f (range_with_len i k))) none) ∙ run.same)

pub run_width : {a b : RowsOf} {f : ℕ → List (List ℕ)} {i n : ℕ} → RowsFrom a b f i n → b.width ≡ a.width
run_width run = ap (λ (d : RowsOf). d.width) run.same
