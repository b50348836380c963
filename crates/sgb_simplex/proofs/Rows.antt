-- Lemmas on rows of counts.
use Rattle.std.proofs.Common.{Vec, inl, inr, ◌≡◌, ◌<◌, ◌≤◌, ◌+◌, ◌-◌, ℕ, zero, suc, List, [], ◌∷◌, ◌++◌, length, get_or, set, drop, min, replicate, sym, ap, subst, ◌∙◌, arith}
use Rattle.std.specs.List.{slice_index}
use Rattle.std.specs.declared.alloc.Global.{Global}
use Rattle.std.proofs.lemmas.Bool.{cases_lt}
use Rattle.std.proofs.lemmas.List.{get_or_append_left, get_or_push, get_or_read, length-set, length-replicate, get_or-set_same, get_or-set_other, get_or-replicate, drop_more}
use Rattle.sgb_simplex.specs.Private.Counts.{counted, counted_below, IsRow, IsTable}
use Rattle.sgb_simplex.proofs.Simplices.{below_none, below_nil, below_more, counted_cons}

pub row_none : (n : ℕ) (items : List ℕ) → items ≡ replicate (n + 2) 1 → IsRow [] n (set items 0 0)
row_none n items is = record { long = long; at = at } where
  size : length items ≡ n + 2
  size = ap length is ∙ length-replicate (n + 2) 1

  long : length (set items 0 0) ≡ n + 2
  long = length-set items 0 0 ∙ size

  at : (s : ℕ) → s < n + 2 → slice_index (set items 0 0) s ≡ counted_below [] s
  at zero less = get_or-set_same items 0 0 0 (omega (arith, size)) ∙ sym (below_none [])
  at (suc s) less =
      get_or-set_other items 0 (suc s) 0 0 (λ same. omega (arith, same))
      ∙ (ap (λ l. get_or l (suc s) 0) is ∙ (get_or-replicate (n + 2) (suc s) 1 0 less ∙ sym (below_nil (suc s) (omega arith))))

-- the counts of one coordinate more, from two numbers of a row
pub record RowStep (bounds : List ℕ) (place s : ℕ) (high low : ℕ) : Type 0 where
  pub ordered : low ≤ high
  pub more : counted_below (drop place bounds) (s + 1) ≡ counted_below (drop place bounds) s + min (high - low) 65536

pub row_step : (bounds : List ℕ) (place n s m : ℕ) (row : List ℕ) → place < length bounds → m ≡ min s (slice_index bounds place) → IsRow (drop (place + 1) bounds) n row → s ≤ n → RowStep bounds place s (slice_index row (s + 1)) (slice_index row (s - m))
row_step bounds place n s m row inside is known less =
    let b : ℕ = slice_index bounds place in
    let rest : List ℕ = drop (place + 1) bounds in
    let cut : drop place bounds ≡ b ∷ rest = drop_more bounds place 0 inside in
    let high : slice_index row (s + 1) ≡ counted_below rest (s + 1) = known.at (s + 1) (omega (arith, less)) in
    let low : slice_index row (s - m) ≡ counted_below rest (s - m) = known.at (s - m) (omega (arith, less)) in
    let step = counted_cons s b rest (s - m) (omega (arith, is)) in
    let same : counted (drop place bounds) s ≡ counted (b ∷ rest) s = ap (λ bs. counted bs s) cut in
    record {
      ordered = omega (arith, high, low, step.0);
      more = omega (arith, below_more (drop place bounds) s, same, step.1, high, low);
    }

-- a value is written behind those that are known
pub first_pushed : (f : ℕ → ℕ) (old new : List ℕ) (x : ℕ) → new ≡ old ++ x ∷ [] → old ≡ [] → x ≡ f 0 → (k : ℕ) → k ≤ 0 → slice_index new k ≡ f k
first_pushed f old new x is none value zero less = ap (λ l. get_or l 0 0) (is ∙ ap (λ l. l ++ x ∷ []) none) ∙ value
first_pushed f old new x is none value (suc k) less = absurd (omega (arith, less))

pub pushed : (f : ℕ → ℕ) (old new : List ℕ) (x s : ℕ) → new ≡ old ++ x ∷ [] → length old ≡ s + 1 → ((k : ℕ) → k ≤ s → slice_index old k ≡ f k) → x ≡ f (s + 1) → (k : ℕ) → k ≤ s + 1 → slice_index new k ≡ f k
pushed f old new x s is long at value k less =
    ap (λ l. get_or l k 0) is
    ∙ (elim (cases_lt k (s + 1)) [
      | inl before ↦ get_or_append_left old (x ∷ []) 0 k (omega (arith, before, long)) ∙ at k (omega (arith, before))
      | inr after ↦
          let last : k ≡ s + 1 = omega (arith, after, less) in
          get_or_push old x 0 k (long ∙ sym last) ∙ (value ∙ ap f (sym last))
    ])

-- ---- the rows of a table
pub row_at : {bounds : List ℕ} {total : ℕ} {rows : List (Vec ℕ Global)} → IsTable bounds total rows → (k place : ℕ) (row : Vec ℕ Global) → place + k ≡ length bounds → row ≡ get_or rows k row → IsRow (drop place bounds) total row.items
row_at {bounds} {total} {rows} table k place row all is =
    let there : k < length rows = omega (arith, table.long, all) in
    let same : length bounds - k ≡ place = omega (arith, all) in
    subst (λ p. IsRow (drop p bounds) total row.items) same
    (subst (λ (v : Vec ℕ Global). IsRow (drop (length bounds - k) bounds) total v.items) (sym is) (table.at k row there))

pub read_count : {bounds row : List ℕ} {total : ℕ} → IsRow bounds total row → (s x : ℕ) → s < total + 2 → x ≡ get_or row s x → x ≡ counted_below bounds s
read_count {bounds} {row} {total} known s x less is = get_or_read row s x (omega (arith, less, known.long)) is 0 ∙ known.at s less
