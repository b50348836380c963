use Rattle.std.proofs.Common.{◌≡◌, ◌<◌, ◌≤◌, ◌+◌, ◌-◌, ℕ, suc, List, [], ◌∷◌, ◌++◌, length, sum, take, drop, insert, remove, min, refl, sym, ap, ap₂, subst, ◌∙◌, arith, append_assoc}
use Rattle.std.specs.List.{flat_map, range_with_len}
use Rattle.std.proofs.lemmas.List.{length-append, length-take-le, take-append-drop, take_at, drop_at, nil_from_length}
use Rattle.std.proofs.lemmas.List.Edits.{length-insert}
use Rattle.std.proofs.lemmas.List.Sums.{sum_by-cons}
use Rattle.std.proofs.lemmas.Result.{err_from_is_err_and}
use Rattle.sgb_perms.specs.Private.Listed.{placed, copies_from, rows_from}
use Rattle.sgb_perms.specs.Private.Rows.{Lists, with_rows}
use Rattle.sgb_perms.proofs.Runs.{RefusesRows, run_start, run_some, run_refused, run_end, run_width}
use Rattle.sgb_perms.proofs.listing.+list_rows.Goals as goal

-- no copies are left: the next kind follows, or the row is whole
next_kind : (n k x : ℕ) (others rest : List ℕ) (right left long : ℕ) (row : List ℕ) → n ≡ 0 → others ≡ x ∷ rest → long ≡ length row → copies_from x (k + 1) (rows_from (k + 1 + 1) rest) long left row ≡ copies_from n k (rows_from (k + 1) others) right left row
unfolding copies_from rows_from
next_kind n k x others rest right left long row none are is =
    ap (λ m. copies_from x (k + 1) (rows_from (k + 1 + 1) rest) m left row) is
    ∙ (ap (λ os. rows_from (k + 1) os left row) (sym are)
    ∙ ap (λ m. copies_from m k (rows_from (k + 1) others) right left row) (sym none))

last_kind : (n k : ℕ) (others : List ℕ) (right left : ℕ) (whole row : List ℕ) → n ≡ 0 → others ≡ [] → whole ≡ row → whole ∷ [] ≡ copies_from n k (rows_from (k + 1) others) right left row
unfolding copies_from rows_from
last_kind n k others right left whole row none are is =
    ap (λ r. r ∷ []) is
    ∙ (ap (λ os. rows_from (k + 1) os left row) (sym are)
    ∙ ap (λ m. copies_from m k (rows_from (k + 1) others) right left row) (sym none))

-- one copy goes in
one_copy : (n k : ℕ) (others : List ℕ) (right left : ℕ) (row : List ℕ) → 0 < n → flat_map (λ x. copies_from (n - 1) k (rows_from (k + 1) others) x (left - x) (placed row k x)) (range_with_len 0 (min right left + 1)) ≡ copies_from n k (rows_from (k + 1) others) right left row
unfolding copies_from
one_copy n k others right left row some =
    let whole : n ≡ suc (n - 1) = omega arith in
    ap (λ m. copies_from m k (rows_from (k + 1) others) right left row) (sym whole)

-- and comes out again
taken_out : (row : List ℕ) (i k : ℕ) → i ≤ length row → remove (insert row i k) i ≡ row
taken_out row i k le =
    let p = take i row in
    let q = drop i row in
    let long : length p ≡ i = length-take-le i row le in
    let next : length (p ++ k ∷ []) ≡ suc i = length-append p (k ∷ []) ∙ omega arith in
    ap₂ (λ xs ys. xs ++ ys) (take_at p (k ∷ q) i long)
    (ap (drop (suc i)) (sym (append_assoc p (k ∷ []) q)) ∙ drop_at (p ++ k ∷ []) q (suc i) next)
    ∙ take-append-drop i row

pub list_rows-requires : goal.list_rows-requires
list_rows-requires t c =
    let cases = c.in-Some.ensures.cases in
    let long = ap length cases.0 in
    let sums : sum c.args.others.now ≡ c.in-Some.next.now + sum c.in-Some.others.now =
    ap sum cases.0 ∙ sum_by-cons (λ x. x) c.in-Some.next.now c.in-Some.others.now in (
      omega (arith, long, sums),
      (
        omega (arith, long, c.requires.kinds),
        (
          omega (arith, c.len.ensures, c.args.row.now.ok.0),
          (omega (arith, sums, c.requires.width), c.requires.narrow),
        ),
      ),
    )

pub returns-in-Some-clause-rows : goal.returns-in-Some-clause-rows
returns-in-Some-clause-rows t c =
    subst (λ rs. Lists {T = Unit {0}} c.args.rows.now c.list_rows.new.rows rs c.list_rows.result)
    (next_kind c.args.copies c.args.kind c.in-Some.next.now c.args.others.now c.in-Some.others.now c.args.right c.args.left c.len.result c.args.row.now.items
    c.if-copies-eq0.true c.in-Some.ensures.cases.0 (c.len.ensures ∙ c.args.row.now.ok.0))
    c.list_rows.ensures.rows

pub returns-in-None-clause-rows : goal.returns-in-None-clause-rows
returns-in-None-clause-rows t c =
    subst (λ rs. Lists {T = Unit {0}} c.args.rows.now c.push.new.self rs c.push.result)
    (last_kind c.args.copies c.args.kind c.args.others.now c.args.right c.args.left c.deref.result.now c.args.row.now.items
    c.if-copies-eq0.true (nil_from_length c.args.others.now c.in-None.ensures.cases) c.deref.ensures.value)
    c.push.ensures

pub loop-x-init : goal.loop-x-init
loop-x-init t c =
    record {
      rows = run_start c.args.rows.now
          (λ x. copies_from (c.args.copies - 1) c.args.kind (rows_from (c.args.kind + 1) c.args.others.now) x (c.args.left - x) (placed c.args.row.now.items c.args.kind x))
          (min c.args.right c.args.left + 1);
      row = refl;
    }

pub overflow_sub-place : goal.overflow_sub-place
overflow_sub-place t c =
    omega (arith, c.requires.right, ap length c.loop-x.invariant.row, c.len-in-loop-x.ensures, c.loop-x.row.ok.0, c.min-x-end.ensures)

-- the row with the copy in it
inserted_is : (row0 row after : List ℕ) (n x k : ℕ) → row ≡ row0 → n ≡ length row → after ≡ insert row (n - x) k → after ≡ placed row0 k x
inserted_is row0 row after n x k same long put = put ∙ ap₂ (λ r m. insert r (m - x) k) same (long ∙ ap length same)

pub list_rows-requires-in-loop-x : goal.list_rows-requires-in-loop-x
list_rows-requires-in-loop-x t c =
    let row = c.args.row.now.items in
    let entered = inserted_is row c.loop-x.row.items c.insert.new.self.items c.len-in-loop-x.result c.loop-x.x c.args.kind c.loop-x.invariant.row (c.len-in-loop-x.ensures ∙ c.loop-x.row.ok.0) c.in_ok-insert.ensures.items in
    let long : length c.insert.new.self.items ≡ length row + 1 = ap length entered ∙ length-insert row (length row - c.loop-x.x) c.args.kind (omega arith) in
    let wide = run_width c.loop-x.invariant.rows in
    let some : 0 < c.args.copies = omega (arith, c.if-copies-eq0.false) in (
      omega (arith, some),
      (
        c.requires.kinds,
        (
          omega (arith, long, c.requires.right, c.min-x-end.ensures),
          (
            omega (arith, long, wide, some, c.requires.width),
            omega (arith, wide, c.requires.narrow),
          ),
        ),
      ),
    )

pub returns-in_err-list_rows-clause-rows : goal.returns-in_err-list_rows-clause-rows
returns-in_err-list_rows-clause-rows t c =
    let p = err_from_is_err_and c.from_residual-in_err-list_rows.result c.from_residual-in_err-list_rows.ensures.1 in
    let row = c.args.row.now.items in
    let e = c.in_err-list_rows.field-0.0 in
    let f : ℕ → List (List ℕ) = λ x. copies_from (c.args.copies - 1) c.args.kind (rows_from (c.args.kind + 1) c.args.others.now) x (c.args.left - x) (placed row c.args.kind x) in
    let entered = inserted_is row c.loop-x.row.items c.insert.new.self.items c.len-in-loop-x.result c.loop-x.x c.args.kind c.loop-x.invariant.row (c.len-in-loop-x.ensures ∙ c.loop-x.row.ok.0) c.in_ok-insert.ensures.items in
    let refused : RefusesRows c.loop-x.rows (f c.loop-x.x) e =
    subst (λ r. RefusesRows c.loop-x.rows (copies_from (c.args.copies - 1) c.args.kind (rows_from (c.args.kind + 1) c.args.others.now) c.loop-x.x (c.args.left - c.loop-x.x) r) e) entered c.in_err-list_rows.ensures.rows in
    rw (p.1, p.2)
    (subst (λ rs. RefusesRows c.args.rows.now rs e)
    (one_copy c.args.copies c.args.kind c.args.others.now c.args.right c.args.left row (omega (arith, c.if-copies-eq0.false)))
    (run_refused {f = f} (omega (arith, c.min-x-end.ensures)) c.loop-x.invariant.rows refused))

pub loop-x-preserved : goal.loop-x-preserved
loop-x-preserved t c =
    let row = c.args.row.now.items in
    let f : ℕ → List (List ℕ) = λ x. copies_from (c.args.copies - 1) c.args.kind (rows_from (c.args.kind + 1) c.args.others.now) x (c.args.left - x) (placed row c.args.kind x) in
    let place = c.len-in-loop-x.result - c.loop-x.x in
    let entered = inserted_is row c.loop-x.row.items c.insert.new.self.items c.len-in-loop-x.result c.loop-x.x c.args.kind c.loop-x.invariant.row (c.len-in-loop-x.ensures ∙ c.loop-x.row.ok.0) c.in_ok-insert.ensures.items in
    record {
      rows = run_some {f = f} (omega (arith, c.min-x-end.ensures)) c.loop-x.invariant.rows
          (c.in_ok-list_rows.ensures.rows
          ∙ ap (λ r. with_rows c.loop-x.rows (copies_from (c.args.copies - 1) c.args.kind (rows_from (c.args.kind + 1) c.args.others.now) c.loop-x.x (c.args.left - c.loop-x.x) r)) entered);
      row =
          c.remove.ensures.items
          ∙ (ap (λ r. remove r place) (c.in_ok-list_rows.ensures.row ∙ c.in_ok-insert.ensures.items)
          ∙ (taken_out c.loop-x.row.items place c.args.kind (omega (arith, c.len-in-loop-x.ensures, c.loop-x.row.ok.0))
          ∙ c.loop-x.invariant.row));
    }

pub returns-clause-rows : goal.returns-clause-rows
returns-clause-rows t c =
    run_end (omega (arith, c.min-x-end.ensures)) c.loop-x.invariant.rows
    ∙ ap (with_rows c.args.rows.now)
    (one_copy c.args.copies c.args.kind c.args.others.now c.args.right c.args.left c.args.row.now.items (omega (arith, c.if-copies-eq0.false)))
