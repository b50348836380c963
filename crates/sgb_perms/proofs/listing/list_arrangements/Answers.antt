use Rattle.std.proofs.Common.{◌≡◌, ◌<◌, ◌+◌, ◌-◌, ℕ, zero, suc, List, [], ◌∷◌, ◌++◌, length, get_or, take, drop, sum, replicate, vec_len, ◌⊎◌, inl, inr, refl, ap, ap₂, sym, subst, ◌∙◌, arith}
use Rattle.std.proofs.lemmas.List.{length-replicate, length-drop, take_rest}
use Rattle.std.proofs.lemmas.List.Sums.{sum_by-cons}
use Rattle.sgb_graph.specs.declared.refusal.Refusal.{Refusal}
use Rattle.sgb_graph.specs.declared.refusal.Refusal.TheVariants.{NoRoom, TooLarge}
use Rattle.std.proofs.lemmas.Result.{err_from_is_err_and}
use Rattle.sgb_perms.specs.Arrangement.{arrangements}
use Rattle.sgb_perms.specs.Private.Listed.{copies_from, rows_from}
use Rattle.sgb_perms.specs.Private.Rows.{RowsOf, with_rows}
use Rattle.sgb_perms.proofs.Arrangements.{arrangements_are}
use Rattle.sgb_perms.proofs.Runs.{RefusesRows}
use Rattle.sgb_perms.proofs.listing.list_arrangements.Goals as goal

listed_are : (counts others row : List ℕ) (most : ℕ) → 0 < length counts → others ≡ drop 1 counts → row ≡ replicate (get_or counts 0 0) 0 → copies_from 0 0 (rows_from (0 + 1) others) 0 most row ≡ arrangements counts most
unfolding copies_from
listed_are [] others row most some are is = absurd (omega arith)
listed_are (zeros ∷ counts) others row most some are is =
    ap₂ (λ os r. rows_from 1 os most r) are is ∙ sym (arrangements_are zeros counts most)

front_of_none : (n : ℕ) → take {A = ℕ} n [] ++ replicate n 0 ≡ replicate n 0
front_of_none zero = refl
front_of_none (suc n) = refl

-- the row of kind 0 alone
filled : (n long : ℕ) (old after : List ℕ) → old ≡ [] → long ≡ 0 → after ≡ take n old ++ replicate (n - long) 0 → after ≡ replicate n 0
filled n long old after none zero_long is =
    let all : n - long ≡ n = omega arith in
    is ∙ (ap₂ (λ os m. take n os ++ replicate m 0) none all ∙ front_of_none n)

first_and_rest : (counts : List ℕ) → 0 < length counts → sum counts ≡ get_or counts 0 0 + sum (drop 1 counts)
first_and_rest [] some = absurd (omega arith)
first_and_rest (x ∷ counts) some = sum_by-cons (λ y. y) x counts

-- where no rows stand yet, those that are added are too many
refused_all : (a : RowsOf) (more : List (List ℕ)) (e : Refusal) → length a.rows ≡ 0 → RefusesRows a more e → (e ≡ NoRoom) ⊎ ((e ≡ TooLarge) × (65535 < length more))
refused_all a more e none (inl room) = inl room
refused_all a more e none (inr many) = inr (many.0, omega (arith, many.1))

pub list_rows-requires : goal.list_rows-requires
list_rows-requires c =
    let counts = c.args.counts.now in
    let row = filled (get_or counts 0 0) (vec_len c.in_ok-row.row) c.in_ok-row.row.items c.resize.new.self.items c.in_ok-row.ensures.items c.in_ok-row.ensures.len c.in_ok-resize.ensures.items in
    let long : length c.resize.new.self.items ≡ get_or counts 0 0 = ap length row ∙ length-replicate (get_or counts 0 0) 0 in
    let others : sum (take (length counts - 1) (drop 1 counts)) ≡ sum (drop 1 counts) = ap sum (take_rest counts 1) in
    let fewer : length (take (length counts - 1) (drop 1 counts)) ≡ length counts - 1 = ap length (take_rest counts 1) ∙ length-drop 1 counts in
    let all = first_and_rest counts c.requires.some in
    let wide : c.in_ok-rows.rows.width ≡ sum counts = ap (λ (r : RowsOf). r.width) c.in_ok-rows.ensures ∙ c.width_of-width.ensures in
    record {
      kinds = omega (arith, fewer, c.requires.kinds);
      right = omega arith;
      width = omega (arith, long, others, all, wide);
      narrow = omega (arith, wide, c.requires.elements);
    }

pub returns-in_err-list_rows-clause-err : goal.returns-in_err-list_rows-clause-err
returns-in_err-list_rows-clause-err c =
    let p = err_from_is_err_and c.from_residual-in_err-list_rows.result c.from_residual-in_err-list_rows.ensures.1 in
    let counts = c.args.counts.now in
    let row = filled (get_or counts 0 0) (vec_len c.in_ok-row.row) c.in_ok-row.row.items c.resize.new.self.items c.in_ok-row.ensures.items c.in_ok-row.ensures.len c.in_ok-resize.ensures.items in
    let are = listed_are counts (take (length counts - 1) (drop 1 counts)) c.resize.new.self.items c.args.most c.requires.some (take_rest counts 1) row in
    rw (p.1, p.2)
    (refused_all c.in_ok-rows.rows (arrangements counts c.args.most) c.in_err-list_rows.field-0.0 (ap (λ (r : RowsOf). length r.rows) c.in_ok-rows.ensures)
    (subst (λ rs. RefusesRows c.in_ok-rows.rows rs c.in_err-list_rows.field-0.0) are c.in_err-list_rows.ensures.rows))

pub returns-clause-ok : goal.returns-clause-ok
returns-clause-ok c =
    let counts = c.args.counts.now in
    let row = filled (get_or counts 0 0) (vec_len c.in_ok-row.row) c.in_ok-row.row.items c.resize.new.self.items c.in_ok-row.ensures.items c.in_ok-row.ensures.len c.in_ok-resize.ensures.items in
    let are = listed_are counts (take (length counts - 1) (drop 1 counts)) c.resize.new.self.items c.args.most c.requires.some (take_rest counts 1) row in
    c.in_ok-list_rows.ensures.rows
    ∙ (ap₂ with_rows c.in_ok-rows.ensures are
    ∙ ap (λ w. record { width = w; rows = arrangements counts c.args.most }) c.width_of-width.ensures)
