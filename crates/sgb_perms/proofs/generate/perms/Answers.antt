use Rattle.std.proofs.Common.{◌≡◌, ◌<◌, ◌≤◌, ℕ, List, [], ◌∷◌, length, map, take, replicate, true, false, All, Ok, Err, ◌⊎◌, inl, inr, refl, sym, ap, ap₂, subst, ◌∙◌, arith, unsigned_abs}
use Rattle.std.proofs.lemmas.List.{length-map}
use Rattle.std.proofs.lemmas.List.Elements.{All-weaker}
use Rattle.std.proofs.lemmas.Result.{err_from_is_err_and}
use Rattle.sgb_graph.specs.declared.builder.Builder.{Builder}
use Rattle.sgb_graph.specs.declared.refusal.Refusal.{Refusal}
use Rattle.sgb_graph.specs.declared.refusal.Refusal.TheVariants.{NoRoom, BadSpecs, TooLarge}
use Rattle.sgb_graph.specs.Graph.{IsGraph, n_of}
use Rattle.sgb_graph.specs.New.{bare_graph}
use Rattle.sgb_graph.specs.Builder.{grown}
use Rattle.sgb_graph.proofs.InsertionRuns.{RefusesInsertions}
use Rattle.sgb_plan.specs.Distinct.{Distinct}
use Rattle.sgb_plan.specs.Plan.{Plan, IsMade, with_named, MayAllocate}
use Rattle.sgb_plan.proofs.Plans.{begun, n-with_named, RefusesNames, made, refused_before, refused_names, refused_insertions, many_vertices}
use Rattle.sgb_perms.specs.declared.spec.PermsSpec.{PermsSpec}
use Rattle.sgb_perms.specs.Arrangement.{arrangements}
use Rattle.sgb_perms.specs.Perms.{counts_of, are_allowed, most_of, row_vertex, exchanges, perms_id, perms_plan, plan_of_perms}
use Rattle.sgb_perms.specs.Private.Rows.{RowsOf}
use Rattle.sgb_perms.specs.Private.Places.{IsClosed}
use Rattle.sgb_perms.proofs.Arrangements.{listed_is, arrangements_differ}
use Rattle.sgb_perms.proofs.Filters.{All-from_contains}
use Rattle.sgb_perms.proofs.Moves.{closed}
use Rattle.sgb_perms.proofs.generate.perms.Goals as goal

-- ---- the plan
not_planned : (s : PermsSpec) → are_allowed s.n0 s.max_inv (counts_of s) ≡ false → plan_of_perms s ≡ Err BadSpecs
unfolding plan_of_perms
not_planned s not_allowed = rw not_allowed refl

refused_early : (s : PermsSpec) (e : Refusal) → (e ≡ BadSpecs) × (are_allowed s.n0 s.max_inv (counts_of s) ≡ false) → IsMade (plan_of_perms s) (Err e)
refused_early s e bad =
    subst (λ plan. IsMade plan (Err e)) (sym (not_planned s bad.1))
    (subst (λ r. IsMade (Err BadSpecs) (Err r)) (sym bad.0) (refused_before BadSpecs))

-- what is known once the counts are there: they are those of the plan, and so is the greatest number of inversions
record Planned (s : PermsSpec) (counts : List ℕ) (most : ℕ) : Type 0 where
  counted : counts ≡ counts_of s
  allowed : are_allowed s.n0 s.max_inv counts ≡ true
  limit : most ≡ most_of counts (unsigned_abs s.max_inv)

planned : (s : PermsSpec) (counts : List ℕ) (most limit : ℕ) → counts ≡ counts_of s → are_allowed s.n0 s.max_inv (counts_of s) ≡ true → most ≡ most_of counts limit → limit ≡ unsigned_abs s.max_inv → Planned s counts most
planned s counts most limit are allowed is given = record {
  counted = are;
  allowed = ap (are_allowed s.n0 s.max_inv) are ∙ allowed;
  limit = is ∙ ap (most_of counts) given;
}

plan_with : PermsSpec → List ℕ → ℕ → Plan
plan_with s counts most = perms_plan s most (arrangements counts most)

is_planned : (s : PermsSpec) (counts : List ℕ) (most : ℕ) → Planned s counts most → plan_of_perms s ≡ Ok (plan_with s counts most)
unfolding plan_of_perms plan_with
is_planned s counts most p =
    let allowed : are_allowed s.n0 s.max_inv (counts_of s) ≡ true = ap (are_allowed s.n0 s.max_inv) (sym p.counted) ∙ p.allowed in
    let same : most_of (counts_of s) (unsigned_abs s.max_inv) ≡ most = ap (λ cs. most_of cs (unsigned_abs s.max_inv)) (sym p.counted) ∙ sym p.limit in
    rw allowed
    (ap₂ (λ cs m. Ok (perms_plan s m (arrangements cs m))) (sym p.counted) same)

-- ---- the builder
begins : (s : PermsSpec) (counts : List ℕ) (most : ℕ) (id types : List ℕ) (b : Builder) → b ≡ record { graph = bare_graph id types []; directed = s.directed } → id ≡ perms_id s most → types ≡ replicate 14 90 → b ≡ begun (plan_with s counts most)
unfolding plan_with perms_plan
begins s counts most id types b is named letters =
    is ∙ ap₂ (λ i t. record { graph = bare_graph i t []; directed = s.directed }) named letters

planned_vertices : (s : PermsSpec) (counts : List ℕ) (most : ℕ) (rows : List (List ℕ)) → rows ≡ arrangements counts most → map row_vertex rows ≡ (plan_with s counts most).vertices
unfolding plan_with perms_plan
planned_vertices s counts most rows are = ap (map row_vertex) are

planned_insertions : (s : PermsSpec) (counts : List ℕ) (most : ℕ) (rows : List (List ℕ)) → rows ≡ arrangements counts most → exchanges rows ≡ (plan_with s counts most).insertions
unfolding plan_with perms_plan
planned_insertions s counts most rows are = ap exchanges are

-- ---- what the rows are like
kinds_low : (counts : List ℕ) (most : ℕ) → length counts ≤ 16 → All (λ row. All (λ kind. kind < 16) row) (arrangements counts most)
kinds_low counts most few =
    All-from_contains (λ row. All (λ kind. kind < 16) row) (arrangements counts most)
    (λ row within.
    All-weaker (λ kind. kind < length counts) (λ kind. kind < 16) (λ kind low. omega arith) row
    (listed_is counts most row within).arrangement.kinds)

rows_closed : (counts : List ℕ) (most : ℕ) → 0 < length counts → IsClosed (arrangements counts most)
rows_closed [] most some = absurd (omega arith)
rows_closed (zeros ∷ counts) most some = closed zeros counts most

-- ---- the answers
may_want : (s : PermsSpec) (counts : List ℕ) (most count : ℕ) → Planned s counts most → (count ≡ length (arrangements counts most)) × (count ≤ 65535) → MayAllocate (plan_of_perms s)
may_want s counts most count p few =
    let long : length (plan_with s counts most).vertices ≡ length (arrangements counts most) =
    sym (ap length (planned_vertices s counts most (arrangements counts most) refl)) ∙ length-map (arrangements counts most) row_vertex in
    subst MayAllocate (sym (is_planned s counts most p)) (omega (arith, few.0, few.1, long))

too_many_rows : (s : PermsSpec) (counts : List ℕ) (most : ℕ) (e : Refusal) → Planned s counts most → (e ≡ NoRoom) ⊎ ((e ≡ TooLarge) × (65535 < length (arrangements counts most))) → IsMade (plan_of_perms s) (Err e)
too_many_rows s counts most e p (inl room) = inl room
too_many_rows s counts most e p (inr many) =
    let long : length (plan_with s counts most).vertices ≡ length (arrangements counts most) =
    sym (ap length (planned_vertices s counts most (arrangements counts most) refl)) ∙ length-map (arrangements counts most) row_vertex in
    subst (λ plan. IsMade plan (Err e)) (sym (is_planned s counts most p))
    (many_vertices (plan_with s counts most) many.0 (omega (arith, many.1, long)))

names_refused : (s : PermsSpec) (counts : List ℕ) (most : ℕ) (rows : List (List ℕ)) (b : Builder) (e : Refusal) → Planned s counts most → rows ≡ arrangements counts most → b ≡ begun (plan_with s counts most) → RefusesNames b (map row_vertex rows) e → IsMade (plan_of_perms s) (Err e)
names_refused s counts most rows b e p are begun_so refused =
    subst (λ plan. IsMade plan (Err e)) (sym (is_planned s counts most p))
    (refused_names (plan_with s counts most)
    (subst (λ vs. RefusesNames (begun (plan_with s counts most)) vs e) (planned_vertices s counts most rows are)
    (subst (λ x. RefusesNames x (map row_vertex rows) e) begun_so refused)))

exchanges_refused : (s : PermsSpec) (counts : List ℕ) (most : ℕ) (rows : List (List ℕ)) (b named : Builder) (e : Refusal) → Planned s counts most → rows ≡ arrangements counts most → b ≡ begun (plan_with s counts most) → named ≡ with_named b (map row_vertex rows) → RefusesInsertions named (exchanges rows) e → IsMade (plan_of_perms s) (Err e)
exchanges_refused s counts most rows b named e p are begun_so is refused =
    subst (λ plan. IsMade plan (Err e)) (sym (is_planned s counts most p))
    (refused_insertions (plan_with s counts most) (is ∙ ap₂ with_named begun_so (planned_vertices s counts most rows are))
    (subst (λ es. RefusesInsertions named es e) (planned_insertions s counts most rows are) refused))

all_made : (s : PermsSpec) (counts : List ℕ) (most : ℕ) (rows : List (List ℕ)) (b named last : Builder) → Planned s counts most → rows ≡ arrangements counts most → b ≡ begun (plan_with s counts most) → named ≡ with_named b (map row_vertex rows) → last ≡ grown named (exchanges rows) → IsGraph last.graph → IsMade (plan_of_perms s) (Ok last.graph)
all_made s counts most rows b named last p are begun_so is inserted sound =
    subst (λ plan. IsMade plan (Ok last.graph)) (sym (is_planned s counts most p))
    (made (plan_with s counts most) (is ∙ ap₂ with_named begun_so (planned_vertices s counts most rows are))
    (inserted ∙ ap (grown named) (planned_insertions s counts most rows are)) sound)

pub returns-in_err-kinds-clause-made : goal.returns-in_err-kinds-clause-made
returns-in_err-kinds-clause-made c =
    let p = err_from_is_err_and c.from_residual.result c.from_residual.ensures.1 in
    rw (p.1, p.2) (refused_early c.args.spec.now c.in_err-kinds.field-0.0 c.in_err-kinds.ensures.err)

pub returns-in_err-count-clause-made : goal.returns-in_err-count-clause-made
returns-in_err-count-clause-made c =
    let p = err_from_is_err_and c.from_residual-in_err-count.result c.from_residual-in_err-count.ensures.1 in
    let s = c.args.spec.now in
    let counts = take c.in_ok-kinds.kinds c.counts_of.new.places in
    let most = c.most_of-most.result in
    let known = planned s counts most c.limit_of.result c.in_ok-kinds.ensures.counts c.in_ok-kinds.ensures.allowed c.most_of-most.ensures.value c.limit_of.ensures in
    rw (p.1, p.2) (too_many_rows s counts most c.in_err-count.field-0.0 known (inr c.in_err-count.ensures.err))

pub returns-in_err-rows-clause-made : goal.returns-in_err-rows-clause-made
returns-in_err-rows-clause-made c =
    let p = err_from_is_err_and c.from_residual-in_err-rows.result c.from_residual-in_err-rows.ensures.1 in
    let s = c.args.spec.now in
    let counts = take c.in_ok-kinds.kinds c.counts_of.new.places in
    let most = c.most_of-most.result in
    let known = planned s counts most c.limit_of.result c.in_ok-kinds.ensures.counts c.in_ok-kinds.ensures.allowed c.most_of-most.ensures.value c.limit_of.ensures in
    rw (p.1, p.2) (too_many_rows s counts most c.in_err-rows.field-0.0 known c.in_err-rows.ensures.err)

pub name_vertices-requires : goal.name_vertices-requires
name_vertices-requires c =
    let counts = take c.in_ok-kinds.kinds c.counts_of.new.places in
    let few : length counts ≤ 16 = omega (arith, ap length c.in_ok-kinds.ensures.counts, c.in_ok-kinds.ensures.kinds) in
    subst (All (λ row. All (λ kind. kind < 16) row)) (sym (ap (λ (r : RowsOf). r.rows) c.in_ok-rows.ensures.ok)) (kinds_low counts c.most_of-most.result few)

pub returns-in_err-name_vertices-clause-made : goal.returns-in_err-name_vertices-clause-made
returns-in_err-name_vertices-clause-made c =
    let p = err_from_is_err_and c.from_residual-in_err-name_vertices.result c.from_residual-in_err-name_vertices.ensures.1 in
    let s = c.args.spec.now in
    let counts = take c.in_ok-kinds.kinds c.counts_of.new.places in
    let most = c.most_of-most.result in
    let known = planned s counts most c.limit_of.result c.in_ok-kinds.ensures.counts c.in_ok-kinds.ensures.allowed c.most_of-most.ensures.value c.limit_of.ensures in
    let rows = c.in_ok-rows.rows.rows in
    let are : rows ≡ arrangements counts most = ap (λ (r : RowsOf). r.rows) c.in_ok-rows.ensures.ok in
    let begun_so = begins s counts most c.in_ok-id.id c.none.result c.new-builder.result c.new-builder.ensures c.in_ok-id.ensures.value c.none.ensures.value in
    rw (p.1, p.2)
    (names_refused s counts most rows c.new-builder.result c.in_err-name_vertices.field-0.0 known are begun_so c.in_err-name_vertices.ensures)

pub index_places-requires : goal.index_places-requires
index_places-requires c =
    subst Distinct (sym (ap (λ (r : RowsOf). r.rows) c.in_ok-rows.ensures.ok)) (arrangements_differ (take c.in_ok-kinds.kinds c.counts_of.new.places) c.most_of-most.result)

pub insert_exchanges-requires-clause-vertices : goal.insert_exchanges-requires-clause-vertices
insert_exchanges-requires-clause-vertices c =
    let rows = c.in_ok-rows.rows.rows in
    let none : n_of c.new-builder.result.graph ≡ 0 = ap (λ (b : Builder). n_of b.graph) c.new-builder.ensures in
    let all : n_of c.name_vertices.new.builder.graph ≡ n_of (with_named c.new-builder.result (map row_vertex rows)).graph = ap (λ (b : Builder). n_of b.graph) c.in_ok-name_vertices.ensures in
    omega (arith, none, all, n-with_named c.new-builder.result (map row_vertex rows), length-map rows row_vertex)

pub insert_exchanges-requires-clause-closed : goal.insert_exchanges-requires-clause-closed
insert_exchanges-requires-clause-closed c =
    let counts = take c.in_ok-kinds.kinds c.counts_of.new.places in
    let some : 0 < length counts = omega (arith, ap length c.in_ok-kinds.ensures.counts, c.in_ok-kinds.ensures.some) in
    subst IsClosed (sym (ap (λ (r : RowsOf). r.rows) c.in_ok-rows.ensures.ok)) (rows_closed counts c.most_of-most.result some)

pub returns-in_err-insert_exchanges-clause-made : goal.returns-in_err-insert_exchanges-clause-made
returns-in_err-insert_exchanges-clause-made c =
    let p = err_from_is_err_and c.from_residual-in_err-insert_exchanges.result c.from_residual-in_err-insert_exchanges.ensures.1 in
    let s = c.args.spec.now in
    let counts = take c.in_ok-kinds.kinds c.counts_of.new.places in
    let most = c.most_of-most.result in
    let known = planned s counts most c.limit_of.result c.in_ok-kinds.ensures.counts c.in_ok-kinds.ensures.allowed c.most_of-most.ensures.value c.limit_of.ensures in
    let rows = c.in_ok-rows.rows.rows in
    let are : rows ≡ arrangements counts most = ap (λ (r : RowsOf). r.rows) c.in_ok-rows.ensures.ok in
    let begun_so = begins s counts most c.in_ok-id.id c.none.result c.new-builder.result c.new-builder.ensures c.in_ok-id.ensures.value c.none.ensures.value in
    rw (p.1, p.2)
    (exchanges_refused s counts most rows c.new-builder.result c.name_vertices.new.builder c.in_err-insert_exchanges.field-0.0 known are begun_so c.in_ok-name_vertices.ensures c.in_err-insert_exchanges.ensures)

pub returns-clause-made : goal.returns-clause-made
returns-clause-made c =
    let s = c.args.spec.now in
    let counts = take c.in_ok-kinds.kinds c.counts_of.new.places in
    let most = c.most_of-most.result in
    let known = planned s counts most c.limit_of.result c.in_ok-kinds.ensures.counts c.in_ok-kinds.ensures.allowed c.most_of-most.ensures.value c.limit_of.ensures in
    let rows = c.in_ok-rows.rows.rows in
    let are : rows ≡ arrangements counts most = ap (λ (r : RowsOf). r.rows) c.in_ok-rows.ensures.ok in
    let begun_so = begins s counts most c.in_ok-id.id c.none.result c.new-builder.result c.new-builder.ensures c.in_ok-id.ensures.value c.none.ensures.value in
    let whole = all_made s counts most rows c.new-builder.result c.name_vertices.new.builder c.insert_exchanges.new.builder known are begun_so c.in_ok-name_vertices.ensures c.in_ok-insert_exchanges.ensures (subst IsGraph c.finish.ensures.value c.finish.ensures.sound) in
    rw c.finish.ensures.value whole

pub returns-in_err-rows-clause-room : goal.returns-in_err-rows-clause-room
returns-in_err-rows-clause-room c = λ is.
    let s = c.args.spec.now in
    let counts = take c.in_ok-kinds.kinds c.counts_of.new.places in
    let most = c.most_of-most.result in
    let known = planned s counts most c.limit_of.result c.in_ok-kinds.ensures.counts c.in_ok-kinds.ensures.allowed c.most_of-most.ensures.value c.limit_of.ensures in
    may_want s counts most c.in_ok-count.count known c.in_ok-count.ensures.ok

pub returns-in_err-id-clause-room : goal.returns-in_err-id-clause-room
returns-in_err-id-clause-room c = λ is.
    let s = c.args.spec.now in
    let counts = take c.in_ok-kinds.kinds c.counts_of.new.places in
    let most = c.most_of-most.result in
    let known = planned s counts most c.limit_of.result c.in_ok-kinds.ensures.counts c.in_ok-kinds.ensures.allowed c.most_of-most.ensures.value c.limit_of.ensures in
    may_want s counts most c.in_ok-count.count known c.in_ok-count.ensures.ok

pub returns-in_err-name_vertices-clause-room : goal.returns-in_err-name_vertices-clause-room
returns-in_err-name_vertices-clause-room c = λ is.
    let s = c.args.spec.now in
    let counts = take c.in_ok-kinds.kinds c.counts_of.new.places in
    let most = c.most_of-most.result in
    let known = planned s counts most c.limit_of.result c.in_ok-kinds.ensures.counts c.in_ok-kinds.ensures.allowed c.most_of-most.ensures.value c.limit_of.ensures in
    may_want s counts most c.in_ok-count.count known c.in_ok-count.ensures.ok

pub returns-in_err-places-clause-room : goal.returns-in_err-places-clause-room
returns-in_err-places-clause-room c = λ is.
    let s = c.args.spec.now in
    let counts = take c.in_ok-kinds.kinds c.counts_of.new.places in
    let most = c.most_of-most.result in
    let known = planned s counts most c.limit_of.result c.in_ok-kinds.ensures.counts c.in_ok-kinds.ensures.allowed c.most_of-most.ensures.value c.limit_of.ensures in
    may_want s counts most c.in_ok-count.count known c.in_ok-count.ensures.ok

pub returns-in_err-insert_exchanges-clause-room : goal.returns-in_err-insert_exchanges-clause-room
returns-in_err-insert_exchanges-clause-room c = λ is.
    let s = c.args.spec.now in
    let counts = take c.in_ok-kinds.kinds c.counts_of.new.places in
    let most = c.most_of-most.result in
    let known = planned s counts most c.limit_of.result c.in_ok-kinds.ensures.counts c.in_ok-kinds.ensures.allowed c.most_of-most.ensures.value c.limit_of.ensures in
    may_want s counts most c.in_ok-count.count known c.in_ok-count.ensures.ok
