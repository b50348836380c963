use Rattle.std.proofs.Common.{◌≡◌, ◌++◌, ◌∷◌, [], codes, true, Err, w64, to_z, of_z, ap, ap₂, sym, subst, ◌∙◌, rules}
use Rattle.std.proofs.lemmas.Int.{to_z-of_z}
use Rattle.std.proofs.lemmas.List.{length-map}
use Rattle.std.proofs.lemmas.Result.{err_from_is_err_and}
use Rattle.sgb_graph.specs.Graph.{IsGraph}
use Rattle.sgb_graph.specs.declared.refusal.Refusal.TheVariants.{NoRoom}
use Rattle.sgb_plan.specs.Id.{id_of, hexadecimal, flag_text}
use Rattle.sgb_simplex.specs.Bounds.{first_of, are_in_range, points_within, shown_parts}
use Rattle.sgb_simplex.specs.Overlap.{pairs}
use Rattle.sgb_simplex.specs.Points.{points, point_vertex}
use Rattle.sgb_simplex.specs.Private.Started.{RefusesPoints}
use Rattle.sgb_simplex.specs.Subsets.{plan_of_subsets, subsets_numbers, subsets_points, subsets_id, subsets_plan}
use Rattle.sgb_simplex.proofs.Generators.{points_refused, inserts_refused, graph_made, first_is, five, may_want}
use Rattle.sgb_simplex.proofs.generate.subsets.Goals as goal

pub returns-in_err-list-clause-made : goal.returns-in_err-list-clause-made
unfolding plan_of_subsets
returns-in_err-list-clause-made c =
    let p = err_from_is_err_and c.from_residual.result c.from_residual.ensures.1 in
    let s = c.args.spec.now in
    let read : to_z w64 (of_z w64 s.n) ≡ s.n = to_z-of_z w64 s.n (search rules) in
    let first : to_z w64 (of_z w64 c.first_of.result) ≡ first_of s.n0 = first_is s.n0 c.first_of.result (search rules) (search rules) c.first_of.ensures in
    let numbers_are = five (to_z w64 (of_z w64 c.first_of.result)) (first_of s.n0) s.n1 s.n2 s.n3 s.n4 first (search rules) (search rules) (search rules) (search rules) in
    let refused : RefusesPoints s.n (subsets_numbers s) c.in_err-list.field-0.0 =
    subst (λ z. RefusesPoints z (subsets_numbers s) c.in_err-list.field-0.0) read (subst (λ ns. RefusesPoints (to_z w64 (of_z w64 s.n)) ns c.in_err-list.field-0.0) numbers_are c.in_err-list.ensures.err) in
    rw (p.1, p.2) (points_refused s.n (subsets_numbers s) (subsets_id s) s.directed (pairs (subsets_points s) s.size_bits) c.in_err-list.field-0.0 refused)

pub returns-in_err-insert_pairs-clause-made : goal.returns-in_err-insert_pairs-clause-made
unfolding plan_of_subsets
returns-in_err-insert_pairs-clause-made c =
    let p = err_from_is_err_and c.from_residual-in_err-insert_pairs.result c.from_residual-in_err-insert_pairs.ensures.1 in
    let s = c.args.spec.now in
    let read : to_z w64 (of_z w64 s.n) ≡ s.n = to_z-of_z w64 s.n (search rules) in
    let first : to_z w64 (of_z w64 c.first_of.result) ≡ first_of s.n0 = first_is s.n0 c.first_of.result (search rules) (search rules) c.first_of.ensures in
    let numbers_are = five (to_z w64 (of_z w64 c.first_of.result)) (first_of s.n0) s.n1 s.n2 s.n3 s.n4 first (search rules) (search rules) (search rules) (search rules) in
    let list = c.in_ok-list.list in
    let fits : are_in_range s.n (subsets_numbers s) ≡ true = subst (λ z. are_in_range z (subsets_numbers s) ≡ true) read (subst (λ ns. are_in_range (to_z w64 (of_z w64 s.n)) ns ≡ true) numbers_are c.in_ok-list.ensures.range) in
    let listed : points list.total list.bounds.items ≡ subsets_points s =
    ap₂ (λ t bs. points t bs) c.in_ok-list.ensures.total c.in_ok-list.ensures.bounds ∙ ap₂ (λ z ns. points_within z ns) read numbers_are in
    let named : c.in_ok-id.id ≡ subsets_id s = c.in_ok-id.ensures.value ∙ ap₂ (λ z ns. id_of (codes "subsets") (shown_parts z ns ++ hexadecimal s.size_bits ∷ flag_text s.directed ∷ [])) read numbers_are in
    let inserted : (pairs (points list.total list.bounds.items) s.size_bits) ≡ (pairs (subsets_points s) s.size_bits) = ap (λ ps. pairs ps s.size_bits) listed in
    rw (p.1, p.2)
    (inserts_refused s.n (subsets_numbers s) (subsets_id s) c.in_ok-id.id s.directed (points list.total list.bounds.items) (pairs (subsets_points s) s.size_bits) (pairs (points list.total list.bounds.items) s.size_bits) c.in_ok-builder.builder c.in_err-insert_pairs.field-0.0 fits c.in_ok-builder.ensures.value named listed inserted c.in_err-insert_pairs.ensures)

pub returns-clause-made : goal.returns-clause-made
unfolding plan_of_subsets
returns-clause-made c =
    let s = c.args.spec.now in
    let read : to_z w64 (of_z w64 s.n) ≡ s.n = to_z-of_z w64 s.n (search rules) in
    let first : to_z w64 (of_z w64 c.first_of.result) ≡ first_of s.n0 = first_is s.n0 c.first_of.result (search rules) (search rules) c.first_of.ensures in
    let numbers_are = five (to_z w64 (of_z w64 c.first_of.result)) (first_of s.n0) s.n1 s.n2 s.n3 s.n4 first (search rules) (search rules) (search rules) (search rules) in
    let list = c.in_ok-list.list in
    let fits : are_in_range s.n (subsets_numbers s) ≡ true = subst (λ z. are_in_range z (subsets_numbers s) ≡ true) read (subst (λ ns. are_in_range (to_z w64 (of_z w64 s.n)) ns ≡ true) numbers_are c.in_ok-list.ensures.range) in
    let listed : points list.total list.bounds.items ≡ subsets_points s =
    ap₂ (λ t bs. points t bs) c.in_ok-list.ensures.total c.in_ok-list.ensures.bounds ∙ ap₂ (λ z ns. points_within z ns) read numbers_are in
    let named : c.in_ok-id.id ≡ subsets_id s = c.in_ok-id.ensures.value ∙ ap₂ (λ z ns. id_of (codes "subsets") (shown_parts z ns ++ hexadecimal s.size_bits ∷ flag_text s.directed ∷ [])) read numbers_are in
    let inserted : (pairs (points list.total list.bounds.items) s.size_bits) ≡ (pairs (subsets_points s) s.size_bits) = ap (λ ps. pairs ps s.size_bits) listed in
    let sound : IsGraph c.insert_pairs.new.builder.graph = subst IsGraph c.finish.ensures.value c.finish.ensures.sound in
    rw c.finish.ensures.value
    (graph_made s.n (subsets_numbers s) (subsets_id s) c.in_ok-id.id s.directed (points list.total list.bounds.items) (pairs (subsets_points s) s.size_bits) (pairs (points list.total list.bounds.items) s.size_bits) c.in_ok-builder.builder c.insert_pairs.new.builder fits c.in_ok-builder.ensures.value named listed inserted c.in_ok-insert_pairs.ensures sound)

pub returns-in_err-list-clause-room : goal.returns-in_err-list-clause-room
unfolding plan_of_subsets
returns-in_err-list-clause-room c = λ is.
    let p = err_from_is_err_and c.from_residual.result c.from_residual.ensures.1 in
    let refused = sym (p.1 ∙ ap (λ e. Err e) p.2) ∙ is in
    let same : c.in_err-list.field-0.0 ≡ NoRoom = cc in
    let s = c.args.spec.now in
    let read : to_z w64 (of_z w64 s.n) ≡ s.n = to_z-of_z w64 s.n (search rules) in
    let first : to_z w64 (of_z w64 c.first_of.result) ≡ first_of s.n0 = first_is s.n0 c.first_of.result (search rules) (search rules) c.first_of.ensures in
    let numbers_are = five (to_z w64 (of_z w64 c.first_of.result)) (first_of s.n0) s.n1 s.n2 s.n3 s.n4 first (search rules) (search rules) (search rules) (search rules) in
    may_want s.n (to_z w64 (of_z w64 s.n)) (subsets_numbers s) _ (subsets_plan s) read numbers_are (c.in_err-list.ensures.room (ap (λ e. Err e) same)) (length-map (subsets_points s) point_vertex)

pub returns-in_err-id-clause-room : goal.returns-in_err-id-clause-room
unfolding plan_of_subsets
returns-in_err-id-clause-room c = λ is.
    let s = c.args.spec.now in
    let read : to_z w64 (of_z w64 s.n) ≡ s.n = to_z-of_z w64 s.n (search rules) in
    let first : to_z w64 (of_z w64 c.first_of.result) ≡ first_of s.n0 = first_is s.n0 c.first_of.result (search rules) (search rules) c.first_of.ensures in
    let numbers_are = five (to_z w64 (of_z w64 c.first_of.result)) (first_of s.n0) s.n1 s.n2 s.n3 s.n4 first (search rules) (search rules) (search rules) (search rules) in
    may_want s.n (to_z w64 (of_z w64 s.n)) (subsets_numbers s) _ (subsets_plan s) read numbers_are (c.in_ok-list.ensures.range, c.in_ok-list.ensures.few) (length-map (subsets_points s) point_vertex)

pub returns-in_err-builder-clause-room : goal.returns-in_err-builder-clause-room
unfolding plan_of_subsets
returns-in_err-builder-clause-room c = λ is.
    let s = c.args.spec.now in
    let read : to_z w64 (of_z w64 s.n) ≡ s.n = to_z-of_z w64 s.n (search rules) in
    let first : to_z w64 (of_z w64 c.first_of.result) ≡ first_of s.n0 = first_is s.n0 c.first_of.result (search rules) (search rules) c.first_of.ensures in
    let numbers_are = five (to_z w64 (of_z w64 c.first_of.result)) (first_of s.n0) s.n1 s.n2 s.n3 s.n4 first (search rules) (search rules) (search rules) (search rules) in
    may_want s.n (to_z w64 (of_z w64 s.n)) (subsets_numbers s) _ (subsets_plan s) read numbers_are (c.in_ok-list.ensures.range, c.in_ok-list.ensures.few) (length-map (subsets_points s) point_vertex)

pub returns-in_err-insert_pairs-clause-room : goal.returns-in_err-insert_pairs-clause-room
unfolding plan_of_subsets
returns-in_err-insert_pairs-clause-room c = λ is.
    let s = c.args.spec.now in
    let read : to_z w64 (of_z w64 s.n) ≡ s.n = to_z-of_z w64 s.n (search rules) in
    let first : to_z w64 (of_z w64 c.first_of.result) ≡ first_of s.n0 = first_is s.n0 c.first_of.result (search rules) (search rules) c.first_of.ensures in
    let numbers_are = five (to_z w64 (of_z w64 c.first_of.result)) (first_of s.n0) s.n1 s.n2 s.n3 s.n4 first (search rules) (search rules) (search rules) (search rules) in
    may_want s.n (to_z w64 (of_z w64 s.n)) (subsets_numbers s) _ (subsets_plan s) read numbers_are (c.in_ok-list.ensures.range, c.in_ok-list.ensures.few) (length-map (subsets_points s) point_vertex)
