use Rattle.std.proofs.Common.{◌≡◌, ◌+◌, ◌*◌, length, map, All, inr, sym, ap, subst, ◌∙◌, arith}
use Rattle.std.proofs.lemmas.List.{length-map}
use Rattle.std.proofs.lemmas.Result.{err_from_is_err_and}
use Rattle.sgb_graph.specs.Builder.{grown}
use Rattle.sgb_graph.specs.Graph.{IsGraph}
use Rattle.sgb_graph.specs.Text.{IsText}
use Rattle.sgb_graph.proofs.InsertionRuns.{RefusesInsertions}
use Rattle.sgb_plan.specs.Distinct.{Distinct}
use Rattle.sgb_binary.specs.Private.Names.{bytes_of}
use Rattle.sgb_plan.specs.Plan.{Plan}
use Rattle.sgb_plan.proofs.Plans.{RefusesNames, made, refused_names, refused_insertions}
use Rattle.sgb_binary.specs.Binary.{binary_plan, tree_vertex}
use Rattle.sgb_binary.specs.Rotation.{rotations}
use Rattle.sgb_binary.specs.Tree.{trees}
use Rattle.sgb_binary.specs.Private.Code.{IsName}
use Rattle.sgb_binary.proofs.NameIndexes.{names_of}
use Rattle.sgb_binary.proofs.Shapes.{trees_distinct}
use Rattle.sgb_binary.proofs.TreeGraphs.{trees_text, trees_names, cut_trees, letters_whole, begins, refused_trees, named, many_named, may_want}
use Rattle.sgb_binary.proofs.generator.make_graph.Goals as goal

pub returns-in_err-count-clause-made : goal.returns-in_err-count-clause-made
returns-in_err-count-clause-made c =
    let p = err_from_is_err_and c.from_residual.result c.from_residual.ensures.1 in
    rw (p.1, p.2) (refused_trees c.args.n c.args.most c.args.directed (inr c.in_err-count.ensures.err))

pub returns-in_err-names-clause-made : goal.returns-in_err-names-clause-made
returns-in_err-names-clause-made c =
    let p = err_from_is_err_and c.from_residual-in_err-names.result c.from_residual-in_err-names.ensures.1 in
    rw (p.1, p.2) (refused_trees c.args.n c.args.most c.args.directed c.in_err-names.ensures.err)

pub split_names-requires : goal.split_names-requires
split_names-requires c =
    letters_whole c.args.n c.args.most c.in_ok-names.names.count c.in_ok-names.names.letters.items c.in_ok-names.ensures.letters c.in_ok-names.ensures.count

pub name_vertices-requires : goal.name_vertices-requires
name_vertices-requires c =
    let are : names_of c.as_slice-trees.result.now ≡ trees c.args.n c.args.most =
    ap names_of c.as_slice-trees.ensures.value
    ∙ (c.in_ok-keys.ensures ∙ cut_trees c.args.n c.args.most c.in_ok-names.names.count c.in_ok-names.names.letters.items c.in_ok-names.ensures.letters c.in_ok-names.ensures.count) in
    subst (All IsText) (sym are) (trees_text c.args.n c.args.most c.requires)

pub returns-in_err-name_vertices-clause-made : goal.returns-in_err-name_vertices-clause-made
returns-in_err-name_vertices-clause-made c =
    let p = err_from_is_err_and c.from_residual-in_err-name_vertices.result c.from_residual-in_err-name_vertices.ensures.1 in
    let plan : Plan = binary_plan c.args.n c.args.most c.args.directed in
    let are : names_of c.as_slice-trees.result.now ≡ trees c.args.n c.args.most =
    ap names_of c.as_slice-trees.ensures.value
    ∙ (c.in_ok-keys.ensures ∙ cut_trees c.args.n c.args.most c.in_ok-names.names.count c.in_ok-names.names.letters.items c.in_ok-names.ensures.letters c.in_ok-names.ensures.count) in
    let begun_so = begins c.args.n c.args.most c.args.directed c.in_ok-id.id c.none.result c.new-builder.result c.new-builder.ensures c.in_ok-id.ensures.value c.none.ensures.value in
    let vertices : map tree_vertex (names_of c.as_slice-trees.result.now) ≡ plan.vertices = ap (map tree_vertex) are in
    rw (p.1, p.2)
    (refused_names plan
    (subst (λ b. RefusesNames b plan.vertices c.in_err-name_vertices.field-0.0) begun_so
    (subst (λ vs. RefusesNames c.new-builder.result vs c.in_err-name_vertices.field-0.0) vertices c.in_err-name_vertices.ensures)))

pub insert_rotations-requires-clause-vertices : goal.insert_rotations-requires-clause-vertices
insert_rotations-requires-clause-vertices c =
    let plan : Plan = binary_plan c.args.n c.args.most c.args.directed in
    let begun_so = begins c.args.n c.args.most c.args.directed c.in_ok-id.id c.none.result c.new-builder.result c.new-builder.ensures c.in_ok-id.ensures.value c.none.ensures.value in
    many_named plan (names_of c.as_slice-trees.result.now) c.new-builder.result c.name_vertices.new.builder c.in_ok-name_vertices.ensures begun_so
    ∙ length-map c.as_slice-trees.result.now bytes_of

pub insert_rotations-requires-clause-names : goal.insert_rotations-requires-clause-names
insert_rotations-requires-clause-names c =
    let are : names_of c.as_slice-trees.result.now ≡ trees c.args.n c.args.most =
    ap names_of c.as_slice-trees.ensures.value
    ∙ (c.in_ok-keys.ensures ∙ cut_trees c.args.n c.args.most c.in_ok-names.names.count c.in_ok-names.names.letters.items c.in_ok-names.ensures.letters c.in_ok-names.ensures.count) in
    subst (All (IsName (2 * c.args.n + 1))) (sym are) (trees_names c.args.n c.args.most)

pub insert_rotations-requires-clause-apart : goal.insert_rotations-requires-clause-apart
insert_rotations-requires-clause-apart c =
    let are : names_of c.as_slice-trees.result.now ≡ trees c.args.n c.args.most =
    ap names_of c.as_slice-trees.ensures.value
    ∙ (c.in_ok-keys.ensures ∙ cut_trees c.args.n c.args.most c.in_ok-names.names.count c.in_ok-names.names.letters.items c.in_ok-names.ensures.letters c.in_ok-names.ensures.count) in
    subst Distinct (sym are) (trees_distinct c.args.n c.args.most)

pub insert_rotations-requires-clause-few : goal.insert_rotations-requires-clause-few
insert_rotations-requires-clause-few c =
    let are : names_of c.as_slice-trees.result.now ≡ trees c.args.n c.args.most =
    ap names_of c.as_slice-trees.ensures.value
    ∙ (c.in_ok-keys.ensures ∙ cut_trees c.args.n c.args.most c.in_ok-names.names.count c.in_ok-names.names.letters.items c.in_ok-names.ensures.letters c.in_ok-names.ensures.count) in
    omega (arith, ap (λ xs. length xs) are, length-map c.as_slice-trees.result.now bytes_of, c.in_ok-names.ensures.count, c.in_ok-names.ensures.few)

pub returns-in_err-insert_rotations-clause-made : goal.returns-in_err-insert_rotations-clause-made
returns-in_err-insert_rotations-clause-made c =
    let p = err_from_is_err_and c.from_residual-in_err-insert_rotations.result c.from_residual-in_err-insert_rotations.ensures.1 in
    let plan : Plan = binary_plan c.args.n c.args.most c.args.directed in
    let are : names_of c.as_slice-trees.result.now ≡ trees c.args.n c.args.most =
    ap names_of c.as_slice-trees.ensures.value
    ∙ (c.in_ok-keys.ensures ∙ cut_trees c.args.n c.args.most c.in_ok-names.names.count c.in_ok-names.names.letters.items c.in_ok-names.ensures.letters c.in_ok-names.ensures.count) in
    let begun_so = begins c.args.n c.args.most c.args.directed c.in_ok-id.id c.none.result c.new-builder.result c.new-builder.ensures c.in_ok-id.ensures.value c.none.ensures.value in
    let vertices : map tree_vertex (names_of c.as_slice-trees.result.now) ≡ plan.vertices = ap (map tree_vertex) are in
    rw (p.1, p.2)
    (refused_insertions plan
    (named plan (names_of c.as_slice-trees.result.now) c.new-builder.result c.name_vertices.new.builder vertices c.in_ok-name_vertices.ensures begun_so)
    (subst (λ es. RefusesInsertions c.name_vertices.new.builder es c.in_err-insert_rotations.field-0.0) (ap rotations are) c.in_err-insert_rotations.ensures))

pub returns-clause-made : goal.returns-clause-made
returns-clause-made c =
    let plan : Plan = binary_plan c.args.n c.args.most c.args.directed in
    let are : names_of c.as_slice-trees.result.now ≡ trees c.args.n c.args.most =
    ap names_of c.as_slice-trees.ensures.value
    ∙ (c.in_ok-keys.ensures ∙ cut_trees c.args.n c.args.most c.in_ok-names.names.count c.in_ok-names.names.letters.items c.in_ok-names.ensures.letters c.in_ok-names.ensures.count) in
    let begun_so = begins c.args.n c.args.most c.args.directed c.in_ok-id.id c.none.result c.new-builder.result c.new-builder.ensures c.in_ok-id.ensures.value c.none.ensures.value in
    let vertices : map tree_vertex (names_of c.as_slice-trees.result.now) ≡ plan.vertices = ap (map tree_vertex) are in
    let whole =
    made plan
    (named plan (names_of c.as_slice-trees.result.now) c.new-builder.result c.name_vertices.new.builder vertices c.in_ok-name_vertices.ensures begun_so)
    (c.in_ok-insert_rotations.ensures ∙ ap (grown c.name_vertices.new.builder) (ap rotations are))
    (subst IsGraph c.finish.ensures.value c.finish.ensures.sound) in
    rw c.finish.ensures.value whole

pub returns-in_err-id-clause-room : goal.returns-in_err-id-clause-room
returns-in_err-id-clause-room c = λ is. may_want c.args.n c.args.most c.args.directed c.in_ok-count.count c.in_ok-count.ensures.ok

pub returns-in_err-names-clause-room : goal.returns-in_err-names-clause-room
returns-in_err-names-clause-room c = λ is. may_want c.args.n c.args.most c.args.directed c.in_ok-count.count c.in_ok-count.ensures.ok

pub returns-in_err-keys-clause-room : goal.returns-in_err-keys-clause-room
returns-in_err-keys-clause-room c = λ is. may_want c.args.n c.args.most c.args.directed c.in_ok-count.count c.in_ok-count.ensures.ok

pub returns-in_err-name_vertices-clause-room : goal.returns-in_err-name_vertices-clause-room
returns-in_err-name_vertices-clause-room c = λ is. may_want c.args.n c.args.most c.args.directed c.in_ok-count.count c.in_ok-count.ensures.ok

pub returns-in_err-insert_rotations-clause-room : goal.returns-in_err-insert_rotations-clause-room
returns-in_err-insert_rotations-clause-room c = λ is. may_want c.args.n c.args.most c.args.directed c.in_ok-count.count c.in_ok-count.ensures.ok
