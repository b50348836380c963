use Rattle.std.proofs.Common.{◌≡◌, ◌<◌, [], List, ℕ, length, get_or, map, subst, sym, ◌∙◌, arith}
use Rattle.std.proofs.lemmas.List.{get_or-map, length-map}
use Rattle.std.proofs.lemmas.Result.{err_from_is_err_and}
use Rattle.sgb_graph.specs.New.{six_zeros}
use Rattle.sgb_graph.specs.Text.{IsText}
use denote.Ref.{Bor}
use Rattle.sgb_binary.specs.Private.Names.{bytes_of}
use Rattle.sgb_plan.proofs.Plans.{NamesOf, pushed, push_refused, names_of_start, names_of_some, names_of_refused, names_of_end}
use Rattle.sgb_binary.specs.Binary.{tree_vertex}
use Rattle.sgb_binary.proofs.NameIndexes.{names_of}
use Rattle.sgb_binary.proofs.generator.name_vertices.Goals as goal

-- the name that one of the keys is
name_at : (trees : List (Bor (List ℕ))) (i : ℕ) (r : Bor (List ℕ)) (d : List ℕ) → i < length trees → bytes_of (get_or trees i r) ≡ get_or (names_of trees) i d
name_at trees i r d h = sym (get_or-map bytes_of trees i r d h)

below : (trees : List (Bor (List ℕ))) (i : ℕ) → i < length trees → i < length (names_of trees)
below trees i h = omega (arith, length-map trees bytes_of)

pub loop-tree-init : goal.loop-tree-init
loop-tree-init c =
    let trees : List (Bor (List ℕ)) = c.args.trees.now in
    subst (λ b. NamesOf c.args.builder.now (map tree_vertex (names_of trees)) b tree_vertex (names_of trees) 0) (sym c.in_ok-reserve_vertices.ensures.same)
    (names_of_start c.args.builder.now tree_vertex (names_of trees))

pub label_of-requires : goal.label_of-requires
label_of-requires c =
    let trees : List (Bor (List ℕ)) = c.args.trees.now in
    let i : ℕ = c.loop-tree.tree-index in
    let h : i < length trees = c.loop-tree-test.true in
    subst IsText (sym (name_at trees i _ [] h)) (c.requires i [] (below trees i h))

pub returns-in_err-push_named : goal.returns-in_err-push_named
returns-in_err-push_named c =
    let p = err_from_is_err_and c.from_residual-in_err-push_named.result c.from_residual-in_err-push_named.ensures.1 in
    let trees : List (Bor (List ℕ)) = c.args.trees.now in
    let i : ℕ = c.loop-tree.tree-index in
    let h : i < length trees = c.loop-tree-test.true in
    let x : List ℕ = c.in_ok-label.label in
    let is : x ≡ get_or (names_of trees) i x = c.in_ok-label.ensures.value ∙ name_at trees i _ x h in
    rw (p.1, p.2)
    (names_of_refused x (below trees i h) is c.loop-tree.invariant (push_refused c.loop-tree.builder x six_zeros c.in_err-push_named.ensures.err))

pub loop-tree-preserved : goal.loop-tree-preserved
loop-tree-preserved c =
    let trees : List (Bor (List ℕ)) = c.args.trees.now in
    let i : ℕ = c.loop-tree.tree-index in
    let h : i < length trees = c.loop-tree-test.true in
    let x : List ℕ = c.in_ok-label.label in
    let is : x ≡ get_or (names_of trees) i x = c.in_ok-label.ensures.value ∙ name_at trees i _ x h in
    names_of_some x (below trees i h) is c.loop-tree.invariant
    (c.in_ok-push_named.ensures.ok ∙ pushed c.loop-tree.builder x six_zeros)

pub returns : goal.returns
returns c =
    let trees : List (Bor (List ℕ)) = c.args.trees.now in
    names_of_end (omega (arith, length-map trees bytes_of)) c.loop-tree.invariant
