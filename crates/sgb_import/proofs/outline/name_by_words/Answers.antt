use Rattle.std.proofs.Common.{◌≡◌, ◌<◌, [], List, ℕ, length, get_or, map, subst, sym, ◌∙◌, arith}
use Rattle.std.proofs.lemmas.List.{get_or-map, length-map}
use Rattle.std.proofs.lemmas.Result.{err_from_is_err_and}
use Rattle.std.specs.Borrow.{Bor}
use Rattle.sgb_graph.specs.New.{six_zeros}
use Rattle.sgb_graph.specs.Text.{IsText}
use Rattle.sgb_plan.proofs.Plans.{NamesOf, pushed, push_refused, names_of_start, names_of_some, names_of_refused, names_of_end}
use Rattle.sgb_import.specs.Outline.{named}
use Rattle.sgb_import.specs.Private.Outlined.{bytes_of}
use Rattle.sgb_import.proofs.outline.name_by_words.Goals as goal

-- the name that one of the words is
name_at : (words : List (Bor (List ℕ))) (i : ℕ) (r : Bor (List ℕ)) (d : List ℕ) → i < length words → bytes_of (get_or words i r) ≡ get_or (map bytes_of words) i d
name_at words i r d h = sym (get_or-map bytes_of words i r d h)

below : (words : List (Bor (List ℕ))) (i : ℕ) → i < length words → i < length (map bytes_of words)
below words i h = omega (arith, length-map words bytes_of)

pub loop-word-init : goal.loop-word-init
loop-word-init c =
    let words : List (Bor (List ℕ)) = c.args.words.now in
    subst (λ b. NamesOf c.args.builder.now (map named (map bytes_of words)) b named (map bytes_of words) 0) (sym c.in_ok-reserve_vertices.ensures.same)
    (names_of_start c.args.builder.now named (map bytes_of words))

pub label_of-requires : goal.label_of-requires
label_of-requires c =
    let words : List (Bor (List ℕ)) = c.args.words.now in
    let i : ℕ = c.loop-word.word-index in
    let h : i < length words = c.loop-word-test.true in
    subst IsText (sym (name_at words i _ [] h)) (c.requires i [] (below words i h))

pub returns-in_err-push_named : goal.returns-in_err-push_named
returns-in_err-push_named c =
    let p = err_from_is_err_and c.from_residual-in_err-push_named.result c.from_residual-in_err-push_named.ensures.1 in
    let words : List (Bor (List ℕ)) = c.args.words.now in
    let i : ℕ = c.loop-word.word-index in
    let h : i < length words = c.loop-word-test.true in
    let x : List ℕ = c.in_ok-label.label in
    let is : x ≡ get_or (map bytes_of words) i x = c.in_ok-label.ensures.value ∙ name_at words i _ x h in
    rw (p.1, p.2)
    (names_of_refused x (below words i h) is c.loop-word.invariant (push_refused c.loop-word.builder x six_zeros c.in_err-push_named.ensures.err))

pub loop-word-preserved : goal.loop-word-preserved
loop-word-preserved c =
    let words : List (Bor (List ℕ)) = c.args.words.now in
    let i : ℕ = c.loop-word.word-index in
    let h : i < length words = c.loop-word-test.true in
    let x : List ℕ = c.in_ok-label.label in
    let is : x ≡ get_or (map bytes_of words) i x = c.in_ok-label.ensures.value ∙ name_at words i _ x h in
    names_of_some x (below words i h) is c.loop-word.invariant
    (c.in_ok-push_named.ensures.ok ∙ pushed c.loop-word.builder x six_zeros)

pub returns : goal.returns
returns c =
    let words : List (Bor (List ℕ)) = c.args.words.now in
    names_of_end (omega (arith, length-map words bytes_of)) c.loop-word.invariant
