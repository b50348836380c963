use Rattle.std.proofs.Common.{◌≡◌, ◌++◌, ◌<◌, [], List, ℕ, length, get_or, subst, ap, sym, ◌∙◌, arith}
use Rattle.std.proofs.lemmas.List.{get_or-map, length-map}
use Rattle.std.proofs.lemmas.Result.{err_from_is_err_and}
use Rattle.sgb_graph.specs.declared.builder.Builder.{Builder}
use Rattle.sgb_graph.specs.Builder.{grown}
use Rattle.sgb_graph.proofs.InsertionRuns.{RefusesInsertions, LeftFrom, from_start, from_some, from_refused, from_end, from_n}
use denote.Ref.{Bor}
use Rattle.sgb_binary.specs.Private.Names.{bytes_of}
use Rattle.sgb_binary.specs.Rotation.{rotations_from, rotations_of, rotations}
use Rattle.sgb_binary.proofs.NameIndexes.{names_of}
use Rattle.sgb_binary.proofs.rotation.insert_by_name.Goals as goal

-- the name that is copied
name_copied : (keys items : List (Bor (List ℕ))) (v : ℕ) (d : Bor (List ℕ)) {cleared extended word : List ℕ} → items ≡ keys → v < length keys
    → cleared ≡ [] → extended ≡ cleared ++ bytes_of (get_or items v d) → word ≡ extended → word ≡ get_or (names_of keys) v []
name_copied keys items v d same h none copied is =
    is
    ∙ (copied
    ∙ (ap (λ xs. xs ++ bytes_of (get_or items v d)) none
    ∙ (ap (λ ks. bytes_of (get_or ks v d)) same ∙ sym (get_or-map bytes_of keys v d [] h))))

rotations_start : (b : Builder) (names : List (List ℕ)) → LeftFrom b (rotations names) b (rotations_from names) 0 (length names)
rotations_start b names = from_start b (rotations_from names) (length names)

pub loop-v-init : goal.loop-v-init
loop-v-init c = rotations_start c.args.builder.now (names_of c.args.index.now.keys)

pub insert_from-requires-clause-vertices : goal.insert_from-requires-clause-vertices
insert_from-requires-clause-vertices c = from_n c.loop-v.invariant ∙ c.requires.vertices

pub returns-in_err-insert_from : goal.returns-in_err-insert_from
returns-in_err-insert_from c =
    let p = err_from_is_err_and c.from_residual-in_err-insert_from.result c.from_residual-in_err-insert_from.ensures.1 in
    let keys : List (Bor (List ℕ)) = c.args.index.now.keys in
    let names : List (List ℕ) = names_of keys in
    let h : c.loop-v.v < length keys = omega (arith, ap (λ xs. length xs) c.as_slice-name-items.ensures.keys) in
    let same : c.deref_mut.result.now ≡ get_or names c.loop-v.v [] =
    name_copied keys c.as_slice-name-items.result.now c.loop-v.v _ c.as_slice-name-items.ensures.keys h c.clear.ensures.items
    c.in_ok-extend_from_slice.ensures.items c.deref_mut.ensures.value in
    let below : c.loop-v.v < length names = omega (arith, h, length-map keys bytes_of) in
    rw (p.1, p.2)
    (from_refused below c.loop-v.invariant
    (subst (λ w. RefusesInsertions c.loop-v.builder (rotations_of names c.loop-v.v w) c.in_err-insert_from.field-0.0) same c.in_err-insert_from.ensures))

pub loop-v-preserved : goal.loop-v-preserved
loop-v-preserved c =
    let keys : List (Bor (List ℕ)) = c.args.index.now.keys in
    let names : List (List ℕ) = names_of keys in
    let h : c.loop-v.v < length keys = omega (arith, ap (λ xs. length xs) c.as_slice-name-items.ensures.keys) in
    let same : c.deref_mut.result.now ≡ get_or names c.loop-v.v [] =
    name_copied keys c.as_slice-name-items.result.now c.loop-v.v _ c.as_slice-name-items.ensures.keys h c.clear.ensures.items
    c.in_ok-extend_from_slice.ensures.items c.deref_mut.ensures.value in
    let below : c.loop-v.v < length names = omega (arith, h, length-map keys bytes_of) in
    from_some below c.loop-v.invariant (c.in_ok-insert_from.ensures ∙ ap (λ w. grown c.loop-v.builder (rotations_of names c.loop-v.v w)) same)

pub returns : goal.returns
returns c =
    let keys : List (Bor (List ℕ)) = c.args.index.now.keys in
    let all = ap (λ xs. length xs) c.as_slice-name-items.ensures.keys in
    from_end (omega (arith, all, length-map keys bytes_of)) c.loop-v.invariant
