-- Lengths that are given back.
use Rattle.std.proofs.Common.{◌≡◌, ◌<◌, ◌≤◌, ℕ, ℤ, pos, List, length, get_or, map, Option, Some, None, sym, ap, subst, ◌∙◌, refl, arith}
use Rattle.std.proofs.lemmas.List.FromFn.{fill_by_all, get_or-map-range_with_len, length-map-range_with_len}
use Rattle.std.specs.List.{range_with_len}
use Rattle.sgb_graph.specs.Graph.{GraphOf, ArcOf, made_of, arc_at}
use Rattle.sgb_graph.specs.Private.SameLaws.{same_graph}
use Rattle.sgb_combine.specs.declared.delta.LengthsDelta.{LengthsDelta}
use Rattle.sgb_combine.specs.Lengths.{with_length, length_of, lengthened_at, with_lengths, lengths_of, before_lengths, CanRevertLengths}

-- an arc that is given another length, and then its own
back_at : (o : Option ArcOf) (z own : ℤ) → own ≡ length_of o → with_length (with_length o z) own ≡ o
back_at None z own is = refl
back_at (Some e) z own is = ap (λ x. Some (record e { len = x })) is

entry_back : (g h : GraphOf) (lens kept : List ℤ) (k : ℕ) → h.entries ≡ map (lengthened_at g lens) (range_with_len 0 (made_of g)) → kept ≡ map (λ j. length_of (arc_at g j)) (range_with_len 0 (made_of g)) → k < made_of g
    → arc_at g k ≡ lengthened_at h kept k
entry_back g h lens kept k changed own low =
    let now : arc_at h k ≡ lengthened_at g lens k = ap (λ es. get_or es k None) changed ∙ get_or-map-range_with_len (lengthened_at g lens) 0 (made_of g) k k None low (omega arith) in
    let len : get_or kept k (pos 0) ≡ length_of (arc_at g k) = ap (λ ls. get_or ls k (pos 0)) own ∙ get_or-map-range_with_len (λ j. length_of (arc_at g j)) 0 (made_of g) k k (pos 0) low (omega arith) in
    sym (ap (λ o. with_length o (get_or kept k (pos 0))) now ∙ back_at (arc_at g k) (get_or lens k (pos 0)) (get_or kept k (pos 0)) len)

pub back_is : (d : LengthsDelta) (g h : GraphOf) (lens : List ℤ) (id : List ℕ) → h ≡ record (with_lengths g lens) { id = id } → d.lengths ≡ lengths_of g → d.id ≡ g.id → before_lengths d h ≡ g
unfolding before_lengths with_lengths lengths_of
back_is d g h lens id changed own same =
    let entries : h.entries ≡ map (lengthened_at g lens) (range_with_len 0 (made_of g)) = ap (λ x. x.entries) changed in
    let count : made_of h ≡ made_of g = ap length entries ∙ length-map-range_with_len (lengthened_at g lens) 0 (made_of g) in
    let all : g.entries ≡ map (lengthened_at h d.lengths) (range_with_len 0 (made_of g)) =
    fill_by_all (lengthened_at h d.lengths) g.entries (made_of g) None refl (λ k low. entry_back g h lens d.lengths k entries own low) in
    same_graph (before_lengths d h) g same (ap (λ x. x.types) changed) (ap (λ x. x.fields) changed) (ap (λ x. x.vertices) changed)
    (ap (λ n. map (lengthened_at h d.lengths) (range_with_len 0 n)) count ∙ sym all)

pub can_revert_is : (d : LengthsDelta) (g h : GraphOf) (lens : List ℤ) (id : List ℕ) → h ≡ record (with_lengths g lens) { id = id } → d.lengths ≡ lengths_of g → d.id ≡ g.id → length g.id ≤ 160 → CanRevertLengths d h
unfolding with_lengths lengths_of
can_revert_is d g h lens id changed own same short = record {
  lengths = ap length own ∙ (length-map-range_with_len (λ j. length_of (arc_at g j)) 0 (made_of g)
      ∙ sym (ap (λ x. length x.entries) changed ∙ length-map-range_with_len (lengthened_at g lens) 0 (made_of g)));
  id = subst (λ t. length t ≤ 160) (sym same) short;
}

pub before_is : (d : LengthsDelta) (g x h : GraphOf) (lens : List ℤ) → lens ≡ d.lengths → x ≡ with_lengths g lens → h ≡ record x { id = d.id } → h ≡ before_lengths d g
unfolding before_lengths
before_is d g x h lens own exchanged swapped =
    let all : x ≡ with_lengths g d.lengths = exchanged ∙ ap (with_lengths g) own in
    let named : GraphOf → GraphOf = λ y. record y { id = d.id } in
    swapped ∙ ap named all
