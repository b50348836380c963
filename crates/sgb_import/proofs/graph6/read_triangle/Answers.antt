use Rattle.std.proofs.Common.{◌≡◌, length, rules, arith, ap, sym, subst, ◌∙◌}
use Rattle.std.specs.List.{filter, range_with_len}
use Rattle.sgb_import.specs.Graph6.{edges_in, is_set}
use Rattle.sgb_import.specs.Private.Pairs.{AreSixBits}
use Rattle.sgb_import.proofs.Graph6Faults.{no_size, too_many_vertices, unfit, too_many_arcs, no_fault}
use Rattle.sgb_import.proofs.Graph6Pairs.{fits-within, length-edges_in}
use Rattle.sgb_import.proofs.Graph6Sizes.{body-six_bits}
use Rattle.sgb_import.proofs.graph6.read_triangle.Goals as goal

pub returns-in_default-clause-fault : goal.returns-in_default-clause-fault
returns-in_default-clause-fault c = no_size c.args.bytes.now c.in_default.ensures.none

pub returns-then-triangle-gt-MOST_VERTICES-clause-fault : goal.returns-then-triangle-gt-MOST_VERTICES-clause-fault
returns-then-triangle-gt-MOST_VERTICES-clause-fault c =
    too_many_vertices c.args.bytes.now c.in-Some.triangle.size c.in-Some.ensures.none c.in-Some.ensures.size c.if-triangle-gt-MOST_VERTICES.true

pub fits-requires-clause-bytes : goal.fits-requires-clause-bytes
fits-requires-clause-bytes c = subst AreSixBits (sym c.in-Some.ensures.body) (body-six_bits c.args.bytes.now c.in-Some.ensures.none)

pub returns-then-not-fits-clause-fault : goal.returns-then-not-fits-clause-fault
returns-then-not-fits-clause-fault c =
    unfit c.args.bytes.now c.in-Some.triangle.size c.in-Some.triangle.body.now
    (record { size = c.in-Some.ensures.none; n_is = c.in-Some.ensures.size; body_is = c.in-Some.ensures.body; few = c.if-triangle-gt-MOST_VERTICES.false })
    (search rules)

pub count_set-requires-clause-within : goal.count_set-requires-clause-within
count_set-requires-clause-within c =
    omega (arith, fits-within c.in-Some.triangle.size c.in-Some.triangle.body.now (search rules), c.pair_count.ensures.count)

pub count_set-requires-clause-bytes : goal.count_set-requires-clause-bytes
count_set-requires-clause-bytes c = subst AreSixBits (sym c.in-Some.ensures.body) (body-six_bits c.args.bytes.now c.in-Some.ensures.none)

pub returns-then-count_set-gt-MOST_EDGES-clause-fault : goal.returns-then-count_set-gt-MOST_EDGES-clause-fault
returns-then-count_set-gt-MOST_EDGES-clause-fault c =
    let n = c.in-Some.triangle.size in
    let body = c.in-Some.triangle.body.now in
    let count : c.count_set.result ≡ length (edges_in n body) =
    c.count_set.ensures ∙ ap (λ m. length (filter (is_set body) (range_with_len 0 m))) c.pair_count.ensures.count ∙ sym (length-edges_in n body) in
    too_many_arcs c.args.bytes.now n body
    (record { size = c.in-Some.ensures.none; n_is = c.in-Some.ensures.size; body_is = c.in-Some.ensures.body; few = c.if-triangle-gt-MOST_VERTICES.false })
    (search rules) (omega arith)

pub returns-clause-fault : goal.returns-clause-fault
returns-clause-fault c =
    let n = c.in-Some.triangle.size in
    let body = c.in-Some.triangle.body.now in
    let count : c.count_set.result ≡ length (edges_in n body) =
    c.count_set.ensures ∙ ap (λ m. length (filter (is_set body) (range_with_len 0 m))) c.pair_count.ensures.count ∙ sym (length-edges_in n body) in
    no_fault c.args.bytes.now n body
    (record { size = c.in-Some.ensures.none; n_is = c.in-Some.ensures.size; body_is = c.in-Some.ensures.body; few = c.if-triangle-gt-MOST_VERTICES.false })
    (search rules) (omega arith)

pub returns-clause-triangle : goal.returns-clause-triangle
returns-clause-triangle c =
    let n = c.in-Some.triangle.size in
    let body = c.in-Some.triangle.body.now in
    let count : c.count_set.result ≡ length (edges_in n body) =
    c.count_set.ensures ∙ ap (λ m. length (filter (is_set body) (range_with_len 0 m))) c.pair_count.ensures.count ∙ sym (length-edges_in n body) in
    record {
      size = c.in-Some.ensures.size;
      body_is = c.in-Some.ensures.body;
      few = c.if-triangle-gt-MOST_VERTICES.false;
      six_bits = subst AreSixBits (sym c.in-Some.ensures.body) (body-six_bits c.args.bytes.now c.in-Some.ensures.none);
      full = search rules;
      few_edges = omega arith;
    }
