use Rattle.std.proofs.Common.{take, drop, rules, arith, ap, ◌∙◌}
use Rattle.sgb_import.specs.Graph6.{body_in}
use Rattle.sgb_import.proofs.Graph6Sizes.{digits-six_bits, digits-few, tildes-below, size_end-near, size_in-digits, has_size-true, has_size-false, has_size-short}
use Rattle.sgb_import.proofs.graph6.split_size.Goals as goal
use Rattle.sgb_import.proofs.graph6.split_size.Goals.{then-not-are_six_bits-via-then-not-are_six_bits, then-not-are_six_bits-via-else-not-are_six_bits+then-bytes-end}

pub returns-then-not-are_six_bits-clause-none : goal.returns-then-not-are_six_bits-clause-none
returns-then-not-are_six_bits-clause-none c =
    elim c.then-not-are_six_bits.branch [
      | then-not-are_six_bits-via-then-not-are_six_bits w ↦ has_size-false c.args.bytes.now (search rules)
      | then-not-are_six_bits-via-else-not-are_six_bits+then-bytes-end w ↦ has_size-short c.args.bytes.now (search rules)
    ]

pub slice_bounds-number_in-count : goal.slice_bounds-number_in-count
slice_bounds-number_in-count c = omega (arith, tildes-below c.args.bytes.now)

pub slice_bounds-number_in-start : goal.slice_bounds-number_in-start
slice_bounds-number_in-start c = search (rules, tildes-below c.args.bytes.now)

pub number_in-requires-clause-digits : goal.number_in-requires-clause-digits
number_in-requires-clause-digits c =
    digits-six_bits c.args.bytes.now c.split_at.result.0.now c.count_tildes-tildes.result c.size_end-end.result c.split_at.ensures.front (search rules)

pub number_in-requires-clause-few : goal.number_in-requires-clause-few
number_in-requires-clause-few c =
    digits-few c.split_at.result.0.now c.count_tildes-tildes.result (omega (arith, size_end-near c.args.bytes.now))

pub returns-clause-none : goal.returns-clause-none
returns-clause-none c = has_size-true c.args.bytes.now (search rules) (omega arith)

pub returns-clause-size : goal.returns-clause-size
returns-clause-size c =
    c.number_in.ensures
    ∙ size_in-digits c.args.bytes.now c.split_at.result.0.now c.count_tildes-tildes.result
    (c.split_at.ensures.front ∙ ap (λ k. take k c.args.bytes.now) c.size_end-end.ensures) c.count_tildes-tildes.ensures

pub returns-clause-body : goal.returns-clause-body
unfolding body_in
returns-clause-body c = c.split_at.ensures.back ∙ ap (λ k. drop k c.args.bytes.now) c.size_end-end.ensures
