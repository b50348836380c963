use Rattle.std.proofs.Common.{◌≡◌, ◌≤◌, length, ap, ◌∙◌, arith}
use Rattle.std.proofs.lemmas.List.FromFn.{length-map-range_with_len}
use Rattle.std.specs.Fmt.{decimal}
use Rattle.sgb_import.specs.Private.Outlined.{names_in}
use Rattle.sgb_import.proofs.outline.name_vertices.Goals as goal

pub name_by_numbers-requires : goal.name_by_numbers-requires
name_by_numbers-requires c =
    let many : length (names_in c.args.names.now) ≡ c.in-Numbers.count =
    ap (λ names. length (names_in names)) c.in-Numbers.is ∙ length-map-range_with_len decimal c.in-Numbers.first c.in-Numbers.count in
    let few : length (names_in c.args.names.now) ≤ 65535 = c.requires.few in
    omega (arith, many, few)
