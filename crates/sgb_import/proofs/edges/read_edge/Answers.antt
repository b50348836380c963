use Rattle.std.proofs.Common.{◌≡◌, ◌+◌, ◌∷◌, [], ◌++◌, Some, None, IsSomeAnd, ℕ, ℤ, length, refl, w64, ap, ap₂, sym, subst, ◌∙◌}
use Rattle.std.proofs.lemmas.Int.{to_z-of_z}
use Rattle.std.proofs.lemmas.Result.{err_from_is_err_and}
use Rattle.sgb_import.specs.declared.outline.Link.{Link}
use Rattle.sgb_import.specs.Edges.{edge_fault}
use Rattle.sgb_import.specs.Private.EdgesRead.{IsRead, limits_fault, shown_ends}
use Rattle.sgb_import.specs.Private.Outlined.{names_in}
use Rattle.sgb_import.proofs.EdgesRun.{edge_fault_is, read_more}
use Rattle.sgb_import.proofs.edges.read_edge.Goals as goal

abbrev with_len : ℕ → ℕ → ℤ → Link
with_len from to len = record { from = from; to = to; len = len }

pub returns-in_err-check_limits-clause-err : goal.returns-in_err-check_limits-clause-err
returns-in_err-check_limits-clause-err c = λ es read.
    let p = err_from_is_err_and c.from_residual-in_err-check_limits.result c.from_residual-in_err-check_limits.ensures.1 in
    let list = c.args.list in
    let header = c.args.header in
    let ns = c.args.gathered.now.names in
    let ls = c.args.gathered.now.links in
    let ms = c.find_ends.new.names in
    let e = shown_ends c.in-Some.edge in
    let link : Link = record { from = c.in_ok-from.from; to = c.in_ok-from.to; len = c.in-Some.edge.len } in
    let found = c.in_ok-from.ensures.ok es read.names in
    rw (p.1, p.2)
    (subst (λ o. edge_fault list header es o ≡ Some c.in_err-check_limits.field-0.0) c.in-Some.ensures.value
    (edge_fault_is list header es e ns ms ls.items link read found
    ∙ (ap₂ (λ n m. limits_fault list header n (m + 1)) (sym c.len.ensures) (sym ls.ok.0 ∙ sym c.len-2.ensures)
    ∙ c.in_err-check_limits.ensures)))

pub returns-clause-ok : goal.returns-clause-ok
returns-clause-ok c = λ es read.
    let list = c.args.list in
    let header = c.args.header in
    let ns = c.args.gathered.now.names in
    let ls = c.args.gathered.now.links in
    let ms = c.find_ends.new.names in
    let e = shown_ends c.in-Some.edge in
    let link : Link = record { from = c.in_ok-from.from; to = c.in_ok-from.to; len = c.in-Some.edge.len } in
    let found = c.in_ok-from.ensures.ok es read.names in
    let none : limits_fault list header (length (names_in ms)) (length ls.items + 1) ≡ None =
    ap₂ (λ n m. limits_fault list header n (m + 1)) (sym c.len.ensures) (sym ls.ok.0 ∙ sym c.len-2.ensures) ∙ c.in_ok-check_limits.ensures in
    subst (λ o. IsSomeAnd o (λ x. (edge_fault list header es (Some x) ≡ None) × IsRead list header (es ++ x ∷ []) ms c.push.new.self.items)) c.in-Some.ensures.value (
      edge_fault_is list header es e ns ms ls.items link read found ∙ none,
      subst (λ items. IsRead list header (es ++ e ∷ []) ms items)
          (sym (c.in_ok-push.ensures.items ∙ ap (λ len. ls.items ++ with_len c.in_ok-from.from c.in_ok-from.to len ∷ []) (to_z-of_z w64 c.in-Some.edge.len c.in-Some.ensures.len)))
          (read_more list header es e ns ms ls.items link read found refl c.in-Some.ensures.len c.in_ok-from.ensures.kind none),
    )
