use Rattle.std.proofs.Common.{◌≡◌, ◌≤◌, ◌∙◌, ℕ, ap, ap₂, sym, subst, length, map, arith}
use Rattle.std.specs.Option.{option_or}
use Rattle.std.proofs.lemmas.Result.{err_from_is_err_and}
use Rattle.sgb_import.specs.Outline.{numbered}
use Rattle.sgb_import.specs.Private.EdgesRead.{IsFound, Tells, shown_ends}
use Rattle.sgb_import.specs.Private.Outlined.{bytes_of, names_in}
use Rattle.sgb_import.proofs.EdgesSoFar.{found_numbers, found_words, kind_numbers, kind_words, fault_of_number, fault_of_name}
use Rattle.sgb_import.proofs.EdgeNames.{length-numbered}
use Rattle.sgb_import.proofs.edges_ends.find_ends.Goals as goal

pub returns-in_err-number_ends-in-Numbers-clause-err : goal.returns-in_err-number_ends-in-Numbers-clause-err
returns-in_err-number_ends-in-Numbers-clause-err c =
    let p = err_from_is_err_and c.from_residual.result c.from_residual.ensures.1 in
    let kind = kind_numbers c.args.list.names c.args.names.now _ _ c.in-Numbers.is c.requires.kind in
    rw (p.1, p.2)
    (ap₂ option_or (fault_of_number c.args.list c.args.header c.args.edge.now.from.now kind.0) (fault_of_number c.args.list c.args.header c.args.edge.now.to.now kind.0)
    ∙ c.in_err-number_ends-in-Numbers.ensures.err)

pub returns-in_err-name_ends-in-Words-clause-err : goal.returns-in_err-name_ends-in-Words-clause-err
returns-in_err-name_ends-in-Words-clause-err c =
    let p = err_from_is_err_and c.from_residual-in_err-name_ends-in-Words.result c.from_residual-in_err-name_ends-in-Words.ensures.1 in
    let kind = kind_words c.args.list.names c.args.names.now _ c.in-Words.is c.requires.kind in
    rw (p.1, p.2)
    (subst (λ fault. Tells fault c.in_err-name_ends-in-Words.field-0.0)
    (sym (ap₂ option_or (fault_of_name c.args.list c.args.header c.args.edge.now.from.now kind) (fault_of_name c.args.list c.args.header c.args.edge.now.to.now kind)))
    c.in_err-name_ends-in-Words.ensures.err)

pub returns-in_ok-number_ends-in-Numbers-clause-ok : goal.returns-in_ok-number_ends-in-Numbers-clause-ok
returns-in_ok-number_ends-in-Numbers-clause-ok c = λ es same.
    let list = c.args.list in
    let header = c.args.header in
    let edge = shown_ends c.args.edge.now in
    let first : ℕ = c.in-Numbers.field-0 in
    let count : ℕ = c.in-Numbers.count in
    let after : ℕ = c.number_ends.new.count in
    let from : ℕ = c.in_ok-number_ends-in-Numbers.field-0.0 in
    let to : ℕ = c.in_ok-number_ends-in-Numbers.field-0.1 in
    let kind = kind_numbers list.names c.args.names.now first count c.in-Numbers.is c.requires.kind in
    let old_is : names_in c.args.names.now ≡ numbered 0 count = ap names_in c.in-Numbers.is ∙ ap (λ f. numbered f count) kind.1 in
    let few : count ≤ 65535 = omega (arith, c.requires.few, ap (λ ns. length ns) old_is, length-numbered 0 count) in
    subst (λ old. IsFound list header es edge old (numbered first after) from to) (sym old_is)
    (subst (λ f. IsFound list header es edge (numbered 0 count) (numbered f after) from to) (sym kind.1)
    (found_numbers list header es edge count after from to kind.0 (sym old_is ∙ same)
    c.in_ok-number_ends-in-Numbers.ensures.from c.in_ok-number_ends-in-Numbers.ensures.to
    c.in_ok-number_ends-in-Numbers.ensures.from_low c.in_ok-number_ends-in-Numbers.ensures.to_low
    c.requires.most few c.in_ok-number_ends-in-Numbers.ensures.count))

pub returns-in_ok-name_ends-in-Words-clause-ok : goal.returns-in_ok-name_ends-in-Words-clause-ok
returns-in_ok-name_ends-in-Words-clause-ok c = λ es same.
    let list = c.args.list in
    let header = c.args.header in
    let edge = shown_ends c.args.edge.now in
    let from : ℕ = c.in_ok-name_ends-in-Words.field-0.0 in
    let to : ℕ = c.in_ok-name_ends-in-Words.field-0.1 in
    let kind = kind_words list.names c.args.names.now _ c.in-Words.is c.requires.kind in
    let old_is : names_in c.args.names.now ≡ map bytes_of c.in-Words.words.keys = ap names_in c.in-Words.is in
    subst (λ old. IsFound list header es edge old (map bytes_of c.name_ends.new.words.keys) from to) (sym old_is)
    (found_words list header es edge (map bytes_of c.in-Words.words.keys) (map bytes_of c.name_ends.new.words.keys) from to kind (sym old_is ∙ same)
    c.in_ok-name_ends-in-Words.ensures.from c.in_ok-name_ends-in-Words.ensures.to c.in_ok-name_ends-in-Words.ensures.names
    c.in_ok-name_ends-in-Words.ensures.from_place c.in_ok-name_ends-in-Words.ensures.to_place)
