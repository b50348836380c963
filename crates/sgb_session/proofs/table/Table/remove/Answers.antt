use Rattle.std.proofs.Common.{ap, ◌∙◌, map, remove, subst, sym, All, IsSome, arith}
use Rattle.std.proofs.lemmas.List.{length-map}
use Rattle.sgb_session.proofs.Tables.{map-remove, All-remove}
use Rattle.sgb_session.proofs.table.Table.remove.Goals as goal
use Rattle.sgb_session.specs.Private.Slots.{held}

pub invariant_of-self : goal.invariant_of-self
invariant_of-self c =
    subst (All (λ o. IsSome o)) (sym c.remove.ensures.items) (All-remove (λ o. IsSome o) c.self.inside.entries.items c.args.place c.self.invariant)

pub returns-clause-table : goal.returns-clause-table
returns-clause-table c =
    ap (map held) c.remove.ensures.items ∙ (map-remove held c.self.inside.entries.items c.args.place ∙ ap (λ t. remove t c.args.place) c.self.view_is)

pub returns-clause-few : goal.returns-clause-few
returns-clause-few c = omega (arith, length-map c.remove.new.self.items held, c.remove.ensures.len, c.len.ensures.fits, c.len.ensures.value)
