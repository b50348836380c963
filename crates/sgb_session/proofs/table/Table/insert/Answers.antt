use Rattle.std.proofs.Common.{ap, ◌∙◌, refl, sym, subst, map, insert, All, Some, IsSome}
use Rattle.sgb_session.proofs.Tables.{map-insert, All-insert}
use Rattle.sgb_session.proofs.table.Table.insert.Goals as goal
use Rattle.sgb_session.specs.Private.Slots.{held}

pub invariant_of-self : goal.invariant_of-self
invariant_of-self c =
    subst (All (λ o. IsSome o)) (sym c.insert.ensures.items) (All-insert (λ o. IsSome o) c.self.inside.entries.items c.args.place (Some (record { name = c.args.name; graph = c.args.graph })) c.self.invariant refl)

pub returns : goal.returns
returns c =
    ap (map held) c.insert.ensures.items
    ∙ (map-insert held c.self.inside.entries.items c.args.place _ ∙ ap (λ t. insert t c.args.place (record { name = c.args.name; graph = c.args.graph })) c.self.view_is)
