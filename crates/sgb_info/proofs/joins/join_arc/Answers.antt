use Rattle.std.proofs.Common.{◌≡◌, ◌<◌, ◌+◌, ap, sym, subst, ◌∙◌, length, arith}
use Rattle.sgb_graph.specs.declared.field.Tip.TheVariants.{To}
use Rattle.sgb_graph.specs.Graph.{IsTip, n_of}
use Rattle.sgb_graph.specs.Edit.{entry_at}
use Rattle.sgb_info.proofs.ClassLemmas.{arc_joins, arc_put, length_united}
use Rattle.sgb_info.proofs.joins.join_arc.Goals as goal

pub join-requires-2-clause-a : goal.join-requires-2-clause-a
join-requires-2-clause-a c = omega (arith, c.requires.vertex, c.requires.room, ap length c.join.ensures, length_united c.args.vertex.0 (c.in-To.to.0 + c.args.gap) c.args.classes.now)

pub join-requires-2-clause-b : goal.join-requires-2-clause-b
join-requires-2-clause-b c =
    let to : c.in-To.to.0 < n_of c.args.graph.now = subst (IsTip (n_of c.args.graph.now)) c.in-To.is c.in-Some.ensures.tip in
    omega (arith, c.requires.room, ap length c.join.ensures, length_united c.args.vertex.0 (c.in-To.to.0 + c.args.gap) c.args.classes.now)

pub returns-clause-joins : goal.returns-clause-joins
returns-clause-joins c =
    let g = c.args.graph.now in
    let to : c.in-To.to.0 < n_of g = subst (IsTip (n_of g)) c.in-To.is c.in-Some.ensures.tip in
    let leads : (entry_at g c.args.number.0).tip ≡ To (record { 0 = c.in-To.to.0 }) = sym c.in-Some.ensures.entry.tip ∙ c.in-To.is in
    arc_joins g c.args.gap c.args.vertex.0 c.in-To.to.0 c.args.number.0 c.args.classes.now c.join.new.self c.join-2.new.self leads c.join.ensures c.join-2.ensures
    c.requires.listed (omega (arith, c.requires.vertex, c.requires.room)) (omega (arith, to, c.requires.room))

pub returns-clause-put : goal.returns-clause-put
returns-clause-put c =
    let g = c.args.graph.now in
    let leads : (entry_at g c.args.number.0).tip ≡ To (record { 0 = c.in-To.to.0 }) = sym c.in-Some.ensures.entry.tip ∙ c.in-To.is in
    arc_put g c.args.gap c.args.vertex.0 c.in-To.to.0 c.args.number.0 c.args.classes.now c.join.new.self c.join-2.new.self leads c.join.ensures c.join-2.ensures
