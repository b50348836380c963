use Rattle.std.proofs.Common.{rules, ◌≡◌, Ok}
use Rattle.sgb_session.specs.Private.Making.{MakesGraph, unmade}
use Rattle.sgb_session.proofs.MakerSteps.{not_boxed}
use Rattle.sgb_session.proofs.making.make_boxed.Goals as goal

pub returns-in-Err : goal.returns-in-Err
returns-in-Err c =
    let d = c.args.generator.now in
    let e = c.make_graph.new.generator in
    let t = c.args.table.now in
    let m = c.args.maker.now in
    let made : MakesGraph d e t m (Ok (c.in_ok-graph.graph, c.in_ok-graph.delta)) = search rules in
    let back : c.unmake.new.generator ≡ unmade c.in_ok-graph.delta e = search rules in
    not_boxed d e c.unmake.new.generator t m (c.in_ok-graph.graph, c.in_ok-graph.delta) made back
