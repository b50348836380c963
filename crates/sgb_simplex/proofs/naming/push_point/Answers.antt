use Rattle.std.proofs.Common.{◌≡◌, ◌∷◌, ◌++◌, [], List, ap, ◌∙◌}
use Rattle.sgb_graph.specs.declared.field.Util.{Util}
use Rattle.sgb_graph.specs.declared.field.Util.TheVariants.{Zero}
use Rattle.sgb_plan.specs.Name.{dotted}
use Rattle.sgb_simplex.specs.Points.{point_vertex}
use Rattle.sgb_simplex.proofs.PointNames.{names_one}
use Rattle.sgb_simplex.proofs.naming.push_point.Goals as goal

pub returns : goal.returns
returns c =
    let written : c.append_dotted.new.bytes.items ≡ dotted c.args.point.now = c.in_ok-append_dotted.ensures.ok ∙ ap (λ l. l ++ dotted c.args.point.now) c.clear.ensures.items in
    let f0 = c.coordinate_field.ensures in
    let f1 = c.coordinate_field-2.ensures in
    let f2 = c.coordinate_field-3.ensures in
    let fields : List Util = Zero ∷ Zero ∷ Zero ∷ c.coordinate_field.result ∷ c.coordinate_field-2.result ∷ c.coordinate_field-3.result ∷ [] in
    let same : fields ≡ (point_vertex c.args.point.now).fields = cc in
    names_one c.args.builder.now c.push_vertex.new.self c.args.point.now c.in_ok-label.label fields c.push_vertex.result
    (c.in_ok-label.ensures.value ∙ (c.deref.ensures.value ∙ written)) same c.push_vertex.ensures.ok c.push_vertex.ensures.err
