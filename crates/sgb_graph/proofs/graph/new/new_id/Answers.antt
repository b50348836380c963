use Rattle.std.proofs.Common.{◌≡◌, ◌∙◌, ap, subst, sym}
use Rattle.sgb_graph.specs.New.{new_id}
use Rattle.sgb_graph.specs.Text.{IsText}
use Rattle.sgb_graph.proofs.NewLemmas.{new_id_is, id_ok}
use Rattle.sgb_graph.proofs.graph.new.new_id.Goals as goal

pub from_bytes-requires : goal.from_bytes-requires
from_bytes-requires c =
    let is : c.into_bytes.result.items ≡ new_id c.args.n = ap (λ v. v.items) c.into_bytes.ensures.value ∙ c.in_ok-id.ensures.ok in
    subst IsText (sym is) (new_id_is c.args.n c.requires).text

pub returns : goal.returns
returns c =
    let is : c.into_bytes.result.items ≡ new_id c.args.n = ap (λ v. v.items) c.into_bytes.ensures.value ∙ c.in_ok-id.ensures.ok in
    id_ok c.from_bytes.result c.into_bytes.result.items c.args.n is c.requires c.from_bytes.ensures
