use Rattle.sgb_export.proofs.graphml.put_graphml_head.Goals as goal

pub returns : goal.returns
returns g c = rw (c.as_bytes.ensures.value, c.edge_default.ensures, c.id.ensures.value) at c.put_around.ensures
