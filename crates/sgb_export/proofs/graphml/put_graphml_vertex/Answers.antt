use Rattle.sgb_export.proofs.graphml.put_graphml_vertex.Goals as goal

pub returns : goal.returns
returns g c = rw (c.as_bytes-digits.ensures.value, c.format.ensures.text, c.label.ensures.value) at c.put_around.ensures
