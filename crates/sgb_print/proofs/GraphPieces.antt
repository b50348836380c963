-- How the pieces that are printed make up a graph's text.
use Rattle.std.proofs.Common.{◌≡◌, List, [], ◌++◌, codes, Bool, ◌&&◌, true, false, refl}
use Rattle.std.specs.List.{list_all}
use Rattle.sgb_graph.specs.declared.field.Util.{Util}
use Rattle.sgb_print.specs.Show.{is_zero, graph_fields, arc_fields, fields_text, graph_fields_text}

-- fields that are Zero leave the end of the line
both : (a b : Bool) → (a && (b && true)) ≡ true → (a ≡ true) × (b ≡ true)
both true true e = (refl, refl)
both true false e = cc
both false b e = cc

pub zeros_end : (us : List Util) → list_all (λ p. is_zero p.1) (arc_fields us) ≡ true → fields_text (arc_fields us) ≡ codes "\n"
zeros_end us zeros = let each = both _ _ zeros in rw (each.0, each.1) refl

pub without_fields : (us : List Util) → list_all (λ p. is_zero p.1) (graph_fields us) ≡ true → graph_fields_text us ≡ []
without_fields us zeros = rw zeros refl

pub with_fields : (us : List Util) → list_all (λ p. is_zero p.1) (graph_fields us) ≡ false → graph_fields_text us ≡ codes "G" ++ fields_text (graph_fields us)
with_fields us some = rw some refl
