use Rattle.std.proofs.Common.{length, map, ap, subst, ◌∙◌, arith}
use Rattle.std.proofs.lemmas.List.{length-map}
use Rattle.sgb_graph.specs.Builder.{Inserts}
use Rattle.sgb_graph.specs.Graph.{n_of}
use Rattle.sgb_binary.specs.Private.Names.{bytes_of}
use Rattle.sgb_binary.specs.Rotation.{rotations}
use Rattle.sgb_binary.proofs.rotation.insert_rotations.Goals as goal

pub insert_by_code-requires-clause-vertices : goal.insert_by_code-requires-clause-vertices
insert_by_code-requires-clause-vertices c = ap (λ b. n_of b.graph) c.in_ok-reserve.ensures.same ∙ c.requires.vertices

pub insert_by_code-requires-clause-names : goal.insert_by_code-requires-clause-names
insert_by_code-requires-clause-names c = record { width = c.args.width; short = c.if-width-lt64.true; names = c.requires.names; apart = c.requires.apart }

pub insert_by_name-requires-clause-vertices : goal.insert_by_name-requires-clause-vertices
insert_by_name-requires-clause-vertices c =
    omega
    (arith, ap (λ b. n_of b.graph) c.in_ok-reserve.ensures.same, c.requires.vertices, ap (λ xs. length xs) c.in_ok-index.ensures.keys, length-map c.in_ok-index.index.keys bytes_of, length-map c.args.names.now bytes_of)

pub insert_by_name-requires-clause-few : goal.insert_by_name-requires-clause-few
insert_by_name-requires-clause-few c =
    omega
    (arith, c.requires.few, ap (λ xs. length xs) c.in_ok-index.ensures.keys, length-map c.in_ok-index.index.keys bytes_of, length-map c.args.names.now bytes_of)

pub returns-then-width-lt64 : goal.returns-then-width-lt64
returns-then-width-lt64 c =
    subst (λ b. Inserts b c.insert_by_code.new.builder (rotations (map bytes_of c.args.names.now)) c.insert_by_code.result) c.in_ok-reserve.ensures.same
    c.insert_by_code.ensures

pub returns : goal.returns
returns c =
    subst (λ b. Inserts b c.insert_by_name.new.builder (rotations (map bytes_of c.args.names.now)) c.insert_by_name.result) c.in_ok-reserve.ensures.same
    (subst (λ es. Inserts c.reserve.new.self c.insert_by_name.new.builder es c.insert_by_name.result) (ap rotations c.in_ok-index.ensures.keys)
    c.insert_by_name.ensures)
