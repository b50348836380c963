use Rattle.std.proofs.Common.{◌<◌, length, map, ap, ◌∙◌, arith}
use Rattle.std.proofs.lemmas.List.{length-map, take_all}
use Rattle.sgb_binary.specs.Private.Names.{bytes_of}
use Rattle.sgb_binary.specs.Private.Code.{code_of, codes_of}
use Rattle.sgb_binary.proofs.NameCodes.{code_added, name_short, name_at}
use Rattle.sgb_binary.proofs.code.index_codes.Goals as goal

pub loop-name-init : goal.loop-name-init
loop-name-init c = c.in_ok-codes.ensures.empty

pub code_of-requires : goal.code_of-requires
code_of-requires c =
    let less : c.loop-name.name-index < length c.args.names.now = c.loop-name-test.true in
    name_short (map bytes_of c.args.names.now) c.loop-name.name-index _ c.requires (omega (arith, less, length-map c.args.names.now bytes_of))
    (name_at c.args.names.now c.loop-name.name-index _ less)

pub loop-name-preserved : goal.loop-name-preserved
loop-name-preserved c =
    let less : c.loop-name.name-index < length c.args.names.now = c.loop-name-test.true in
    code_added (map bytes_of c.args.names.now) c.loop-name.name-index c.code_of.result c.loop-name.codes.keys c.insert.new.self.keys c.requires
    (omega (arith, less, length-map c.args.names.now bytes_of))
    (c.code_of.ensures ∙ ap code_of (name_at c.args.names.now c.loop-name.name-index _ less))
    c.loop-name.invariant c.in_ok-insert.ensures.keys

pub returns-clause-keys : goal.returns-clause-keys
returns-clause-keys c =
    c.loop-name.invariant
    ∙ ap codes_of (take_all c.loop-name.name-index (map bytes_of c.args.names.now) (omega (arith, length-map c.args.names.now bytes_of)))
