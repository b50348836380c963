use Rattle.std.proofs.Common.{◌==◌, ap, sym, ◌∙◌}
use Rattle.std.specs.Cmp.Lexicographic.{pointwise}
use Rattle.std.specs.Option.{option_to_list}
use Rattle.sgb_binary.specs.Private.Names.{bytes_of}
use Rattle.sgb_binary.proofs.RotationSteps.{position-map}
use Rattle.sgb_binary.proofs.index.number_of.Goals as goal

pub returns-clause-value : goal.returns-clause-value
returns-clause-value c =
    ap option_to_list
    (c.get_index_of.ensures.index
    ∙ sym (position-map (pointwise ◌==◌ c.args.name.now) bytes_of c.args.index.now.keys))
