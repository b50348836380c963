use Rattle.std.proofs.Common.{ap, sym, ◌∙◌}
use Rattle.std.specs.List.{flat_map}
use Rattle.std.specs.Option.{option_to_list}
use Rattle.std.proofs.lemmas.List.{append-nil}
use Rattle.sgb_binary.specs.Private.Code.{number_among}
use Rattle.sgb_binary.proofs.code.find_code.Goals as goal

pub returns-clause-value : goal.returns-clause-value
returns-clause-value c =
    ap option_to_list c.get_index_of.ensures.index
    ∙ (sym (append-nil (number_among c.args.codes.now.keys c.in_ok-turned.turned)) ∙ ap (flat_map (number_among c.args.codes.now.keys)) c.in_ok-turned.ensures)
