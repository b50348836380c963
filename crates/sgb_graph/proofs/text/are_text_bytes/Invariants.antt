use Rattle.std.proofs.Common.{◌≡◌, take}
use Rattle.std.specs.List.{list_all}
use Rattle.sgb_graph.specs.Text.{is_text_byte}
use Rattle.sgb_graph.proofs.text.are_text_bytes.Given as goal

abbrev pub invariant-bytes : goal.invariant-bytes
invariant-bytes l = l.all ≡ list_all is_text_byte (take l.byte-index l.bytes)
