use Rattle.std.proofs.Common.{◌<◌, length, arith}
use Rattle.std.proofs.lemmas.List.{get_or_default}
use Rattle.sgb_shell.specs.Answer.{entry_text}
use Rattle.sgb_session.specs.Table.{entry_in, no_entry}
use Rattle.sgb_print.proofs.TextPieces.{prints_all, writes_piece, fails_piece, item_and_rest, no_rest}
use Rattle.sgb_shell.proofs.answer.print_entries.Goals as goal

pub returns-in_err-print_entry : goal.returns-in_err-print_entry
returns-in_err-print_entry g c =
    let t = c.args.session.now.table in
    let i = c.loop-place.place in
    let within : i < length t = omega (arith, c.len-place-end.ensures.value) in
    fails_piece _ c.loop-place.invariant c.in_err-print_entry.ensures
    (item_and_rest entry_text t i (entry_in t i) (entry_in t i) within (get_or_default t i no_entry (entry_in t i) within)) c.from_residual.ensures.0

pub loop-place-preserved : goal.loop-place-preserved
loop-place-preserved g c =
    let t = c.args.session.now.table in
    let i = c.loop-place.place in
    let within : i < length t = omega (arith, c.len-place-end.ensures.value) in
    writes_piece c.loop-place.invariant c.in_ok-print_entry.ensures
    (item_and_rest entry_text t i (entry_in t i) (entry_in t i) within (get_or_default t i no_entry (entry_in t i) within))

pub returns : goal.returns
returns g c =
    let t = c.args.session.now.table in
    prints_all c.loop-place.invariant (no_rest entry_text t c.loop-place.place (omega (arith, c.len-place-end.ensures.value)))
