use Rattle.std.proofs.Common.{◌<◌, ◌^◌, Some, w64, ap, sym, ◌∙◌, arith}
use Rattle.std.proofs.lemmas.Int.{to_z_pos}
use Rattle.sgb_script.proofs.Digits.{short_number}
use Rattle.sgb_script.proofs.numbers.number.Goals as goal

pub returns-in-Some : goal.returns-in-Some
returns-in-Some c =
    let read = c.in-Some.ensures in
    ap Some (to_z_pos w64 c.in-Some.number (let small : c.in-Some.number < 10 ^ 17 = read.small in omega arith))
    ∙ sym (short_number c.args.word.now c.in-Some.number read.value read.small)
