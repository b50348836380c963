use Rattle.std.proofs.Common.{◌≡◌, ◌∙◌, take, refl, arith}
use Rattle.sgb_grammar.proofs.Lines.{letters_short, letters_some, letters_none}
use Rattle.sgb_grammar.proofs.header.letters.Goals as goal

pub returns-then-bytes-lt14 : goal.returns-then-bytes-lt14
returns-then-bytes-lt14 c = (refl, letters_short c.args.bytes.now (omega arith))

pub returns-in-Some : goal.returns-in-Some
returns-in-Some c =
    let read = c.in-Some.ensures.some in
    let types : c.in-Some.types ≡ take 14 c.args.bytes.now = read.0 ∙ c.split_at.ensures.front in
    rw (types, c.split_at.ensures.back) (letters_some c.args.bytes.now (rw (← c.split_at.ensures.front) read.1))

pub returns-in-None : goal.returns-in-None
returns-in-None c = (refl, letters_none c.args.bytes.now (λ types. c.in-None.ensures.none (rw c.split_at.ensures.front types)))
