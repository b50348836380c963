use Rattle.std.proofs.Common.{◌≡◌, length, drop, ap, arith, length-append}
use Rattle.std.specs.Fmt.{decimal}
use Rattle.std.proofs.lemmas.List.{length-drop}
use Rattle.std.proofs.lemmas.Fmt.{length-decimal-le}
use Rattle.sgb_print.proofs.page.Page.prepend_number.Goals as goal

pub write_digits-self-inside-requires : goal.write_digits-self-inside-requires
write_digits-self-inside-requires c =
    let few = length-decimal-le 20 c.args.number (omega arith) (omega arith) (omega arith) in
    let held = length-drop c.self.inside.start c.self.inside.bytes in
    let seen : length (drop c.self.inside.start c.self.inside.bytes) ≡ length c.args.self.now = ap length c.self.view_is in
    let told = c.self.told in
    let within = c.self.invariant in
    (omega arith, omega arith)

pub returns-clause-count : goal.returns-clause-count
returns-clause-count c =
    let few = length-decimal-le 20 c.args.number (omega arith) (omega arith) (omega arith) in
    let whole = ap length c.write_digits-self-inside.ensures.written in
    let seen : length (drop c.self.inside.start c.self.inside.bytes) ≡ length c.args.self.now = ap length c.self.view_is in
    omega (arith, length-append (decimal c.args.number) (drop c.self.inside.start c.self.inside.bytes))
