use Rattle.std.proofs.Common.{◌≡◌, true, codes, refl, rules}
use Rattle.std.specs.Str.{bytes_eq}
use Rattle.sgb_script.specs.declared.command.Line.TheVariants.{Undo, Redo, Query, Group, End}
use Rattle.sgb_script.specs.declared.command.Query.TheVariants as queries
use Rattle.sgb_script.proofs.CommandLemmas.{reads_end}
use Rattle.sgb_script.proofs.line.line_of_command.Goals as goal

pub returns-then-eq-5 : goal.returns-then-eq-5
returns-then-eq-5 c =
    let same : bytes_eq c.args.command.now (codes "undo") ≡ true = search rules in
    reads_end c.args.command.now (codes "undo") Undo c.args.words.now _ same refl (λ w ws. refl) c.finish-then-eq-5.ensures

pub returns-then-eq-6 : goal.returns-then-eq-6
returns-then-eq-6 c =
    let same : bytes_eq c.args.command.now (codes "redo") ≡ true = search rules in
    reads_end c.args.command.now (codes "redo") Redo c.args.words.now _ same refl (λ w ws. refl) c.finish-then-eq-6.ensures

pub returns-then-eq-7 : goal.returns-then-eq-7
returns-then-eq-7 c =
    let same : bytes_eq c.args.command.now (codes "group") ≡ true = search rules in
    reads_end c.args.command.now (codes "group") Group c.args.words.now _ same refl (λ w ws. refl) c.finish-then-eq-7.ensures

pub returns-then-eq-8 : goal.returns-then-eq-8
returns-then-eq-8 c =
    let same : bytes_eq c.args.command.now (codes "end") ≡ true = search rules in
    reads_end c.args.command.now (codes "end") End c.args.words.now _ same refl (λ w ws. refl) c.finish-then-eq-8.ensures

pub returns-then-eq-19 : goal.returns-then-eq-19
returns-then-eq-19 c =
    let same : bytes_eq c.args.command.now (codes "list") ≡ true = search rules in
    reads_end c.args.command.now (codes "list") (Query queries.List) c.args.words.now _ same refl (λ w ws. refl) c.finish-then-eq-19.ensures
