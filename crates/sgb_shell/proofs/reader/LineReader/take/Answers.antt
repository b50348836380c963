use Rattle.std.proofs.Common.{◌<◌, ◌^◌, ◌∙◌, sym, subst, take, length, ◌++◌, arith}
use Rattle.std.proofs.lemmas.List.{take_all}
use Rattle.std.proofs.lemmas.Result.{err_from_is_err_and}
use Rattle.sgb_shell.specs.Private.Reaching.{Progress}
use Rattle.sgb_shell.proofs.Bytes.{split_script, rest_failed, front_taken}
use Rattle.sgb_shell.proofs.reader.LineReader.take.Goals as goal

pub returns-in_err-count : goal.returns-in_err-count
returns-in_err-count g c held script few p =
    let bytes = c.args.bytes.now in
    let i = c.loop-done.done in
    let rest = c.split_at.ensures.back in
    let so_far = c.loop-done.invariant.1 held script few p in
    let whole = split_script script bytes i _ rest in
    let failed = c.in_err-count.ensures.takes held (script ++ take i bytes) (subst (λ t. length t < 2 ^ 32) (sym whole) few) so_far.0 in
    let r = err_from_is_err_and c.from_residual.result c.from_residual.ensures.1 in
    rw r.1 (rest_failed held _ script bytes i _ rest failed.0, failed.1)

pub loop-done-preserved : goal.loop-done-preserved
loop-done-preserved g c =
    let bytes = c.args.bytes.now in
    let i = c.loop-done.done in
    let n = c.in_ok-count.count in
    let rest = c.split_at.ensures.back in
    let room = c.split_at.ensures.back_len in
    let counted = c.in_ok-count.ensures.count in (
      omega arith,
      λ held script few p.
          let so_far = c.loop-done.invariant.1 held script few p in
          let more = c.in_ok-count.ensures.takes held (script ++ take i bytes) (subst (λ t. length t < 2 ^ 32) (sym (split_script script bytes i _ rest)) few) so_far.0 in
          (front_taken held _ script bytes i n _ rest _ more.0, more.1 ∙ so_far.1),
    )

pub returns : goal.returns
returns g c held script few p =
    let all = c.loop-done.invariant.1 held script few p in
    (subst (λ t. Progress held c.loop-done.writer.held (script ++ t) c.loop-done.self) (take_all c.loop-done.done c.args.bytes.now c.loop-done-test.false) all.0, all.1)
