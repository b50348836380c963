use Rattle.std.proofs.Common.{◌≡◌, ◌∙◌, ◌+◌, ◌++◌, [], ◌∷◌, List, ℕ, length, take, subst, sym, ap, refl, arith, length-append}
use Rattle.std.proofs.KnownBytes.{Consumes-trans}
use Rattle.std.proofs.lemmas.List.{length-take-le}
use Rattle.std.proofs.lemmas.Result.{err_from_is_err_and}
use Rattle.std.specs.Io.KnownBytes.{Consumes}
use Rattle.sgb_shell.proofs.TakenBytes.{still_few, takes_ok, takes_err, one_byte, progress_kept, failed_read}
use Rattle.sgb_shell.proofs.script.take_script.Goals as goal

pub returns-in_err-count : goal.returns-in_err-count
returns-in_err-count g c = let p = err_from_is_err_and c.from_residual.result c.from_residual.ensures.1 in
    rw (p.1, p.2) (failed_read _ _ _ _ _ _ _ c.loop-room.room c.loop-room.room c.read_on.new.chunk _ c.loop-room.invariant c.in_err-count.ensures)

pub returns-in_err-more : goal.returns-in_err-more
returns-in_err-more g c = let p = err_from_is_err_and c.from_residual-in_err-more.result c.from_residual-in_err-more.ensures.1 in
    rw (p.1, p.2) (failed_read _ _ _ _ _ _ _ c.loop-room.room 1 c.read_on-2.new.chunk _ c.loop-room.invariant c.in_err-more.ensures)

pub returns-then-is_err : goal.returns-then-is_err
returns-then-is_err g c =
    let run = c.loop-room.invariant in
    let read = c.in_ok-count.ensures in
    let n = c.in_ok-count.count in
    let bytes : List ℕ = c.split_at.result.0.now in
    let size : length bytes ≡ n = ap length c.split_at.ensures.front ∙ length-take-le n c.read_on.new.chunk read.1 in
    let whole : length (run.script ++ bytes) ≡ length run.script + n = length-append run.script bytes ∙ ap (λ k. length run.script + k) size in
    let taken = takes_err _ c.read_on.new.writer c.take.new.writer run.script _ _ c.take.result (sym c.is_err.ensures.value ∙ c.if-is_err.true)
    (c.take.ensures _ run.script (still_few run.script bytes _ n run.rest size read.0) (progress_kept _ _ _ _ _ read.6 run.progress)) in record {
      script = run.script ++ bytes;
      few = let rest = run.rest in let within = read.0 in omega arith;
      seldom = let few = run.seldom in let more = read.5 in omega arith;
      ends = (
        Consumes-trans _ _ _ run.script bytes run.taken (subst (Consumes _ _) (sym c.split_at.ensures.front) read.2),
        read.4,
        taken.1,
        (run.script, bytes, refl, (let last = read.8 in omega (arith, size, last)), taken.0),
      );
    }

pub loop-room-preserved : goal.loop-room-preserved
loop-room-preserved g c =
    let run = c.loop-room.invariant in
    let read = c.in_ok-count.ensures in
    let n = c.in_ok-count.count in
    let bytes : List ℕ = c.split_at.result.0.now in
    let size : length bytes ≡ n = ap length c.split_at.ensures.front ∙ length-take-le n c.read_on.new.chunk read.1 in
    let whole : length (run.script ++ bytes) ≡ length run.script + n = length-append run.script bytes ∙ ap (λ k. length run.script + k) size in
    let taken = takes_ok _ c.read_on.new.writer c.take.new.writer run.script _ _ c.take.result (sym c.is_err.ensures.value ∙ c.if-is_err.false)
    (c.take.ensures _ run.script (still_few run.script bytes _ n run.rest size read.0) (progress_kept _ _ _ _ _ read.6 run.progress)) in record {
      script = run.script ++ bytes;
      taken = Consumes-trans _ _ _ run.script bytes run.taken (subst (Consumes _ _) (sym c.split_at.ensures.front) read.2);
      rest = let rest = run.rest in let within = read.0 in omega arith;
      seldom = let few = run.seldom in let more = read.5 in let some = c.if-count-eq0.false in omega arith;
      reader = read.4;
      writer = taken.1 ∙ read.7;
      progress = taken.0;
    }

pub returns-then-more-gt0 : goal.returns-then-more-gt0
returns-then-more-gt0 g c =
    let run = c.loop-room.invariant in
    let read = c.in_ok-more.ensures in
    let bytes : List ℕ = take c.in_ok-more.more c.read_on-2.new.chunk in
    let one : c.in_ok-more.more ≡ 1 = (let most = read.0 in let some = c.if-more-gt0.true in omega arith) in
    let byte = one_byte bytes (length-take-le _ c.read_on-2.new.chunk read.1 ∙ one) in record {
      script = run.script;
      few = let rest = run.rest in omega arith;
      seldom = let few = run.seldom in let more = read.5 in omega arith;
      ends = (
        let rest = run.rest in omega arith,
        (byte.0, Consumes-trans _ _ _ run.script (byte.0 ∷ []) run.taken (subst (Consumes _ _) byte.1 read.2)),
        read.4,
        read.7,
        progress_kept _ _ _ _ _ read.6 run.progress,
      );
    }
