use Rattle.std.proofs.Common.{◌≡◌, ◌∙◌, ◌+◌, ◌++◌, [], ◌∷◌, List, ℕ, length, take, subst, sym, ap, arith, length-append}
use Rattle.std.proofs.KnownBytes.{Consumes-trans}
use Rattle.std.proofs.lemmas.List.{length-take-le}
use Rattle.std.specs.Io.KnownBytes.{Consumes}
use Rattle.sgb_print.proofs.TextPieces.{or-false}
use Rattle.sgb_programs.proofs.FileReads.{one_byte}
use Rattle.sgb_programs.proofs.file.read_file.Goals as goal

pub returns-then-is_err : goal.returns-then-is_err
returns-then-is_err g c =
    let run = c.loop-room.invariant in
    let read = c.in-Ok.ensures in
    let n = c.in-Ok.count in
    let got = read.bytes in
    let file = c.loop-room.file.items in
    let bytes : List ℕ = c.split_at.result.0.now in
    let size : length bytes ≡ n = ap length c.split_at.ensures.front ∙ length-take-le n c.read_some.new.buffer got.1 in
    let whole : length (file ++ bytes) ≡ length file + n = length-append file bytes ∙ ap (λ k. length file + k) size in
    record {
      reads = record {
        file = file ++ bytes;
        few = let rest = run.rest in let within = got.0 in omega arith;
        seldom = let seldom = run.seldom in let more = read.reads in omega arith;
        ends = (
          Consumes-trans _ _ _ file bytes run.taken (subst (Consumes _ _) (sym c.split_at.ensures.front) got.2),
          read.failed ∙ or-false _ ∙ run.reader,
        );
      };
    }

pub returns-in-Ok-read_some : goal.returns-in-Ok-read_some
returns-in-Ok-read_some g c =
    let run = c.loop-room.invariant in
    let read = c.in-Ok-read_some.ensures in
    let n = c.in-Ok-read_some.field-0 in
    let got = read.bytes in
    let file = c.loop-room.file.items in
    let bytes : List ℕ = take n c.read_some-2.new.buffer in
    let some = c.in-Ok-read_some.field-0-test.1 in
    let one : n ≡ 1 = (let most = got.0 in omega arith) in
    let byte = one_byte bytes (length-take-le n c.read_some-2.new.buffer got.1 ∙ one) in
    record {
      reads = record {
        file = file;
        few = let rest = run.rest in omega arith;
        seldom = let seldom = run.seldom in let more = read.reads in omega arith;
        ends = (
          let rest = run.rest in omega arith,
          (byte.0, Consumes-trans _ _ _ file (byte.0 ∷ []) run.taken (subst (Consumes _ _) byte.1 got.2)),
          read.failed ∙ or-false _ ∙ run.reader,
        );
      };
    }
