-- What stays true while bytes are taken.
use Rattle.std.proofs.Common.{◌≡◌, ◌<◌, ◌≤◌, ◌+◌, ◌^◌, ℕ, true, false, List, [], ◌∷◌, ◌++◌, length, Option, Result, Ok, Err, refl, sym, arith, length-append, append-nil}
use Rattle.std.specs.Prelude.{is_err}
use Rattle.std.specs.Io.KnownBytes.{Consumes, Keeps}
use Rattle.std.proofs.KnownBytes.{Consumes-kept, Appends-kept}
use Rattle.sgb_print.specs.Meter.{ReaderUse, WriterUse}
use Rattle.sgb_print.specs.declared.fault.RunFault.{RunFault}
use Rattle.sgb_print.specs.declared.fault.RunFault.TheVariants.{Read, Write, TooLong, NoRoom}
use Rattle.sgb_shell.specs.Lines.{whole_lines}
use Rattle.sgb_shell.specs.Private.Reaching.{ReaderView, Progress, Stopped, Takes}
use Rattle.sgb_shell.specs.Private.Taking.{ReadsOn, TakesScript}
use Rattle.sgb_shell.proofs.Progress.{stopped-reached}

-- some bytes of the script are taken, and so many more may be
pub record Running {R W : Type 0} (left : Option (List ℕ)) (r : ReaderUse R) (held : Option (List ℕ)) (w : WriterUse W) (v : ReaderView) (room : ℕ) : Type 0 where
  pub script : List ℕ
  pub taken : Consumes left r.left script
  pub rest : length script + room ≡ 16777216
  pub seldom : r.reads ≤ length script
  pub reader : r.failed ≡ false
  pub writer : w.failed ≡ false
  pub progress : Progress held w.held script v

-- what was written stays where a reader or a writer is only asked
pub progress_kept : (held now now' : Option (List ℕ)) (script : List ℕ) (v : ReaderView) → Keeps now now' → Progress held now script v → Progress held now' script v
progress_kept held now now' script v same progress = record {
  reached = record {
    no_room = progress.reached.no_room;
    above = progress.reached.above;
    lines = progress.reached.lines;
    waits = progress.reached.waits;
    lists = progress.reached.lists;
    refused = progress.reached.refused;
    text = Appends-kept held now now' _ progress.reached.text same;
    begun = progress.reached.begun;
  };
  holds = progress.holds;
}

-- a read, or the flush before it, failed
pub failed_read : {R W X : Type 0} (left : Option (List ℕ)) (r r' : ReaderUse R) (held : Option (List ℕ)) (w w' : WriterUse W) (v : ReaderView) (room most : ℕ) (bytes : List ℕ) (fault : RunFault)
    → Running left r held w v room → ReadsOn r r' w w' most bytes (Err fault) → TakesScript {X = X} left r' held w' v (Err fault)
failed_read left r r' held w w' v room most bytes Read run f = record {
  script = run.script;
  few = let rest = run.rest in omega arith;
  seldom = let few = run.seldom in let more = f.2 in omega arith;
  ends = (Consumes-kept left r.left r'.left _ run.taken f.0, f.1, f.4, progress_kept held w.held w'.held run.script v f.3 run.progress);
}
failed_read left r r' held w w' v room most bytes Write run f = record {
  script = run.script;
  few = let rest = run.rest in omega arith;
  seldom = let few = run.seldom in let same = f.2 in omega arith;
  ends = (
    Consumes-kept left r.left r'.left _ run.taken f.0,
    f.1,
    f.4,
    (run.script, [], sym (append-nil run.script), omega arith, stopped-reached held w'.held (whole_lines run.script) v.shell (progress_kept held w.held w'.held run.script v f.3 run.progress).reached),
  );
}
failed_read left r r' held w w' v room most bytes TooLong run f = absurd f
failed_read left r r' held w w' v room most bytes NoRoom run f = absurd f

pub still_few : (script bytes : List ℕ) (room n : ℕ) → length script + room ≡ 16777216 → length bytes ≡ n → n ≤ room → length (script ++ bytes) < 2 ^ 32
still_few script bytes room n rest size within = omega (arith, length-append script bytes)

module _ {W X E : Type 0} (held : Option (List ℕ)) (w w' : WriterUse W) (before script : List ℕ) (v : ReaderView) where
  pub takes_ok : (r : Result X E) → is_err r ≡ false → Takes held w w' before script v r → Progress held w'.held script v × (w'.failed ≡ w.failed)
  takes_ok (Ok x) e t = t
  takes_ok (Err x) e t = cc

  pub takes_err : (r : Result X E) → is_err r ≡ true → Takes held w w' before script v r → Stopped held w'.held (whole_lines before) (whole_lines script) × (w'.failed ≡ true)
  takes_err (Ok x) e t = cc
  takes_err (Err x) e t = t

pub one_byte : (bytes : List ℕ) → length bytes ≡ 1 → (more : ℕ) × (bytes ≡ more ∷ [])
one_byte [] e = absurd (omega arith)
one_byte (x ∷ []) e = (x, refl)
one_byte (x ∷ y ∷ ys) e = absurd (omega arith)
