-- From the bytes that were taken to the end of the run.
use Rattle.std.proofs.Common.{◌≡◌, ℕ, true, List, Option, Ok, Err, sym, ◌∙◌, inl, inr, subst}
use Rattle.std.specs.Io.KnownBytes.{Appends}
use Rattle.sgb_print.specs.Meter.{ReaderUse, WriterUse}
use Rattle.sgb_print.specs.declared.fault.RunFault.{RunFault}
use Rattle.sgb_print.specs.declared.fault.RunFault.TheVariants.{Read, Write, TooLong, NoRoom}
use Rattle.sgb_shell.specs.Lines.{whole_lines, lines}
use Rattle.sgb_shell.specs.Private.Course.{course, whole_course}
use Rattle.sgb_shell.specs.Private.Reaching.{ShellView, ReaderView, Ended, StoppedAtEnd}
use Rattle.sgb_shell.specs.Private.Taking.{TakesScript}
use Rattle.sgb_shell.specs.Run.{AppendsPast, Runs}
use Rattle.sgb_shell.specs.Transcript.{transcript, whole_transcript}
use Rattle.sgb_shell.proofs.Reports.{whole_text, all_text, all_refused}

past_whole : (held now : Option (List ℕ)) (no_room before script : List ℕ) → AppendsPast held now (course no_room (whole_lines before)).text (course no_room (whole_lines script)).text
    → AppendsPast held now (whole_transcript no_room before) (whole_transcript no_room script)
past_whole held now no_room before script p =
    subst (λ t. AppendsPast held now t (whole_transcript no_room script)) (whole_text no_room before)
    (subst (AppendsPast held now (course no_room (whole_lines before)).text) (whole_text no_room script) p)

past_end : (held now : Option (List ℕ)) (no_room script : List ℕ) → AppendsPast held now (course no_room (whole_lines script)).text (whole_course no_room (lines script)).text
    → AppendsPast held now (whole_transcript no_room script) (transcript no_room script)
past_end held now no_room script p =
    subst (λ t. AppendsPast held now t (transcript no_room script)) (whole_text no_room script)
    (subst (AppendsPast held now (course no_room (whole_lines script)).text) (all_text no_room script) p)

module _ {R W X : Type 0} (left : Option (List ℕ)) (r : ReaderUse R) (held : Option (List ℕ)) (w : WriterUse W) (v : ReaderView) where
  pub script_failed : (fault : RunFault) → TakesScript {X = X} left r held w v (Err fault) → Runs left r held w (Err fault)
  script_failed Read t = record {
    script = t.script;
    no_room = t.ends.3.reached.no_room;
    few = t.few;
    seldom = t.seldom;
    ends = (t.ends.0, t.ends.1, t.ends.2, subst (Appends held w.held) (whole_text t.ends.3.reached.no_room t.script) t.ends.3.reached.text);
  }
  script_failed Write t = record {
    script = t.script;
    no_room = t.ends.3.4.no_room;
    few = t.few;
    seldom = t.seldom;
    ends = (t.ends.0, t.ends.1, t.ends.2, inl (t.ends.3.0, t.ends.3.1, t.ends.3.2, t.ends.3.3, past_whole held w.held t.ends.3.4.no_room t.ends.3.0 t.script t.ends.3.4.text));
  }
  script_failed TooLong t = record {
    script = t.script;
    no_room = t.ends.4.reached.no_room;
    few = t.few;
    seldom = t.seldom;
    ends = (t.ends.0, t.ends.1, t.ends.2, t.ends.3, subst (Appends held w.held) (whole_text t.ends.4.reached.no_room t.script) t.ends.4.reached.text);
  }
  script_failed NoRoom t = absurd t.ends

  module _ (w' : WriterUse W) (x : X) (t : TakesScript left r held w v (Ok x)) where
    pub script_ended : (s : ShellView) → Ended held w'.held (lines t.script) s × (w'.failed ≡ w.failed)
        → Runs left r held w' (Ok (record { lines = s.lines; refused = s.refused }))
    script_ended s f = record {
      script = t.script;
      no_room = f.0.no_room;
      few = t.few;
      seldom = t.seldom;
      ends = (
        t.ends.0,
        t.ends.1,
        t.ends.2,
        f.1 ∙ t.ends.3,
        subst (Appends held w'.held) (all_text f.0.no_room t.script) f.0.text,
        f.0.lines,
        sym f.0.refused ∙ all_refused f.0.no_room t.script,
      );
    }

    pub last_line_failed : StoppedAtEnd held w'.held (whole_lines t.script) (lines t.script) × (w'.failed ≡ true) → Runs left r held w' (Err Write)
    last_line_failed f = record {
      script = t.script;
      no_room = f.0.no_room;
      few = t.few;
      seldom = t.seldom;
      ends = (t.ends.0, t.ends.2, f.1, inr (t.ends.1, past_end held w'.held f.0.no_room t.script f.0.text));
    }
