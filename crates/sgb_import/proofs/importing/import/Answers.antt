use Rattle.std.proofs.Common.{◌≡◌, Some, ap, inl, inr, subst, sym, ◌∙◌}
use Rattle.std.proofs.lemmas.Result.{err_from_is_err_and}
use Rattle.sgb_import.specs.declared.refusal.ImportRefusal.TheVariants.{NoRoom}
use Rattle.sgb_import.specs.Import.{MayAllocate}
use Rattle.sgb_import.proofs.NeverRoom.{other_dimacs, other_graph6}
use Rattle.sgb_import.proofs.importing.import.Goals as goal

pub returns-in_err-read_dimacs-in-Dimacs-clause-room : goal.returns-in_err-read_dimacs-in-Dimacs-clause-room
returns-in_err-read_dimacs-in-Dimacs-clause-room c = λ is.
    let p = err_from_is_err_and c.from_residual-in_err-read_dimacs-in-Dimacs.result c.from_residual-in_err-read_dimacs-in-Dimacs.ensures.1 in
    let room : c.in_err-read_dimacs-in-Dimacs.field-0.0 ≡ NoRoom = cc in
    subst (λ s. MayAllocate s c.args.text.now) (sym c.in-Dimacs.is)
    (elim c.in_err-read_dimacs-in-Dimacs.ensures.err [
      | inl read ↦ inr read.1
      | inr refused ↦ absurd (other_dimacs c.args.text.now (refused ∙ ap (λ e. Some e) room))
    ])

pub returns-in_err-read_graph6-in-Graph6-clause-room : goal.returns-in_err-read_graph6-in-Graph6-clause-room
returns-in_err-read_graph6-in-Graph6-clause-room c = λ is.
    let p = err_from_is_err_and c.from_residual-in_err-read_graph6-in-Graph6.result c.from_residual-in_err-read_graph6-in-Graph6.ensures.1 in
    let room : c.in_err-read_graph6-in-Graph6.field-0.0 ≡ NoRoom = cc in
    subst (λ s. MayAllocate s c.args.text.now) (sym c.in-Graph6.is)
    (elim c.in_err-read_graph6-in-Graph6.ensures.err [
      | inl read ↦ inl read.1
      | inr refused ↦ absurd (other_graph6 c.args.text.now (refused ∙ ap (λ e. Some e) room))
    ])
