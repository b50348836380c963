use Rattle.sgb_text.proofs.Fields.{Filling}
use Rattle.sgb_text.proofs.records.put_fields.Given as goal

abbrev pub invariant-fields : goal.invariant-fields
invariant-fields l = Filling l.initial.page l.page l.letters l.values l.i l.cleaned
