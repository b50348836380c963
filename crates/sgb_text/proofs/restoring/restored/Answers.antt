use Rattle.std.proofs.Common.{rules, ◌≡◌, sym, ap, ◌∙◌, inr, w64}
use Rattle.std.proofs.lemmas.Int.{to_z-of_z}
use Rattle.sgb_text.specs.Restore.{passes}
use Rattle.sgb_grammar.specs.Saved.{shown}
use Rattle.sgb_graph.specs.Graph.{GraphOf}
use Rattle.sgb_graph.specs.Parts.{Builds}
use Rattle.sgb_grammar.specs.declared.fault.Fault.TheVariants as faults
use Rattle.sgb_text.proofs.Exactness.{has_header, nothing, spoiled, partless}
use Rattle.sgb_text.proofs.restoring.restored.Goals as goal

pub returns-then-not-is_within_limits-clause-err : goal.returns-then-not-is_within_limits-clause-err
returns-then-not-is_within_limits-clause-err c = has_header c.in-Ok.ensures.ok (sym c.is_within_limits.ensures ∙ c.if-not-is_within_limits.true)

pub returns-in-Err-NoRoom-build-clause-err : goal.returns-in-Err-NoRoom-build-clause-err
returns-in-Err-NoRoom-build-clause-err c = has_header c.in-Ok.ensures.ok (sym c.is_within_limits.ensures ∙ c.if-not-is_within_limits.false)

pub returns-in-Err-NoRoom-clause-err : goal.returns-in-Err-NoRoom-clause-err
returns-in-Err-NoRoom-clause-err c = has_header c.in-Ok.ensures.ok (sym c.is_within_limits.ensures ∙ c.if-not-is_within_limits.false)

pub returns-then-agrees-clause-ok : goal.returns-then-agrees-clause-ok
returns-then-agrees-clause-ok c = record {
  saved = shown c.in-Ok-read_saved.saved;
  reads = record {
    header = c.in-Ok.header;
    lines = c.in-Ok.lines.now;
    first = c.in-Ok.ensures.ok;
    within = sym c.is_within_limits.ensures ∙ c.if-not-is_within_limits.false;
    spelled = c.in-Ok-read_saved.ensures.ok;
    graph = c.in-Ok-build.ensures.ok;
  };
  passed =
      ap (λ z. passes c.args.rule z c.in-Ok-read_saved.saved.body.now) (sym (to_z-of_z w64 c.in-Ok-read_saved.saved.number c.in-Ok-read_saved.ensures.range))
      ∙ sym c.passes-agrees.ensures ∙ c.if-agrees.true;
}

pub returns-else-agrees-clause-err : goal.returns-else-agrees-clause-err
returns-else-agrees-clause-err c = record {
  graph = c.in-Ok-build.graph;
  saved = shown c.in-Ok-read_saved.saved;
  reads = record {
    header = c.in-Ok.header;
    lines = c.in-Ok.lines.now;
    first = c.in-Ok.ensures.ok;
    within = sym c.is_within_limits.ensures ∙ c.if-not-is_within_limits.false;
    spelled = c.in-Ok-read_saved.ensures.ok;
    graph = c.in-Ok-build.ensures.ok;
  };
  failed =
      ap (λ z. passes c.args.rule z c.in-Ok-read_saved.saved.body.now) (sym (to_z-of_z w64 c.in-Ok-read_saved.saved.number c.in-Ok-read_saved.ensures.range))
      ∙ sym c.passes-agrees.ensures ∙ c.if-agrees.false;
}

pub returns-in-Err : goal.returns-in-Err
returns-in-Err c =
    let none : (g : GraphOf) → Builds c.in-Ok-read_saved.saved.parts g → ⊥ = search rules in
    record {
      ok = tt;
      err = inr (
        has_header c.in-Ok.ensures.ok (sym c.is_within_limits.ensures ∙ c.if-not-is_within_limits.false),
        partless c.args.text.now c.in-Ok.header c.in-Ok.lines.now (shown c.in-Ok-read_saved.saved) c.in-Ok.ensures.only c.in-Ok-read_saved.ensures.only none,
      );
    }

pub returns-in-Err-Syntax-clause-err : goal.returns-in-Err-Syntax-clause-err
returns-in-Err-Syntax-clause-err c =
    let syntax : c.in-Err-Syntax.field-0 ≡ faults.Syntax = search rules in
    inr (
      has_header c.in-Ok.ensures.ok (sym c.is_within_limits.ensures ∙ c.if-not-is_within_limits.false),
      spoiled c.args.text.now c.in-Ok.header c.in-Ok.lines.now c.in-Ok.ensures.only
          (nothing c.in-Ok.header c.in-Ok.lines.now c.in-Err-Syntax.field-0 syntax c.in-Err-Syntax.ensures.err),
    )
