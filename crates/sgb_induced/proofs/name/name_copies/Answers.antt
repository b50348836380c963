use Rattle.std.proofs.Common.{◌+◌, [], ◌∷◌, subst, sym, ap, ◌∙◌, arith}
use Rattle.std.proofs.lemmas.Result.{err_from_is_err_and}
use Rattle.sgb_graph.specs.New.{six_zeros}
use Rattle.sgb_graph.specs.Text.{IsText}
use Rattle.sgb_plan.specs.Plan.{with_named}
use Rattle.sgb_plan.proofs.Plans.{pushed, push_refused, names_from_some, names_from_refused, names_from_end}
use Rattle.sgb_induced.specs.Image.{copy_name}
use Rattle.sgb_induced.proofs.CopyNames.{copies_start, name_is_text}
use Rattle.sgb_induced.proofs.name.name_copies.Goals as goal

pub loop-j-init : goal.loop-j-init
loop-j-init c = copies_start c.args.builder.now c.args.label.now c.args.count

pub label_of-requires : goal.label_of-requires
label_of-requires c = subst IsText (sym (c.deref.ensures.value ∙ c.in_ok-write_copy_name.ensures)) (name_is_text c.args.label.now (c.loop-j.j + 1) c.args.count c.requires.text (omega arith) (omega arith) c.requires.short)

pub returns-in_err-push_vertex : goal.returns-in_err-push_vertex
returns-in_err-push_vertex c =
    let p = err_from_is_err_and c.from_residual-in_err-push_vertex.result c.from_residual-in_err-push_vertex.ensures.1 in
    rw (p.1, p.2) (names_from_refused (omega arith) c.loop-j.invariant
    (push_refused c.loop-j.builder (copy_name c.args.label.now (c.loop-j.j + 1)) six_zeros c.in_err-push_vertex.ensures.err))

pub loop-j-preserved : goal.loop-j-preserved
loop-j-preserved c =
    let builder = c.loop-j.builder in
    names_from_some (omega arith) c.loop-j.invariant
    (c.in_ok-push_vertex.ensures.ok
    ∙ (pushed builder c.in_ok-label.label six_zeros
    ∙ ap (λ label. with_named builder (record { label = label; fields = six_zeros } ∷ [])) (c.in_ok-label.ensures.value ∙ (c.deref.ensures.value ∙ c.in_ok-write_copy_name.ensures))))

pub returns : goal.returns
returns c = names_from_end (omega arith) c.loop-j.invariant
