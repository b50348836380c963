use Rattle.std.proofs.Common.{ap, sym, subst, ◌∙◌}
use Rattle.sgb_import.specs.Graph6.{without_header}
use Rattle.sgb_import.specs.Private.Pairs.{IsTriangle}
use Rattle.sgb_import.proofs.Graph6Texts.{behind-first, graph_bytes-cut, refusal_first, refusal_behind}
use Rattle.sgb_import.proofs.graph6.find_graph.Goals as goal

pub returns-in-Some-clause-refusal : goal.returns-in-Some-clause-refusal
returns-in-Some-clause-refusal c =
    let bytes = graph_bytes-cut c.args.text.now c.without_header-bytes.result.now c.new-lines.result c.next.new.self c.next.result c.new-lines.ensures c.next.ensures.steps
    (c.without_header-bytes.ensures ∙ ap without_header c.first_bytes.ensures) in
    let rest = behind-first c.args.text.now c.new-lines.result c.next.new.self c.next.result c.new-lines.ensures c.next.ensures.steps in
    refusal_behind c.args.text.now c.without_header-bytes.result.now c.next.new.self bytes rest c.in-Ok.ensures.fault ∙ sym c.in-Some.ensures

pub returns-in-None-clause-refusal : goal.returns-in-None-clause-refusal
returns-in-None-clause-refusal c =
    let bytes = graph_bytes-cut c.args.text.now c.without_header-bytes.result.now c.new-lines.result c.next.new.self c.next.result c.new-lines.ensures c.next.ensures.steps
    (c.without_header-bytes.ensures ∙ ap without_header c.first_bytes.ensures) in
    let rest = behind-first c.args.text.now c.new-lines.result c.next.new.self c.next.result c.new-lines.ensures c.next.ensures.steps in
    refusal_behind c.args.text.now c.without_header-bytes.result.now c.next.new.self bytes rest c.in-Ok.ensures.fault ∙ sym c.in-None.ensures

pub returns-in-None-clause-triangle : goal.returns-in-None-clause-triangle
returns-in-None-clause-triangle c =
    let bytes = graph_bytes-cut c.args.text.now c.without_header-bytes.result.now c.new-lines.result c.next.new.self c.next.result c.new-lines.ensures c.next.ensures.steps
    (c.without_header-bytes.ensures ∙ ap without_header c.first_bytes.ensures) in
    subst (λ xs. IsTriangle xs c.in-Ok.triangle.size c.in-Ok.triangle.body.now) bytes c.in-Ok.ensures.triangle

pub returns-in-Err-clause-refusal : goal.returns-in-Err-clause-refusal
returns-in-Err-clause-refusal c =
    let bytes = graph_bytes-cut c.args.text.now c.without_header-bytes.result.now c.new-lines.result c.next.new.self c.next.result c.new-lines.ensures c.next.ensures.steps
    (c.without_header-bytes.ensures ∙ ap without_header c.first_bytes.ensures) in
    refusal_first c.args.text.now c.without_header-bytes.result.now c.in-Err.fault bytes c.in-Err.ensures.fault
