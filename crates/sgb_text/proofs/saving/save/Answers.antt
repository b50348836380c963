use Rattle.std.proofs.Common.{◌∙◌, ap, drop, length}
use Rattle.sgb_text.specs.Clean.{clean_of}
use Rattle.sgb_text.proofs.TextBody.{body_behind, text_pages}
use Rattle.sgb_text.proofs.saving.save.Goals as goal

pub returns-clause-text : goal.returns-clause-text
returns-clause-text c =
    let g = clean_of c.args.graph.now in
    let p = c.reserve.new.self in
    let q = c.put_header.new.page in
    let r = c.put_body.new.page in
    let empty = ap (λ x. x.text) c.reserve.ensures ∙ c.new-page.ensures.text in
    let behind = c.split_at.ensures.back ∙ ap (λ bs. drop (length bs) c.text.result.now) c.text-start.ensures ∙ ap (drop (length q.text)) c.text.ensures in
    let body = body_behind g p q r c.split_at.result.1.now empty c.in_ok-put_header.ensures c.in_ok-cleaned.ensures.records behind in
    c.from_vec.ensures ∙ c.into_text.ensures
    ∙ text_pages g p q r _ _ _ empty c.in_ok-put_header.ensures c.in_ok-cleaned.ensures.records body c.check_number-number.ensures.value c.in_ok-put_check.ensures
