use Rattle.std.proofs.Common.{◌<◌, length, map, ap, sym, subst, ◌∙◌, false, true, ◌≡◌, FitsSigned, w64}
use Rattle.std.specs.Int.{int_min}
use Rattle.std.proofs.lemmas.Int.{to_z-of_z}
use Rattle.sgb_graph.specs.Builder.{insertion}
use Rattle.sgb_random.specs.Private.Progress.{insertion_of, with_len_at}
use Rattle.sgb_random.proofs.AttemptOutcomes.{kept_drawn}
use Rattle.sgb_random.proofs.VertexPairs.{with_len_at-set}
use Rattle.sgb_random.proofs.attempt.lower.Goals as goal

pub returns-clause-ok : goal.returns-clause-ok
returns-clause-ok c = λ s a k shorter kept.
    let d = c.draw_length-len.ensures in
    let fits : FitsSigned w64 c.draw_length-len.result = record { sfits = c.draw_length-len.type_inv } in
    let p = c.draw_length-len.new.progress in
    let len = c.draw_length-len.result in
    let old = c.index.result.now in
    let below : c.args.place < length p.edges.items =
    subst (λ v. c.args.place < length v.items) (sym d.edges) c.requires.place in
    kept_drawn c.args.range.now.min c.args.range.now.max (λ l. with_len_at k.insertions c.args.place l) len kept d.len d.made d.draws d.rest
    (λ is. (
      d.builder ∙ (kept.listed shorter).0,
      with_len_at-set p.edges.items c.args.place len old c.shortened.result below c.index.ensures
          (c.shortened.ensures ∙ ap (λ l. insertion old.from old.to (int_min old.len l)) (to_z-of_z w64 len fits))
          ∙ ap (λ es. with_len_at es c.args.place len) (ap (λ v. map insertion_of v.items) d.edges ∙ (kept.listed shorter).1),
    ))
    (λ longer. absurd (let wrong : true ≡ false = sym shorter ∙ longer in cc))
