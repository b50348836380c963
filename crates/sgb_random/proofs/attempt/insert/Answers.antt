use Rattle.std.proofs.Common.{◌≡◌, ◌++◌, ◌∷◌, [], true, false, map, sym, ap, ap₂, ◌∙◌, FitsSigned, w64}
use Rattle.std.proofs.lemmas.Int.{to_z-of_z}
use Rattle.std.proofs.lemmas.List.{map-append}
use Rattle.std.proofs.lemmas.Result.{on_ok_weaker}
use Rattle.sgb_graph.specs.Builder.{insertion, grown}
use Rattle.sgb_graph.proofs.Insertions.{grown-append}
use Rattle.sgb_random.specs.Private.Progress.{insertion_of}
use Rattle.sgb_random.proofs.AttemptOutcomes.{kept_drawn}
use Rattle.sgb_random.proofs.InsertionCounts.{inserts_ok, room_only}
use Rattle.sgb_random.proofs.attempt.insert.Goals as goal

pub returns-then-shortens-clause-ok : goal.returns-then-shortens-clause-ok
returns-then-shortens-clause-ok c = λ a k kept.
    let d = c.draw_length-len.ensures in
    let fits : FitsSigned w64 c.draw_length-len.result = record { sfits = c.draw_length-len.type_inv } in
    let p = c.draw_length-len.new.progress in
    let len = c.draw_length-len.result in
    let shorter = sym c.shortens.ensures ∙ c.if-shortens.true in
    kept_drawn c.args.range.now.min c.args.range.now.max (λ l. k.insertions ++ insertion c.args.from c.args.to l ∷ []) len kept d.len d.made d.draws d.rest
    (λ is. (
      d.builder ∙ (kept.listed shorter).0,
      ap (map insertion_of) c.in_ok-push.ensures.items
          ∙ (map-append insertion_of p.edges.items (_ ∷ [])
          ∙ ap₂ (λ es l. es ++ insertion c.args.from c.args.to l ∷ [])
          (ap (λ v. map insertion_of v.items) d.edges ∙ (kept.listed shorter).1)
          (to_z-of_z w64 len fits)),
    ))
    (λ longer. absurd (let wrong : true ≡ false = sym shorter ∙ longer in cc))

pub returns-clause-ok : goal.returns-clause-ok
returns-clause-ok c = λ a k kept.
    let d = c.draw_length-len.ensures in
    let fits : FitsSigned w64 c.draw_length-len.result = record { sfits = c.draw_length-len.type_inv } in
    let p = c.draw_length-len.new.progress in
    let len = c.draw_length-len.result in
    let longer = sym c.shortens.ensures ∙ c.if-shortens.false in
    on_ok_weaker c.insert.result
    (λ is.
    kept_drawn c.args.range.now.min c.args.range.now.max (λ l. k.insertions ++ insertion c.args.from c.args.to l ∷ []) len kept d.len d.made d.draws d.rest
    (λ shorter. absurd (let wrong : true ≡ false = sym shorter ∙ longer in cc))
    (λ same.
    is
    ∙ (ap₂ (λ b l. grown b (insertion c.args.from c.args.to l ∷ [])) (d.builder ∙ kept.inserted longer) (to_z-of_z w64 len fits)
    ∙ sym (grown-append a k.insertions (insertion c.args.from c.args.to len ∷ [])))))
    (inserts_ok c.draw_length-len.new.progress.builder c.insert.new.self _ c.insert.result c.insert.ensures.value)

pub returns-clause-err : goal.returns-clause-err
returns-clause-err c = room_only c.insert.new.self _ c.insert.result c.requires.ready c.draw_length-len.ensures.builder c.insert.ensures.value
