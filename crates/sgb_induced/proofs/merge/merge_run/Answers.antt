use Rattle.std.proofs.Common.{set, None, Some, sym, ap, ◌∙◌, arith}
use Rattle.std.proofs.lemmas.List.{get_or_default}
use Rattle.sgb_induced.specs.Private.Run.{key_of, lowered_run}
use Rattle.sgb_induced.proofs.MergedRuns.{found_at, lowered_at, merge_new, place_within, placed_last}
use Rattle.sgb_induced.proofs.merge.merge_run.Goals as goal

pub index-requires : goal.index-requires
index-requires c =
    let d = c.args.directed in
    let found = found_at d c.args.places.now c.args.kept.now.items c.args.run c.key_of-key.result (Some c.in-Some.place) c.key_of-key.ensures c.requires (sym c.get.ensures.value ∙ (sym c.copied.ensures ∙ c.in-Some.is)) in
    omega (arith, c.args.kept.now.ok.0, place_within d c.args.kept.now.items (key_of d c.args.run) c.in-Some.place c.args.run found)

pub index_mut-requires : goal.index_mut-requires
index_mut-requires c =
    let d = c.args.directed in
    let found = found_at d c.args.places.now c.args.kept.now.items c.args.run c.key_of-key.result (Some c.in-Some.place) c.key_of-key.ensures c.requires (sym c.get.ensures.value ∙ (sym c.copied.ensures ∙ c.in-Some.is)) in
    omega (arith, c.args.kept.now.ok.0, place_within d c.args.kept.now.items (key_of d c.args.run) c.in-Some.place c.args.run found)

pub returns-in-Some-clause-kept : goal.returns-in-Some-clause-kept
returns-in-Some-clause-kept c =
    let d = c.args.directed in
    let ks = c.args.kept.now.items in
    let p = c.in-Some.place in
    let found = found_at d c.args.places.now ks c.args.run c.key_of-key.result (Some p) c.key_of-key.ensures c.requires (sym c.get.ensures.value ∙ (sym c.copied.ensures ∙ c.in-Some.is)) in
    let within = place_within d ks (key_of d c.args.run) p c.args.run found in
    lowered_at d ks c.args.run p found
    (ap (set ks p) (c.lowered_run.ensures ∙ ap (λ r. lowered_run r c.args.run) (c.index.ensures ∙ get_or_default ks p c.index.result.now c.args.run within)))

pub returns-in_ok-push-in-None-clause-kept : goal.returns-in_ok-push-in-None-clause-kept
returns-in_ok-push-in-None-clause-kept c =
    let d = c.args.directed in
    let ks = c.args.kept.now.items in
    let none = found_at d c.args.places.now ks c.args.run c.key_of-key.result None c.key_of-key.ensures c.requires (sym c.get.ensures.value ∙ (sym c.copied.ensures ∙ c.in-None.is)) in
    c.in_ok-push-in-None.ensures.items ∙ sym (merge_new d ks c.args.run none)

pub returns-in_ok-push-in-None-clause-places : goal.returns-in_ok-push-in-None-clause-places
returns-in_ok-push-in-None-clause-places c =
    let d = c.args.directed in
    let ks = c.args.kept.now.items in
    let none = found_at d c.args.places.now ks c.args.run c.key_of-key.result None c.key_of-key.ensures c.requires (sym c.get.ensures.value ∙ (sym c.copied.ensures ∙ c.in-None.is)) in
    placed_last d c.args.places.now c.insert.new.self ks c.args.run c.key_of-key.result c.len.result c.key_of-key.ensures (c.len.ensures ∙ c.args.kept.now.ok.0)
    c.in_ok-push-in-None.ensures.items c.requires none c.in_ok-insert-in-None.ensures.updates.0
