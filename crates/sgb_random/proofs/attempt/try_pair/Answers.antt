use Rattle.std.proofs.Common.{◌≡◌, ◌++◌, ◌∷◌, [], pos, true, false, int_le, refl, ap, ap₂, subst, sym, ◌∙◌, if◌then◌else◌, ◌+◌, ◌<◌, get_or, length, map, arith}
use Rattle.std.specs.List.{position_or_len}
use Rattle.std.proofs.lemmas.List.{get_or_default}
use Rattle.sgb_graph.specs.Builder.{insertion}
use Rattle.sgb_random.specs.Random.{Course, joins, lowered, with_length}
use Rattle.sgb_random.specs.Private.Table.{holds}
use Rattle.sgb_random.specs.Private.Progress.{IsIndexed, insertion_of, with_len_at}
use Rattle.std.proofs.lemmas.Result.{on_ok_weaker}
use Rattle.sgb_random.proofs.AttemptOutcomes.{tried_barred, tried_again, tried_new, tried_shorter, tried_skipped, found_is, place_is, kept_same, indexed_same, indexed_more, indexed_lower, with_length_same, on_ok_both, not_false, not_true, below_le, IsPut}
use Rattle.sgb_random.proofs.VertexPairs.{lowered_at}
use Rattle.sgb_random.proofs.PairTable.{put_again}
use Rattle.sgb_random.proofs.attempt.try_pair.Goals as goal

pub returns-then-is_barred-clause-ok : goal.returns-then-is_barred-clause-ok
returns-then-is_barred-clause-ok c = λ a k indexed.
    let p = c.args.progress.now in
    let w = c.args.flip.now in
    subst (λ (x : Course). IsIndexed c.args.spec.now a x p w)
    (sym (tried_barred c.args.spec.now c.args.from c.args.to k (sym c.is_barred.ensures ∙ c.if-is_barred.true))) indexed

pub returns-then-repeats-clause-ok : goal.returns-then-repeats-clause-ok
returns-then-repeats-clause-ok c = λ a k indexed.
    let s = c.args.spec.now in
    let r = c.args.range.now in
    let again : int_le s.multi (pos 0) ≡ false = not_true (int_le s.multi (pos 0)) (sym c.repeats.ensures ∙ c.if-repeats.true) in
    on_ok_weaker c.insert.result
    (λ kept.
    subst (λ (x : Course). IsIndexed s a x c.insert.new.progress c.insert.new.flip)
    (ap₂ (λ low high. with_length low high k (λ len. k.insertions ++ insertion c.args.from c.args.to len ∷ [])) c.requires.range.0 c.requires.range.1
    ∙ sym (tried_again s c.args.from c.args.to k (sym c.is_barred.ensures ∙ c.if-is_barred.false) again))
    (indexed_more r.min r.max c.args.from c.args.to 0 indexed c.requires.from c.requires.to kept
    (λ once. absurd (let wrong : true ≡ false = sym once ∙ again in cc))
    (λ shorter. absurd (let wrong : true ≡ false = sym (below_le s.multi shorter) ∙ again in cc))))
    (c.insert.ensures.ok a k indexed.kept)

pub number-requires-clause-place : goal.number-requires-clause-place
number-requires-clause-place c = λ shorter. omega (arith, (c.requires.places shorter).count, c.insert-place.ensures.place)

pub number-requires-clause-few : goal.number-requires-clause-few
number-requires-clause-few c = λ shorter. (c.requires.places shorter).few

pub returns-then-is_new-clause-ok : goal.returns-then-is_new-clause-ok
returns-then-is_new-clause-ok c = λ a k indexed.
    let s = c.args.spec.now in
    let r = c.args.range.now in
    let p = c.args.progress.now in
    let u = c.args.from in
    let v = c.args.to in
    let key = c.key_of-key.result in
    let place = c.insert-place.result.0 in
    let n = c.number.ensures in
    let more = c.insert-then-is_new in
    let once : int_le s.multi (pos 0) ≡ true = not_false (int_le s.multi (pos 0)) (sym c.repeats.ensures ∙ c.if-repeats.false) in
    let absent : holds key p.pairs ≡ false = not_true (holds key p.pairs) (sym c.insert-place.ensures.is_new ∙ c.if-is_new.true) in
    on_ok_both more.result
    (more.ensures.ok a k (kept_same indexed.kept n.made n.draws n.builder (ap (λ v. map insertion_of v.items) n.edges)))
    (on_ok_both {R = (more.new.progress.pairs ≡ c.number.new.progress.pairs) × (more.new.progress.numbers ≡ c.number.new.progress.numbers)} more.result more.ensures.pairs more.ensures.numbers (λ pairs numbers. (pairs, numbers)))
    (λ kept same.
    subst (λ (x : Course). IsIndexed s a x more.new.progress more.new.flip)
    (ap₂ (λ low high. with_length low high k (λ len. k.insertions ++ insertion u v len ∷ [])) c.requires.range.0 c.requires.range.1
    ∙ sym (tried_new s u v k (sym c.is_barred.ensures ∙ c.if-is_barred.false) once
    (sym (found_is u v key indexed c.requires.few c.requires.from c.requires.to c.key_of-key.ensures once) ∙ absent)))
    (indexed_more r.min r.max u v place indexed c.requires.from c.requires.to kept
    (λ is. subst (λ x. IsPut p.pairs x place more.new.progress.pairs) c.key_of-key.ensures (record {
      below = c.insert-place.ensures.place;
      free = c.insert-place.ensures.here ∙ ap (λ b. if b then 0 else key + 1) c.if-is_new.true;
      absent = absent;
      put = same.0 ∙ (n.pairs ∙ c.insert-place.ensures.put);
    }))
    (λ shorter. ap (λ v. v.items) same.1 ∙ n.numbers shorter)))

pub lower-requires-clause-place : goal.lower-requires-clause-place
lower-requires-clause-place c =
    let listed = c.requires.places (sym c.shortens.ensures ∙ c.if-shortens.true) in
    let held : get_or c.args.progress.now.pairs c.insert-place.result.0 0 ≡ c.key_of-key.result + 1 =
    c.insert-place.ensures.here ∙ ap (λ b. if b then 0 else c.key_of-key.result + 1) c.if-is_new.false in
    let below : c.insert-place.result.0 < length c.args.progress.now.numbers.items = omega (arith, listed.count, c.insert-place.ensures.place) in
    omega (
      arith,
      listed.below c.insert-place.result.0 (λ free. let wrong : 0 ≡ c.key_of-key.result + 1 = sym free ∙ held in omega arith),
      c.index.ensures,
      get_or_default c.args.progress.now.numbers.items c.insert-place.result.0 0 c.index.result.now below,
    )

pub returns-then-shortens-clause-ok : goal.returns-then-shortens-clause-ok
returns-then-shortens-clause-ok c = λ a k indexed.
    let s = c.args.spec.now in
    let r = c.args.range.now in
    let p = c.args.progress.now in
    let u = c.args.from in
    let v = c.args.to in
    let key = c.key_of-key.result in
    let place = c.insert-place.result.0 in
    let once : int_le s.multi (pos 0) ≡ true = not_false (int_le s.multi (pos 0)) (sym c.repeats.ensures ∙ c.if-repeats.false) in
    let shorter = sym c.shortens.ensures ∙ c.if-shortens.true in
    let present : holds key p.pairs ≡ true = not_false (holds key p.pairs) (sym c.insert-place.ensures.is_new ∙ c.if-is_new.false) in
    let held : get_or p.pairs place 0 ≡ key + 1 = c.insert-place.ensures.here ∙ ap (λ b. if b then 0 else key + 1) c.if-is_new.false in
    let below : place < length p.numbers.items = omega (arith, (c.requires.places shorter).count, c.insert-place.ensures.place) in
    let listed : c.index.result.now ≡ position_or_len (joins s.directed u v) k.insertions =
    c.index.ensures
    ∙ (get_or_default p.numbers.items place c.index.result.now 0 below
    ∙ place_is u v key indexed c.requires.few c.requires.from c.requires.to c.key_of-key.ensures once place shorter c.insert-place.ensures.place held) in
    let lower = indexed_lower r.min r.max c.index.result.now indexed
    (c.lower.ensures.ok s a k shorter (kept_same indexed.kept refl refl refl refl))
    (c.lower.ensures.pairs ∙ (c.insert-place.ensures.put ∙ put_again key p.pairs place held)) c.lower.ensures.numbers in
    subst (λ (x : Course). IsIndexed s a x c.lower.new.progress c.lower.new.flip)
    (ap₂ (λ low high. with_length low high k (λ len. with_len_at k.insertions c.index.result.now len)) c.requires.range.0 c.requires.range.1
    ∙ (with_length_same s.min s.max k (λ len. with_len_at k.insertions c.index.result.now len) (λ len. lowered s.directed u v len k.insertions)
    (λ len. ap (λ i. with_len_at k.insertions i len) listed ∙ sym (lowered_at s.directed u v len k.insertions))
    ∙ sym (tried_shorter s u v k (sym c.is_barred.ensures ∙ c.if-is_barred.false) once
    (sym (found_is u v key indexed c.requires.few c.requires.from c.requires.to c.key_of-key.ensures once) ∙ present)
    shorter)))
    lower

pub returns-else-shortens-clause-ok : goal.returns-else-shortens-clause-ok
returns-else-shortens-clause-ok c = λ a k indexed.
    let s = c.args.spec.now in
    let p = c.args.progress.now in
    let u = c.args.from in
    let v = c.args.to in
    let key = c.key_of-key.result in
    let once : int_le s.multi (pos 0) ≡ true = not_false (int_le s.multi (pos 0)) (sym c.repeats.ensures ∙ c.if-repeats.false) in
    let present : holds key p.pairs ≡ true = not_false (holds key p.pairs) (sym c.insert-place.ensures.is_new ∙ c.if-is_new.false) in
    let held : get_or p.pairs c.insert-place.result.0 0 ≡ key + 1 = c.insert-place.ensures.here ∙ ap (λ b. if b then 0 else key + 1) c.if-is_new.false in
    subst (λ (x : Course). IsIndexed s a x (record p { pairs = c.insert-place.new.self }) c.args.flip.now)
    (sym (tried_skipped s u v k (sym c.is_barred.ensures ∙ c.if-is_barred.false) once
    (sym (found_is u v key indexed c.requires.few c.requires.from c.requires.to c.key_of-key.ensures once) ∙ present)
    (sym c.shortens.ensures ∙ c.if-shortens.false)))
    (indexed_same indexed (kept_same indexed.kept refl refl refl refl) (c.insert-place.ensures.put ∙ put_again key p.pairs c.insert-place.result.0 held) refl)
