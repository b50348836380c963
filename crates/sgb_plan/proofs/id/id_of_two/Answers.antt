use Rattle.std.proofs.Common.{◌≡◌, ◌≤◌, ◌+◌, ◌-◌, ◌++◌, ℕ, IfOk, length, map, sym, ap, subst, ◌∙◌, arith, lit≤}
use Rattle.sgb_plan.specs.Id.{part_text, widest_parts}
use Rattle.sgb_plan.proofs.Ids.{wrote_two, short_two}
use Rattle.sgb_plan.proofs.Shorts.{text_from_short, IsShort-as}
use Rattle.sgb_plan.proofs.id.id_of_two.Goals as goal

pub text_of-requires : goal.text_of-requires
text_of-requires c =
    let word = c.args.word.now in
    let room : ℕ = 160 - (length word + 2 + c.len.result) in
    let most : ℕ = c.most_of_two-most.result in
    let left : room ≡ 160 - (length word + 2 + length c.in_ok-end.end.items) = omega arith in
    let fits : length word + 2 + (widest_parts c.args.parts.now + 1) ≤ 152 = omega arith in
    text_from_short (lit≤ tt)
    (IsShort-as (short_two word c.args.first.now c.args.second.now {room = room} {most = most} c.requires.text c.requires.first c.requires.second c.in_ok-end.ensures.short fits left c.most_of_two-most.ensures
    c.in_ok-bytes.ensures c.in_ok-append_shortened.ensures c.in_ok-push.ensures.items c.in_ok-append_shortened-2.ensures
    (c.in_ok-extend_from_slice.ensures.items ∙ ap (λ t. c.append_shortened-2.new.bytes.items ++ t) c.deref.ensures.value))
    (sym c.deref-2.ensures.value))

pub returns-clause-value : goal.returns-clause-value
returns-clause-value c =
    let word = c.args.word.now in
    let room : ℕ = 160 - (length word + 2 + c.len.result) in
    let most : ℕ = c.most_of_two-most.result in
    let left : room ≡ 160 - (length word + 2 + length c.in_ok-end.end.items) = omega arith in
    subst (λ bytes. IfOk c.text_of.result (λ id. id ≡ bytes))
    (c.deref-2.ensures.value
    ∙ wrote_two word c.args.first.now c.args.second.now (map part_text c.args.parts.now) {room = room} {most = most} c.in_ok-end.ensures.value left c.most_of_two-most.ensures
    c.in_ok-bytes.ensures c.in_ok-append_shortened.ensures c.in_ok-push.ensures.items c.in_ok-append_shortened-2.ensures
    (c.in_ok-extend_from_slice.ensures.items ∙ ap (λ t. c.append_shortened-2.new.bytes.items ++ t) c.deref.ensures.value))
    c.text_of.ensures.value
