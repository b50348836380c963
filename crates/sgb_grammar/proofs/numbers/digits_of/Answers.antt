use Rattle.std.proofs.Common.{◌≡◌, ◌∙◌, ◌+◌, ◌*◌, ◌-◌, ◌^◌, min, take, get_or, nat_le, true, ap, sym, arith, rules}
use Rattle.std.specs.Char.{is_ascii_digit}
use Rattle.std.specs.Str.Parse.{digits_value}
use Rattle.std.proofs.lemmas.Bool.{and_parts, leb-true}
use Rattle.std.proofs.lemmas.Int.Digits.{digits_value_more}
use Rattle.std.proofs.lemmas.List.Sums.{prefix_len-drop_yes}
use Rattle.sgb_grammar.proofs.Naturals.{digit_is, worth_more}
use Rattle.sgb_grammar.proofs.numbers.digits_of.Goals as goal

pub digits-preserved : goal.digits-preserved
digits-preserved c =
    let bs = c.args.bytes.now in
    let i = c.digits.i in
    let n = digits_value 10 (take i bs) in
    let top = 2 ^ 64 - 1 in
    let here : is_ascii_digit (get_or bs i 0) ≡ true = search rules in
    let both = and_parts (nat_le 48 (get_or bs i 0)) (nat_le (get_or bs i 0) 57) here in
    let digit = c.from.ensures ∙ sym (digit_is (get_or bs i 0) (leb-true 48 (get_or bs i 0) both.0) (leb-true (get_or bs i 0) 57 both.1)) in
    let counted = prefix_len-drop_yes is_ascii_digit bs i 0 (omega arith) here in (
      c.digits.invariant.0 ∙ ap (λ k. i + k) counted ∙ (omega arith),
      worth_more top n _ _ _ c.digits.invariant.1 c.with_digit-value.ensures.value
          ∙ ap (λ d. min (n * 10 + d) top) digit
          ∙ ap (λ k. min k top) (sym (digits_value_more 10 bs i (omega arith))),
      c.with_digit-value.ensures.small,
    )
