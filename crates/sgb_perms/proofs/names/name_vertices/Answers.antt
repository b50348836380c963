use Rattle.std.proofs.Common.{◌≡◌, ◌<◌, ◌≤◌, ℕ, List, [], ◌∷◌, length, get_or, map, true, All, refl, sym, ap, subst, ◌∙◌, arith}
use Rattle.std.proofs.lemmas.Bool.{agree_below_at}
use Rattle.std.proofs.lemmas.List.{length-map, get_or_default}
use Rattle.std.proofs.lemmas.List.Elements.{All-map, All-weaker}
use Rattle.std.proofs.lemmas.List.Sums.{list_all-from_AllPass}
use Rattle.std.proofs.lemmas.Result.{err_from_is_err_and}
use Rattle.sgb_graph.specs.New.{six_zeros}
use Rattle.sgb_graph.specs.Text.{IsText, is_text_byte}
use Rattle.sgb_plan.specs.Plan.{with_named}
use Rattle.sgb_plan.proofs.Plans.{RefusesNames, pushed, push_refused, names_of_start, names_of_some, names_of_refused, names_of_end, NamesOf}
use Rattle.sgb_perms.specs.Perms.{symbol, name_of, row_vertex}
use Rattle.sgb_perms.proofs.names.name_vertices.Goals as goal

-- each character may stand in a text
symbol_in_text : (k : ℕ) → k < 16 → is_text_byte (symbol k) ≡ true
symbol_in_text k low = agree_below_at (λ j. is_text_byte (symbol j)) (λ j. true) 16 k refl low

name_is_text : (row : List ℕ) → All (λ k. k < 16) row → length row ≤ 255 → IsText (name_of row)
name_is_text row kinds short =
    let long = length-map row symbol in
    record {
      short = omega (arith, long);
      printable =
          list_all-from_AllPass is_text_byte (map symbol row)
          (All-map (λ b. is_text_byte b ≡ true) symbol row (All-weaker (λ k. k < 16) (λ k. is_text_byte (symbol k) ≡ true) symbol_in_text row kinds));
    }

pub loop-v-init : goal.loop-v-init
loop-v-init c =
    let rows = c.args.rows.now.rows in
    subst (λ b. NamesOf c.args.builder.now (map row_vertex rows) b row_vertex rows 0) (sym c.in_ok-reserve_vertices.ensures.same)
    (names_of_start c.args.builder.now row_vertex rows)

pub label_of-requires : goal.label_of-requires
label_of-requires c =
    let rows = c.args.rows.now.rows in
    let less : c.loop-v.v < length rows = omega (arith, c.len-v-end.ensures.value) in
    let long = ap length c.row.ensures.value in
    subst IsText (sym (c.deref.ensures.value ∙ (c.in_ok-write_name.ensures.ok ∙ ap name_of c.row.ensures.value)))
    (name_is_text (get_or rows c.loop-v.v []) (c.requires c.loop-v.v [] less)
    (omega (arith, long, c.row.ensures.long, c.width.ensures.value, c.width.ensures.narrow)))

pub returns-in_err-push_named : goal.returns-in_err-push_named
returns-in_err-push_named c =
    let p = err_from_is_err_and c.from_residual-in_err-push_named.result c.from_residual-in_err-push_named.ensures.1 in
    let rows = c.args.rows.now.rows in
    let row = c.row.result.now in
    let less : c.loop-v.v < length rows = omega (arith, c.len-v-end.ensures.value) in
    let is : row ≡ get_or rows c.loop-v.v row = c.row.ensures.value ∙ get_or_default rows c.loop-v.v [] row less in
    let named : c.in_ok-label.label ≡ name_of row = c.in_ok-label.ensures.value ∙ (c.deref.ensures.value ∙ c.in_ok-write_name.ensures.ok) in
    let refused : RefusesNames c.loop-v.builder (row_vertex row ∷ []) c.in_err-push_named.field-0.0 =
    subst (λ label. RefusesNames c.loop-v.builder (record { label = label; fields = six_zeros } ∷ []) c.in_err-push_named.field-0.0) named
    (push_refused c.loop-v.builder c.in_ok-label.label six_zeros c.in_err-push_named.ensures.err) in
    rw (p.1, p.2) (names_of_refused row less is c.loop-v.invariant refused)

pub loop-v-preserved : goal.loop-v-preserved
loop-v-preserved c =
    let rows = c.args.rows.now.rows in
    let row = c.row.result.now in
    let less : c.loop-v.v < length rows = omega (arith, c.len-v-end.ensures.value) in
    let is : row ≡ get_or rows c.loop-v.v row = c.row.ensures.value ∙ get_or_default rows c.loop-v.v [] row less in
    let named : c.in_ok-label.label ≡ name_of row = c.in_ok-label.ensures.value ∙ (c.deref.ensures.value ∙ c.in_ok-write_name.ensures.ok) in
    names_of_some row less is c.loop-v.invariant
    (c.in_ok-push_named.ensures.ok
    ∙ (pushed c.loop-v.builder c.in_ok-label.label six_zeros
    ∙ ap (λ label. with_named c.loop-v.builder (record { label = label; fields = six_zeros } ∷ [])) named))

pub returns : goal.returns
returns c = names_of_end (omega (arith, c.len-v-end.ensures.value)) c.loop-v.invariant
