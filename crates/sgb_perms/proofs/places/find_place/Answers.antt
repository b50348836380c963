use Rattle.std.proofs.Common.{◌≡◌, Some, ap, ap₂, sym, subst, ◌∙◌}
use Rattle.std.specs.List.{slice_get}
use Rattle.std.specs.Option.{unwrap_or}
use Rattle.sgb_perms.specs.Perms.{place_of}
use Rattle.sgb_perms.specs.Private.Places.{shown_by, IsWordsOf, IsIndexOf}
use Rattle.sgb_perms.proofs.RowLookup.{found, word_found, word_guessed}
use Rattle.sgb_perms.proofs.places.find_place.Goals as goal

pub returns-in-Some : goal.returns-in-Some
returns-in-Some c = λ rows known within.
    let words : IsWordsOf rows c.in-ByWord.words.keys = subst (IsIndexOf rows) c.in-ByWord.is known in
    let stands : slice_get c.in-ByWord.words.keys c.args.guess ≡ Some c.word_of-word.result = sym c.in-Some.ensures.key ∙ ap Some c.if-found-word.true in
    word_guessed rows c.in-ByWord.words.keys c.args.row.now c.word_of-word.result c.args.guess words within c.word_of-word.ensures stands

pub returns-in_default : goal.returns-in_default
returns-in_default c = λ rows known within.
    let words : IsWordsOf rows c.in-ByWord.words.keys = subst (IsIndexOf rows) c.in-ByWord.is known in
    c.unwrap_or.ensures
    ∙ (ap₂ unwrap_or c.get_index_of.ensures.index c.len.ensures.len
    ∙ word_found rows c.in-ByWord.words.keys c.args.row.now c.word_of-word.result words within c.word_of-word.ensures)

pub returns-in-ByBytes : goal.returns-in-ByBytes
returns-in-ByBytes c = λ rows known within.
    let shown : shown_by c.in-ByBytes.keys.keys ≡ rows = subst (IsIndexOf rows) c.in-ByBytes.is known in
    c.unwrap_or-in-ByBytes.ensures
    ∙ (ap₂ unwrap_or c.get_index_of-in-ByBytes.ensures.index c.len-in-ByBytes.ensures.len
    ∙ (found c.args.row.now c.in-ByBytes.keys.keys ∙ ap (λ rs. place_of rs c.args.row.now) shown))
