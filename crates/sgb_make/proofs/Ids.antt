-- Lemmas on the id of a board.
use Rattle.std.proofs.Common.{◌≡◌, ℕ, ℤ, pos, int_le, Result, Ok, Err, IfOk, List, [], ◌∷◌, ◌++◌, length, map, codes, inl, inr, if◌then◌else◌, refl, sym, ap, ◌∙◌}
use Rattle.std.specs.Fmt.{signed_decimal}
use Rattle.std.specs.List.{range_with_len}
use Rattle.std.proofs.lemmas.Bool.{cases_Bool}
use Rattle.sgb_graph.specs.declared.refusal.Refusal.{Refusal}
use Rattle.sgb_plan.specs.Id.{id_of}
use Rattle.sgb_plan.specs.Listing.{shown, shown_at}
use Rattle.sgb_make.specs.declared.spec.BoardSpec.{BoardSpec}
use Rattle.sgb_make.specs.Board.{sizes_asked, piece_of, board_id}

four_asked : (s : BoardSpec) → length (sizes_asked s) ≡ 4
four_asked s =
    elim (cases_Bool (int_le s.n1 (pos 0))) [
      | inl none ↦ rw none refl
      | inr some ↦ rw some refl
    ]

shown_four : (ns : List ℤ) → length ns ≡ 4 → shown ns ≡ shown_at ns 0 ∷ shown_at ns 1 ∷ shown_at ns 2 ∷ shown_at ns 3 ∷ []
unfolding shown
shown_four ns four = ap (λ k. map (shown_at ns) (range_with_len 0 k)) four

-- the parts of the id, as the code puts them together
abbrev pub parts_of : BoardSpec → List (List ℕ)
parts_of s =
    let ns : List ℤ = sizes_asked s in
    signed_decimal (shown_at ns 0) ∷ signed_decimal (shown_at ns 1) ∷ signed_decimal (shown_at ns 2) ∷ signed_decimal (shown_at ns 3) ∷ signed_decimal (piece_of s) ∷ signed_decimal s.wrap ∷ (if s.directed then codes "1" else codes "0") ∷ []

pub id_is : (s : BoardSpec) → id_of (codes "board") (parts_of s) ≡ board_id s
id_is s =
    ap (λ ns. id_of (codes "board") (map signed_decimal (ns ++ piece_of s ∷ s.wrap ∷ []) ++ (if s.directed then codes "1" else codes "0") ∷ []))
    (sym (shown_four (sizes_asked s) (four_asked s)))

pub id_so : (s : BoardSpec) (a b c d piece : ℤ) (r : Result (List ℕ) Refusal) → a ≡ shown_at (sizes_asked s) 0 → b ≡ shown_at (sizes_asked s) 1 → c ≡ shown_at (sizes_asked s) 2 → d ≡ shown_at (sizes_asked s) 3 → piece ≡ piece_of s → IfOk r (λ id. id ≡ id_of (codes "board") (signed_decimal a ∷ signed_decimal b ∷ signed_decimal c ∷ signed_decimal d ∷ signed_decimal piece ∷ signed_decimal s.wrap ∷ (if s.directed then codes "1" else codes "0") ∷ [])) → IfOk r (λ id. id ≡ board_id s)
id_so s a b c d piece (Ok id) first second third fourth moves is =
    let ns : List ℤ = sizes_asked s in
    let parts : List (List ℕ) = signed_decimal a ∷ signed_decimal b ∷ signed_decimal c ∷ signed_decimal d ∷ signed_decimal piece ∷ signed_decimal s.wrap ∷ (if s.directed then codes "1" else codes "0") ∷ [] in
    let same : parts ≡ parts_of s = rw (first, second, third, fourth, moves) refl in
    is ∙ (ap (id_of (codes "board")) same ∙ id_is s)
id_so s a b c d piece (Err e) first second third fourth moves is = tt
