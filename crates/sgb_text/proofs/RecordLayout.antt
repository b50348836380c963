-- What is laid of a record is read as the record.
use Rattle.std.proofs.Common.{◌≡◌, ℕ, pos, ◌^◌, ◌<◌, true, List, [], ◌∷◌, ◌++◌, map, replicate, length, Option, Some, refl, ap, ◌∙◌, arith, append_assoc, FitsSigned, w64, All, option_and_then, flat_map}
use Rattle.std.specs.List.{list_all}
use Rattle.std.specs.Fmt.{decimal, signed_decimal}
use Rattle.std.proofs.lemmas.List.Elements.{All-tail}
use Rattle.sgb_graph.specs.declared.field.ArcNo.{ArcNo}
use Rattle.sgb_graph.specs.declared.field.Util.{Util}
use Rattle.sgb_graph.specs.declared.parts.VertexPart.{VertexPart}
use Rattle.sgb_graph.specs.declared.parts.ArcPart.{ArcPart}
use Rattle.sgb_graph.specs.Text.{IsText}
use Rattle.sgb_graph.specs.Types.{is_letter}
use Rattle.sgb_graph.specs.Graph.{GraphOf, VertexOf, ArcOf, IsId, n_of, m_of}
use Rattle.sgb_graph.specs.Honest.{vertex_letters, arc_letters, graph_letters, are_allowed}
use Rattle.sgb_graph.specs.Read.{first_of}
use Rattle.sgb_grammar.specs.Reading.{after, behind, each_at}
use Rattle.sgb_grammar.specs.Number.{count_at, number_at}
use Rattle.sgb_grammar.specs.String.{text_at}
use Rattle.sgb_grammar.specs.Field.{comma_at, link_at, tip_at, fields_at}
use Rattle.sgb_grammar.specs.Record.{newline_at, own_at, vertex_at as vertex_in_text, arc_at as arc_in_text}
use Rattle.sgb_text.specs.Layout.{column_behind, laid}
use Rattle.sgb_text.specs.Save.{quoted, link_text, tip_text, field_items, own_items, arc_items, vertex_record}
use Rattle.sgb_text.proofs.ItemLayout.{item_of, from_item, behind_item, then_read, text_item, count_item, number_item, comma_item, first_item, starts_count, starts_number}
use Rattle.sgb_text.proofs.FieldItems.{IsGood, IsGoodLink, IsGoodTip, raws, fields_read, link_item, tip_item, link_starts}

-- fields that are read as they stand
pub record Fields (ls : List ℕ) (us : List Util) : Type 0 where
  pub same : length us ≡ length ls
  pub letters : list_all is_letter ls ≡ true
  pub allowed : are_allowed ls us ≡ true
  pub good : All IsGood us

newline : (rest : List ℕ) → newline_at (10 ∷ rest) ≡ Some rest
unfolding after
newline rest = refl

abbrev pub vertex_part_of : List ℕ → VertexOf → VertexPart
vertex_part_of types v = record { label = v.label; fields = raws (vertex_letters types) v.fields; first = first_of v.arcs }

abbrev pub arc_part_of : List ℕ → Option ArcNo → ArcOf → ArcPart
arc_part_of types link e = record { tip = e.tip; len = e.len; fields = raws (arc_letters types) e.fields; next = link }

pub vertex_read : (types : List ℕ) (v : VertexOf) (rest : List ℕ) → IsText v.label → IsGoodLink (first_of v.arcs) → Fields (vertex_letters types) v.fields
    → vertex_in_text (vertex_letters types) (vertex_record types v ++ rest) ≡ Some (vertex_part_of types v, rest)
unfolding vertex_in_text vertex_record
vertex_read types v rest text good f =
    let ls = vertex_letters types in
    let link = first_of v.arcs in
    let w = quoted v.label in
    let w' = link_text link in
    let ws' = field_items ls v.fields in
    let ws = w' ∷ ws' in
    let c = column_behind 0 (length (item_of w ws)) in
    let c' = column_behind c (length (item_of w' ws')) in
    ap (vertex_in_text ls) (first_item w ws rest)
    ∙ then_read (text_at 4095 (from_item c w ws rest)) (v.label, behind_item c ws rest) _ _ (text_item 4095 v.label text.printable text.short ws c rest)
    (then_read (comma_at (behind_item c ws rest)) (from_item c' w' ws' rest) _ _ (comma_item c w' ws' rest (link_starts link))
    (then_read (link_at (from_item c' w' ws' rest)) (link, behind_item c' ws' rest) _ _ (link_item link good ws' c' rest)
    (then_read (fields_at ls (behind_item c' ws' rest)) (raws ls v.fields, 10 ∷ rest) _ _ (fields_read ls v.fields c' rest f.same f.letters f.allowed f.good)
    (then_read (newline_at (10 ∷ rest)) rest _ _ (newline rest) refl))))

pub arc_read : (types : List ℕ) (link : Option ArcNo) (e : ArcOf) (rest : List ℕ) → IsGoodTip e.tip → IsGoodLink link → FitsSigned w64 e.len → Fields (arc_letters types) e.fields
    → arc_in_text (arc_letters types) (laid 0 (arc_items types link e) ++ rest) ≡ Some (arc_part_of types link e, rest)
unfolding arc_in_text
arc_read types link e rest tip good fits f =
    let ls = arc_letters types in
    let w = tip_text e.tip in
    let w' = link_text link in
    let w'' = signed_decimal e.len in
    let ws'' = field_items ls e.fields in
    let ws' = w'' ∷ ws'' in
    let ws = w' ∷ ws' in
    let c = column_behind 0 (length (item_of w ws)) in
    let c' = column_behind c (length (item_of w' ws')) in
    let c'' = column_behind c' (length (item_of w'' ws'')) in
    ap (arc_in_text ls) (first_item w ws rest)
    ∙ then_read (tip_at (from_item c w ws rest)) (e.tip, behind_item c ws rest) _ _ (tip_item e.tip tip ws c rest)
    (then_read (comma_at (behind_item c ws rest)) (from_item c' w' ws' rest) _ _ (comma_item c w' ws' rest (link_starts link))
    (then_read (link_at (from_item c' w' ws' rest)) (link, behind_item c' ws' rest) _ _ (link_item link good ws' c' rest)
    (then_read (comma_at (behind_item c' ws' rest)) (from_item c'' w'' ws'' rest) _ _ (comma_item c' w'' ws'' rest (starts_number e.len fits))
    (then_read (number_at (from_item c'' w'' ws'' rest)) (e.len, behind_item c'' ws'' rest) _ _ (number_item e.len fits ws'' c'' rest)
    (then_read (fields_at ls (behind_item c'' ws'' rest)) (raws ls e.fields, 10 ∷ rest) _ _ (fields_read ls e.fields c'' rest f.same f.letters f.allowed f.good)
    (then_read (newline_at (10 ∷ rest)) rest _ _ (newline rest) refl))))))

pub own_read : (g : GraphOf) (rest : List ℕ) → IsId g.id → n_of g < 2 ^ 63 → m_of g < 2 ^ 63 → Fields (graph_letters g.types) g.fields
    → own_at (graph_letters g.types) (laid 0 (own_items g) ++ rest) ≡ Some (record { id = g.id; n = n_of g; fields = raws (graph_letters g.types) g.fields }, rest)
unfolding own_at
own_read g rest id small small' f =
    let ls = graph_letters g.types in
    let m : FitsSigned w64 (pos (m_of g)) = record { sfits = small' } in
    let w = quoted g.id in
    let w' = decimal (n_of g) in
    let w'' = decimal (m_of g) in
    let ws'' = field_items ls g.fields in
    let ws' = w'' ∷ ws'' in
    let ws = w' ∷ ws' in
    let c = column_behind 0 (length (item_of w ws)) in
    let c' = column_behind c (length (item_of w' ws')) in
    let c'' = column_behind c' (length (item_of w'' ws'')) in
    ap (own_at ls) (first_item w ws rest)
    ∙ then_read (text_at 160 (from_item c w ws rest)) (g.id, behind_item c ws rest) _ _ (text_item 160 g.id id.text.printable id.short ws c rest)
    (then_read (comma_at (behind_item c ws rest)) (from_item c' w' ws' rest) _ _ (comma_item c w' ws' rest (starts_count (n_of g) (omega arith)))
    (then_read (count_at (from_item c' w' ws' rest)) (n_of g, behind_item c' ws' rest) _ _ (count_item (n_of g) small ws' c' rest)
    (then_read (comma_at (behind_item c' ws' rest)) (from_item c'' w'' ws'' rest) _ _ (comma_item c' w'' ws'' rest (starts_number (pos (m_of g)) m))
    (then_read (number_at (from_item c'' w'' ws'' rest)) (pos (m_of g), behind_item c'' ws'' rest) _ _ (number_item (pos (m_of g)) m ws'' c'' rest)
    (then_read (fields_at ls (behind_item c'' ws'' rest)) (raws ls g.fields, 10 ∷ rest) _ _ (fields_read ls g.fields c'' rest f.same f.letters f.allowed f.good)
    (then_read (newline_at (10 ∷ rest)) rest _ _ (newline rest) refl))))))

-- ---- one record after another
abbrev pub IsRecord : {A B : Type 0} → (List ℕ → List ℕ → Option (B × List ℕ)) → List ℕ → (A → List ℕ) → (A → B) → A → Type 0
IsRecord r letters text part x = (rest : List ℕ) → r letters (text x ++ rest) ≡ Some (part x, rest)

pub each_read : {A B : Type 0} (r : List ℕ → List ℕ → Option (B × List ℕ)) (letters : List ℕ) (text : A → List ℕ) (part : A → B) (xs : List A) (rest : List ℕ)
    → All (IsRecord r letters text part) xs → each_at r (replicate (length xs) letters) (flat_map text xs ++ rest) ≡ Some (map part xs, rest)
unfolding each_at
each_read r letters text part [] rest h = refl
each_read r letters text part (x ∷ xs) rest h =
    ap (λ bs. option_and_then (λ p. behind (p.0 ∷ []) (each_at r (replicate (length xs) letters) p.1)) (r letters bs)) (append_assoc (text x) (flat_map text xs) rest)
    ∙ ap (option_and_then (λ p. behind (p.0 ∷ []) (each_at r (replicate (length xs) letters) p.1))) (h 0 x (omega arith) (flat_map text xs ++ rest))
    ∙ ap (behind (part x ∷ [])) (each_read r letters text part xs rest (All-tail (IsRecord r letters text part) x xs h))
