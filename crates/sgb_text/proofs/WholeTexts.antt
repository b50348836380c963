-- A graph's text is read as the graph.
use Rattle.std.proofs.Common.{◌≡◌, ℕ, pos, ◌-◌, ◌^◌, ◌<◌, ◌≤◌, ◌==◌, ◌&&◌, true, List, [], ◌∷◌, ◌++◌, take, drop, length, get_or, codes, Option, Some, None, is_some, refl, sym, ap, ◌∙◌, arith, subst, append_assoc, length-append, flat_map, mod-lt, if◌then◌else◌}
use Rattle.std.specs.List.{list_all, range_with_len}
use Rattle.std.specs.Fmt.{decimal}
use Rattle.std.proofs.lemmas.Bool.{eq-eqb, le-leb}
use Rattle.std.proofs.lemmas.List.{length-map, take_all}
use Rattle.std.proofs.lemmas.List.Sums.{count_by-le-length}
use Rattle.std.proofs.lemmas.List.FromFn.{length-range_with_len}
use Rattle.std.proofs.Math.Seq.{take-append_seam, drop-append_seam}
use Rattle.sgb_graph.specs.declared.parts.Parts.{Parts}
use Rattle.sgb_graph.specs.Types.{IsTypes, is_letter}
use Rattle.sgb_graph.specs.Graph.{GraphOf, ArcOf, IsGraph, n_of, m_of, made_of, no_vertex, vertex_at, arc_at}
use Rattle.sgb_graph.specs.Honest.{vertex_letters, arc_letters, graph_letters, is_honest}
use Rattle.sgb_grammar.specs.declared.header.Header.{Header}
use Rattle.sgb_grammar.specs.Reading.{after}
use Rattle.sgb_grammar.specs.Number.{count_at, number_at}
use Rattle.sgb_grammar.specs.Record.{newline_at, own_at, vertex_at as vertex_in_text, arc_at as arc_in_text, arcs_at}
use Rattle.sgb_grammar.specs.Header.{header_at, letters_at, counts_at}
use Rattle.sgb_grammar.specs.Check.{check_of, weighed, covered}
use Rattle.sgb_grammar.specs.Saved.{SavedOf, own_in, vertices_in, arcs_in, records_in, check_line_in, saved_in}
use Rattle.sgb_grammar.specs.Spelled.{FirstLine, SavedText, IsReaderOf}
use Rattle.sgb_text.specs.declared.restoring.CheckRule.{CheckRule}
use Rattle.sgb_text.specs.declared.restoring.CheckRule.TheVariants.{Match, Any}
use Rattle.sgb_text.specs.Restore.{Accepted, passes, IsReadAsOne, IsRefusedForRoom}
use Rattle.sgb_text.specs.Layout.{laid}
use Rattle.sgb_text.specs.Save.{own_items, vertex_record, arc_record, next_link, entry_items, hole, header_of, body_of, check_line, text_of, IsReadBack}
use Rattle.sgb_text.proofs.Digits.{count_spelled, number_spelled}
use Rattle.sgb_text.proofs.ItemLayout.{then_read}
use Rattle.sgb_text.proofs.FieldItems.{raws}
use Rattle.sgb_text.proofs.RecordLayout.{Fields, vertex_part_of, vertex_read, arc_read, own_read, each_read, IsRecord}
use Rattle.sgb_text.proofs.Sound.{own_fields, vertex_fields, vertex_sound, arc_fields, arc_sound, arc_tip, first_good, next_good, hole_fields}
use Rattle.sgb_text.proofs.Builds.{entry_part, number_part, arc_parts, vertex_parts, builds}
use Rattle.sgb_text.proofs.Fields.{get_or_any}

-- what is read behind a first line is spelled there
abbrev IsSpelled : Type 0
IsSpelled = (h : Header) (bs : List ℕ) (s : SavedOf) → saved_in h bs ≡ Some s → SavedText h s bs

after_word : (word rest : List ℕ) → after word (word ++ rest) ≡ Some rest
unfolding after
after_word [] rest = refl
after_word (c ∷ cs) rest = rw (eq-eqb c c refl) (after_word cs rest)

-- ---- the first line
letters_read : (types rest : List ℕ) → IsTypes types → letters_at (types ++ rest) ≡ Some (types, rest)
unfolding letters_at
letters_read types rest h =
    let bs = types ++ rest in
    let front : take 14 bs ≡ types = ap (λ n. take n bs) (sym h.fourteen) ∙ take-append_seam types rest in
    let back : drop 14 bs ≡ rest = ap (λ n. drop n bs) (sym h.fourteen) ∙ drop-append_seam types rest in
    ap (λ t. if length t == 14 && list_all is_letter t then Some (t, drop 14 bs) else None) front
    ∙ rw (eq-eqb (length types) 14 h.fourteen, h.letters) (ap (λ x. Some (types, x)) back)

counts_read : (n a : ℕ) (rest : List ℕ) → n < 2 ^ 63 → a < 2 ^ 63 → counts_at (decimal n ++ (codes "V," ++ (decimal a ++ (codes "A)" ++ rest)))) ≡ Some ((n, a), rest)
unfolding counts_at
counts_read n a rest small small' =
    then_read (count_at (decimal n ++ (codes "V," ++ (decimal a ++ (codes "A)" ++ rest))))) (n, codes "V," ++ (decimal a ++ (codes "A)" ++ rest))) _ _
    (count_spelled n (codes "V," ++ (decimal a ++ (codes "A)" ++ rest))) small refl)
    (then_read (after (codes "V,") (codes "V," ++ (decimal a ++ (codes "A)" ++ rest)))) (decimal a ++ (codes "A)" ++ rest)) _ _ (after_word (codes "V,") (decimal a ++ (codes "A)" ++ rest)))
    (then_read (count_at (decimal a ++ (codes "A)" ++ rest))) (a, codes "A)" ++ rest) _ _ (count_spelled a (codes "A)" ++ rest) small' refl)
    (then_read (after (codes "A)") (codes "A)" ++ rest)) rest _ _ (after_word (codes "A)") rest) refl)))

seven_pieces : (a b c d e f h rest : List ℕ) → (a ++ (b ++ (c ++ (d ++ (e ++ (f ++ h)))))) ++ rest ≡ a ++ (b ++ (c ++ (d ++ (e ++ (f ++ (h ++ rest))))))
seven_pieces a b c d e f h rest = simp append_assoc

abbrev header : GraphOf → Header
header g = record { types = g.types; vertices = n_of g; arcs = made_of g }

header_read : (g : GraphOf) (lines : List ℕ) → IsTypes g.types → n_of g < 2 ^ 63 → made_of g < 2 ^ 63 → header_at (header_of g ++ (10 ∷ lines)) ≡ Some (header g, 10 ∷ lines)
unfolding header_at
header_read g lines types small small' =
    let first = codes "* GraphBase graph (util_types " in
    let counts = decimal (n_of g) ++ (codes "V," ++ (decimal (made_of g) ++ (codes "A)" ++ 10 ∷ lines))) in
    ap header_at (seven_pieces first g.types (codes ",") (decimal (n_of g)) (codes "V,") (decimal (made_of g)) (codes "A)") (10 ∷ lines))
    ∙ then_read (after first (first ++ (g.types ++ (codes "," ++ counts)))) (g.types ++ (codes "," ++ counts)) _ _ (after_word first (g.types ++ (codes "," ++ counts)))
    (then_read (letters_at (g.types ++ (codes "," ++ counts))) (g.types, codes "," ++ counts) _ _ (letters_read g.types (codes "," ++ counts) types)
    (then_read (after (codes ",") (codes "," ++ counts)) counts _ _ (after_word (codes ",") counts)
    (then_read (counts_at counts) ((n_of g, made_of g), 10 ∷ lines) _ _ (counts_read (n_of g) (made_of g) (10 ∷ lines) small small') refl)))

-- ---- the last line
check_small : (bs : List ℕ) → check_of bs < 2 ^ 30 - 83
unfolding check_of
check_small bs = mod-lt (weighed (covered bs)) (omega arith)

check_read : (c : ℕ) → c < 2 ^ 63 → check_line_in (check_line c) ≡ Some (pos c)
unfolding check_line_in
check_read c small =
    then_read (after (codes "* Checksum ") (codes "* Checksum " ++ (decimal c ++ 10 ∷ []))) (decimal c ++ 10 ∷ []) _ _ (after_word (codes "* Checksum ") (decimal c ++ 10 ∷ []))
    (then_read (number_at (decimal c ++ 10 ∷ [])) (pos c, 10 ∷ []) _ _ (number_spelled (pos c) (10 ∷ []) (record { sfits = small }) refl) refl)

-- ---- the records
module _ (g : GraphOf) (sound : IsGraph g) (honest : is_honest g ≡ true) where
  few_live : m_of g ≤ 1000000
  few_live = omega (arith, count_by-le-length is_some g.entries, sound.few_arcs)

  own_line : (rest : List ℕ) → own_in (header g) (laid 0 (own_items g) ++ rest) ≡ Some (record { id = g.id; n = n_of g; fields = raws (graph_letters g.types) g.fields }, rest)
  unfolding own_in
  own_line rest =
      then_read (own_at (graph_letters g.types) (laid 0 (own_items g) ++ rest)) _ _ _
      (own_read g rest sound.id (omega (arith, sound.few_vertices)) (omega (arith, few_live)) (own_fields g sound honest))
      (rw (le-leb (n_of g) (n_of g) (omega arith)) refl)

  vertex_line : (v : ℕ) → v < n_of g → IsRecord vertex_in_text (vertex_letters g.types) (vertex_record g.types) (vertex_part_of g.types) (vertex_at g v)
  vertex_line v h rest = vertex_read g.types (vertex_at g v) rest (vertex_sound g sound honest v h).label (first_good g v sound) (vertex_fields g sound honest v h)

  vertex_lines : (rest : List ℕ) → vertices_in (header g) ((codes "* Vertices" ++ 10 ∷ []) ++ (flat_map (vertex_record g.types) g.vertices ++ rest)) ≡ Some (vertex_parts g, rest)
  unfolding vertices_in
  vertex_lines rest =
      let text = flat_map (vertex_record g.types) g.vertices ++ rest in
      then_read (after (codes "* Vertices" ++ 10 ∷ []) ((codes "* Vertices" ++ 10 ∷ []) ++ text)) text _ _ (after_word (codes "* Vertices" ++ 10 ∷ []) text)
      (each_read vertex_in_text (vertex_letters g.types) (vertex_record g.types) (vertex_part_of g.types) g.vertices rest
      (λ v d h. subst (IsRecord vertex_in_text (vertex_letters g.types) (vertex_record g.types) (vertex_part_of g.types)) (get_or_any g.vertices v no_vertex d h) (vertex_line v h)))

  zero_fields : (k : ℕ) → Fields (arc_letters g.types) hole.fields
  zero_fields k = hole_fields g sound

  entry_line : (k : ℕ) (o : Option ArcOf) → arc_at g k ≡ o → (rest : List ℕ)
      → arc_in_text (arc_letters g.types) (laid 0 (entry_items g.types (next_link g k) o) ++ rest) ≡ Some (entry_part g.types (next_link g k) o, rest)
  entry_line k None at rest = arc_read g.types None hole rest tt tt (record { sfits = omega arith }) (zero_fields k)
  entry_line k (Some e) at rest = arc_read g.types (next_link g k) e rest (arc_tip g sound honest k e at) (next_good g k sound) (arc_sound g sound honest k e at).len (arc_fields g sound honest k e at)

  number_line : (k : ℕ) → IsRecord arc_in_text (arc_letters g.types) (arc_record g) (number_part g) k
  unfolding arc_record
  number_line k rest = entry_line k (arc_at g k) refl rest

  arc_lines : (rest : List ℕ) → arcs_in (header g) ((codes "* Arcs" ++ 10 ∷ []) ++ (flat_map (arc_record g) (range_with_len 0 (made_of g)) ++ rest)) ≡ Some (arc_parts g, rest)
  unfolding arcs_in
  arc_lines rest =
      let text = flat_map (arc_record g) (range_with_len 0 (made_of g)) ++ rest in
      then_read (after (codes "* Arcs" ++ 10 ∷ []) ((codes "* Arcs" ++ 10 ∷ []) ++ text)) text _ _ (after_word (codes "* Arcs" ++ 10 ∷ []) text)
      (ap (λ n. arcs_at (arc_letters g.types) n text) (sym (length-range_with_len 0 (made_of g)))
      ∙ each_read arc_in_text (arc_letters g.types) (arc_record g) (number_part g) (range_with_len 0 (made_of g)) rest (λ i d h. number_line (get_or (range_with_len 0 (made_of g)) i d)))

  five_pieces : (a b c d e rest : List ℕ) → (a ++ (b ++ (c ++ (d ++ e)))) ++ rest ≡ a ++ (b ++ (c ++ (d ++ (e ++ rest))))
  five_pieces a b c d e rest = simp append_assoc

  all_lines : (rest : List ℕ) → records_in (header g) (body_of g ++ rest)
      ≡ Some (record { own = record { id = g.id; n = n_of g; fields = raws (graph_letters g.types) g.fields }; vertices = vertex_parts g; arcs = arc_parts g }, rest)
  unfolding records_in body_of
  all_lines rest =
      let arcs = (codes "* Arcs" ++ 10 ∷ []) ++ (flat_map (arc_record g) (range_with_len 0 (made_of g)) ++ rest) in
      let vertices = (codes "* Vertices" ++ 10 ∷ []) ++ (flat_map (vertex_record g.types) g.vertices ++ arcs) in
      ap (records_in (header g)) (five_pieces (laid 0 (own_items g)) (codes "* Vertices" ++ 10 ∷ []) (flat_map (vertex_record g.types) g.vertices) (codes "* Arcs" ++ 10 ∷ []) (flat_map (arc_record g) (range_with_len 0 (made_of g))) rest)
      ∙ then_read (own_in (header g) (laid 0 (own_items g) ++ vertices)) _ _ _ (own_line vertices)
      (then_read (vertices_in (header g) vertices) (vertex_parts g, arcs) _ _ (vertex_lines arcs)
      (then_read (arcs_in (header g) arcs) (arc_parts g, rest) _ _ (arc_lines rest) refl))

  abbrev parts : Parts
  parts = record { id = g.id; types = g.types; fields = raws (graph_letters g.types) g.fields; vertices = vertex_parts g; arcs = arc_parts g }

  abbrev saved : SavedOf
  saved = record { parts = parts; number = pos (check_of (body_of g)); body = body_of g }

  kept_vertices : take (n_of g) (vertex_parts g) ≡ vertex_parts g
  kept_vertices = take_all (n_of g) (vertex_parts g) (omega (arith, length-map g.vertices (vertex_part_of g.types)))

  body_kept : (rest : List ℕ) → take (length (body_of g ++ rest) - length rest) (body_of g ++ rest) ≡ body_of g
  body_kept rest =
      let size : length (body_of g ++ rest) - length rest ≡ length (body_of g) = omega (arith, length-append (body_of g) rest) in
      ap (λ n. take n (body_of g ++ rest)) size ∙ take-append_seam (body_of g) rest

  newline : (lines : List ℕ) → newline_at (10 ∷ lines) ≡ Some lines
  unfolding after
  newline lines = refl

  saved_read : saved_in (header g) (10 ∷ (body_of g ++ check_line (check_of (body_of g)))) ≡ Some saved
  unfolding saved_in
  saved_read =
      let c = check_of (body_of g) in
      let last = check_line c in
      let lines = body_of g ++ last in
      then_read (newline_at (10 ∷ lines)) lines _ _ (newline lines)
      (then_read (records_in (header g) lines) _ _ _ (all_lines last)
      (then_read (check_line_in last) (pos c) _ _ (check_read c (omega (arith, check_small (body_of g))))
      (ap (λ vs. Some (record { parts = record { id = g.id; types = g.types; fields = raws (graph_letters g.types) g.fields; vertices = vs; arcs = arc_parts g }; number = pos c; body = take (length lines - length last) lines })) kept_vertices
      ∙ ap (λ b. Some (record { parts = parts; number = pos c; body = b })) (body_kept last))))

  passed : (rule : CheckRule) → passes rule (pos (check_of (body_of g))) (body_of g) ≡ true
  passed Any = refl
  passed Match = eq-eqb (check_of (body_of g)) (check_of (body_of g)) refl

  pub accepted : IsReaderOf Header header_at FirstLine → IsSpelled → (rule : CheckRule) → Accepted rule (text_of g) g
  unfolding text_of
  accepted line spelled rule = record {
    saved = saved;
    reads = record {
      header = header g;
      lines = 10 ∷ (body_of g ++ check_line (check_of (body_of g)));
      first = line.spelled (text_of g) (header g, 10 ∷ (body_of g ++ check_line (check_of (body_of g))))
          (header_read g (body_of g ++ check_line (check_of (body_of g))) sound.types (omega (arith, sound.few_vertices)) (omega (arith, sound.few_arcs)));
      within = rw (le-leb (n_of g) 65535 sound.few_vertices, le-leb (made_of g) 1000000 sound.few_arcs) refl;
      spelled = spelled (header g) (10 ∷ (body_of g ++ check_line (check_of (body_of g)))) saved saved_read;
      graph = builds g sound honest;
    };
    passed = passed rule;
  }

-- the law, of sound and honest graphs
pub reads_back : IsReadAsOne → IsRefusedForRoom → IsReaderOf Header header_at FirstLine → IsSpelled → (g : GraphOf) (rule : CheckRule) → IsGraph g → is_honest g ≡ true → IsReadBack rule g
reads_back one room line spelled g rule sound honest =
    let it = accepted g sound honest line spelled rule in
    record {
      accepted = it;
      one = λ h other. one rule rule (text_of g) h g other it;
      room = λ e refused. room rule (text_of g) g e it refused;
    }
