-- The readers of records and of whole texts are the relations of their spelling.
use Rattle.std.proofs.Common.{◌≡◌, ℕ, ℤ, ◌-◌, ◌≤◌, ◌==◌, ◌&&◌, nat_le, true, List, [], ◌∷◌, ◌++◌, take, drop, length, length-append, codes, slice_index, replicate, Some, None, Result, Ok, Err, IfOk, IfErr, refl, sym, subst, ap, ◌∙◌, inl, inr, ◌⊎◌, arith, Bor}
use Rattle.std.specs.List.{list_all}
use Rattle.std.proofs.lemmas.Bool.{and_parts, eqb-true, eq-eqb, le-leb, leb-true}
use Rattle.std.proofs.lemmas.List.{take-append-drop}
use Rattle.std.proofs.lemmas.Option.{option_and_then_some}
use Rattle.std.proofs.Math.Seq.{take-append_seam, drop-append_seam}
use Rattle.sgb_graph.specs.Types.{IsTypes, is_letter}
use Rattle.sgb_graph.specs.Honest.{vertex_letters, arc_letters, graph_letters}
use Rattle.sgb_graph.specs.declared.parts.VertexPart.{VertexPart}
use Rattle.sgb_graph.specs.declared.parts.ArcPart.{ArcPart}
use Rattle.sgb_grammar.specs.declared.fault.Fault.{Fault}
use Rattle.sgb_grammar.specs.declared.fault.Fault.TheVariants.{NoRoom, Syntax}
use Rattle.sgb_grammar.specs.declared.records.Own.{Own}
use Rattle.sgb_grammar.specs.declared.saved.Records.{Records}
use Rattle.sgb_grammar.specs.declared.saved.Saved.{Saved}
use Rattle.sgb_grammar.specs.declared.header.Header.{Header}
use Rattle.sgb_grammar.specs.Reading.{after, Spells}
use Rattle.sgb_grammar.specs.Number.{count_at, number_at}
use Rattle.sgb_grammar.specs.String.{text_at}
use Rattle.sgb_grammar.specs.Field.{comma_at, link_at, tip_at, fields_at}
use Rattle.sgb_grammar.specs.Record.{newline_at, own_at, vertex_at, arc_at}
use Rattle.sgb_grammar.specs.Header.{letters_at, counts_at, ends_line, header_at}
use Rattle.sgb_grammar.specs.Saved.{SavedOf, own_in, vertices_in, arcs_in, records_in, check_line_in, saved_in, shown, Holds}
use Rattle.sgb_grammar.specs.Spelled.{Count, OwnRecord, VertexRecord, ArcRecord, Letters, LineEnd, FirstLine, AllRecords, CheckLine, SavedText, WholeText, HasNoFirstLine, SpellsNothing, IsOnlyLine, IsOnlyText}
use Rattle.sgb_grammar.proofs.Words.{after_is, after-sound}
use Rattle.sgb_grammar.proofs.Prefixes.{records_stand}
use Rattle.sgb_grammar.proofs.Lines.{letters_some}
use Rattle.sgb_grammar.proofs.RecordParts.{some_same, bound, kept, text_spelled, text_read, count_spelled, count_read, number_spelled, number_read}
use Rattle.sgb_grammar.proofs.SpelledItems.{comma_spelled, comma_read, link_spelled, link_read, tip_spelled, tip_read, fields_spelled, fields_read, each_spelled, each_read}

-- ---- records

pub own_spelled : (letters bs : List ℕ) (p : Own × List ℕ) → own_at letters bs ≡ Some p → OwnRecord letters p.0 bs p.1
unfolding own_at
own_spelled letters bs p e =
    option_and_then_some _ (text_at 160 bs) p e (λ id id-is id-more.
    option_and_then_some _ (comma_at id.1) p id-more (λ a a-is a-more.
    option_and_then_some _ (count_at a) p a-more (λ n n-is n-more.
    option_and_then_some _ (comma_at n.1) p n-more (λ b b-is b-more.
    option_and_then_some _ (number_at b) p b-more (λ m m-is m-more.
    option_and_then_some _ (fields_at letters m.1) p m-more (λ us us-is us-more.
    option_and_then_some _ (newline_at us.1) p us-more (λ end end-is end-more.
    subst (λ r. OwnRecord letters r.0 bs r.1) (some_same _ p end-more) (
      m.0,
      (
        id.1,
        text_spelled 160 bs id id-is,
        (
          a,
          comma_spelled id.1 a a-is,
          (
            n.1,
            count_spelled a n n-is,
            (
              b,
              comma_spelled n.1 b b-is,
              (
                m.1,
                number_spelled b m m-is,
                (
                  us.1,
                  fields_spelled letters m.1 us us-is,
                  after-sound (10 ∷ []) us.1 end end-is,
                ),
              ),
            ),
          ),
        ),
      ),
    )
    )))))))

pub own_read : (letters bs rest : List ℕ) (own : Own) → OwnRecord letters own bs rest → own_at letters bs ≡ Some (own, rest)
unfolding own_at
own_read letters bs rest own (m, (a, id, (b, comma, (c, n, (d, comma', (f, number, (g, us, end))))))) =
    rw (
      text_read 160 bs a own.id id,
      comma_read a b comma,
      count_read b c own.n n,
      comma_read c d comma',
      number_read d f m number,
      fields_read letters f g own.fields us,
      after_is (10 ∷ []) g rest end,
    ) refl

pub vertex_spelled : (letters bs : List ℕ) (p : VertexPart × List ℕ) → vertex_at letters bs ≡ Some p → VertexRecord letters p.0 bs p.1
unfolding vertex_at
vertex_spelled letters bs p e =
    option_and_then_some _ (text_at 4095 bs) p e (λ name name-is name-more.
    option_and_then_some _ (comma_at name.1) p name-more (λ a a-is a-more.
    option_and_then_some _ (link_at a) p a-more (λ link link-is link-more.
    option_and_then_some _ (fields_at letters link.1) p link-more (λ us us-is us-more.
    option_and_then_some _ (newline_at us.1) p us-more (λ end end-is end-more.
    subst (λ r. VertexRecord letters r.0 bs r.1) (some_same _ p end-more) (
      name.1,
      text_spelled 4095 bs name name-is,
      (
        a,
        comma_spelled name.1 a a-is,
        (
          link.1,
          link_spelled a link link-is,
          (
            us.1,
            fields_spelled letters link.1 us us-is,
            after-sound (10 ∷ []) us.1 end end-is,
          ),
        ),
      ),
    )
    )))))

pub vertex_read : (letters bs rest : List ℕ) (v : VertexPart) → VertexRecord letters v bs rest → vertex_at letters bs ≡ Some (v, rest)
unfolding vertex_at
vertex_read letters bs rest v (a, name, (b, comma, (c, link, (d, us, end)))) =
    rw (
      text_read 4095 bs a v.label name,
      comma_read a b comma,
      link_read b c v.first link,
      fields_read letters c d v.fields us,
      after_is (10 ∷ []) d rest end,
    ) refl

pub arc_spelled : (letters bs : List ℕ) (p : ArcPart × List ℕ) → arc_at letters bs ≡ Some p → ArcRecord letters p.0 bs p.1
unfolding arc_at
arc_spelled letters bs p e =
    option_and_then_some _ (tip_at bs) p e (λ to to-is to-more.
    option_and_then_some _ (comma_at to.1) p to-more (λ a a-is a-more.
    option_and_then_some _ (link_at a) p a-more (λ link link-is link-more.
    option_and_then_some _ (comma_at link.1) p link-more (λ b b-is b-more.
    option_and_then_some _ (number_at b) p b-more (λ long long-is long-more.
    option_and_then_some _ (fields_at letters long.1) p long-more (λ us us-is us-more.
    option_and_then_some _ (newline_at us.1) p us-more (λ end end-is end-more.
    subst (λ r. ArcRecord letters r.0 bs r.1) (some_same _ p end-more) (
      to.1,
      tip_spelled bs to to-is,
      (
        a,
        comma_spelled to.1 a a-is,
        (
          link.1,
          link_spelled a link link-is,
          (
            b,
            comma_spelled link.1 b b-is,
            (
              long.1,
              number_spelled b long long-is,
              (
                us.1,
                fields_spelled letters long.1 us us-is,
                after-sound (10 ∷ []) us.1 end end-is,
              ),
            ),
          ),
        ),
      ),
    )
    )))))))

pub arc_read : (letters bs rest : List ℕ) (r : ArcPart) → ArcRecord letters r bs rest → arc_at letters bs ≡ Some (r, rest)
unfolding arc_at
arc_read letters bs rest r (a, to, (b, comma, (c, link, (d, comma', (f, long, (g, us, end)))))) =
    rw (
      tip_read bs a r.tip to,
      comma_read a b comma,
      link_read b c r.next link,
      comma_read c d comma',
      number_read d f r.len long,
      fields_read letters f g r.fields us,
      after_is (10 ∷ []) g rest end,
    ) refl

-- ---- the first line

letters_spelled : (bs : List ℕ) (p : List ℕ × List ℕ) → letters_at bs ≡ Some p → Letters p.0 bs p.1
unfolding letters_at
letters_spelled bs p e =
    let fourteen = length (take 14 bs) == 14 in
    let all = list_all is_letter (take 14 bs) in
    let k = kept (fourteen && all) (take 14 bs, drop 14 bs) p e in
    let both = and_parts fourteen all k.0 in
    subst (λ r. Letters r.0 bs r.1) k.1
    (record { fourteen = eqb-true (length (take 14 bs)) 14 both.0; letters = both.1 }, sym (take-append-drop 14 bs))

letters_read : (bs rest types : List ℕ) → Letters types bs rest → letters_at bs ≡ Some (types, rest)
letters_read bs rest types (are, e) =
    let front : take 14 bs ≡ types = ap (λ t. take 14 t) e ∙ ap (λ k. take k (types ++ rest)) (sym are.fourteen) ∙ take-append_seam types rest in
    let back : drop 14 bs ≡ rest = ap (λ t. drop 14 t) e ∙ ap (λ k. drop k (types ++ rest)) (sym are.fourteen) ∙ drop-append_seam types rest in
    letters_some bs (subst (λ t. IsTypes t) (sym front) are)
    ∙ ap (λ t. Some (t, drop 14 bs)) front
    ∙ ap (λ r. Some (types, r)) back

abbrev Counts : ℕ → ℕ → List ℕ → List ℕ → Type 0
Counts n m bs rest =
    (a : List ℕ)
    × (b : List ℕ)
    × (c : List ℕ)
    × Count n bs a
    × (a ≡ codes "V," ++ b)
    × Count m b c
    × (c ≡ codes "A)" ++ rest)

counts_spelled : (bs : List ℕ) (p : (ℕ × ℕ) × List ℕ) → counts_at bs ≡ Some p → Counts p.0.0 p.0.1 bs p.1
unfolding counts_at
counts_spelled bs p e =
    option_and_then_some _ (count_at bs) p e (λ n n-is n-more.
    option_and_then_some _ (after (codes "V,") n.1) p n-more (λ a a-is a-more.
    option_and_then_some _ (count_at a) p a-more (λ m m-is m-more.
    option_and_then_some _ (after (codes "A)") m.1) p m-more (λ b b-is b-more.
    subst (λ r. Counts r.0.0 r.0.1 bs r.1) (some_same _ p b-more) (
      n.1,
      a,
      m.1,
      count_spelled bs n n-is,
      after-sound (codes "V,") n.1 a a-is,
      count_spelled a m m-is,
      after-sound (codes "A)") m.1 b b-is,
    )
    ))))

counts_read : (bs rest : List ℕ) (n m : ℕ) → Counts n m bs rest → counts_at bs ≡ Some ((n, m), rest)
unfolding counts_at
counts_read bs rest n m (a, b, c, count, word, count', word') =
    rw (count_read bs a n count, after_is (codes "V,") a b word, count_read b c m count', after_is (codes "A)") c rest word') refl

line_ends : (bs : List ℕ) → ends_line bs ≡ true → LineEnd bs bs
line_ends [] e = (refl, inl refl)
line_ends (c ∷ cs) e = (refl, inr (eqb-true c 10 e))

ends_line_is : (bs : List ℕ) → (bs ≡ []) ⊎ (slice_index bs 0 ≡ 10) → ends_line bs ≡ true
ends_line_is [] h = refl
ends_line_is (c ∷ cs) (inl e) = cc
ends_line_is (c ∷ cs) (inr e) = eq-eqb c 10 e

pub header_spelled : (bs : List ℕ) (p : Header × List ℕ) → header_at bs ≡ Some p → FirstLine p.0 bs p.1
unfolding header_at
header_spelled bs p e =
    option_and_then_some _ (after (codes "* GraphBase graph (util_types ") bs) p e (λ a a-is a-more.
    option_and_then_some _ (letters_at a) p a-more (λ types types-is types-more.
    option_and_then_some _ (after (codes ",") types.1) p types-more (λ b b-is b-more.
    option_and_then_some _ (counts_at b) p b-more (λ counts counts-is counts-more.
    let k = kept (ends_line counts.1) _ p counts-more in
    let s = counts_spelled b counts counts-is in
    subst (λ r. FirstLine r.0 bs r.1) k.1 (
      a,
      after-sound (codes "* GraphBase graph (util_types ") bs a a-is,
      (
        types.1,
        letters_spelled a types types-is,
        (
          b,
          after-sound (codes ",") types.1 b b-is,
          (
            s.0,
            s.3,
            (
              s.1,
              s.4,
              (
                s.2,
                s.5,
                (
                  counts.1,
                  s.6,
                  line_ends counts.1 k.0,
                ),
              ),
            ),
          ),
        ),
      ),
    )
    ))))

pub header_read : (bs rest : List ℕ) (h : Header) → FirstLine h bs rest → header_at bs ≡ Some (h, rest)
unfolding header_at
header_read bs rest h (a, word, (b, types, (c, comma, (d, vertices, (f, word', (g, arcs, (i, word'', (same, end)))))))) =
    rw (
      after_is (codes "* GraphBase graph (util_types ") bs a word,
      letters_read a b h.types types,
      after_is (codes ",") b c comma,
      counts_read c i h.vertices h.arcs (d, f, g, vertices, word', arcs, word''),
      ends_line_is i end,
    ) (ap (λ r. Some (h, r)) same)

-- ---- all records

pub records_spelled : (h : Header) (bs : List ℕ) (p : Records × List ℕ) → records_in h bs ≡ Some p → AllRecords h p.0 bs p.1 × (p.0.own.n ≤ h.vertices)
unfolding records_in own_in vertices_in arcs_in
records_spelled h bs p e =
    option_and_then_some _ (own_in h bs) p e (λ own own-is own-more.
    option_and_then_some _ (vertices_in h own.1) p own-more (λ vs vs-is vs-more.
    option_and_then_some _ (arcs_in h vs.1) p vs-more (λ rs rs-is rs-more.
    let o = bound (own_at (graph_letters h.types) bs) _ own own-is in
    let k = kept (nat_le o.0.0.n h.vertices) o.0 own o.2 in
    let first : OwnRecord (graph_letters h.types) own.0 bs own.1 = subst (λ r. OwnRecord (graph_letters h.types) r.0 bs r.1) k.1 (own_spelled (graph_letters h.types) bs o.0 o.1) in
    let few : own.0.n ≤ h.vertices = subst (λ r. r.0.n ≤ h.vertices) k.1 (leb-true o.0.0.n h.vertices k.0) in
    let v = bound (after (codes "* Vertices" ++ 10 ∷ []) own.1) _ vs vs-is in
    let r = bound (after (codes "* Arcs" ++ 10 ∷ []) vs.1) _ rs rs-is in
    subst (λ q. AllRecords h q.0 bs q.1 × (q.0.own.n ≤ h.vertices)) (some_same _ p rs-more) (
      (
        own.1,
        first,
        (
          v.0,
          after-sound (codes "* Vertices" ++ 10 ∷ []) own.1 v.0 v.1,
          (
            vs.1,
            each_spelled vertex_at VertexRecord vertex_spelled (replicate h.vertices (vertex_letters h.types)) v.0 vs v.2,
            (
              r.0,
              after-sound (codes "* Arcs" ++ 10 ∷ []) vs.1 r.0 r.1,
              each_spelled arc_at ArcRecord arc_spelled (replicate h.arcs (arc_letters h.types)) r.0 rs r.2,
            ),
          ),
        ),
      ),
      few,
    )
    )))

pub records_read : (h : Header) (bs rest : List ℕ) (r : Records) → AllRecords h r bs rest → r.own.n ≤ h.vertices → records_in h bs ≡ Some (r, rest)
unfolding records_in own_in vertices_in arcs_in
records_read h bs rest r (a, own, (b, word, (c, vs, (d, word', rs)))) few =
    rw (
      own_read (graph_letters h.types) bs a r.own own,
      le-leb r.own.n h.vertices few,
      after_is (codes "* Vertices" ++ 10 ∷ []) a b word,
      each_read vertex_at VertexRecord vertex_read (replicate h.vertices (vertex_letters h.types)) b c r.vertices vs,
      after_is (codes "* Arcs" ++ 10 ∷ []) c d word',
      each_read arc_at ArcRecord arc_read (replicate h.arcs (arc_letters h.types)) d rest r.arcs rs,
    ) refl

-- ---- the whole text

check_line_spelled : (bs : List ℕ) (z : ℤ) → check_line_in bs ≡ Some z → CheckLine z bs
unfolding check_line_in
check_line_spelled bs z e =
    option_and_then_some _ (after (codes "* Checksum ") bs) z e (λ a a-is a-more.
    option_and_then_some _ (number_at a) z a-more (λ number number-is number-more.
    let k = kept (ends_line number.1) number.0 z number-more in
    subst (λ y. CheckLine y bs) k.1 (
      number.1,
      (
        a,
        after-sound (codes "* Checksum ") bs a a-is,
        (
          number.1,
          number_spelled a number number-is,
          line_ends number.1 k.0,
        ),
      ),
    )
    ))

check_line_read : (bs : List ℕ) (z : ℤ) → CheckLine z bs → check_line_in bs ≡ Some z
unfolding check_line_in
check_line_read bs z (rest, (a, word, (b, number, (same, end)))) =
    rw (after_is (codes "* Checksum ") bs a word, number_read a b z number, ends_line_is b end) refl

body_is : (lines body end : List ℕ) → lines ≡ body ++ end → body ≡ take (length lines - length end) lines
body_is lines body end e =
    let size : length lines - length end ≡ length body = omega (arith, length-append body end, ap length e) in
    sym (ap (λ n. take n lines) size ∙ ap (λ t. take (length body) t) e ∙ take-append_seam body end)

pub saved_spelled : (h : Header) (bs : List ℕ) (s : SavedOf) → saved_in h bs ≡ Some s → SavedText h s bs
unfolding saved_in
saved_spelled h bs s e =
    option_and_then_some _ (newline_at bs) s e (λ a a-is a-more.
    option_and_then_some _ (records_in h a) s a-more (λ records records-is records-more.
    option_and_then_some _ (check_line_in records.1) s records-more (λ number number-is number-more.
    let all = records_spelled h a records records-is in
    subst (λ t. SavedText h t bs) (some_same _ s number-more) (
      records.0,
      a,
      records.1,
      after-sound (10 ∷ []) bs a a-is,
      (let front = records_stand h records.0 a records.1 all.0 in front.1 ∙ ap (λ b. b ++ records.1) (body_is a front.0 records.1 front.1)),
      all.0,
      all.1,
      refl,
      check_line_spelled records.1 number number-is,
    )
    )))

pub saved_read : (h : Header) (bs : List ℕ) (s : SavedOf) → SavedText h s bs → saved_in h bs ≡ Some s
unfolding saved_in
saved_read h bs s (r, lines, end, newline, body, records, few, parts, check) =
    let before = take (length lines - length end) lines in
    rw (after_is (10 ∷ []) bs lines newline, records_read h lines end r records few, check_line_read end s.number check)
    (ap (λ ps. Some (record { parts = ps; number = s.number; body = before })) (sym parts)
    ∙ ap (λ b. Some (record { parts = s.parts; number = s.number; body = b })) (sym (body_is lines s.body end body)))

pub line_once : (text : List ℕ) (h : Header) (rest : List ℕ) → FirstLine h text rest → IsOnlyLine text h rest
line_once text h rest line k others other =
    let same : (k, others) ≡ (h, rest) = some_same (k, others) (h, rest) (sym (header_read text others k other) ∙ header_read text rest h line) in
    (ap (λ q. q.0) same, ap (λ q. q.1) same)

-- ---- what the readers answer

pub line_found : (r : Result (Header × Bor (List ℕ)) Fault) (bs : List ℕ) → Spells r (header_at bs) → IfOk r (λ p. FirstLine p.0 bs p.1.now)
line_found (Ok p) bs e = header_spelled bs (p.0, p.1.now) e
line_found (Err f) bs e = tt

pub line_only : (r : Result (Header × Bor (List ℕ)) Fault) (bs : List ℕ) → Spells r (header_at bs) → IfOk r (λ p. IsOnlyLine bs p.0 p.1.now)
line_only (Ok p) bs e = line_once bs p.0 p.1.now (header_spelled bs (p.0, p.1.now) e)
line_only (Err f) bs e = tt

pub no_line : (r : Result (Header × Bor (List ℕ)) Fault) (bs : List ℕ) → Spells r (header_at bs) → IfErr r (λ f. (f ≡ Syntax) × HasNoFirstLine bs)
no_line (Ok p) bs e = tt
no_line (Err f) bs (syntax, none) = (syntax, λ h rest line. let bad : Some (h, rest) ≡ None = sym (header_read bs rest h line) ∙ none in cc)

pub text_found : (h : Header) (r : Result Saved Fault) (bs : List ℕ) → Holds r (saved_in h bs) → IfOk r (λ s. SavedText h (shown s) bs)
text_found h (Ok s) bs e = saved_spelled h bs (shown s) e
text_found h (Err f) bs e = tt

pub text_only : (h : Header) (r : Result Saved Fault) (bs : List ℕ) → Holds r (saved_in h bs) → IfOk r (λ s. IsOnlyText h (shown s) bs)
text_only h (Ok s) bs e = λ t text. some_same t (shown s) (sym (saved_read h bs t text) ∙ e)
text_only h (Err f) bs e = tt

pub no_text : (h : Header) (r : Result Saved Fault) (bs : List ℕ) → Holds r (saved_in h bs) → IfErr r (λ f. (f ≡ NoRoom) ⊎ ((f ≡ Syntax) × SpellsNothing h bs))
no_text h (Ok s) bs e = tt
no_text h (Err f) bs (inl room) = inl room
no_text h (Err f) bs (inr (syntax, none)) = inr (syntax, λ s text. let bad : Some s ≡ None = sym (saved_read h bs s text) ∙ none in cc)

pub saved_once : (text : List ℕ) (h k : Header) (s t : SavedOf) → WholeText h s text → WholeText k t text → (h ≡ k) × (s ≡ t)
saved_once text h k s t (lines, first, rest) (lines', first', rest') =
    let same : (h, lines) ≡ (k, lines') = some_same (h, lines) (k, lines') (sym (header_read text lines h first) ∙ header_read text lines' k first') in
    let header : h ≡ k = ap (λ p. p.0) same in
    (header, some_same s t (sym (saved_read h lines s rest) ∙ ap (λ p. saved_in p.0 p.1) same ∙ saved_read k lines' t rest'))
