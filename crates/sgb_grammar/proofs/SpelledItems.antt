-- The readers of links, tips and fields are the relations of their spelling.
use Rattle.std.proofs.Common.{◌≡◌, ◌≢◌, ℕ, pos, ◌-◌, ◌^◌, ◌==◌, min, true, List, [], ◌∷◌, slice_index, Option, Some, None, refl, sym, subst, ap, ◌∙◌, inl, inr, arith}
use Rattle.std.proofs.lemmas.Bool.{cases_Bool, eqb-true, eqb-false, ne_eqb}
use Rattle.sgb_graph.specs.declared.field.ArcNo.{ArcNo}
use Rattle.sgb_graph.specs.declared.field.Tip.{Tip}
use Rattle.sgb_graph.specs.declared.field.Tip.TheVariants as tips
use Rattle.sgb_graph.specs.declared.field.Util.{Util}
use Rattle.sgb_graph.specs.declared.field.Util.TheVariants.{Zero, Int, Vertex, Arc, Text}
use Rattle.sgb_grammar.specs.Reading.{◌>>=◌, behind, each_at}
use Rattle.sgb_grammar.specs.Number.{count_at, number_at}
use Rattle.sgb_grammar.specs.String.{text_at}
use Rattle.sgb_grammar.specs.Field.{comma_at, index_at, some_arc, some_tip, some_integer, some_vertex, some_arc_value, some_text, link_at, tip_at, vertex_value_at, arc_value_at, value_at, field_at, fields_at}
use Rattle.sgb_grammar.specs.Spelled.{Spelling, ◌>>◌, Comma, Index, Link, TipIs, IntegerValue, VertexValue, ArcValue, TextValue, Value, Absent, Field, Each}
use Rattle.sgb_grammar.proofs.ItemSequences.{each_some}
use Rattle.sgb_grammar.proofs.RecordParts.{some_same, bound, mapped, behind_is, text_spelled, text_read, count_spelled, count_read, number_spelled, number_read}

-- ---- commas

at_nothing : slice_index [] 0 ≢ 10
at_nothing = λ e. omega (arith, e)

pub comma_spelled : (bs rest : List ℕ) → comma_at bs ≡ Some rest → Comma bs rest
unfolding comma_at
comma_spelled [] rest e = cc
comma_spelled (c ∷ []) rest e = elim (cases_Bool (c == 44)) [
  | inl comma ↦
      let same : [] ≡ rest = some_same [] rest (rw comma at e) in
      subst (λ r. Comma (c ∷ []) r) same (inr (ap (λ b. b ∷ []) (eqb-true c 44 comma), at_nothing))
  | inr other ↦ let none : None ≡ Some rest = rw other at e in cc
]
comma_spelled (c ∷ d ∷ ds) rest e = elim (cases_Bool (c == 44)) [
  | inl comma ↦ elim (cases_Bool (d == 10)) [
    | inl line ↦
        let same : ds ≡ rest = some_same ds rest (rw (comma, line) at e) in
        subst (λ r. Comma (c ∷ d ∷ ds) r) same (inl (ap (λ b. b ∷ d ∷ ds) (eqb-true c 44 comma) ∙ ap (λ b. 44 ∷ b ∷ ds) (eqb-true d 10 line)))
    | inr plain ↦
        let same : (d ∷ ds) ≡ rest = some_same (d ∷ ds) rest (rw (comma, plain) at e) in
        subst (λ r. Comma (c ∷ d ∷ ds) r) same (inr (ap (λ b. b ∷ d ∷ ds) (eqb-true c 44 comma), eqb-false d 10 plain))
  ]
  | inr other ↦ let none : None ≡ Some rest = rw other at e in cc
]

pub comma_read : (bs rest : List ℕ) → Comma bs rest → comma_at bs ≡ Some rest
unfolding comma_at
comma_read bs rest (inl e) = rw e refl
comma_read bs [] (inr (e, other)) = rw e refl
comma_read bs (d ∷ ds) (inr (e, other)) = rw (e, ne_eqb d 10 other) refl

-- ---- tips and links

index_spelled : (bs : List ℕ) (p : ℕ × List ℕ) → index_at bs ≡ Some p → Index p.0 bs p.1
unfolding index_at
index_spelled bs p e =
    let a = mapped (count_at bs) (λ q. (min q.0 (2 ^ 32 - 1), q.1)) p e in
    subst (λ r. Index r.0 bs r.1) a.2 (a.0.0, count_spelled bs a.0 a.1, refl)

index_read : (bs rest : List ℕ) (k : ℕ) → Index k bs rest → index_at bs ≡ Some (k, rest)
unfolding index_at
index_read bs rest k (n, count, value) = rw (count_read bs rest n count, value) refl

-- one byte, which is known
first_is : (b c : ℕ) (cs : List ℕ) → (c == b) ≡ true → c ∷ cs ≡ b ∷ cs
first_is b c cs e = ap (λ x. x ∷ cs) (eqb-true c b e)

pub link_spelled : (bs : List ℕ) (p : Option ArcNo × List ℕ) → link_at bs ≡ Some p → Link p.0 bs p.1
unfolding link_at
link_spelled [] p e = cc
link_spelled (c ∷ cs) p e = elim (cases_Bool (c == 48)) [
  | inl zero' ↦
      let same : (None, cs) ≡ p = some_same _ p (rw zero' at e) in
      subst (λ r. Link r.0 (c ∷ cs) r.1) same (first_is 48 c cs zero')
  | inr more ↦ elim (cases_Bool (c == 65)) [
    | inl arc ↦
        let a = bound (index_at cs) some_arc p (rw (more, arc) at e) in
        subst (λ r. Link r.0 (c ∷ cs) r.1) (some_same _ p a.2) (cs, first_is 65 c cs arc, index_spelled cs a.0 a.1)
    | inr other ↦ let none : None ≡ Some p = rw (more, other) at e in cc
  ]
]

pub link_read : (bs rest : List ℕ) (k : Option ArcNo) → Link k bs rest → link_at bs ≡ Some (k, rest)
unfolding link_at
link_read bs rest None e = rw e refl
link_read bs rest (Some k) (digits, e, index) = rw (e, index_read digits rest k.0 index) refl

pub tip_spelled : (bs : List ℕ) (p : Tip × List ℕ) → tip_at bs ≡ Some p → TipIs p.0 bs p.1
unfolding tip_at
tip_spelled [] p e = cc
tip_spelled (c ∷ cs) p e = elim (cases_Bool (c == 48)) [
  | inl zero' ↦
      let same : (tips.Zero, cs) ≡ p = some_same _ p (rw zero' at e) in
      subst (λ r. TipIs r.0 (c ∷ cs) r.1) same (first_is 48 c cs zero')
  | inr more ↦ elim (cases_Bool (c == 49)) [
    | inl one' ↦
        let same : (tips.One, cs) ≡ p = some_same _ p (rw (more, one') at e) in
        subst (λ r. TipIs r.0 (c ∷ cs) r.1) same (first_is 49 c cs one')
    | inr most ↦ elim (cases_Bool (c == 86)) [
      | inl vertex ↦
          let a = bound (index_at cs) some_tip p (rw (more, most, vertex) at e) in
          subst (λ r. TipIs r.0 (c ∷ cs) r.1) (some_same _ p a.2) (cs, first_is 86 c cs vertex, index_spelled cs a.0 a.1)
      | inr other ↦ let none : None ≡ Some p = rw (more, most, other) at e in cc
    ]
  ]
]

pub tip_read : (bs rest : List ℕ) (t : Tip) → TipIs t bs rest → tip_at bs ≡ Some (t, rest)
unfolding tip_at
tip_read bs rest tips.Zero e = rw e refl
tip_read bs rest tips.One e = rw e refl
tip_read bs rest (tips.To v) (digits, e, index) = rw (e, index_read digits rest v.0 index) refl

-- ---- the values of fields

vertex_value_spelled : (bs : List ℕ) (p : Util × List ℕ) → vertex_value_at bs ≡ Some p → VertexValue p.0 bs p.1
unfolding vertex_value_at
vertex_value_spelled [] p e = cc
vertex_value_spelled (c ∷ cs) p e = elim (cases_Bool (c == 48)) [
  | inl zero' ↦
      let same : (Zero, cs) ≡ p = some_same _ p (rw zero' at e) in
      subst (λ r. VertexValue r.0 (c ∷ cs) r.1) same (first_is 48 c cs zero')
  | inr more ↦ elim (cases_Bool (c == 49)) [
    | inl one' ↦
        let same : (Int (pos 1), cs) ≡ p = some_same _ p (rw (more, one') at e) in
        subst (λ r. VertexValue r.0 (c ∷ cs) r.1) same (refl, first_is 49 c cs one')
    | inr most ↦ elim (cases_Bool (c == 86)) [
      | inl vertex ↦
          let a = bound (index_at cs) some_vertex p (rw (more, most, vertex) at e) in
          subst (λ r. VertexValue r.0 (c ∷ cs) r.1) (some_same _ p a.2) (cs, first_is 86 c cs vertex, index_spelled cs a.0 a.1)
      | inr other ↦ let none : None ≡ Some p = rw (more, most, other) at e in cc
    ]
  ]
]

vertex_value_read : (bs rest : List ℕ) (u : Util) → VertexValue u bs rest → vertex_value_at bs ≡ Some (u, rest)
unfolding vertex_value_at
vertex_value_read bs rest Zero e = rw e refl
vertex_value_read bs rest (Int z) (one', e) = rw (e, one') refl
vertex_value_read bs rest (Vertex v) (digits, e, index) = rw (e, index_read digits rest v.0 index) refl
vertex_value_read bs rest (Arc k) e = absurd e
vertex_value_read bs rest (Text t) e = absurd e

arc_value_spelled : (bs : List ℕ) (p : Util × List ℕ) → arc_value_at bs ≡ Some p → ArcValue p.0 bs p.1
unfolding arc_value_at
arc_value_spelled [] p e = cc
arc_value_spelled (c ∷ cs) p e = elim (cases_Bool (c == 48)) [
  | inl zero' ↦
      let same : (Zero, cs) ≡ p = some_same _ p (rw zero' at e) in
      subst (λ r. ArcValue r.0 (c ∷ cs) r.1) same (first_is 48 c cs zero')
  | inr more ↦ elim (cases_Bool (c == 49)) [
    | inl one' ↦
        let same : (Int (pos 1), cs) ≡ p = some_same _ p (rw (more, one') at e) in
        subst (λ r. ArcValue r.0 (c ∷ cs) r.1) same (refl, first_is 49 c cs one')
    | inr most ↦ elim (cases_Bool (c == 65)) [
      | inl arc ↦
          let a = bound (index_at cs) some_arc_value p (rw (more, most, arc) at e) in
          subst (λ r. ArcValue r.0 (c ∷ cs) r.1) (some_same _ p a.2) (cs, first_is 65 c cs arc, index_spelled cs a.0 a.1)
      | inr other ↦ let none : None ≡ Some p = rw (more, most, other) at e in cc
    ]
  ]
]

arc_value_read : (bs rest : List ℕ) (u : Util) → ArcValue u bs rest → arc_value_at bs ≡ Some (u, rest)
unfolding arc_value_at
arc_value_read bs rest Zero e = rw e refl
arc_value_read bs rest (Int z) (one', e) = rw (e, one') refl
arc_value_read bs rest (Vertex v) e = absurd e
arc_value_read bs rest (Arc k) (digits, e, index) = rw (e, index_read digits rest k.0 index) refl
arc_value_read bs rest (Text t) e = absurd e

text_value_spelled : (bs : List ℕ) (p : Util × List ℕ) → (text_at 4095 bs >>= some_text) ≡ Some p → TextValue p.0 bs p.1
text_value_spelled bs p e =
    let a = bound (text_at 4095 bs) some_text p e in
    subst (λ r. TextValue r.0 bs r.1) (some_same _ p a.2) (text_spelled 4095 bs a.0 a.1)

text_value_read : (bs rest : List ℕ) (u : Util) → TextValue u bs rest → (text_at 4095 bs >>= some_text) ≡ Some (u, rest)
text_value_read bs rest Zero e = absurd e
text_value_read bs rest (Int z) e = absurd e
text_value_read bs rest (Vertex v) e = absurd e
text_value_read bs rest (Arc k) e = absurd e
text_value_read bs rest (Text t) e = rw (text_read 4095 bs rest t e) refl

integer_spelled : (bs : List ℕ) (p : Util × List ℕ) → (number_at bs >>= some_integer) ≡ Some p → IntegerValue p.0 bs p.1
integer_spelled bs p e =
    let a = bound (number_at bs) some_integer p e in
    subst (λ r. IntegerValue r.0 bs r.1) (some_same _ p a.2) (number_spelled bs a.0 a.1)

integer_read : (bs rest : List ℕ) (u : Util) → IntegerValue u bs rest → (number_at bs >>= some_integer) ≡ Some (u, rest)
integer_read bs rest Zero e = absurd e
integer_read bs rest (Int z) e = rw (number_read bs rest z e) refl
integer_read bs rest (Vertex v) e = absurd e
integer_read bs rest (Arc k) e = absurd e
integer_read bs rest (Text t) e = absurd e

value_spelled : (letter : ℕ) (bs : List ℕ) (p : Util × List ℕ) → value_at letter bs ≡ Some p → Value letter p.0 bs p.1
value_spelled letter bs p e = elim (cases_Bool (letter == 73)) [
  | inl integer ↦ rw integer (integer_spelled bs p (rw integer at e))
  | inr a ↦ elim (cases_Bool (letter == 86)) [
    | inl vertex ↦ rw (a, vertex) (vertex_value_spelled bs p (rw (a, vertex) at e))
    | inr b ↦ elim (cases_Bool (letter == 65)) [
      | inl arc ↦ rw (a, b, arc) (arc_value_spelled bs p (rw (a, b, arc) at e))
      | inr c ↦ rw (a, b, c) (text_value_spelled bs p (rw (a, b, c) at e))
    ]
  ]
]

value_read : (letter : ℕ) (bs rest : List ℕ) (u : Util) → Value letter u bs rest → value_at letter bs ≡ Some (u, rest)
value_read letter bs rest u s = elim (cases_Bool (letter == 73)) [
  | inl integer ↦ rw integer (integer_read bs rest u (rw integer at s))
  | inr a ↦ elim (cases_Bool (letter == 86)) [
    | inl vertex ↦ rw (a, vertex) (vertex_value_read bs rest u (rw (a, vertex) at s))
    | inr b ↦ elim (cases_Bool (letter == 65)) [
      | inl arc ↦ rw (a, b, arc) (arc_value_read bs rest u (rw (a, b, arc) at s))
      | inr c ↦ rw (a, b, c) (text_value_read bs rest u (rw (a, b, c) at s))
    ]
  ]
]

pub field_spelled : (letter : ℕ) (bs : List ℕ) (p : Util × List ℕ) → field_at letter bs ≡ Some p → Field letter p.0 bs p.1
unfolding field_at
field_spelled letter bs p e = elim (cases_Bool (letter == 90)) [
  | inl absent ↦
      let same : (Zero, bs) ≡ p = some_same _ p (rw absent at e) in
      let nothing : Absent p.0 bs p.1 = subst (λ r. Absent r.0 bs r.1) same (refl, refl) in
      rw absent nothing
  | inr present ↦
      let a = bound (comma_at bs) (value_at letter) p (rw present at e) in
      let value : (Comma >> Value letter p.0) bs p.1 = (a.0, comma_spelled bs a.0 a.1, value_spelled letter a.0 p a.2) in
      rw present value
]

pub field_read : (letter : ℕ) (bs rest : List ℕ) (u : Util) → Field letter u bs rest → field_at letter bs ≡ Some (u, rest)
unfolding field_at
field_read letter bs rest u s = elim (cases_Bool (letter == 90)) [
  | inl absent ↦
      let nothing : Absent u bs rest = rw absent at s in
      rw absent (ap (λ v. Some (v, bs)) (sym nothing.0) ∙ ap (λ r. Some (u, r)) nothing.1)
  | inr present ↦
      let value : (Comma >> Value letter u) bs rest = rw present at s in
      rw (present, comma_read bs value.0 value.1) (value_read letter value.0 rest u value.2)
]

-- ---- one of each kind

pub each_spelled : {A B : Type 0} (item : A → List ℕ → Option (B × List ℕ)) (spells : A → B → Spelling)
    → ((k : A) (bs : List ℕ) (p : B × List ℕ) → item k bs ≡ Some p → spells k p.0 bs p.1)
    → (ks : List A) (bs : List ℕ) (p : List B × List ℕ) → each_at item ks bs ≡ Some p → Each spells ks p.0 bs p.1
unfolding each_at
each_spelled item spells one' [] bs p e = subst (λ r. Each spells [] r.0 bs r.1) (some_same ([], bs) p e) refl
each_spelled item spells one' (k ∷ ks) bs p e =
    let a = bound (item k bs) _ p e in
    let q = behind_is (a.0.0 ∷ []) (each_at item ks a.0.1) p a.2 in
    subst (λ r. Each spells (k ∷ ks) r.0 bs r.1) q.2 (a.0.1, one' k bs a.0 a.1, each_spelled item spells one' ks a.0.1 q.0 q.1)

pub each_read : {A B : Type 0} (item : A → List ℕ → Option (B × List ℕ)) (spells : A → B → Spelling)
    → ((k : A) (bs rest : List ℕ) (x : B) → spells k x bs rest → item k bs ≡ Some (x, rest))
    → (ks : List A) (bs rest : List ℕ) (xs : List B) → Each spells ks xs bs rest → each_at item ks bs ≡ Some (xs, rest)
unfolding each_at
each_read item spells one' [] bs rest [] e = ap (λ r. Some ([], r)) e
each_read item spells one' [] bs rest (x ∷ xs) e = absurd e
each_read item spells one' (k ∷ ks) bs rest [] e = absurd e
each_read item spells one' (k ∷ ks) bs rest (x ∷ xs) (middle, first, more) =
    each_some item k ks bs middle x (one' k bs middle x first) ∙ ap (behind (x ∷ [])) (each_read item spells one' ks middle rest xs more)

pub fields_spelled : (letters bs : List ℕ) (p : List Util × List ℕ) → fields_at letters bs ≡ Some p → Each Field letters p.0 bs p.1
fields_spelled letters bs p e = each_spelled field_at Field field_spelled letters bs p e

pub fields_read : (letters bs rest : List ℕ) (us : List Util) → Each Field letters us bs rest → fields_at letters bs ≡ Some (us, rest)
fields_read letters bs rest us s = each_read field_at Field field_read letters bs rest us s
