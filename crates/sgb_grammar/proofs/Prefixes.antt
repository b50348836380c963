-- What is spelled stands before what is left.
use Rattle.std.proofs.Common.{◌≡◌, ℕ, ℤ, ◌==◌, Bool, true, false, List, [], ◌∷◌, ◌++◌, append_assoc, codes, replicate, Option, Some, None, sym, ap, ◌∙◌, inl, inr}
use Rattle.sgb_graph.specs.declared.field.ArcNo.{ArcNo}
use Rattle.sgb_graph.specs.declared.field.Tip.{Tip}
use Rattle.sgb_graph.specs.declared.field.Tip.TheVariants as tips
use Rattle.sgb_graph.specs.declared.field.Util.{Util}
use Rattle.sgb_graph.specs.declared.field.Util.TheVariants.{Zero, Int, Vertex, Arc, Text}
use Rattle.sgb_graph.specs.declared.parts.VertexPart.{VertexPart}
use Rattle.sgb_graph.specs.declared.parts.ArcPart.{ArcPart}
use Rattle.sgb_graph.specs.Honest.{vertex_letters, arc_letters, graph_letters}
use Rattle.sgb_grammar.specs.declared.records.Own.{Own}
use Rattle.sgb_grammar.specs.declared.saved.Records.{Records}
use Rattle.sgb_grammar.specs.declared.header.Header.{Header}
use Rattle.sgb_grammar.specs.Spelled.{Spelling, ◌>>◌, Choice, Word, Newline, Quoted, Digits, Count, Number, Comma, Index, Link, TipIs, IntegerOne, IntegerValue, VertexValue, ArcValue, TextValue, Value, Absent, Field, Each, OwnRecord, VertexRecord, ArcRecord, AllRecords}

abbrev Stands : Spelling → Type 0
Stands S = (bs rest : List ℕ) → S bs rest → (front : List ℕ) × (bs ≡ front ++ rest)

both : (S T : Spelling) → Stands S → Stands T → Stands (S >> T)
both S T s t bs rest (middle, a, b) =
    let p = s bs middle a in
    let q = t middle rest b in
    (p.0 ++ q.0, p.1 ∙ ap (λ m. p.0 ++ m) q.1 ∙ sym (append_assoc p.0 q.0 rest))

either : (test : Bool) (S T : Spelling) → Stands S → Stands T → Stands (Choice test S T)
either true S T s t = s
either false S T s t = t

word : (w : List ℕ) → Stands (Word w)
word w bs rest e = (w, e)

newline : Stands Newline
newline bs rest e = (10 ∷ [], e)

-- ---- items

quoted : (limit : ℕ) (text : List ℕ) → Stands (Quoted limit text)
quoted limit text bs rest (inside, e, h, few) = (34 ∷ (inside ++ 34 ∷ []), e ∙ ap (λ t. 34 ∷ t) (sym (append_assoc inside (34 ∷ []) rest)))

digits : (n : ℕ) → Stands (Digits n)
digits n bs rest (ds, e, some, all, stop, value) = (ds, e)

count : (n : ℕ) → Stands (Count n)
count n bs rest (h, small) = digits n bs rest h

number : (z : ℤ) → Stands (Number z)
number z bs rest (inl (n, h, small, value)) = digits n bs rest h
number z bs rest (inr (n, h, small, value)) = both (Word (codes "-")) (Digits n) (word (codes "-")) (digits n) bs rest h

comma : Stands Comma
comma bs rest (inl e) = (44 ∷ 10 ∷ [], e)
comma bs rest (inr (e, other)) = (44 ∷ [], e)

index : (k : ℕ) → Stands (Index k)
index k bs rest (n, h, value) = count n bs rest h

marked : (mark : List ℕ) (k : ℕ) → Stands (Word mark >> Index k)
marked mark k = both (Word mark) (Index k) (word mark) (index k)

link : (l : Option ArcNo) → Stands (Link l)
link None = word (codes "0")
link (Some k) = marked (codes "A") k.0

tip : (t : Tip) → Stands (TipIs t)
tip tips.Zero = word (codes "0")
tip tips.One = word (codes "1")
tip (tips.To v) = marked (codes "V") v.0

one : (z : ℤ) → Stands (IntegerOne z)
one z bs rest (value, e) = (codes "1", e)

integer_value : (u : Util) → Stands (IntegerValue u)
integer_value (Int z) = number z
integer_value Zero = λ bs rest h. absurd h
integer_value (Vertex v) = λ bs rest h. absurd h
integer_value (Arc k) = λ bs rest h. absurd h
integer_value (Text t) = λ bs rest h. absurd h

vertex_value : (u : Util) → Stands (VertexValue u)
vertex_value Zero = word (codes "0")
vertex_value (Int z) = one z
vertex_value (Vertex v) = marked (codes "V") v.0
vertex_value (Arc k) = λ bs rest h. absurd h
vertex_value (Text t) = λ bs rest h. absurd h

arc_value : (u : Util) → Stands (ArcValue u)
arc_value Zero = word (codes "0")
arc_value (Int z) = one z
arc_value (Vertex v) = λ bs rest h. absurd h
arc_value (Arc k) = marked (codes "A") k.0
arc_value (Text t) = λ bs rest h. absurd h

text_value : (u : Util) → Stands (TextValue u)
text_value (Text t) = quoted 4095 t
text_value Zero = λ bs rest h. absurd h
text_value (Int z) = λ bs rest h. absurd h
text_value (Vertex v) = λ bs rest h. absurd h
text_value (Arc k) = λ bs rest h. absurd h

value : (letter : ℕ) (u : Util) → Stands (Value letter u)
value letter u =
    either (letter == 73) (IntegerValue u) (Choice (letter == 86) (VertexValue u) (Choice (letter == 65) (ArcValue u) (TextValue u))) (integer_value u)
    (either (letter == 86) (VertexValue u) (Choice (letter == 65) (ArcValue u) (TextValue u)) (vertex_value u)
    (either (letter == 65) (ArcValue u) (TextValue u) (arc_value u) (text_value u)))

absent : (u : Util) → Stands (Absent u)
absent u bs rest (zero, e) = ([], e)

field : (letter : ℕ) (u : Util) → Stands (Field letter u)
field letter u = either (letter == 90) (Absent u) (Comma >> Value letter u) (absent u) (both Comma (Value letter u) comma (value letter u))

each : {A B : Type 0} (item : A → B → Spelling) → ((k : A) (x : B) → Stands (item k x)) → (ks : List A) (xs : List B) → Stands (Each item ks xs)
each item h [] [] bs rest e = ([], e)
each item h (k ∷ ks) (x ∷ xs) bs rest (middle, first, more) = both (item k x) (Each item ks xs) (h k x) (each item h ks xs) bs rest (middle, first, more)
each item h [] (x ∷ xs) bs rest e = absurd e
each item h (k ∷ ks) [] bs rest e = absurd e

-- ---- records

abbrev Fields : List ℕ → List Util → Spelling
Fields letters us = Each Field letters us >> Newline

fields : (letters : List ℕ) (us : List Util) → Stands (Fields letters us)
fields letters us = both (Each Field letters us) Newline (each Field field letters us) newline

own_stands : (letters : List ℕ) (own : Own) → Stands (OwnRecord letters own)
own_stands letters own bs rest (m, h) =
    both (Quoted 160 own.id) (Comma >> Count own.n >> Comma >> Number m >> Fields letters own.fields) (quoted 160 own.id)
    (both Comma (Count own.n >> Comma >> Number m >> Fields letters own.fields) comma
    (both (Count own.n) (Comma >> Number m >> Fields letters own.fields) (count own.n)
    (both Comma (Number m >> Fields letters own.fields) comma
    (both (Number m) (Fields letters own.fields) (number m) (fields letters own.fields))))) bs rest h

vertex_stands : (letters : List ℕ) (v : VertexPart) → Stands (VertexRecord letters v)
vertex_stands letters v =
    both (Quoted 4095 v.label) (Comma >> Link v.first >> Fields letters v.fields) (quoted 4095 v.label)
    (both Comma (Link v.first >> Fields letters v.fields) comma
    (both (Link v.first) (Fields letters v.fields) (link v.first) (fields letters v.fields)))

arc_stands : (letters : List ℕ) (r : ArcPart) → Stands (ArcRecord letters r)
arc_stands letters r =
    both (TipIs r.tip) (Comma >> Link r.next >> Comma >> Number r.len >> Fields letters r.fields) (tip r.tip)
    (both Comma (Link r.next >> Comma >> Number r.len >> Fields letters r.fields) comma
    (both (Link r.next) (Comma >> Number r.len >> Fields letters r.fields) (link r.next)
    (both Comma (Number r.len >> Fields letters r.fields) comma
    (both (Number r.len) (Fields letters r.fields) (number r.len) (fields letters r.fields)))))

pub records_stand : (h : Header) (r : Records) → Stands (AllRecords h r)
records_stand h r =
    let vertex_line = codes "* Vertices" ++ 10 ∷ [] in
    let arc_line = codes "* Arcs" ++ 10 ∷ [] in
    let vertices = Each VertexRecord (replicate h.vertices (vertex_letters h.types)) r.vertices in
    let arcs = Each ArcRecord (replicate h.arcs (arc_letters h.types)) r.arcs in
    both (OwnRecord (graph_letters h.types) r.own) (Word vertex_line >> vertices >> Word arc_line >> arcs) (own_stands (graph_letters h.types) r.own)
    (both (Word vertex_line) (vertices >> Word arc_line >> arcs) (word vertex_line)
    (both vertices (Word arc_line >> arcs) (each VertexRecord vertex_stands (replicate h.vertices (vertex_letters h.types)) r.vertices)
    (both (Word arc_line) arcs (word arc_line) (each ArcRecord arc_stands (replicate h.arcs (arc_letters h.types)) r.arcs))))
