-- The grammar as relations: what stands at the front of the bytes `bs`, before `rest`. The readers of the other pages
-- are these relations, both ways.
use Rattle.std.specs.Prelude.{◌≡◌, ◌≢◌, ◌⊎◌, ◌<◌, ◌≤◌, ◌-◌, ◌^◌, ◌==◌, min, Bool, true, false, ℕ, ℤ, pos, neg_ℤ, List, [], ◌∷◌, ◌++◌, length, replicate, codes, slice_index, Option, Some, None}
use Rattle.std.specs.List.{list_all}
use Rattle.std.specs.Char.{is_ascii_digit}
use Rattle.std.specs.Str.Parse.{digits_value}
use Rattle.sgb_graph.specs.Text.{is_text_byte}
use Rattle.sgb_graph.specs.Types.{IsTypes}
use Rattle.sgb_graph.specs.Honest.{vertex_letters, arc_letters, graph_letters}
use Rattle.sgb_graph.specs.declared.field.ArcNo.{ArcNo}
use Rattle.sgb_graph.specs.declared.field.Tip.{Tip}
use Rattle.sgb_graph.specs.declared.field.Tip.TheVariants as tips
use Rattle.sgb_graph.specs.declared.field.Util.{Util}
use Rattle.sgb_graph.specs.declared.field.Util.TheVariants.{Zero, Int, Vertex, Arc, Text}
use Rattle.sgb_graph.specs.declared.parts.VertexPart.{VertexPart}
use Rattle.sgb_graph.specs.declared.parts.ArcPart.{ArcPart}
use Rattle.sgb_grammar.specs.declared.records.Own.{Own}
use Rattle.sgb_grammar.specs.declared.saved.Records.{Records}
use Rattle.sgb_grammar.specs.declared.header.Header.{Header}
use Rattle.sgb_grammar.specs.Saved.{SavedOf, parts_of}

-- bytes, and what is left of them behind what is spelled
abbrev pub Spelling : Type 1
Spelling = List ℕ → List ℕ → Type 0

-- the one, and behind it the other
infixr 10 ◌>>◌
abbrev pub ◌>>◌ : Spelling → Spelling → Spelling
(S >> T) bs rest = (middle : List ℕ) × S bs middle × T middle rest

-- the first where the test holds, else the second
abbrev pub Choice : Bool → Spelling → Spelling → Spelling
Choice true S T = S
Choice false S T = T

abbrev pub Word : List ℕ → Spelling
Word word bs rest = bs ≡ word ++ rest

abbrev pub Newline : Spelling
Newline bs rest = bs ≡ 10 ∷ rest

-- nothing is left, or a newline is next
abbrev pub LineEnd : Spelling
LineEnd bs rest = (bs ≡ rest) × ((bs ≡ []) ⊎ (slice_index bs 0 ≡ 10))

-- ---- strings

-- the text, as it stands inside quotes: its bytes, and lines that end behind a backslash
pub data Inside : List ℕ → List ℕ → Type 0 where
  ended : Inside [] []
  byte : (c : ℕ) (text bs : List ℕ) → is_text_byte c ≡ true → Inside text bs → Inside (c ∷ text) (c ∷ bs)
  broken : (text bs : List ℕ) → Inside text bs → Inside text (92 ∷ 10 ∷ bs)

-- a text of so many bytes at most, between quotes
abbrev pub Quoted : ℕ → List ℕ → Spelling
Quoted limit text bs rest = (inside : List ℕ) × (bs ≡ 34 ∷ (inside ++ (34 ∷ rest))) × Inside text inside × (length text ≤ limit)

-- ---- numbers

-- one digit or more, up to the first byte that is none; leading zeros are allowed
abbrev pub Digits : ℕ → Spelling
Digits n bs rest =
    (ds : List ℕ)
    × (bs ≡ ds ++ rest)
    × (ds ≢ [])
    × (list_all is_ascii_digit ds ≡ true)
    × (is_ascii_digit (slice_index rest 0) ≡ false)
    × (n ≡ digits_value 10 ds)

-- a number without a sign
abbrev pub Count : ℕ → Spelling
Count n bs rest = Digits n bs rest × (n < 2 ^ 63)

-- a number with a minus before it or none
abbrev pub Number : ℤ → Spelling
Number z bs rest =
    ((n : ℕ) × Digits n bs rest × (n < 2 ^ 63) × (z ≡ pos n))
    ⊎ ((n : ℕ) × (Word (codes "-") >> Digits n) bs rest × (n ≤ 2 ^ 63) × (z ≡ neg_ℤ (pos n)))

-- ---- tips, links and the values of fields

-- a comma, and the line's end where it is next
abbrev pub Comma : Spelling
Comma bs rest = (bs ≡ 44 ∷ 10 ∷ rest) ⊎ ((bs ≡ 44 ∷ rest) × (slice_index rest 0 ≢ 10))

-- the k of Vk or Ak; what has no place in 32 bits stands for the greatest that has, and names nothing
abbrev pub Index : ℕ → Spelling
Index k bs rest = (n : ℕ) × Count n bs rest × (k ≡ min n (2 ^ 32 - 1))

-- 0 or Ak
abbrev pub Link : Option ArcNo → Spelling
Link None = Word (codes "0")
Link (Some k) = Word (codes "A") >> Index k.0

-- 0, 1 or Vk
abbrev pub TipIs : Tip → Spelling
TipIs tips.Zero = Word (codes "0")
TipIs tips.One = Word (codes "1")
TipIs (tips.To v) = Word (codes "V") >> Index v.0

abbrev pub Nothing : Spelling
Nothing bs rest = ⊥

-- 1 is an integer
abbrev pub IntegerOne : ℤ → Spelling
IntegerOne z bs rest = (z ≡ pos 1) × Word (codes "1") bs rest

-- under the letter I: a number
abbrev pub IntegerValue : Util → Spelling
IntegerValue (Int z) = Number z
IntegerValue Zero = Nothing
IntegerValue (Vertex v) = Nothing
IntegerValue (Arc k) = Nothing
IntegerValue (Text t) = Nothing

-- under the letter V: Vk, 0 or 1
abbrev pub VertexValue : Util → Spelling
VertexValue Zero = Word (codes "0")
VertexValue (Int z) = IntegerOne z
VertexValue (Vertex v) = Word (codes "V") >> Index v.0
VertexValue (Arc k) = Nothing
VertexValue (Text t) = Nothing

-- under the letter A: Ak, 0 or 1
abbrev pub ArcValue : Util → Spelling
ArcValue Zero = Word (codes "0")
ArcValue (Int z) = IntegerOne z
ArcValue (Vertex v) = Nothing
ArcValue (Arc k) = Word (codes "A") >> Index k.0
ArcValue (Text t) = Nothing

-- under the letter S: a text
abbrev pub TextValue : Util → Spelling
TextValue (Text t) = Quoted 4095 t
TextValue Zero = Nothing
TextValue (Int z) = Nothing
TextValue (Vertex v) = Nothing
TextValue (Arc k) = Nothing

abbrev pub Value : ℕ → Util → Spelling
Value letter u =
    Choice (letter == 73) (IntegerValue u)
    (Choice (letter == 86) (VertexValue u)
    (Choice (letter == 65) (ArcValue u)
    (TextValue u)))

-- under the letter Z nothing is spelled, else a comma and a value
abbrev pub Absent : Util → Spelling
Absent u bs rest = (u ≡ Zero) × (bs ≡ rest)

abbrev pub Field : ℕ → Util → Spelling
Field letter u = Choice (letter == 90) (Absent u) (Comma >> Value letter u)

-- one item of each kind, in order
abbrev pub Each : {A B : Type 0} → (A → B → Spelling) → List A → List B → Spelling
Each item [] [] bs rest = bs ≡ rest
Each item (k ∷ ks) (x ∷ xs) bs rest = (middle : List ℕ) × item k x bs middle × Each item ks xs middle rest
Each item [] (x ∷ xs) bs rest = ⊥
Each item (k ∷ ks) [] bs rest = ⊥

-- ---- records

-- the graph's id, the number n, a number m that is not kept, and the graph's fields
abbrev pub OwnRecord : List ℕ → Own → Spelling
OwnRecord letters own bs rest =
    (m : ℤ) × (Quoted 160 own.id >> Comma >> Count own.n >> Comma >> Number m >> Each Field letters own.fields >> Newline) bs rest

-- a vertex's name, its first arc, and its fields
abbrev pub VertexRecord : List ℕ → VertexPart → Spelling
VertexRecord letters v = Quoted 4095 v.label >> Comma >> Link v.first >> Each Field letters v.fields >> Newline

-- an arc's tip, the arc that follows, the length, and the fields
abbrev pub ArcRecord : List ℕ → ArcPart → Spelling
ArcRecord letters r = TipIs r.tip >> Comma >> Link r.next >> Comma >> Number r.len >> Each Field letters r.fields >> Newline

-- ---- the whole text

abbrev pub Letters : List ℕ → Spelling
Letters types bs rest = IsTypes types × (bs ≡ types ++ rest)

-- the first line: the letters, and how many records of vertices and of arcs follow
abbrev pub FirstLine : Header → Spelling
FirstLine h =
    Word (codes "* GraphBase graph (util_types ") >> Letters h.types >> Word (codes ",")
    >> Count h.vertices >> Word (codes "V,") >> Count h.arcs >> Word (codes "A)") >> LineEnd

abbrev pub AllRecords : Header → Records → Spelling
AllRecords h r =
    OwnRecord (graph_letters h.types) r.own
    >> Word (codes "* Vertices" ++ 10 ∷ []) >> Each VertexRecord (replicate h.vertices (vertex_letters h.types)) r.vertices
    >> Word (codes "* Arcs" ++ 10 ∷ []) >> Each ArcRecord (replicate h.arcs (arc_letters h.types)) r.arcs

-- what follows its end is not read
abbrev pub CheckLine : ℤ → List ℕ → Type 0
CheckLine number bs = (rest : List ℕ) × (Word (codes "* Checksum ") >> Number number >> LineEnd) bs rest

-- what follows a first line: the body, whose records tell the parts of the graph, at most so many vertices of it as
-- there are records of them; and behind the body the check line
abbrev pub SavedText : Header → SavedOf → List ℕ → Type 0
SavedText h s bs =
    (r : Records)
    × (lines : List ℕ)
    × (end : List ℕ)
    × Newline bs lines
    × (lines ≡ s.body ++ end)
    × AllRecords h r lines end
    × (r.own.n ≤ h.vertices)
    × (s.parts ≡ parts_of h r)
    × CheckLine s.number end

-- a first line and what follows it
abbrev pub WholeText : Header → SavedOf → List ℕ → Type 0
WholeText h s text = (lines : List ℕ) × FirstLine h text lines × SavedText h s lines

-- no first line, and nothing behind one
abbrev pub HasNoFirstLine : List ℕ → Type 0
HasNoFirstLine text = (h : Header) (rest : List ℕ) → FirstLine h text rest → ⊥

abbrev pub SpellsNothing : Header → List ℕ → Type 0
SpellsNothing h bs = (s : SavedOf) → SavedText h s bs → ⊥

-- no other first line, and nothing else behind one
abbrev pub IsOnlyLine : List ℕ → Header → List ℕ → Type 0
IsOnlyLine text h rest = (k : Header) (others : List ℕ) → FirstLine k text others → (k ≡ h) × (others ≡ rest)

abbrev pub IsOnlyText : Header → SavedOf → List ℕ → Type 0
IsOnlyText h s bs = (t : SavedOf) → SavedText h t bs → t ≡ s

-- ---- the readers are these relations

-- what is read is spelled, and what is spelled is read
pub record IsReaderOf (A : Type 0) (read : List ℕ → Option (A × List ℕ)) (spells : A → Spelling) : Type 0 where
  pub spelled : (bs : List ℕ) (p : A × List ℕ) → read bs ≡ Some p → spells p.0 bs p.1
  pub is_read : (bs rest : List ℕ) (x : A) → spells x bs rest → read bs ≡ Some (x, rest)
