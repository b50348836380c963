-- Tips, links and the values of fields.
use Rattle.std.specs.Prelude.{ℕ, ◌-◌, ◌^◌, ◌==◌, min, List, [], ◌∷◌, Option, Some, None, ℤ, pos, if◌then◌else◌}
use Rattle.std.specs.Option.{option_map}
use Rattle.sgb_graph.specs.declared.field.ArcNo.{ArcNo}
use Rattle.sgb_graph.specs.declared.field.Tip.{Tip}
use Rattle.sgb_graph.specs.declared.field.Tip.TheVariants as tips
use Rattle.sgb_graph.specs.declared.field.Util.{Util}
use Rattle.sgb_graph.specs.declared.field.Util.TheVariants.{Zero, Int, Vertex, Arc, Text}
use Rattle.sgb_grammar.specs.Reading.{◌>>=◌, each_at}
use Rattle.sgb_grammar.specs.Number.{count_at, number_at}
use Rattle.sgb_grammar.specs.String.{text_at}

-- a comma, behind which the line may end
abbrev pub after_break : List ℕ → List ℕ
after_break [] = []
after_break (c ∷ cs) = if c == 10 then cs else c ∷ cs

unfoldable pub comma_at : List ℕ → Option (List ℕ)
comma_at [] = None
comma_at (c ∷ cs) = if c == 44 then Some (after_break cs) else None

-- the k of Vk or Ak; one that has no place in 32 bits names nothing, and becomes the greatest that has
unfoldable pub index_at : List ℕ → Option (ℕ × List ℕ)
index_at bs = option_map (λ p. (min p.0 (2 ^ 32 - 1), p.1)) (count_at bs)

abbrev pub some_arc : ℕ × List ℕ → Option (Option ArcNo × List ℕ)
some_arc p = Some (Some (record { 0 = p.0 }), p.1)

abbrev pub some_tip : ℕ × List ℕ → Option (Tip × List ℕ)
some_tip p = Some (tips.To (record { 0 = p.0 }), p.1)

abbrev pub some_integer : ℤ × List ℕ → Option (Util × List ℕ)
some_integer p = Some (Int p.0, p.1)

abbrev pub some_vertex : ℕ × List ℕ → Option (Util × List ℕ)
some_vertex p = Some (Vertex (record { 0 = p.0 }), p.1)

abbrev pub some_arc_value : ℕ × List ℕ → Option (Util × List ℕ)
some_arc_value p = Some (Arc (record { 0 = p.0 }), p.1)

abbrev pub some_text : List ℕ × List ℕ → Option (Util × List ℕ)
some_text p = Some (Text p.0, p.1)

-- the arc that follows: 0 or Ak
unfoldable pub link_at : List ℕ → Option (Option ArcNo × List ℕ)
link_at [] = None
link_at (c ∷ cs) = if c == 48 then Some (None, cs) else (if c == 65 then index_at cs >>= some_arc else None)

-- where an arc leads: 0, 1 or Vk
unfoldable pub tip_at : List ℕ → Option (Tip × List ℕ)
tip_at [] = None
tip_at (c ∷ cs) =
    if c == 48 then Some (tips.Zero, cs)
    else (if c == 49 then Some (tips.One, cs)
    else (if c == 86 then index_at cs >>= some_tip else None))

-- a vertex under the letter V: Vk, 0 or 1
unfoldable pub vertex_value_at : List ℕ → Option (Util × List ℕ)
vertex_value_at [] = None
vertex_value_at (c ∷ cs) =
    if c == 48 then Some (Zero, cs)
    else (if c == 49 then Some (Int (pos 1), cs)
    else (if c == 86 then index_at cs >>= some_vertex else None))

-- an arc under the letter A: Ak, 0 or 1
unfoldable pub arc_value_at : List ℕ → Option (Util × List ℕ)
arc_value_at [] = None
arc_value_at (c ∷ cs) =
    if c == 48 then Some (Zero, cs)
    else (if c == 49 then Some (Int (pos 1), cs)
    else (if c == 65 then index_at cs >>= some_arc_value else None))

-- a value under its letter; it stands in a graph as `stored` has it
abbrev pub value_at : ℕ → List ℕ → Option (Util × List ℕ)
value_at letter bs =
    if letter == 73 then number_at bs >>= some_integer
    else (if letter == 86 then vertex_value_at bs
    else (if letter == 65 then arc_value_at bs
    else text_at 4095 bs >>= some_text))

-- a field: nothing under the letter Z, else a comma and a value
unfoldable pub field_at : ℕ → List ℕ → Option (Util × List ℕ)
field_at letter bs = if letter == 90 then Some (Zero, bs) else comma_at bs >>= value_at letter

abbrev pub fields_at : List ℕ → List ℕ → Option (List Util × List ℕ)
fields_at letters bs = each_at field_at letters bs
