-- What a word says where a name, a number, a place or a value is wanted.
use Rattle.std.specs.Prelude.{ℕ, Bool, ◌==◌, ◌&&◌, if◌then◌else◌, List, [], ◌∷◌, length, codes, ℤ, Option, None, Some, option_and_then}
use Rattle.std.specs.Option.{option_map}
use Rattle.std.specs.List.{list_all}
use Rattle.std.specs.Str.{bytes_eq}
use Rattle.sgb_graph.specs.declared.field.VertexNo.{VertexNo}
use Rattle.sgb_graph.specs.declared.field.ArcNo.{ArcNo}
use Rattle.sgb_graph.specs.declared.field.VertexField.{VertexField}
use Rattle.sgb_graph.specs.declared.field.VertexField.TheVariants as vertex_fields
use Rattle.sgb_graph.specs.declared.field.ArcField.{ArcField}
use Rattle.sgb_graph.specs.declared.field.ArcField.TheVariants as arc_fields
use Rattle.sgb_graph.specs.declared.field.GraphField.{GraphField}
use Rattle.sgb_graph.specs.declared.field.GraphField.TheVariants as graph_fields
use Rattle.sgb_graph.specs.declared.field.Place.{Place}
use Rattle.sgb_graph.specs.declared.field.Place.TheVariants as places
use Rattle.sgb_graph.specs.declared.field.Util.{Util}
use Rattle.sgb_graph.specs.declared.field.Util.TheVariants as utils
use Rattle.sgb_graph.specs.Types.{is_letter}
use Rattle.sgb_plan.specs.declared.part.Seed.{Seed}
use Rattle.sgb_plan.specs.declared.part.Seed.TheVariants as seeds
use Rattle.sgb_text.specs.declared.restoring.CheckRule.{CheckRule}
use Rattle.sgb_text.specs.declared.restoring.CheckRule.TheVariants as check_rules
use Rattle.sgb_script.specs.Name.{is_name}
use Rattle.sgb_script.specs.Words.{Word, Plain, Quoted}
use Rattle.sgb_script.specs.Numbers.{number_of, index_of, bits_of, is_yes, vertex_no, arc_no}

abbrev pub the_number : Word → Option ℤ
the_number (Plain w) = number_of w
the_number (Quoted t) = None

abbrev pub the_flag : Word → Option Bool
the_flag w = option_map is_yes (the_number w)

-- digits alone, below 2^64
abbrev pub the_bits : Word → Option ℕ
the_bits (Plain w) = bits_of w
the_bits (Quoted t) = None

-- a number, or a minus alone for the generator as it stands
abbrev pub the_seed : Word → Option Seed
the_seed (Plain w) = if bytes_eq w (codes "-") then Some seeds.Current else option_map seeds.Number (number_of w)
the_seed (Quoted t) = None

abbrev pub the_rule : Word → Option CheckRule
the_rule (Plain w) =
    if bytes_eq w (codes "check") then Some check_rules.Match
    else (if bytes_eq w (codes "any") then Some check_rules.Any
    else None)
the_rule (Quoted t) = None

abbrev pub the_vertex : Word → Option VertexNo
the_vertex w = option_map vertex_no (the_number w)

abbrev pub the_arc : Word → Option ArcNo
the_arc w = option_map arc_no (the_number w)

abbrev pub the_name : Word → Option (List ℕ)
the_name (Plain w) = if is_name w then Some w else None
the_name (Quoted t) = None

abbrev pub the_text : Word → Option (List ℕ)
the_text (Plain w) = None
the_text (Quoted t) = Some t

-- fourteen letters of ZIVSA
abbrev pub the_letters : Word → Option (List ℕ)
the_letters (Plain w) = if length w == 14 && list_all is_letter w then Some w else None
the_letters (Quoted t) = None

abbrev pub vertex_field : List ℕ → Option VertexField
vertex_field w =
    if bytes_eq w (codes "u") then Some vertex_fields.U
    else (if bytes_eq w (codes "v") then Some vertex_fields.V
    else (if bytes_eq w (codes "w") then Some vertex_fields.W
    else (if bytes_eq w (codes "x") then Some vertex_fields.X
    else (if bytes_eq w (codes "y") then Some vertex_fields.Y
    else (if bytes_eq w (codes "z") then Some vertex_fields.Z
    else None)))))

abbrev pub arc_field : List ℕ → Option ArcField
arc_field w =
    if bytes_eq w (codes "a") then Some arc_fields.A
    else (if bytes_eq w (codes "b") then Some arc_fields.B
    else None)

abbrev pub graph_field : List ℕ → Option GraphField
graph_field w =
    if bytes_eq w (codes "uu") then Some graph_fields.Uu
    else (if bytes_eq w (codes "vv") then Some graph_fields.Vv
    else (if bytes_eq w (codes "ww") then Some graph_fields.Ww
    else (if bytes_eq w (codes "xx") then Some graph_fields.Xx
    else (if bytes_eq w (codes "yy") then Some graph_fields.Yy
    else (if bytes_eq w (codes "zz") then Some graph_fields.Zz
    else None)))))

-- Vk, Ak or G, and one of that place's fields
abbrev pub place_in : List ℕ → List ℕ → Option Place
place_in [] f = None
place_in (c ∷ cs) f =
    if c == 86 then option_and_then (λ k. option_map (places.Vertex (vertex_no k)) (vertex_field f)) (index_of cs)
    else (if c == 65 then option_and_then (λ k. option_map (places.Arc (arc_no k)) (arc_field f)) (index_of cs)
    else (if bytes_eq (c ∷ cs) (codes "G") then option_map places.Graph (graph_field f)
    else None))

abbrev pub the_place : Word → Word → Option Place
the_place (Plain p) (Plain f) = place_in p f
the_place (Plain p) (Quoted t) = None
the_place (Quoted t) f = None

-- Vk, Ak, or a number
abbrev pub value_in : List ℕ → Option Util
value_in [] = None
value_in (c ∷ cs) =
    if c == 86 then option_map (λ k. utils.Vertex (vertex_no k)) (index_of cs)
    else (if c == 65 then option_map (λ k. utils.Arc (arc_no k)) (index_of cs)
    else option_map utils.Int (number_of (c ∷ cs)))

abbrev pub the_value : Word → Option Util
the_value (Plain w) = value_in w
the_value (Quoted t) = Some (utils.Text t)

-- ---- so many words, each read as an argument, and what they make

-- a kind of argument: what a word says, if it is one
abbrev pub Argument : Type 0 → Type 0
Argument A = Word → Option A

abbrev pub none : {R : Type 0} → R → List Word → Option R
none r [] = Some r
none r (w ∷ ws) = None

-- an argument, and what the words behind it make
abbrev pub first : {A R : Type 0} → Argument A → (A → List Word → Option R) → List Word → Option R
first f next [] = None
first f next (w ∷ ws) = option_and_then (λ a. next a ws) (f w)

-- an argument of two words, and what the words behind them make
abbrev pub both : {A R : Type 0} → (Word → Word → Option A) → (A → List Word → Option R) → List Word → Option R
both f next [] = None
both f next (v ∷ []) = None
both f next (v ∷ w ∷ ws) = option_and_then (λ a. next a ws) (f v w)

abbrev pub one : {A R : Type 0} → Argument A → (A → R) → List Word → Option R
one f r = first f (λ a. none (r a))

abbrev pub two : {A B R : Type 0} → Argument A → Argument B → (A → B → R) → List Word → Option R
two f g r = first f (λ a. one g (r a))

abbrev pub three : {A B C R : Type 0} → Argument A → Argument B → Argument C → (A → B → C → R) → List Word → Option R
three f g h r = first f (λ a. two g h (r a))

abbrev pub four : {A B C D R : Type 0} → Argument A → Argument B → Argument C → Argument D → (A → B → C → D → R) → List Word → Option R
four f g h i r = first f (λ a. three g h i (r a))

abbrev pub five : {A B C D E R : Type 0} → Argument A → Argument B → Argument C → Argument D → Argument E → (A → B → C → D → E → R) → List Word → Option R
five f g h i j r = first f (λ a. four g h i j (r a))

abbrev pub six : {A B C D E F R : Type 0} → Argument A → Argument B → Argument C → Argument D → Argument E → Argument F → (A → B → C → D → E → F → R) → List Word → Option R
six f g h i j k r = first f (λ a. five g h i j k (r a))

abbrev pub seven : {A B C D E F G R : Type 0} → Argument A → Argument B → Argument C → Argument D → Argument E → Argument F → Argument G → (A → B → C → D → E → F → G → R) → List Word → Option R
seven f g h i j k l r = first f (λ a. six g h i j k l (r a))

abbrev pub eight : {A B C D E F G H R : Type 0} → Argument A → Argument B → Argument C → Argument D → Argument E → Argument F → Argument G → Argument H → (A → B → C → D → E → F → G → H → R) → List Word → Option R
eight f g h i j k l m r = first f (λ a. seven g h i j k l m (r a))

abbrev pub nine : {A B C D E F G H I R : Type 0} → Argument A → Argument B → Argument C → Argument D → Argument E → Argument F → Argument G → Argument H → Argument I → (A → B → C → D → E → F → G → H → I → R) → List Word → Option R
nine f g h i j k l m n r = first f (λ a. eight g h i j k l m n (r a))
