-- The table of commands.
use Rattle.std.specs.Prelude.{List, [], ◌∷◌, ℕ, codes, Option, None, if◌then◌else◌}
use Rattle.std.specs.Str.{bytes_eq}
use Rattle.sgb_script.specs.Words.{Word}
use Rattle.sgb_script.specs.Arguments.{the_number, the_flag, the_bits, the_seed, the_rule, the_vertex, the_arc, the_name, the_text, the_letters, the_place, the_value, none, one, two, three, four, five, six, eight, nine, first, both}
use Rattle.sgb_script.specs.declared.command.Single.TheVariants.{Seed, Next, Unif, Make, Edit, Lengths, Drop}
use Rattle.sgb_script.specs.declared.command.Edit.TheVariants.{Arc, Edge, Cut, Len, Set, Types, Label, Id}
use Rattle.sgb_script.specs.declared.command.Maker.TheVariants.{Empty, Board, Simplex, Subsets, Perms, Binary, Random, Complement, Gunion, Intersection, Product, Induced}
use Rattle.sgb_script.specs.declared.command.Query.TheVariants as queries
use Rattle.sgb_script.specs.declared.command.Line.{Line}
use Rattle.sgb_script.specs.declared.command.Line.TheVariants.{Change, Undo, Redo, Query, Load, Group, End}

-- a row of the table: a command's word, and the line that the words behind it make, if they are as many and of the kinds that it takes
abbrev pub Row : Type 0
Row = List ℕ × (List Word → Option Line)

abbrev pub commands : List Row
commands =
    -- the generator
    (codes "seed", one the_number (λ s. Change (Seed s)))
    ∷ (codes "next", none (Change Next))
    ∷ (codes "unif", one the_number (λ m. Change (Unif m)))
    ∷ (codes "gen", none (Query queries.Gen))
    -- undo and redo, groups
    ∷ (codes "undo", none Undo)
    ∷ (codes "redo", none Redo)
    ∷ (codes "group", none Group)
    ∷ (codes "end", none End)
    -- graphs
    ∷ (codes "graph", two the_name the_number (λ name n. Change (Make name (Empty n))))
    ∷ (codes "arc", four the_name the_vertex the_vertex the_number (λ g u v len. Change (Edit g (Arc u v len))))
    ∷ (codes "edge", four the_name the_vertex the_vertex the_number (λ g u v len. Change (Edit g (Edge u v len))))
    ∷ (codes "cut", two the_name the_arc (λ g k. Change (Edit g (Cut k))))
    ∷ (codes "len", three the_name the_arc the_number (λ g k len. Change (Edit g (Len k len))))
    ∷ (codes "set", first the_name (λ g. both the_place (λ place. one the_value (λ value. Change (Edit g (Set place value))))))
    ∷ (codes "types", two the_name the_letters (λ g types. Change (Edit g (Types types))))
    ∷ (codes "label", three the_name the_vertex the_text (λ g v text. Change (Edit g (Label v text))))
    ∷ (codes "id", two the_name the_text (λ g text. Change (Edit g (Id text))))
    ∷ (codes "drop", one the_name (λ g. Change (Drop g)))
    ∷ (codes "list", none (Query queries.List))
    ∷ (codes "show", one the_name (λ g. Query (queries.Show g)))
    -- standard graphs
    ∷ (
      codes "board",
      eight the_name the_number the_number the_number the_number the_number the_number the_flag (λ name n1 n2 n3 n4 piece wrap directed.
          Change (Make name (Board (record { n1 = n1; n2 = n2; n3 = n3; n4 = n4; piece = piece; wrap = wrap; directed = directed })))),
    )
    ∷ (
      codes "simplex",
      eight the_name the_number the_number the_number the_number the_number the_number the_flag (λ name n n0 n1 n2 n3 n4 directed.
          Change (Make name (Simplex (record { n = n; n0 = n0; n1 = n1; n2 = n2; n3 = n3; n4 = n4; directed = directed })))),
    )
    ∷ (
      codes "subsets",
      nine the_name the_number the_number the_number the_number the_number the_number the_bits the_flag (λ name n n0 n1 n2 n3 n4 bits directed.
          Change (Make name (Subsets (record { n = n; n0 = n0; n1 = n1; n2 = n2; n3 = n3; n4 = n4; size_bits = bits; directed = directed })))),
    )
    ∷ (
      codes "perms",
      eight the_name the_number the_number the_number the_number the_number the_number the_flag (λ name n0 n1 n2 n3 n4 max_inv directed.
          Change (Make name (Perms (record { n0 = n0; n1 = n1; n2 = n2; n3 = n3; n4 = n4; max_inv = max_inv; directed = directed })))),
    )
    ∷ (
      codes "binary",
      four the_name the_number the_number the_flag (λ name n max_height directed.
          Change (Make name (Binary (record { n = n; max_height = max_height; directed = directed })))),
    )
    -- random graphs and lengths
    ∷ (
      codes "random",
      nine the_name the_number the_number the_number the_flag the_flag the_number the_number the_seed (λ name n m multi self directed min max seed.
          Change (Make name (Random (record { n = n; m = m; multi = multi; loops = self; directed = directed; min = min; max = max }) seed))),
    )
    ∷ (
      codes "lengths",
      five the_name the_flag the_number the_number the_seed (λ g directed min max seed.
          Change (Lengths g (record { directed = directed; min = min; max = max }) seed)),
    )
    -- combinations
    ∷ (
      codes "complement",
      five the_name the_name the_flag the_flag the_flag (λ name g copy self directed.
          Change (Make name (Complement g (record { copy = copy; loops = self; directed = directed })))),
    )
    ∷ (
      codes "gunion",
      five the_name the_name the_name the_flag the_flag (λ name g h multi directed.
          Change (Make name (Gunion g h (record { multi = multi; directed = directed })))),
    )
    ∷ (codes "intersection", four the_name the_name the_name the_flag (λ name g h directed. Change (Make name (Intersection g h directed))))
    ∷ (
      codes "product",
      five the_name the_name the_name the_number the_flag (λ name g h kind directed.
          Change (Make name (Product g h (record { kind = kind; directed = directed })))),
    )
    ∷ (
      codes "induced",
      six the_name the_name the_text the_flag the_flag the_flag (λ name g text self multi directed.
          Change (Make name (Induced g text (record { loops = self; multi = multi; directed = directed })))),
    )
    -- saved texts
    ∷ (codes "save", one the_name (λ g. Query (queries.Save g)))
    ∷ (codes "load", two the_name the_rule Load)
    ∷ []

-- the line of the first row with this word, and of the words behind it
abbrev pub line_by : List Row → List ℕ → List Word → Option Line
line_by [] word ws = None
line_by (row ∷ rows) word ws = if bytes_eq word row.0 then row.1 ws else line_by rows word ws

abbrev pub line_of_command : List ℕ → List Word → Option Line
line_of_command = line_by commands
