-- The queen's moves on a board of 3 by 4, and how they are printed.
use Rattle.std.specs.Prelude.{ℕ, ℤ, pos, negsuc, List, ◌++◌, codes, false, Result, Ok, Err, IsOkAnd}
use Rattle.std.specs.List.{flat_map, range_with_len}
use Rattle.std.specs.Fmt.{decimal, signed_decimal}
use Rattle.sgb_graph.specs.declared.field.Tip.{Tip}
use Rattle.sgb_graph.specs.declared.field.Tip.TheVariants.{Zero, One, To}
use Rattle.sgb_graph.specs.declared.refusal.Refusal.{Refusal}
use Rattle.sgb_graph.specs.Graph.{GraphOf, n_of, m_of, label_of, arcs_of}
use Rattle.sgb_graph.specs.Edit.{entry_at}
use Rattle.sgb_plan.specs.Plan.{outcome_of}
use Rattle.sgb_make.specs.declared.spec.BoardSpec.{BoardSpec}
use Rattle.sgb_make.specs.Board.{plan_of_board}
use Rattle.sgb_combine.specs.Gunion.{plan_of_gunion}
use Rattle.sgb_print.specs.Meter.{WriterUse}
use Rattle.sgb_print.specs.Print.{Prints}
use Rattle.sgb_print.specs.declared.fault.RunFault.{RunFault}
use Rattle.sgb_programs.specs.Ends.{UnlessNoRoom}

-- a board of 3 by 4 for this piece
abbrev pub squares : ℤ → BoardSpec
squares piece = record { n1 = pos 3; n2 = pos 4; n3 = pos 0; n4 = pos 0; piece = piece; wrap = pos 0; directed = false }

-- two graphs united, each pair of vertices joined once; or the first refusal of one
abbrev pub united : Result GraphOf Refusal → Result GraphOf Refusal → Result GraphOf Refusal
united (Ok g) (Ok h) = outcome_of (plan_of_gunion g h (record { multi = false; directed = false }))
united (Ok g) (Err e) = Err e
united (Err e) other = Err e

-- a queen moves as a rook, whose piece is -1, and as a bishop, whose piece is -2
unfoldable pub queen_graph : Result GraphOf Refusal
queen_graph = united (outcome_of (plan_of_board (squares (negsuc 0)))) (outcome_of (plan_of_board (squares (negsuc 1))))

-- the name of the vertex that a tip is, or the number that it is
abbrev pub target : GraphOf → Tip → List ℕ
target g Zero = codes "0"
target g One = codes "1"
target g (To v) = label_of g v.0

-- where arc k leads, and how long it is
abbrev pub move_line : GraphOf → ℕ → List ℕ
move_line g k = codes "  -> " ++ target g (entry_at g k).tip ++ codes ", length " ++ signed_decimal (entry_at g k).len ++ codes "\n"

abbrev pub moves_text : GraphOf → List ℕ → List ℕ
moves_text g = flat_map (move_line g)

-- a vertex's name, and its arcs, the newest first
abbrev pub square_text : GraphOf → ℕ → List ℕ
square_text g v = (label_of g v ++ codes "\n") ++ moves_text g (arcs_of g v)

abbrev pub squares_text : GraphOf → List ℕ
squares_text g = flat_map (square_text g) (range_with_len 0 (n_of g))

-- the title, the id and the counts
abbrev pub heading : GraphOf → List ℕ
heading g =
    codes "Queen Moves on a 3x4 Board\n\n  The graph whose official name is\n" ++ g.id
    ++ codes "\n  has " ++ decimal (n_of g) ++ codes " vertices and " ++ decimal (m_of g) ++ codes " arcs:\n\n"

unfoldable pub queen_text : GraphOf → List ℕ
queen_text g = heading g ++ squares_text g

-- the moves on the queen's graph are printed
abbrev pub ShowsQueen : {W X : Type 0} → WriterUse W → WriterUse W → Result X RunFault → Type 0
ShowsQueen old new result = UnlessNoRoom old new result (IsOkAnd queen_graph (λ g. Prints old new result (queen_text g)))
