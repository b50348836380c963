-- Graphs in two formats of DIMACS: for shortest paths, and of edges without lengths. Vertices are numbered from 1.
use Rattle.std.specs.Prelude.{◌+◌, List, ◌++◌, codes, length, ℕ, true, false}
use Rattle.std.specs.Fmt.{decimal, signed_decimal}
use Rattle.sgb_graph.specs.Graph.{GraphOf, n_of}
use Rattle.sgb_export.specs.declared.link.Link.{Link}
use Rattle.sgb_export.specs.Links.{links}

-- c ID
-- p sp N M
abbrev pub dimacs_head : GraphOf → List ℕ
dimacs_head g =
    codes "c " ++ g.id ++ codes "\n"
    ++ codes "p sp " ++ decimal (n_of g) ++ codes " " ++ decimal (length (links true g)) ++ codes "\n"

-- a U V LEN
abbrev pub dimacs_link : Link → List ℕ
dimacs_link l = codes "a " ++ decimal (l.from + 1) ++ codes " " ++ decimal (l.to + 1) ++ codes " " ++ signed_decimal l.len ++ codes "\n"

-- c ID
-- p edge N M
abbrev pub col_head : GraphOf → List ℕ
col_head g =
    codes "c " ++ g.id ++ codes "\n"
    ++ codes "p edge " ++ decimal (n_of g) ++ codes " " ++ decimal (length (links false g)) ++ codes "\n"

-- e U V
abbrev pub col_link : Link → List ℕ
col_link l = codes "e " ++ decimal (l.from + 1) ++ codes " " ++ decimal (l.to + 1) ++ codes "\n"
