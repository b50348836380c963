-- Graphs as lists of edges or arcs, by numbers or by labels.
use Rattle.std.specs.Prelude.{◌==◌, ℕ, List, [], ◌∷◌, ◌++◌, codes, length, Bool, false, ◌&&◌, not}
use Rattle.std.specs.Cmp.Lexicographic.{pointwise}
use Rattle.std.specs.List.{list_all, list_any, range_with_len}
use Rattle.std.specs.Fmt.{decimal, signed_decimal}
use Rattle.sgb_graph.specs.Graph.{GraphOf, n_of, label_of}
use Rattle.sgb_print.specs.Show.{quoted}
use Rattle.sgb_export.specs.declared.link.Link.{Link}
use Rattle.sgb_export.specs.Links.{links}
use Rattle.sgb_export.specs.Dot.{kind}

-- # graph N M
abbrev pub counts_line : Bool → GraphOf → List ℕ
counts_line directed g =
    codes "# " ++ kind directed ++ codes " " ++ decimal (n_of g) ++ codes " " ++ decimal (length (links directed g)) ++ codes "\n"

-- # id "ID"
abbrev pub id_line : GraphOf → List ℕ
id_line g = codes "# id " ++ quoted g.id ++ codes "\n"

abbrev pub edges_head : Bool → GraphOf → List ℕ
edges_head directed g = counts_line directed g ++ id_line g

-- U V LEN
abbrev pub edges_link : Link → List ℕ
edges_link l = decimal l.from ++ codes " " ++ decimal l.to ++ codes " " ++ signed_decimal l.len ++ codes "\n"

-- the same with labels
abbrev pub named_link : GraphOf → Link → List ℕ
named_link g l = label_of g l.from ++ codes " " ++ label_of g l.to ++ codes " " ++ signed_decimal l.len ++ codes "\n"

-- a label that fits in a line: it is not empty, has no space, and does not begin with #
abbrev pub is_plain : List ℕ → Bool
is_plain [] = false
is_plain (c ∷ name) = not (c == 35) && list_all (λ b. not (b == 32)) (c ∷ name)

abbrev pub are_plain : GraphOf → Bool
are_plain g = list_all (λ v. is_plain (label_of g v)) (range_with_len 0 (n_of g))

-- no vertex before v has its label
abbrev pub is_new : GraphOf → ℕ → Bool
is_new g v = not (list_any (λ w. pointwise ◌==◌ (label_of g v) (label_of g w)) (range_with_len 0 v))

abbrev pub are_distinct : GraphOf → Bool
are_distinct g = list_all (is_new g) (range_with_len 0 (n_of g))
