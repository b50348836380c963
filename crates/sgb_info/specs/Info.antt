-- The facts of a graph, and their text.
use Rattle.std.specs.Prelude.{◌≡◌, ℕ, ℤ, List, ◌++◌, codes, length, min, max, Option, None, Some, Bool, false, not, if◌then◌else◌}
use Rattle.std.specs.Bool.{Decides}
use Rattle.std.specs.Fmt.{decimal, signed_decimal}
use Rattle.std.specs.Int.{int_min, int_max}
use Rattle.std.specs.List.{reduce}
use Rattle.sgb_graph.specs.Graph.{GraphOf, n_of, m_of}
use Rattle.sgb_graph.specs.Honest.{is_honest}
use Rattle.sgb_graph.specs.Paired.{is_paired}
use Rattle.sgb_grammar.specs.Check.{check_of}
use Rattle.sgb_text.specs.Clean.{clean_of}
use Rattle.sgb_text.specs.Save.{body_of}
use Rattle.sgb_print.specs.Show.{quoted}
use Rattle.sgb_export.specs.Links.{links}
use Rattle.sgb_info.specs.declared.info.Facts.{Facts}
use Rattle.sgb_info.specs.Components.{HasComponents, IsBipartite}
use Rattle.sgb_info.specs.Degrees.{out_degrees, in_degrees, lengths}
use Rattle.sgb_info.specs.Repeats.{loops, repeated}

-- in a graph that is paired edges are counted, otherwise arcs
pub record AreFacts (g : GraphOf) (f : Facts) : Type 0 where
  pub vertices : f.vertices ≡ n_of g
  pub arcs : f.arcs ≡ m_of g
  pub edges : f.edges ≡ (if is_paired g then Some (length (links false g)) else None)
  pub loops : f.loops ≡ loops (not (is_paired g)) g
  pub repeated : f.repeated ≡ repeated (not (is_paired g)) g
  pub out_least : f.out_least ≡ reduce min (out_degrees g)
  pub out_greatest : f.out_greatest ≡ reduce max (out_degrees g)
  pub in_least : f.in_least ≡ (if is_paired g then None else reduce min (in_degrees g))
  pub in_greatest : f.in_greatest ≡ (if is_paired g then None else reduce max (in_degrees g))
  pub length_least : f.length_least ≡ reduce int_min (lengths g)
  pub length_greatest : f.length_greatest ≡ reduce int_max (lengths g)
  pub components : HasComponents g f.components
  pub bipartite : Decides f.bipartite (IsBipartite g)
  pub honest : f.honest ≡ is_honest g
  pub check : f.check ≡ check_of (body_of (clean_of g))

-- ---- their text

-- a number, or - where there is none
abbrev pub number_text : Option ℕ → List ℕ
number_text None = codes "-"
number_text (Some n) = decimal n

abbrev pub length_text : Option ℤ → List ℕ
length_text None = codes "-"
length_text (Some z) = signed_decimal z

abbrev pub answer_text : Bool → List ℕ
answer_text b = if b then codes "yes" else codes "no"

-- a name, with spaces up to column 16, and a value
abbrev pub line : List ℕ → List ℕ → List ℕ
line name value = name ++ (value ++ codes "\n")

unfoldable pub counts_text : List ℕ → Facts → List ℕ
counts_text id f =
    line (codes "id              ") (quoted id)
    ++ (line (codes "vertices        ") (decimal f.vertices)
    ++ (line (codes "arcs            ") (decimal f.arcs)
    ++ (line (codes "edges           ") (number_text f.edges)
    ++ (line (codes "loops           ") (decimal f.loops)
    ++ line (codes "repeated        ") (decimal f.repeated)))))

unfoldable pub extremes_text : Facts → List ℕ
extremes_text f =
    line (codes "out-least       ") (number_text f.out_least)
    ++ (line (codes "out-greatest    ") (number_text f.out_greatest)
    ++ (line (codes "in-least        ") (number_text f.in_least)
    ++ (line (codes "in-greatest     ") (number_text f.in_greatest)
    ++ (line (codes "length-least    ") (length_text f.length_least)
    ++ line (codes "length-greatest ") (length_text f.length_greatest)))))

unfoldable pub answers_text : Facts → List ℕ
answers_text f =
    line (codes "components      ") (decimal f.components)
    ++ (line (codes "bipartite       ") (answer_text f.bipartite)
    ++ (line (codes "honest          ") (answer_text f.honest)
    ++ line (codes "check           ") (decimal f.check)))

-- a line for each fact of a graph with this id
unfoldable pub facts_text : List ℕ → Facts → List ℕ
facts_text id f = counts_text id f ++ (extremes_text f ++ answers_text f)

-- the text of the facts of the graph
pub record IsInfo (g : GraphOf) (text : List ℕ) : Type 0 where
  pub facts : Facts
  pub of_graph : AreFacts g facts
  pub lines : text ≡ facts_text g.id facts
