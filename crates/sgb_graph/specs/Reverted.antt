-- The graph that an edit met, told from what it left and what it kept.
use Rattle.std.specs.Prelude.{◌+◌, ℕ, take}
use Rattle.sgb_graph.specs.declared.delta.GraphDelta.{GraphDelta}
use Rattle.sgb_graph.specs.declared.delta.GraphDelta.TheVariants.{NewArc, NewEdge, Cut, SetLen, SetUtil, SetLabel, SetId, SetTypes}
use Rattle.sgb_graph.specs.Graph.{GraphOf}
use Rattle.sgb_graph.specs.Edit.{without_arc, with_cut_arc, with_len, with_util, with_label}

-- the numbers from this one on were not given out
abbrev pub with_numbers : GraphOf → ℕ → GraphOf
with_numbers g n = record g { entries = take n g.entries }

unfoldable pub reverted : GraphOf → GraphDelta → GraphOf
reverted h (NewArc k) = with_numbers (without_arc h k.0) k.0
reverted h (NewEdge k) = with_numbers (without_arc (without_arc h k.0) (k.0 + 1)) k.0
reverted h (Cut c) = with_cut_arc h c
reverted h (SetLen k old) = with_len h k.0 old
reverted h (SetUtil p old) = with_util h p old
reverted h (SetLabel v old) = with_label h v.0 old
reverted h (SetId old) = record h { id = old }
reverted h (SetTypes old) = record h { types = old }
