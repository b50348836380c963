-- The first refusal of random lengths.
use Rattle.std.proofs.Common.{◌≡◌, ◌^◌, Option, Some, None, Bool, true, false, int_le, nat_lt, if◌then◌else◌, ap, ap₂}
use Rattle.std.specs.List.{list_all}
use Rattle.std.specs.Option.{option_or}
use Rattle.sgb_graph.specs.declared.refusal.Refusal.{Refusal}
use Rattle.sgb_graph.specs.declared.refusal.Refusal.TheVariants.{NoRoom, LengthRange, TooLarge, BadOperand}
use Rattle.sgb_graph.specs.Edit.{refusal_unless}
use Rattle.sgb_graph.specs.Paired.{is_paired}
use Rattle.sgb_graph.specs.Graph.{GraphOf}
use Rattle.sgb_graph.specs.Read.{leads_on}
use Rattle.sgb_plan.specs.Length.{refusal_of_range, width}
use Rattle.sgb_combine.specs.declared.spec.LengthsSpec.{LengthsSpec}
use Rattle.sgb_combine.specs.Lengths.{refusal_of_arcs, refusal_of_lengths}

pub judge_range : (s : LengthsSpec) (g : GraphOf) (e : Refusal) → refusal_of_range s.min s.max ≡ Some e → refusal_of_lengths s g ≡ Some e
unfolding refusal_of_lengths
judge_range s g e refused = ap (λ r. option_or r (refusal_of_arcs s.directed g)) refused

pub judge_arcs : (s : LengthsSpec) (g : GraphOf) (r : Option Refusal) → refusal_of_range s.min s.max ≡ None → refusal_of_arcs s.directed g ≡ r → refusal_of_lengths s g ≡ r
unfolding refusal_of_lengths
judge_arcs s g r range arcs = ap₂ option_or range arcs

-- none of its refusals is want of memory
never_room : (low narrow directed leads paired : Bool)
    → option_or (refusal_unless low TooLarge (refusal_unless narrow LengthRange None)) (if directed then refusal_unless leads BadOperand None else refusal_unless paired BadOperand None) ≡ Some NoRoom → ⊥
never_room false narrow directed leads paired is = absurd cc
never_room true false directed leads paired is = absurd cc
never_room true true true true paired is = absurd cc
never_room true true true false paired is = absurd cc
never_room true true false leads true is = absurd cc
never_room true true false leads false is = absurd cc

pub judge_room : (s : LengthsSpec) (g : GraphOf) → refusal_of_lengths s g ≡ Some NoRoom → ⊥
unfolding refusal_of_lengths
judge_room s g = never_room (int_le s.min s.max) (nat_lt (width s.min s.max) (2 ^ 31)) s.directed (list_all leads_on g.entries) (is_paired g)
