-- Want of memory is no fault of a text.
use Rattle.std.proofs.Common.{◌≡◌, ℕ, List, [], ◌∷◌, map, Option, Some, None, option_map, find, not, ◌==◌, length, drop}
use Rattle.std.specs.List.{range_with_len}
use Rattle.std.specs.Option.{option_or}
use Rattle.sgb_import.specs.declared.refusal.ImportRefusal.{ImportRefusal}
use Rattle.sgb_import.specs.declared.refusal.ImportRefusal.TheVariants.{NoRoom, At}
use Rattle.sgb_import.specs.declared.refusal.TextFault.{TextFault}
use Rattle.sgb_import.specs.declared.refusal.TextFault.TheVariants.{SecondGraph, NoProblem}
use Rattle.sgb_import.specs.declared.dimacs_line.Problem.{Problem}
use Rattle.sgb_import.specs.Dimacs as dimacs
use Rattle.sgb_import.specs.Dimacs.{refusal_of_dimacs}
use Rattle.sgb_import.specs.Graph6.{fault_in, graph_bytes, refusal_of_graph6, second_graph}
use Rattle.sgb_import.specs.Lines.{LineOf, lines}
use Rattle.sgb_import.specs.Refusal.{at_line, first_some}

-- the fault is another
abbrev Other : Option ImportRefusal → Type 0
Other o = o ≡ Some NoRoom → ⊥

other_at : (line : ℕ) (o : Option TextFault) → Other (at_line line o)
other_at line None is = absurd cc
other_at line (Some f) is = absurd cc

other_or : (a b : Option ImportRefusal) → Other a → Other b → Other (option_or a b)
other_or None b first second = second
other_or (Some x) b first second = first

other_cons : (o : Option ImportRefusal) (os : List (Option ImportRefusal)) → Other o → Other (first_some os) → Other (first_some (o ∷ os))
other_cons None os first rest = rest
other_cons (Some x) os first rest = first

other_among : (f : ℕ → Option ImportRefusal) → ((k : ℕ) → Other (f k)) → (ns : List ℕ) → Other (first_some (map f ns))
other_among f each [] is = absurd cc
other_among f each (n ∷ ns) is = other_cons (f n) (map f ns) (each n) (other_among f each ns) is

-- ---- DIMACS
other_id : (line : Option LineOf) → Other (dimacs.id_fault line)
other_id None is = absurd cc
other_id (Some l) is = other_at l.number _ is

other_last : (last : ℕ) (p : Option Problem) (m : ℕ) → Other (dimacs.last_fault last p m)
other_last last None m is = other_at last (Some NoProblem) is
other_last last (Some p) m is = other_at p.line _ is

pub other_dimacs : (text : List ℕ) → Other (refusal_of_dimacs text)
unfolding refusal_of_dimacs
other_dimacs text =
    let ls : List LineOf = lines text in
    other_or (dimacs.id_fault (dimacs.id_line ls)) (option_or (dimacs.first_line_fault ls) (dimacs.last_fault (length ls) (dimacs.problem_of ls) (length (dimacs.links_in ls))))
    (other_id (dimacs.id_line ls))
    (other_or (dimacs.first_line_fault ls) (dimacs.last_fault (length ls) (dimacs.problem_of ls) (length (dimacs.links_in ls)))
    (other_among (dimacs.line_fault ls) (λ k. other_at (dimacs.line_at ls k).number _) (range_with_len 0 (length ls)))
    (other_last (length ls) (dimacs.problem_of ls) (length (dimacs.links_in ls))))

-- ---- graph6
other_second : (o : Option LineOf) → Other (option_map (λ (l : LineOf). At l.number SecondGraph) o)
other_second None is = absurd cc
other_second (Some l) is = absurd cc

pub other_graph6 : (text : List ℕ) → Other (refusal_of_graph6 text)
unfolding refusal_of_graph6 second_graph
other_graph6 text =
    other_or (option_map (At 1) (fault_in (graph_bytes text))) (second_graph (drop 1 (lines text)))
    (other_at 1 (fault_in (graph_bytes text))) (other_second (find (λ (l : LineOf). not (length l.bytes == 0)) (drop 1 (lines text))))
