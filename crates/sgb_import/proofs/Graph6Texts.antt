-- The lines of a text in graph6, and its outline.
use Rattle.std.proofs.Common.{◌≡◌, ℕ, false, codes, List, [], drop, Option, Some, None, unwrap_or, not, length, ◌==◌, refl, sym, ap, ◌∙◌}
use Rattle.std.specs.Borrow.{Bor}
use Rattle.std.specs.List.{find}
use Rattle.std.specs.Map.Iter.{TakesFirst}
use Rattle.std.specs.Option.{option_map, option_or}
use Rattle.sgb_graph.specs.Builder.{Insertion}
use Rattle.sgb_import.specs.declared.lines.Line.{Line}
use Rattle.sgb_import.specs.declared.refusal.ImportRefusal.TheVariants.{At}
use Rattle.sgb_import.specs.declared.refusal.TextFault.{TextFault}
use Rattle.sgb_import.specs.declared.refusal.TextFault.TheVariants.{SecondGraph}
use Rattle.sgb_import.specs.Graph6.{first_bytes, without_header, graph_bytes, fault_in, second_graph, refusal_of_graph6, size_in, edges_in, outline_of_graph6}
use Rattle.sgb_import.specs.Lines.{LineOf, lines}
use Rattle.sgb_import.specs.Outline.{Outline, numbered}
use Rattle.sgb_import.specs.Private.Cursors.{seen}
use Rattle.sgb_import.specs.Private.Pairs.{IsTriangle}

pub now-unwrap_or : (o : Option (Bor (List ℕ))) (d : Bor (List ℕ)) → (unwrap_or o d).now ≡ unwrap_or (option_map (λ (b : Bor (List ℕ)). b.now) o) d.now
now-unwrap_or None d = refl
now-unwrap_or (Some b) d = refl

first_bytes-taken : (ls : List LineOf) (r : Option Line) (rest : List LineOf) → TakesFirst seen ls r rest →
    first_bytes ls ≡ unwrap_or (option_map (λ (l : Line). l.bytes.now) r) []
first_bytes-taken ls None rest h = ap first_bytes h.0
first_bytes-taken ls (Some l) rest h = ap first_bytes h

dropped : (ls : List LineOf) (r : Option Line) (rest : List LineOf) → TakesFirst seen ls r rest → drop 1 ls ≡ rest
dropped ls None rest h = ap (drop 1) h.0 ∙ sym h.1
dropped ls (Some l) rest h = ap (drop 1) h

pub behind-first : (text : List ℕ) (ls rest : List LineOf) (r : Option Line) → ls ≡ lines text → TakesFirst seen ls r rest → drop 1 (lines text) ≡ rest
behind-first text ls rest r e h = ap (drop 1) (sym e) ∙ dropped ls r rest h

pub refusal_first : (text bytes : List ℕ) (f : TextFault) → bytes ≡ graph_bytes text → fault_in bytes ≡ Some f → refusal_of_graph6 text ≡ Some (At 1 f)
unfolding refusal_of_graph6
refusal_first text bytes f e h =
    ap (λ o. option_or (option_map (At 1) o) (second_graph (drop 1 (lines text)))) (ap fault_in (sym e) ∙ h)

pub refusal_behind : (text bytes : List ℕ) (rest : List LineOf) → bytes ≡ graph_bytes text → drop 1 (lines text) ≡ rest → fault_in bytes ≡ None →
    refusal_of_graph6 text ≡ second_graph rest
unfolding refusal_of_graph6
refusal_behind text bytes rest e b h =
    ap (λ o. option_or (option_map (At 1) o) (second_graph (drop 1 (lines text)))) (ap fault_in (sym e) ∙ h) ∙ ap second_graph b

pub second_graph-found : (ls : List LineOf) (r : Option Line) → option_map seen r ≡ find (λ (l : LineOf). not (length l.bytes == 0)) ls →
    option_map (λ (l : Line). At l.number SecondGraph) r ≡ second_graph ls
unfolding second_graph
second_graph-found ls None h = ap (option_map (λ (l : LineOf). At l.number SecondGraph)) h
second_graph-found ls (Some l) h = ap (option_map (λ (l : LineOf). At l.number SecondGraph)) h

pub graph_bytes-cut : (text bytes : List ℕ) (ls rest : List LineOf) (r : Option Line) → ls ≡ lines text → TakesFirst seen ls r rest →
    bytes ≡ without_header (unwrap_or (option_map (λ (l : Line). l.bytes.now) r) []) → bytes ≡ graph_bytes text
unfolding graph_bytes
graph_bytes-cut text bytes ls rest r e h b =
    b ∙ ap without_header (sym (first_bytes-taken ls r rest h)) ∙ ap (λ xs. without_header (first_bytes xs)) e

outlined : ℕ → List Insertion → Outline
outlined n es = record { id = codes "import(graph6)"; names = numbered 0 n; directed = false; links = es }

pub outline_read : (text : List ℕ) (n : ℕ) (body : List ℕ) (es : List Insertion) → IsTriangle (graph_bytes text) n body → es ≡ edges_in n body →
    record { id = codes "import(graph6)"; names = numbered 0 n; directed = false; links = es } ≡ outline_of_graph6 text
unfolding outline_of_graph6 outlined
outline_read text n body es t e =
    ap (outlined n) e ∙ ap (λ m. outlined m (edges_in m body)) t.size
    ∙ ap (λ b. outlined (size_in (graph_bytes text)) (edges_in (size_in (graph_bytes text)) b)) t.body_is
