-- A text of DIMACS that was printed is not refused, and says what was printed.
use Rattle.std.proofs.Common.{◌≡◌, ◌<◌, ◌≤◌, ◌+◌, ◌^◌, ℕ, zero, suc, List, [], ◌∷◌, ◌++◌, length, map, take, Option, Some, None, Bool, true, false, nat_le, All, refl, sym, ap, subst, ◌∙◌, arith, append_assoc}
use Rattle.std.specs.Bool.{⊤}
use Rattle.std.specs.List.{filter_map, cons_option}
use Rattle.std.specs.Option.{option_or, option_to_list}
use Rattle.std.proofs.lemmas.Bool.{and_from, eq-eqb, le-leb}
use Rattle.std.proofs.lemmas.List.{append-nil, length-map, length_push}
use Rattle.std.proofs.lemmas.List.Elements.{All-cons, All-head, All-map, All-tail, All-weaker}
use Rattle.sgb_graph.specs.Builder.{Insertion}
use Rattle.sgb_graph.specs.Graph.{IsId}
use Rattle.sgb_graph.specs.Sound.{is_id}
use Rattle.sgb_import.specs.declared.dimacs_line.Problem.{Problem}
use Rattle.sgb_import.specs.Dimacs.{fault_behind, fault_said, first_line_fault, id_fault, id_line, last_fault, line_at, line_fault, link_in, links_in, outline_of_dimacs, problem_of, problem_said, refusal_of_dimacs}
use Rattle.sgb_import.specs.Lines.{LineOf, behind, lines, words}
use Rattle.sgb_import.specs.Outline.{IsLink, arcs_of_links, numbered}
use Rattle.sgb_import.specs.Refusal.{at_line}
use Rattle.sgb_import.proofs.DimacsReading.{links_more, problem_more}
use Rattle.sgb_import.proofs.DimacsTexts.{Says, dimacs_lines, empty_says, id_bytes, id_line_fine, id_says, link_bytes, link_line_fine, link_says, problem, problem_bytes, problem_line_fine, problem_says, read_as}
use Rattle.sgb_import.proofs.FirstFaults.{none_of}
use Rattle.sgb_import.proofs.ReadBack.{IsLine, lines_of_text, numbered_from, text_of_lines}

-- ---- lines of which none is at fault
abbrev grown : ℕ → Option Insertion → ℕ
grown m None = m
grown m (Some e) = m + 1

-- no line is at fault, behind this problem or none and so many arcs or edges
abbrev Quiet : Option Problem → ℕ → List LineOf → Type 0
Quiet o m [] = ⊤
Quiet o m (l ∷ ls) = (fault_said o m l.number (words l.bytes) ≡ None) × Quiet (option_or o (problem_said l.number (words l.bytes))) (grown m (link_in l)) ls

quiet_more : (o p : Option Problem) (m : ℕ) (e : Option Insertion) (l : LineOf) (ls : List LineOf) → Says o m l p e → Quiet (option_or o p) (grown m e) ls → Quiet o m (l ∷ ls)
quiet_more o p m e l ls says rest = (
  says.fault,
  subst (λ q. Quiet (option_or o q) (grown m (link_in l)) ls) (sym says.problem_is) (subst (λ x. Quiet (option_or o p) (grown m x) ls) (sym says.link) rest),
)

length_grown : (es : List Insertion) (e : Option Insertion) → length (es ++ option_to_list e) ≡ grown (length es) e
length_grown es None = ap length (append-nil es)
length_grown es (Some e) = length_push es e

quiet_behind : (before : List LineOf) (l : LineOf) (ls : List LineOf) → Quiet (option_or (problem_of before) (problem_said l.number (words l.bytes))) (grown (length (links_in before)) (link_in l)) ls
    → Quiet (problem_of (before ++ l ∷ [])) (length (links_in (before ++ l ∷ []))) ls
quiet_behind before l ls quiet =
    subst (λ o. Quiet o (length (links_in (before ++ l ∷ []))) ls) (sym (problem_more before l))
    (subst (λ m. Quiet (option_or (problem_of before) (problem_said l.number (words l.bytes))) m ls) (sym (ap length (links_more before l) ∙ length_grown (links_in before) (link_in l))) quiet)

fault_is : (before : List LineOf) (l : LineOf) → fault_behind before l ≡ fault_said (problem_of before) (length (links_in before)) l.number (words l.bytes)
unfolding fault_behind
fault_is before l = refl

quiet_faults : (before ls : List LineOf) → Quiet (problem_of before) (length (links_in before)) ls → (i : ℕ) → i < length ls → fault_behind (before ++ take i ls) (line_at ls i) ≡ None
quiet_faults before [] quiet i inside = absurd (omega arith)
quiet_faults before (l ∷ ls) quiet zero inside = ap (λ bs. fault_behind bs l) (append-nil before) ∙ (fault_is before l ∙ quiet.0)
quiet_faults before (l ∷ ls) quiet (suc i) inside =
    ap (λ bs. fault_behind bs (line_at ls i)) (sym (append_assoc before (l ∷ []) (take i ls)))
    ∙ quiet_faults (before ++ l ∷ []) ls (quiet_behind before l ls quiet.1) i (omega arith)

no_problem : problem_of [] ≡ None
unfolding problem_of
no_problem = refl

no_links : links_in [] ≡ []
unfolding links_in
no_links = refl

quiet_lines : (ls : List LineOf) → Quiet None 0 ls → first_line_fault ls ≡ None
quiet_lines ls quiet =
    let start : Quiet (problem_of []) (length (links_in [])) ls = subst (λ o. Quiet o (length (links_in [])) ls) (sym no_problem) (subst (λ es. Quiet None (length es) ls) (sym no_links) quiet) in
    none_of (line_fault ls) (length ls) (λ i inside. ap (at_line (line_at ls i).number) (quiet_faults [] ls start i inside))

-- ---- the lines of arcs or edges, and the empty one behind them
abbrev rest_lines : Bool → ℕ → List Insertion → List LineOf
rest_lines directed k es = numbered_from k (map (link_bytes directed) es ++ [] ∷ [])

fewer : (directed : Bool) (k m : ℕ) → k ≤ m → arcs_of_links directed m ≤ 1000000 → arcs_of_links directed k ≤ 1000000
fewer true k m less few = omega arith
fewer false k m less few = omega arith

quiet_rest : (directed : Bool) (n c m k : ℕ) (es : List Insertion) → n ≤ 65535 → All (IsLink n) es → arcs_of_links directed (m + length es) ≤ 1000000 → Quiet (Some (problem directed n c)) m (rest_lines directed k es)
quiet_rest directed n c m k [] small links few = quiet_more (Some (problem directed n c)) None m None (record { number = k; bytes = [] }) [] (empty_says (Some (problem directed n c)) m k) tt
quiet_rest directed n c m k (e ∷ es) small links few =
    let more : arcs_of_links directed (m + 1 + length es) ≤ 1000000 = fewer directed (m + 1 + length es) (m + length (e ∷ es)) (omega arith) few in
    let one : arcs_of_links directed (m + 1) ≤ 1000000 = fewer directed (m + 1) (m + length (e ∷ es)) (omega arith) few in
    quiet_more (Some (problem directed n c)) None m (Some (read_as directed e)) (record { number = k; bytes = link_bytes directed e }) (rest_lines directed (k + 1) es)
    (link_says directed m k n c e small (All-head (IsLink n) e es links) one)
    (quiet_rest directed n c (m + 1) (k + 1) es small (All-tail (IsLink n) e es links) more)

link_more : (l : LineOf) (ls : List LineOf) (o : Option Insertion) → link_in l ≡ o → links_in (l ∷ ls) ≡ cons_option o (links_in ls)
unfolding links_in
link_more l ls o is = ap (λ x. cons_option x (filter_map link_in ls)) is

links_rest : (directed : Bool) (n k : ℕ) (es : List Insertion) → n ≤ 65535 → All (IsLink n) es → links_in (rest_lines directed k es) ≡ map (read_as directed) es
links_rest directed n k [] small links = link_more (record { number = k; bytes = [] }) [] None (empty_says None 0 k).link ∙ no_links
links_rest directed n k (e ∷ es) small links =
    let one : arcs_of_links directed (0 + 1) ≤ 1000000 = fewer directed (0 + 1) 1 (omega arith) (one_few directed) in
    link_more (record { number = k; bytes = link_bytes directed e }) (rest_lines directed (k + 1) es) (Some (read_as directed e)) (link_says directed 0 k n 0 e small (All-head (IsLink n) e es links) one).link
    ∙ ap (λ xs. read_as directed e ∷ xs) (links_rest directed n (k + 1) es small (All-tail (IsLink n) e es links))
  where
    one_few : (d : Bool) → arcs_of_links d 1 ≤ 1000000
    one_few true = omega arith
    one_few false = omega arith

-- ---- all lines
module _ (directed : Bool) (n : ℕ) (id : List ℕ) (es : List Insertion) (titled : IsId id) (small : n ≤ 65535) (links : All (IsLink n) es) (few : arcs_of_links directed (length es) ≤ 1000000) where
  abbrev first : LineOf
  first = record { number = 1; bytes = id_bytes id }

  abbrev second : LineOf
  second = record { number = 2; bytes = problem_bytes directed n (length es) }

  abbrev ls : List LineOf
  ls = first ∷ (second ∷ rest_lines directed 3 es)

  abbrev p : Problem
  p = problem directed n (length es)

  few_links : length es < 2 ^ 64
  few_links = go directed few
    where
      go : (d : Bool) → arcs_of_links d (length es) ≤ 1000000 → length es < 2 ^ 64
      go true most = omega arith
      go false most = omega arith

  lines_are : lines (text_of_lines (dimacs_lines directed n id es)) ≡ ls
  lines_are =
      lines_of_text (dimacs_lines directed n id es)
      (All-cons IsLine (id_bytes id) (problem_bytes directed n (length es) ∷ map (link_bytes directed) es) (id_line_fine id titled)
      (All-cons IsLine (problem_bytes directed n (length es)) (map (link_bytes directed) es) (problem_line_fine directed n (length es) (omega arith) few_links)
      (All-map IsLine (link_bytes directed) es (All-weaker (IsLink n) (λ e. IsLine (link_bytes directed e)) (λ e is. link_line_fine directed n e small is) es links))))

  first_says : Says None 0 first None None
  first_says = id_says None 0 1 id

  second_says : Says None 0 second (Some p) None
  second_says = problem_says directed 0 2 n (length es) small few_links

  lines_fine : first_line_fault ls ≡ None
  lines_fine =
      quiet_lines ls
      (quiet_more None None 0 None first (second ∷ rest_lines directed 3 es) first_says
      (quiet_more None (Some p) 0 None second (rest_lines directed 3 es) second_says
      (quiet_rest directed n (length es) 0 3 es small links (fewer directed (0 + length es) (length es) (omega arith) few))))

  problem_is : problem_of ls ≡ Some p
  unfolding problem_of
  problem_is = rw (first_says.problem_is, second_says.problem_is) refl

  links_are : links_in ls ≡ map (read_as directed) es
  links_are =
      link_more first (second ∷ rest_lines directed 3 es) None first_says.link
      ∙ (link_more second (rest_lines directed 3 es) None second_says.link ∙ links_rest directed n 3 es small links)

  id_line_is : id_line ls ≡ Some (record { number = 1; bytes = id })
  unfolding id_line behind
  id_line_is = refl

  id_fine : id_fault (Some (record { number = 1; bytes = id })) ≡ None
  id_fine =
      let is : is_id id ≡ true = and_from _ (nat_le (length id) 160) (and_from (nat_le (length id) 4095) _ (le-leb (length id) 4095 titled.text.short) titled.text.printable) (le-leb (length id) 160 titled.short) in
      rw is refl

  last_fine : last_fault (length ls) (Some p) (length (map (read_as directed) es)) ≡ None
  last_fine = rw (eq-eqb (length (map (read_as directed) es)) (length es) (length-map es (read_as directed))) refl

  pub not_refused : refusal_of_dimacs (text_of_lines (dimacs_lines directed n id es)) ≡ None
  unfolding refusal_of_dimacs
  not_refused = rw (lines_are, id_line_is, problem_is, links_are, id_fine, lines_fine, last_fine) refl

  pub outline_is : outline_of_dimacs (text_of_lines (dimacs_lines directed n id es)) ≡ record { id = id; names = numbered 1 n; directed = directed; links = map (read_as directed) es }
  unfolding outline_of_dimacs
  outline_is = rw (lines_are, id_line_is, problem_is, links_are) refl
