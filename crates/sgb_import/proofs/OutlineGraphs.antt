-- Lemmas on the graph of an outline while it is built.
use Rattle.std.proofs.Common.{◌≡◌, ◌<◌, ◌+◌, ◌-◌, ◌*◌, ◌≤◌, ℕ, pos, Bool, true, false, List, [], ◌∷◌, ◌++◌, length, get_or, map, reverse, take, All, inl, inr, refl, sym, ap, ap₂, subst, ◌∙◌, arith}
use Rattle.std.specs.List.{range_with_len}
use Rattle.std.specs.Fmt.{decimal}
use Rattle.std.proofs.lemmas.List.{length-map, length-reverse, get_or-map, map-append, reverse-append, take_all, take_more}
use Rattle.sgb_graph.specs.Builder.{Insertion, grown}
use Rattle.sgb_graph.specs.declared.builder.Builder.{Builder}
use Rattle.sgb_graph.specs.declared.refusal.Refusal.{Refusal}
use Rattle.sgb_graph.specs.declared.refusal.Refusal.TheVariants.{NoRoom}
use Rattle.sgb_graph.specs.Graph.{n_of, made_of}
use Rattle.sgb_graph.specs.New.{bare_graph}
use Rattle.sgb_graph.proofs.InsertionRuns.{RefusesInsertions}
use Rattle.sgb_graph.proofs.Insertions.{numbers_each, made-grown}
use Rattle.sgb_plan.specs.Plan.{Named, no_letters, with_named}
use Rattle.sgb_plan.proofs.Plans.{NamesFrom, RefusesNames, all_made, begun, n-with_named}
use Rattle.sgb_import.specs.declared.outline.Link.{Link}
use Rattle.sgb_import.specs.Outline.{Outline, IsLink, arcs_of_links, graph_of_outline, named, numbered, plan_of}
use Rattle.sgb_import.specs.Private.Outlined.{insertion_of}

-- the vertex that is named by a number
abbrev pub number_name : ℕ → Named
number_name v = named (decimal v)

named_numbers : (ns : List ℕ) → map named (map decimal ns) ≡ map number_name ns
named_numbers [] = refl
named_numbers (n ∷ ns) = ap (λ vs. number_name n ∷ vs) (named_numbers ns)

pub numbers_named : (first count : ℕ) → map number_name (range_with_len first count) ≡ map named (numbered first count)
numbers_named first count = sym (named_numbers (range_with_len first count))

-- ---- links
abbrev pub no_link : Link
no_link = record { from = 0; to = 0; len = pos 0 }

pub link_fits : {n : ℕ} (links : List Link) (k : ℕ) (d : Link) → k < length links → All (IsLink n) (map insertion_of links) → IsLink n (insertion_of (get_or links k d))
link_fits {n} links k d less all =
    subst (IsLink n) (get_or-map insertion_of links k d (insertion_of d) less) (all k (insertion_of d) (omega (arith, less, length-map links insertion_of)))

-- those that are still to be inserted, the last first
abbrev pub left_links : List Link → ℕ → List Insertion
left_links links done = reverse (map insertion_of (take (length links - done) links))

pub all_left : (links : List Link) → left_links links 0 ≡ reverse (map insertion_of links)
all_left links = ap (λ ls. reverse (map insertion_of ls)) (take_all (length links - 0) links (omega arith))

pub none_left : (links : List Link) (done : ℕ) → length links ≤ done → left_links links done ≡ []
none_left links done over =
    let none : length links - done ≡ 0 = omega arith in
    ap (λ k. reverse (map insertion_of (take k links))) none

pub last_left : (links : List Link) (done : ℕ) (d : Link) → done < length links
    → left_links links done ≡ (insertion_of (get_or links (length links - 1 - done) d) ∷ []) ++ left_links links (done + 1)
last_left links done d less =
    let k : ℕ = length links - 1 - done in
    let more : length links - done ≡ k + 1 = omega arith in
    let fewer : k ≡ length links - (done + 1) = omega arith in
    let below : k < length links = omega arith in
    ap (λ j. reverse (map insertion_of (take j links))) more
    ∙ (ap (λ ls. reverse (map insertion_of ls)) (take_more links k d below)
    ∙ (ap reverse (map-append insertion_of (take k links) (get_or links k d ∷ []))
    ∙ (reverse-append (map insertion_of (take k links)) (insertion_of (get_or links k d) ∷ [])
    ∙ ap (λ j. insertion_of (get_or links k d) ∷ reverse (map insertion_of (take j links))) fewer)))

-- ---- vertices
-- a run over so many numbers from a first one on
pub names_from_first : (a : Builder) (f : ℕ → Named) (first count : ℕ) → NamesFrom a (map f (range_with_len first count)) a f first (first + count)
names_from_first a f first count =
    let all : (first + count) - first ≡ count = omega arith in
    record { left = record { same = ap (λ k. with_named a (map f (range_with_len first k))) all } }

-- ---- the whole graph
-- the builder before its first vertex
abbrev pub starting : Outline → Builder
starting o = begun (plan_of o)

pub starts : (o : Outline) (id types : List ℕ) {a : Builder} → a ≡ record { graph = bare_graph id types []; directed = o.directed } → id ≡ o.id → types ≡ no_letters → a ≡ starting o
starts o id types made is none = made ∙ ap₂ (λ i t. record { graph = bare_graph i t []; directed = o.directed }) is none

pub names_fit : (o : Outline) {a : Builder} {e : Refusal} → a ≡ starting o → length o.names ≤ 65535 → RefusesNames a (map named o.names) e → e ≡ NoRoom
names_fit o is few (inl room) = room
names_fit o {a} is few (inr large) =
    let none : n_of a.graph ≡ 0 = ap (λ (d : Builder). n_of d.graph) is in
    absurd (omega (arith, large.1, few, none, n-with_named a (map named o.names), length-map o.names named))

pub all_named : (o : Outline) {a b : Builder} → a ≡ starting o → b ≡ with_named a (map named o.names) → n_of b.graph ≡ length o.names
all_named o {a} {b} is named_so =
    let none : n_of a.graph ≡ 0 = ap (λ (d : Builder). n_of d.graph) is in
    let many : n_of b.graph ≡ n_of (with_named a (map named o.names)).graph = ap (λ (d : Builder). n_of d.graph) named_so in
    omega (arith, many, none, n-with_named a (map named o.names), length-map o.names named)

numbers_of_links : (d : Bool) (m : ℕ) → m * numbers_each d ≡ arcs_of_links d m
numbers_of_links true m = omega arith
numbers_of_links false m = omega arith

pub links_fit : (o : Outline) {a b : Builder} {e : Refusal} → a ≡ starting o → b ≡ with_named a (map named o.names) → arcs_of_links o.directed (length o.links) ≤ 1000000 → RefusesInsertions b (reverse o.links) e → e ≡ NoRoom
unfolding with_named
links_fit o is named_so few (inl room) = room
links_fit o {a} {b} is named_so few (inr large) =
    let b_is : b ≡ with_named (starting o) (map named o.names) = named_so ∙ ap (λ d. with_named d (map named o.names)) is in
    let none : made_of b.graph ≡ 0 = ap (λ (d : Builder). made_of d.graph) b_is in
    let kind : length (reverse o.links) * numbers_each b.directed ≡ length o.links * numbers_each o.directed =
    ap₂ (λ m d. m * numbers_each d) (length-reverse o.links) (ap (λ (d : Builder). d.directed) b_is) in
    absurd (omega (arith, large.1, few, none, kind, numbers_of_links o.directed (length o.links), made-grown b (reverse o.links)))

pub outline_made : (o : Outline) {a b c : Builder} → a ≡ starting o → b ≡ with_named a (map named o.names) → c ≡ grown b (reverse o.links) → c.graph ≡ graph_of_outline o
unfolding graph_of_outline
outline_made o {a} {b} {c} is named_so inserted =
    ap (λ (d : Builder). d.graph) (inserted ∙ ap (λ d. grown d (reverse o.links)) (named_so ∙ ap (λ d. with_named d (map named o.names)) is))
    ∙ all_made (plan_of o)
