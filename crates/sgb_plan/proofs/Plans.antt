-- Lemmas on planned graphs: vertices that are made, what is left of a run of them, and what a generator answers.
--
-- A loop's invariant is `NamesFrom` over numbers or `NamesOf` over a slice, from the builder that it began with; the
-- lemmas' names are those of a run of insertions. A generator ends by `made`, and where it is refused by `refused_names` or `refused_insertions`.
use Rattle.std.proofs.Common.{◌≡◌, ◌<◌, ◌≤◌, ◌+◌, ◌-◌, ℕ, suc, List, [], ◌∷◌, ◌++◌, length, get_or, drop, map, Bool, true, false, ◌||◌, nat_lt, Ok, Err, ◌⊎◌, inl, inr, refl, sym, ap, subst, ◌∙◌, arith, append_assoc}
use Rattle.std.proofs.lemmas.Bool.{lt-ltb, le-ltb}
use Rattle.std.specs.List.{range_with_len}
use Rattle.std.proofs.lemmas.List.{append-nil, map-append, length-append, length-map, at_drop_more, at_drop_all}
use Rattle.sgb_graph.specs.declared.builder.Builder.{Builder}
use Rattle.sgb_graph.specs.declared.field.Util.{Util}
use Rattle.sgb_graph.specs.declared.refusal.Refusal.{Refusal}
use Rattle.sgb_graph.specs.declared.refusal.Refusal.TheVariants.{NoRoom, TooLarge}
use Rattle.sgb_graph.specs.Graph.{IsGraph, n_of, made_of}
use Rattle.sgb_graph.specs.New.{bare_graph}
use Rattle.sgb_graph.specs.Vertex.{new_vertex, with_vertex_last}
use Rattle.sgb_graph.specs.Builder.{grown, IsTooMany}
use Rattle.sgb_graph.proofs.Insertions.{n-with_all}
use Rattle.sgb_plan.specs.Plan.{Named, Plan, vertex_of, graph_of_plan, is_too_large, outcome_of, IsMade, with_named}

-- what `Names` says of an `Err`
abbrev pub RefusesNames : Builder → List Named → Refusal → Type 0
RefusesNames b vs e = (e ≡ NoRoom) ⊎ ((e ≡ TooLarge) × (65535 < n_of (with_named b vs).graph))

-- ---- vertices that are made
pub with_named-nil : (b : Builder) → with_named b [] ≡ b
unfolding with_named
with_named-nil b = ap (λ vs. record b { graph = record (b.graph) { vertices = vs } }) (append-nil b.graph.vertices)

pub with_named-append : (b : Builder) (vs ws : List Named) → with_named b (vs ++ ws) ≡ with_named (with_named b vs) ws
unfolding with_named
with_named-append b vs ws =
    ap (λ xs. record b { graph = record (b.graph) { vertices = xs } })
    (ap (λ xs. b.graph.vertices ++ xs) (map-append vertex_of vs ws) ∙ sym (append_assoc b.graph.vertices (map vertex_of vs) (map vertex_of ws)))

pub n-with_named : (b : Builder) (vs : List Named) → n_of (with_named b vs).graph ≡ n_of b.graph + length vs
unfolding with_named
n-with_named b vs = length-append b.graph.vertices (map vertex_of vs) ∙ ap (λ k. n_of b.graph + k) (length-map vs vertex_of)

-- one vertex, as the builder pushes it
pub pushed : (b : Builder) (label : List ℕ) (fields : List Util) → record b { graph = with_vertex_last b.graph (new_vertex label fields) } ≡ with_named b (record { label = label; fields = fields } ∷ [])
unfolding with_named with_vertex_last
pushed b label fields = refl

pub push_refused : (b : Builder) (label : List ℕ) (fields : List Util) {e : Refusal} → (e ≡ NoRoom) ⊎ ((e ≡ TooLarge) × (65535 ≤ n_of b.graph)) → RefusesNames b (record { label = label; fields = fields } ∷ []) e
push_refused b label fields (inl room) = inl room
push_refused b label fields (inr large) = inr (large.0, omega (arith, large.1, n-with_named b (record { label = label; fields = fields } ∷ [])))

-- ---- a run of vertices
-- `a` was to make all of these vertices; `b` has made some of them, and the rest are left
pub record NamesLeft (a : Builder) (all : List Named) (b : Builder) (rest : List Named) : Type 0 where
  pub same : with_named b rest ≡ with_named a all

pub names_start : (a : Builder) (all : List Named) → NamesLeft a all a all
names_start a all = record { same = refl }

pub names_some : {a b c : Builder} {all : List Named} (vs rest : List Named) → NamesLeft a all b (vs ++ rest) → c ≡ with_named b vs → NamesLeft a all c rest
names_some {a} {b} {c} {all} vs rest left made =
    record { same = ap (λ d. with_named d rest) made ∙ (sym (with_named-append b vs rest) ∙ left.same) }

pub names_refused : {a b : Builder} {all : List Named} (vs rest : List Named) {e : Refusal} → NamesLeft a all b (vs ++ rest) → RefusesNames b vs e → RefusesNames a all e
names_refused vs rest left (inl room) = inl room
names_refused {a} {b} {all} vs rest left (inr large) =
    let same : n_of (with_named b (vs ++ rest)).graph ≡ n_of (with_named a all).graph = ap (λ (d : Builder). n_of d.graph) left.same in
    inr (large.0, omega (arith, large.1, same, n-with_named b (vs ++ rest), n-with_named b vs, length-append vs rest))

pub names_end : {a b : Builder} {all : List Named} → NamesLeft a all b [] → b ≡ with_named a all
names_end {a} {b} {all} left = sym (with_named-nil b) ∙ left.same

pub names_as : {a b : Builder} {all rest vs : List Named} → NamesLeft a all b rest → rest ≡ vs → NamesLeft a all b vs
names_as {a} {b} {all} left same = subst (NamesLeft a all b) same left

-- a run over the numbers below n, with one vertex for each
pub record NamesFrom (a : Builder) (all : List Named) (b : Builder) (f : ℕ → Named) (i n : ℕ) : Type 0 where
  pub left : NamesLeft a all b (map f (range_with_len i (n - i)))

names_cons : (f : ℕ → Named) (i n : ℕ) → i < n → map f (range_with_len i (n - i)) ≡ (f i ∷ []) ++ map f (range_with_len (i + 1) (n - (i + 1)))
names_cons f i n h =
    let more : n - i ≡ suc (n - (i + 1)) = omega arith in
    ap (λ k. map f (range_with_len i k)) more

pub names_from_start : (a : Builder) (f : ℕ → Named) (n : ℕ) → NamesFrom a (map f (range_with_len 0 n)) a f 0 n
names_from_start a f n =
    let all : n - 0 ≡ n = omega arith in
    record { left = record { same = ap (λ k. with_named a (map f (range_with_len 0 k))) all } }

pub names_from_some : {a b c : Builder} {all : List Named} {f : ℕ → Named} {i n : ℕ} → i < n → NamesFrom a all b f i n → c ≡ with_named b (f i ∷ []) → NamesFrom a all c f (i + 1) n
names_from_some {f = f} {i = i} {n = n} h left made =
    record { left = names_some (f i ∷ []) (map f (range_with_len (i + 1) (n - (i + 1)))) (names_as left.left (names_cons f i n h)) made }

pub names_from_refused : {a b : Builder} {all : List Named} {f : ℕ → Named} {i n : ℕ} {e : Refusal} → i < n → NamesFrom a all b f i n → RefusesNames b (f i ∷ []) e → RefusesNames a all e
names_from_refused {f = f} {i = i} {n = n} h left refused =
    names_refused (f i ∷ []) (map f (range_with_len (i + 1) (n - (i + 1)))) (names_as left.left (names_cons f i n h)) refused

pub names_from_end : {a b : Builder} {all : List Named} {f : ℕ → Named} {i n : ℕ} → n ≤ i → NamesFrom a all b f i n → b ≡ with_named a all
names_from_end {f = f} {i = i} {n = n} h left =
    let none : n - i ≡ 0 = omega arith in
    names_end (names_as left.left (ap (λ k. map f (range_with_len i k)) none))

-- a run over the elements of a list by their places, with one vertex for each
pub record NamesOf {X : Type 0} (a : Builder) (all : List Named) (b : Builder) (f : X → Named) (xs : List X) (i : ℕ) : Type 0 where
  pub left : NamesLeft a all b (map f (drop i xs))

pub names_of_start : {X : Type 0} (a : Builder) (f : X → Named) (xs : List X) → NamesOf a (map f xs) a f xs 0
names_of_start a f xs = record { left = names_start a (map f xs) }

names_of_cons : {X : Type 0} (f : X → Named) (xs : List X) (i : ℕ) (x : X) → i < length xs → x ≡ get_or xs i x → map f (drop i xs) ≡ (f x ∷ []) ++ map f (drop (i + 1) xs)
names_of_cons f xs i x h is = at_drop_more (map f) xs i x h ∙ ap (λ y. f y ∷ map f (drop (i + 1) xs)) (sym is)

pub names_of_some : {X : Type 0} {a b c : Builder} {all : List Named} {f : X → Named} {xs : List X} {i : ℕ} (x : X) → i < length xs → x ≡ get_or xs i x → NamesOf a all b f xs i → c ≡ with_named b (f x ∷ []) → NamesOf a all c f xs (i + 1)
names_of_some {f = f} {xs = xs} {i = i} x h is left made =
    record { left = names_some (f x ∷ []) (map f (drop (i + 1) xs)) (names_as left.left (names_of_cons f xs i x h is)) made }

pub names_of_refused : {X : Type 0} {a b : Builder} {all : List Named} {f : X → Named} {xs : List X} {i : ℕ} (x : X) {e : Refusal} → i < length xs → x ≡ get_or xs i x → NamesOf a all b f xs i → RefusesNames b (f x ∷ []) e → RefusesNames a all e
names_of_refused {f = f} {xs = xs} {i = i} x h is left refused =
    names_refused (f x ∷ []) (map f (drop (i + 1) xs)) (names_as left.left (names_of_cons f xs i x h is)) refused

pub names_of_end : {X : Type 0} {a b : Builder} {all : List Named} {f : X → Named} {xs : List X} {i : ℕ} → length xs ≤ i → NamesOf a all b f xs i → b ≡ with_named a all
names_of_end {f = f} {xs = xs} {i = i} h left = names_end (names_as left.left (at_drop_all (map f) xs i h))

-- ---- what a generator answers
-- the builder that a plan begins with
abbrev pub begun : Plan → Builder
begun p = record { graph = bare_graph p.id p.types []; directed = p.directed }

-- the whole plan
pub all_made : (p : Plan) → (grown (with_named (begun p) p.vertices) p.insertions).graph ≡ graph_of_plan p
unfolding grown with_named graph_of_plan
all_made p = refl

pub n-graph_of_plan : (p : Plan) → n_of (graph_of_plan p) ≡ length p.vertices
unfolding graph_of_plan
n-graph_of_plan p = n-with_all p.directed (bare_graph p.id p.types (map vertex_of p.vertices)) p.insertions ∙ length-map p.vertices vertex_of

or_true : (b : Bool) → (b || true) ≡ true
or_true true = refl
or_true false = refl

outcome_large : (p : Plan) → is_too_large p ≡ true → outcome_of (Ok p) ≡ Err TooLarge
unfolding outcome_of
outcome_large p large = rw large refl

outcome_fits : (p : Plan) → is_too_large p ≡ false → outcome_of (Ok p) ≡ Ok (graph_of_plan p)
unfolding outcome_of
outcome_fits p fits = rw fits refl

pub many_vertices : (p : Plan) {e : Refusal} → e ≡ TooLarge → 65535 < length p.vertices → IsMade (Ok p) (Err e)
many_vertices p {e} is many =
    inr (outcome_large p (rw (lt-ltb 65535 (length p.vertices) many) refl) ∙ sym (ap (λ r. Err r) is))

pub many_numbers : (p : Plan) {e : Refusal} → e ≡ TooLarge → 1000000 < made_of (graph_of_plan p) → IsMade (Ok p) (Err e)
many_numbers p {e} is many =
    inr (outcome_large p (rw (lt-ltb 1000000 (made_of (graph_of_plan p)) many) (or_true (nat_lt 65535 (length p.vertices)))) ∙ sym (ap (λ r. Err r) is))

pub refused_names : (p : Plan) {e : Refusal} → RefusesNames (begun p) p.vertices e → IsMade (Ok p) (Err e)
refused_names p (inl room) = inl room
refused_names p (inr large) = many_vertices p large.0 (omega (arith, large.1, n-with_named (begun p) p.vertices))

pub refused_insertions : (p : Plan) {b : Builder} {e : Refusal} → b ≡ with_named (begun p) p.vertices → (e ≡ NoRoom) ⊎ ((e ≡ TooLarge) × IsTooMany b p.insertions) → IsMade (Ok p) (Err e)
refused_insertions p named (inl room) = inl room
refused_insertions p {b} named (inr large) =
    let same : made_of (grown b p.insertions).graph ≡ made_of (graph_of_plan p) =
    ap (λ c. made_of (grown c p.insertions).graph) named ∙ ap made_of (all_made p) in
    many_numbers p large.0 (omega (arith, large.1, same))

pub made : (p : Plan) {b c : Builder} → b ≡ with_named (begun p) p.vertices → c ≡ grown b p.insertions → IsGraph c.graph → IsMade (Ok p) (Ok c.graph)
made p {b} {c} named inserted sound =
    let is : c.graph ≡ graph_of_plan p =
    ap (λ (d : Builder). d.graph) (inserted ∙ ap (λ d. grown d p.insertions) named) ∙ all_made p in
    let few : length p.vertices ≤ 65535 = omega (arith, sound.few_vertices, ap n_of is, n-graph_of_plan p) in
    let few_numbers : made_of (graph_of_plan p) ≤ 1000000 = omega (arith, sound.few_arcs, ap made_of is) in
    outcome_fits p (rw (le-ltb 65535 (length p.vertices) few, le-ltb 1000000 (made_of (graph_of_plan p)) few_numbers) refl)
    ∙ ap (λ g. Ok g) (sym is)

-- the refusal that comes before a plan
pub refused_before : (e : Refusal) → IsMade (Err e) (Err e)
unfolding outcome_of
refused_before e = inr refl
