-- Lemmas on the graph of the insertions.
use Rattle.std.proofs.Common.{◌≡◌, ◌<◌, ◌≤◌, ℕ, pos, List, [], length, get_or, map, replicate, All, inl, inr, ap, ap₂, subst, ◌∙◌, arith}
use Rattle.std.specs.List.{range_with_len}
use Rattle.std.proofs.lemmas.List.{get_or-map, get_or_default, length-map}
use Rattle.std.proofs.lemmas.List.FromFn.{length-map-range_with_len}
use Rattle.sgb_graph.specs.declared.builder.Builder.{Builder}
use Rattle.sgb_graph.specs.declared.refusal.Refusal.{Refusal}
use Rattle.sgb_graph.specs.declared.refusal.Refusal.TheVariants.{NoRoom}
use Rattle.sgb_graph.specs.Graph.{n_of, made_of}
use Rattle.sgb_graph.specs.New.{bare_graph}
use Rattle.sgb_plan.specs.declared.part.Seed.{Seed}
use Rattle.sgb_plan.specs.Plan.{no_letters, vertex_of, with_named}
use Rattle.sgb_plan.proofs.Plans.{RefusesNames, n-with_named}
use Rattle.sgb_random.specs.declared.progress.Edge.{Edge}
use Rattle.sgb_random.specs.declared.spec.RandomSpec.{RandomSpec}
use Rattle.sgb_random.specs.Random.{numbered, random_id, size_of}
use Rattle.sgb_random.specs.Private.Progress.{insertion_of, IsBare, IsWithin, bare_builder}

-- ---- arcs and edges by their places
abbrev pub no_edge : Edge
no_edge = record { from = 0; to = 0; len = pos 0 }

pub edge_at : (edges : List Edge) (i : ℕ) → i < length edges → get_or edges i no_edge ≡ get_or edges i (get_or edges i no_edge)
edge_at edges i below = get_or_default edges i no_edge (get_or edges i no_edge) below

pub edge_within : {n : ℕ} (edges : List Edge) (i : ℕ) → i < length edges → All (IsWithin n) (map insertion_of edges) → IsWithin n (insertion_of (get_or edges i no_edge))
edge_within {n} edges i below all =
    subst (IsWithin n) (get_or-map insertion_of edges i no_edge (insertion_of no_edge) below)
    (all i (insertion_of no_edge) (omega (arith, below, length-map edges insertion_of)))

-- ---- the builder
pub begins : (s : RandomSpec) (seed : Seed) (id types : List ℕ) {a b c : Builder} {n : ℕ} → a ≡ record { graph = bare_graph id types []; directed = s.directed } → b ≡ a → c ≡ with_named b (map numbered (range_with_len 0 n)) → id ≡ random_id s seed → types ≡ replicate 14 90 → n ≡ size_of s → c ≡ bare_builder s seed
begins s seed id types {a} {b} {c} {n} made same named is letters size =
    let bare : b ≡ record { graph = bare_graph (random_id s seed) no_letters []; directed = s.directed } =
    same ∙ (made ∙ ap₂ (λ i t. record { graph = bare_graph i t []; directed = s.directed }) is letters) in
    named ∙ ap₂ (λ b k. with_named b (map numbered (range_with_len 0 k))) bare size

-- it has not too many vertices
pub names_fit : (a : Builder) {n : ℕ} {e : Refusal} → n_of a.graph ≡ 0 → n ≤ 65535 → RefusesNames a (map numbered (range_with_len 0 n)) e → e ≡ NoRoom
names_fit a none few (inl room) = room
names_fit a {n} none few (inr large) =
    absurd (omega (arith, large.1, few, none, n-with_named a (map numbered (range_with_len 0 n)), length-map-range_with_len numbered 0 n))

pub bare_is : (s : RandomSpec) (seed : Seed) {a : Builder} → a ≡ bare_builder s seed → IsBare s a
unfolding with_named
bare_is s seed {a} is =
    let size : n_of (bare_builder s seed).graph ≡ size_of s =
    length-map (map numbered (range_with_len 0 (size_of s))) vertex_of ∙ length-map-range_with_len numbered 0 (size_of s) in
    record {
      vertices = ap (λ (d : Builder). n_of d.graph) is ∙ size;
      directed = ap (λ (d : Builder). d.directed) is;
      no_numbers = ap (λ (d : Builder). made_of d.graph) is;
    }
