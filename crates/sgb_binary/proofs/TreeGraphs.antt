-- Lemmas on the graph that is made of the trees.
use Rattle.std.proofs.Common.{◌≡◌, ◌<◌, ◌≤◌, ◌⊎◌, ◌+◌, ◌*◌, ℕ, zero, suc, List, [], ◌∷◌, length, get_or, map, Bool, All, IsTrue, Ok, Err, inl, inr, refl, sym, ap, ap₂, ◌∙◌, arith}
use Rattle.std.specs.List.{concat, list_all}
use Rattle.std.proofs.lemmas.List.{length-map}
use Rattle.std.proofs.lemmas.List.Elements.{All-nil, All-cons, All-append, All-map, All-filter}
use Rattle.sgb_graph.specs.declared.builder.Builder.{Builder}
use Rattle.sgb_graph.specs.declared.refusal.Refusal.{Refusal}
use Rattle.sgb_graph.specs.declared.refusal.Refusal.TheVariants.{NoRoom, TooLarge}
use Rattle.sgb_graph.specs.Graph.{n_of}
use Rattle.sgb_graph.specs.New.{bare_graph}
use Rattle.sgb_graph.specs.Text.{IsText, is_text_byte}
use Rattle.sgb_plan.specs.Plan.{Plan, IsMade, with_named, MayAllocate}
use Rattle.sgb_plan.proofs.Plans.{begun, many_vertices, n-with_named}
use Rattle.sgb_binary.specs.Binary.{binary_plan, tree_vertex}
use Rattle.sgb_binary.specs.Tree.{words, is_low_tree, trees}
use Rattle.sgb_binary.specs.Private.Code.{IsName}
use Rattle.sgb_binary.specs.Private.Listing.{pieces}
use Rattle.sgb_binary.proofs.NameIndexes.{pieces_concat, concat_length}
use Rattle.sgb_binary.proofs.Shapes.{trees_length, trees_letters}

-- ---- names of vertices
words_printable : (m : ℕ) → All (λ w. IsTrue (list_all is_text_byte w)) (words m)
unfolding words
words_printable zero = All-cons (λ w. IsTrue (list_all is_text_byte w)) [] [] refl (All-nil (λ w. IsTrue (list_all is_text_byte w)))
words_printable (suc m) =
    All-append (λ w. IsTrue (list_all is_text_byte w)) (map (λ w. 46 ∷ w) (words m)) (map (λ w. 120 ∷ w) (words m))
    (All-map (λ w. IsTrue (list_all is_text_byte w)) (λ w. 46 ∷ w) (words m) (λ k d h. words_printable m k d h))
    (All-map (λ w. IsTrue (list_all is_text_byte w)) (λ w. 120 ∷ w) (words m) (λ k d h. words_printable m k d h))

pub trees_text : (n most : ℕ) → n ≤ 100 → All IsText (trees n most)
unfolding trees
trees_text n most few k d h =
    let long : length (get_or (trees n most) k d) ≡ 2 * n + 1 = trees_length n most k d h in
    record {
      short = omega (arith, long, few);
      printable = All-filter (is_low_tree most) (λ w. IsTrue (list_all is_text_byte w)) (words (2 * n + 1)) (words_printable (2 * n + 1)) k d h;
    }

pub trees_names : (n most : ℕ) → All (IsName (2 * n + 1)) (trees n most)
trees_names n most k d h = record { long = trees_length n most k d h; letters = trees_letters n most k d h }

-- ---- the trees in one buffer
pub cut_trees : (n most count : ℕ) (letters : List ℕ) → letters ≡ concat (trees n most) → count ≡ length (trees n most) → pieces (2 * n + 1) count letters ≡ trees n most
cut_trees n most count letters is many =
    ap₂ (λ k xs. pieces (2 * n + 1) k xs) many is ∙ pieces_concat (2 * n + 1) (trees n most) (trees_length n most)

pub letters_whole : (n most count : ℕ) (letters : List ℕ) → letters ≡ concat (trees n most) → count ≡ length (trees n most) → length letters ≡ count * (2 * n + 1)
letters_whole n most count letters is many =
    ap (λ xs. length xs) is ∙ (concat_length (2 * n + 1) (trees n most) (trees_length n most) ∙ ap (λ k. k * (2 * n + 1)) (sym many))

-- ---- the builder that the plan begins with
pub begins : (n most : ℕ) (directed : Bool) (id types : List ℕ) (b : Builder) → b ≡ record { graph = bare_graph id types []; directed = directed }
    → id ≡ (binary_plan n most directed).id → types ≡ (binary_plan n most directed).types → b ≡ begun (binary_plan n most directed)
begins n most directed id types b is named letters = is ∙ ap₂ (λ i t. record { graph = bare_graph i t []; directed = directed }) named letters

-- ---- what is answered
pub refused_trees : (n most : ℕ) (directed : Bool) {e : Refusal} → (e ≡ NoRoom) ⊎ ((e ≡ TooLarge) × (65535 < length (trees n most))) → IsMade (Ok (binary_plan n most directed)) (Err e)
refused_trees n most directed (inl none) = inl none
refused_trees n most directed (inr large) =
    many_vertices (binary_plan n most directed) large.0 (omega (arith, large.1, length-map (trees n most) tree_vertex))

pub may_want : (n most : ℕ) (directed : Bool) (count : ℕ) → (count ≡ length (trees n most)) × (count ≤ 65535) → MayAllocate (Ok (binary_plan n most directed))
may_want n most directed count few = omega (arith, few.0, few.1, length-map (trees n most) tree_vertex)

-- the builder with its vertices, from the names in the index
pub named : (p : Plan) (names : List (List ℕ)) (a b : Builder) → map tree_vertex names ≡ p.vertices → b ≡ with_named a (map tree_vertex names) → a ≡ begun p → b ≡ with_named (begun p) p.vertices
named p names a b are made begun_so = made ∙ (ap (with_named a) are ∙ ap (λ c. with_named c p.vertices) begun_so)

pub many_named : (p : Plan) (names : List (List ℕ)) (a b : Builder) → b ≡ with_named a (map tree_vertex names) → a ≡ begun p → n_of b.graph ≡ length names
many_named p names a b made begun_so =
    let none : n_of a.graph ≡ 0 = ap (λ (c : Builder). n_of c.graph) begun_so in
    let all : n_of b.graph ≡ n_of (with_named a (map tree_vertex names)).graph = ap (λ (c : Builder). n_of c.graph) made in
    omega (arith, none, all, n-with_named a (map tree_vertex names), length-map names tree_vertex)
