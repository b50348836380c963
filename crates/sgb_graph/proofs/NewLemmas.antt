-- Lemmas on graphs without arcs.
use Rattle.std.proofs.Common.{Result, Ok, Err, IfOk, ◌≡◌, ◌<◌, ◌≤◌, ◌+◌, ◌%◌, ◌^◌, ℕ, zero, suc, List, [], ◌∷◌, ◌++◌, length, get_or, map, replicate, All, true, ◌&&◌, IsTrue, codes, decimal, refl, sym, ap, subst, ◌∙◌, arith, lit≤, length-append}
use Rattle.std.specs.List.{list_all}
use Rattle.std.proofs.lemmas.Bool.{le-leb, ne_eqb, and_from}
use Rattle.std.proofs.lemmas.List.{get_or-map, length-map, get_or-replicate, length-replicate}
use Rattle.std.proofs.lemmas.List.Folds.{list_all-append}
use Rattle.std.proofs.lemmas.Fmt.{decimal_by_steps, length-decimal-le}
use Rattle.sgb_graph.specs.declared.field.Util.TheVariants.{Zero}
use Rattle.sgb_graph.specs.declared.graph.Vertex.{Vertex}
use Rattle.sgb_graph.specs.declared.graph.Graph.TheInside.{Inside}
use Rattle.sgb_graph.specs.Text.{is_text_byte}
use Rattle.sgb_graph.specs.Types.{IsTypes}
use Rattle.sgb_graph.specs.Graph.{GraphOf, VertexOf, IsId, IsVertex, IsValue, no_vertex, occurrences}
use Rattle.sgb_graph.specs.New.{six_zeros, bare_graph, new_graph, new_id}
use Rattle.sgb_graph.specs.Private.Vertices.{blank}
use Rattle.sgb_graph.specs.Chain.{Leads}
use Rattle.sgb_graph.specs.Private.Arena.{Shows, ShowsVertex, IsBare, bare_vertex}
use Rattle.sgb_graph.proofs.Counts.{sum_zero}
use Rattle.sgb_graph.proofs.Shows.{Opened}
use Rattle.sgb_graph.specs.Private.Link.{any_vertex}

-- digits are bytes of a text
digit_byte : (n : ℕ) → n < 10 → IsTrue (is_text_byte (48 + n))
digit_byte n h =
    rw (le-leb 32 (48 + n) (omega arith), le-leb (48 + n) 126 (omega arith), ne_eqb (48 + n) 34 (omega arith), ne_eqb (48 + n) 92 (omega arith)) refl

pub decimal_bytes : (n : ℕ) → n < 2 ^ 64 → IsTrue (list_all is_text_byte (decimal n))
decimal_bytes n h =
    decimal_by_steps (λ _ ds. IsTrue (list_all is_text_byte ds))
    (λ d low. rw (digit_byte d low) refl)
    (λ m ds high rest. list_all-append is_text_byte ds ((48 + m % 10) ∷ []) ∙ and_from (list_all is_text_byte ds) (list_all is_text_byte ((48 + m % 10) ∷ [])) rest (rw (digit_byte (m % 10) (omega arith)) refl))
    n h

-- the id of a new graph
pub new_id_is : (n : ℕ) → n ≤ 65535 → IsId (new_id n)
new_id_is n h =
    let few : length (decimal n) ≤ 5 = length-decimal-le 5 n (omega arith) (omega arith) (omega arith) in
    let size : length (new_id n) ≤ 19 = simp length-append (omega arith) in
    record {
      text = record {
        short = omega arith;
        printable =
            list_all-append is_text_byte (codes "gb_new_graph(" ++ decimal n) (codes ")")
            ∙ (ap (λ b. b && true) (list_all-append is_text_byte (codes "gb_new_graph(") (decimal n)) ∙ rw (decimal_bytes n (omega arith)) refl);
      };
      short = omega arith;
    }

pub zeros_are : (n : ℕ) → All (IsValue n []) six_zeros
zeros_are n k d h = rw (get_or-replicate 6 k Zero d h) tt

pub blank_is_bare : (n k : ℕ) → All (IsBare n) (replicate k blank)
blank_is_bare n k i d h =
    rw (get_or-replicate k i blank d (omega (arith, length-replicate {A = Vertex})))
    (record {
      first = refl;
      shown = record { label = record { short = lit≤ tt; printable = refl }; six = refl; values = zeros_are n };
    })

pub map-replicate : {X Y : Type 0} (f : X → Y) (n : ℕ) (x : X) → map f (replicate n x) ≡ replicate n (f x)
map-replicate f zero x = refl
map-replicate f (suc n) x = ap (λ r. f x ∷ r) (map-replicate f n x)

pub new_is : (n : ℕ) → bare_graph (new_id n) (replicate 14 90) (map bare_vertex (replicate n blank)) ≡ new_graph n
unfolding new_graph
new_is n = ap (bare_graph (new_id n) (replicate 14 90)) (map-replicate bare_vertex n blank)

bare_arcs : (vs : List Vertex) (v : ℕ) (d : VertexOf) → v < length vs → (get_or (map bare_vertex vs) v d).arcs ≡ []
bare_arcs vs v d h = ap (λ x. x.arcs) (get_or-map bare_vertex vs v any_vertex d h)

bare_vertices : (vs : List Vertex) → All (IsBare (length vs)) vs → All (IsVertex (length (map bare_vertex vs)) []) (map bare_vertex vs)
bare_vertices vs bare v d h =
    let n : length (map bare_vertex vs) ≡ length vs = length-map vs bare_vertex in
    let low : v < length vs = omega arith in
    subst (λ m. IsVertex m [] (get_or (map bare_vertex vs) v d)) (sym n)
    (subst (IsVertex (length vs) []) (sym (get_or-map bare_vertex vs v any_vertex d low)) (bare v any_vertex low).shown)

bare_shows : (vs : List Vertex) (id types : List ℕ) → All (IsBare (length vs)) vs → Shows vs [] (bare_graph id types (map bare_vertex vs))
unfolding Leads
bare_shows vs id types bare =
    let n : length (map bare_vertex vs) ≡ length vs = length-map vs bare_vertex in
    record {
      n = sym n;
      vertices = λ v d h.
          let low : v < length vs = omega arith in
          subst (ShowsVertex [] (get_or vs v d)) (sym (get_or-map bare_vertex vs v d no_vertex low))
          (record { label = refl; fields = refl; arcs = (bare v d low).first });
      made = refl;
      entries = λ k. refl;
      owners = λ k. tt;
      names = λ k. tt;
    }

-- the fields of a graph without arcs
pub bare_opened : (a : Inside) → length a.vertices ≤ 65535 → IsId a.id → IsTypes a.types → All (IsBare (length a.vertices)) a.vertices → a.fields ≡ six_zeros → a.slots ≡ [] → a.holes ≡ 0
    → Opened a (bare_graph a.id a.types (map bare_vertex a.vertices))
bare_opened a few id types bare fields slots holes =
    let vs = a.vertices in
    let n : length (map bare_vertex vs) ≡ length vs = length-map vs bare_vertex in
    record {
      graph = record {
        listed = λ k. sum_zero (λ v. occurrences k v.arcs) (map bare_vertex vs)
            (λ v d h. ap (occurrences k) (bare_arcs vs v d (omega (arith, n))));
        id = id;
        types = types;
        six = refl;
        values = zeros_are (length (map bare_vertex vs));
        vertices = bare_vertices vs bare;
        arcs = λ k d h. absurd (omega arith);
        few_vertices = omega (arith, n);
        few_arcs = lit≤ tt;
      };
      shows = subst (λ ss. Shows vs ss (bare_graph a.id a.types (map bare_vertex vs))) (sym slots) (bare_shows vs a.id a.types bare);
      holes = rw holes refl;
      id = refl;
      types = refl;
      fields = fields;
    }

pub id_ok : {E : Type 0} (r : Result (List ℕ) E) (bs : List ℕ) (n : ℕ) → bs ≡ new_id n → n ≤ 65535 → IfOk r (λ t. t ≡ bs) → IfOk r (λ t. (t ≡ new_id n) × IsId t)
id_ok (Ok t) bs n is h same = (same ∙ is, subst IsId (sym (same ∙ is)) (new_id_is n h))
id_ok (Err e) bs n is h same = tt

pub new_graph_is : (g : GraphOf) (id types : List ℕ) (vs : List Vertex) (n : ℕ) → g ≡ bare_graph id types (map bare_vertex vs) → id ≡ new_id n → types ≡ replicate 14 90 → vs ≡ replicate n blank → g ≡ new_graph n
new_graph_is g id types vs n is same letters blanks =
    is
    ∙ (ap (λ x. bare_graph x types (map bare_vertex vs)) same
    ∙ (ap (λ x. bare_graph (new_id n) x (map bare_vertex vs)) letters
    ∙ (ap (λ x. bare_graph (new_id n) (replicate 14 90) (map bare_vertex x)) blanks ∙ new_is n)))
