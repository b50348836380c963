-- What the generators answer.
use Rattle.std.proofs.Common.{◌≡◌, ◌≤◌, ℕ, ℤ, List, [], ◌∷◌, ◌++◌, length, map, Bool, true, FitsSigned, w64, to_z, of_z, if◌then◌else◌, Result, Ok, Err, inl, inr, refl, sym, ap, ap₂, subst, ◌∙◌, arith}
use Rattle.std.specs.Fmt.{signed_decimal}
use Rattle.std.proofs.lemmas.Int.{to_z-of_z}
use Rattle.std.proofs.lemmas.List.{length-map}
use Rattle.sgb_graph.specs.declared.builder.Builder.{Builder}
use Rattle.sgb_graph.specs.declared.refusal.Refusal.{Refusal}
use Rattle.sgb_graph.specs.declared.refusal.Refusal.TheVariants.{NoRoom, BadSpecs}
use Rattle.sgb_graph.specs.Graph.{GraphOf, IsGraph, n_of}
use Rattle.sgb_graph.specs.Builder.{Insertion, grown}
use Rattle.sgb_graph.specs.New.{bare_graph}
use Rattle.sgb_graph.proofs.InsertionRuns.{RefusesInsertions}
use Rattle.sgb_plan.specs.Plan.{Plan, IsMade, with_named, MayAllocate}
use Rattle.sgb_plan.proofs.Plans.{RefusesNames, n-with_named, many_vertices, refused_before, refused_insertions, made}
use Rattle.sgb_simplex.specs.Bounds.{first_of, are_in_range, points_within, plan_within, shown_bound, shown_parts}
use Rattle.sgb_simplex.specs.Points.{point_types, point_vertex, point_plan}
use Rattle.sgb_simplex.specs.Private.Started.{RefusesPoints, started}

pub in_range : (n : ℤ) (numbers : List ℤ) → are_in_range n numbers ≡ true → (p : Plan) (r : Result GraphOf Refusal) → IsMade (Ok p) r → IsMade (plan_within n numbers p) r
in_range n numbers fits p r is = subst (λ b. IsMade (if b then Ok p else Err BadSpecs) r) (sym fits) is

pub points_refused : (n : ℤ) (numbers : List ℤ) (id : List ℕ) (directed : Bool) (es : List Insertion) (e : Refusal) → RefusesPoints n numbers e → IsMade (plan_within n numbers (point_plan id directed (points_within n numbers) es)) (Err e)
points_refused n numbers id directed es e (inl room) = inl room
points_refused n numbers id directed es e (inr (inl bad)) =
    subst (λ b. IsMade (if b then Ok (point_plan id directed (points_within n numbers) es) else Err BadSpecs) (Err e)) (sym bad.1)
    (subst (λ r. IsMade (Err BadSpecs) (Err r)) (sym bad.0) (refused_before BadSpecs))
points_refused n numbers id directed es e (inr (inr large)) =
    in_range n numbers large.1 (point_plan id directed (points_within n numbers) es) (Err e)
    (many_vertices (point_plan id directed (points_within n numbers) es) large.0 (omega (arith, large.2, length-map (points_within n numbers) point_vertex)))

-- memory is wanted only for points that are not too many
pub may_want : (n m : ℤ) (numbers given : List ℤ) (p : Plan) → m ≡ n → given ≡ numbers → (are_in_range m given ≡ true) × (length (points_within m given) ≤ 65535) → length p.vertices ≡ length (points_within n numbers) → MayAllocate (plan_within n numbers p)
may_want n m numbers given p read same (fits, few) long =
    let inside : are_in_range n numbers ≡ true = sym (ap₂ (λ z ns. are_in_range z ns) read same) ∙ fits in
    subst (λ b. MayAllocate (if b then Ok p else Err BadSpecs)) (sym inside)
    (omega (arith, long, few, ap₂ (λ z ns. length (points_within z ns)) read same))

-- the builder that the arcs are inserted into, by the plan
started_as : (id other : List ℕ) (directed : Bool) (all others : List (List ℕ)) (b : Builder) → b ≡ started other directed others → other ≡ id → others ≡ all → b ≡ started id directed all
started_as id other directed all others b is same listed = is ∙ ap₂ (λ i ps. started i directed ps) same listed

pub inserts_refused : (n : ℤ) (numbers : List ℤ) (id other : List ℕ) (directed : Bool) (others : List (List ℕ)) (es fs : List Insertion) (b : Builder) (e : Refusal)
    → are_in_range n numbers ≡ true → b ≡ started other directed others → other ≡ id → others ≡ points_within n numbers → fs ≡ es → RefusesInsertions b fs e
    → IsMade (plan_within n numbers (point_plan id directed (points_within n numbers) es)) (Err e)
inserts_refused n numbers id other directed others es fs b e fits is same listed inserted refused =
    in_range n numbers fits (point_plan id directed (points_within n numbers) es) (Err e)
    (refused_insertions (point_plan id directed (points_within n numbers) es) (started_as id other directed (points_within n numbers) others b is same listed) (subst (λ l. RefusesInsertions b l e) inserted refused))

pub graph_made : (n : ℤ) (numbers : List ℤ) (id other : List ℕ) (directed : Bool) (others : List (List ℕ)) (es fs : List Insertion) (b c : Builder)
    → are_in_range n numbers ≡ true → b ≡ started other directed others → other ≡ id → others ≡ points_within n numbers → fs ≡ es → c ≡ grown b fs → IsGraph c.graph
    → IsMade (plan_within n numbers (point_plan id directed (points_within n numbers) es)) (Ok c.graph)
graph_made n numbers id other directed others es fs b c fits is same listed inserted all sound =
    in_range n numbers fits (point_plan id directed (points_within n numbers) es) (Ok c.graph)
    (made (point_plan id directed (points_within n numbers) es) (started_as id other directed (points_within n numbers) others b is same listed) (all ∙ ap (grown b) inserted) sound)

-- the vertices are so many, and not too many
pub n-started : (id : List ℕ) (directed : Bool) (all : List (List ℕ)) → n_of (started id directed all).graph ≡ length all
n-started id directed all =
    let b : Builder = record { graph = bare_graph id point_types []; directed = directed } in
    omega (arith, n-with_named b (map point_vertex all), length-map all point_vertex)

pub names_only_room : (b : Builder) (id : List ℕ) (directed : Bool) (all : List (List ℕ)) (e : Refusal) → b ≡ record { graph = bare_graph id point_types []; directed = directed } → length all ≤ 65535 → RefusesNames b (map point_vertex all) e → e ≡ NoRoom
names_only_room b id directed all e is few (inl room) = room
names_only_room b id directed all e is few (inr large) =
    absurd (let size : n_of (with_named b (map point_vertex all)).graph ≡ length all = ap (λ (a : Builder). n_of (with_named a (map point_vertex all)).graph) is ∙ n-started id directed all in omega (arith, large.1, size, few))

-- ---- ranges
-- ---- the numbers as they are read
pub first_is : (n0 r : ℤ) → FitsSigned w64 n0 → FitsSigned w64 r → r ≡ first_of (to_z w64 (of_z w64 n0)) → to_z w64 (of_z w64 r) ≡ first_of n0
first_is n0 r fits too is = to_z-of_z w64 r too ∙ (is ∙ ap first_of (to_z-of_z w64 n0 fits))

pub five : (a b n1 n2 n3 n4 : ℤ) → a ≡ b → FitsSigned w64 n1 → FitsSigned w64 n2 → FitsSigned w64 n3 → FitsSigned w64 n4
    → (a ∷ to_z w64 (of_z w64 n1) ∷ to_z w64 (of_z w64 n2) ∷ to_z w64 (of_z w64 n3) ∷ to_z w64 (of_z w64 n4) ∷ []) ≡ (b ∷ n1 ∷ n2 ∷ n3 ∷ n4 ∷ [])
five a b n1 n2 n3 n4 same f1 f2 f3 f4 =
    rw (same, to_z-of_z w64 n1 f1, to_z-of_z w64 n2 f2, to_z-of_z w64 n3 f3, to_z-of_z w64 n4 f4) refl

-- ---- ids
pub parts_are : (n m a0 a1 a2 a3 a4 : ℤ) (numbers : List ℤ) (rest : List (List ℕ)) → m ≡ n → a0 ≡ shown_bound n numbers 0 → a1 ≡ shown_bound n numbers 1 → a2 ≡ shown_bound n numbers 2 → a3 ≡ shown_bound n numbers 3 → a4 ≡ shown_bound n numbers 4
    → (signed_decimal m ∷ signed_decimal a0 ∷ signed_decimal a1 ∷ signed_decimal a2 ∷ signed_decimal a3 ∷ signed_decimal a4 ∷ rest) ≡ shown_parts n numbers ++ rest
parts_are n m a0 a1 a2 a3 a4 numbers rest e e0 e1 e2 e3 e4 = rw (e0, e1, e2, e3, e4, e) refl
