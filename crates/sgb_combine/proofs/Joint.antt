-- Lemmas on intersections.
use Rattle.std.proofs.Common.{◌≡◌, ℕ, List, [], ◌∷◌, ◌++◌, map, fold, Bool, true, ◌&&◌, ◌||◌, ◌==◌, nat_lt, nat_le, inl, inr, refl, ap, ap₂, ◌∙◌}
use Rattle.std.specs.List.{flat_map, filter, list_all}
use Rattle.std.proofs.lemmas.Bool.{cases_Bool, and_parts}
use Rattle.sgb_graph.specs.Graph.{GraphOf, IsGraph, n_of}
use Rattle.sgb_graph.specs.Builder.{along, Insertion}
use Rattle.sgb_graph.specs.declared.spoke.Spoke.{Spoke}
use Rattle.sgb_graph.specs.Operand.{spokes}
use Rattle.sgb_combine.specs.Gunion.{is_candidate}
use Rattle.sgb_combine.specs.Intersection.{firsts, longer, leading_to, joints, intersection_at}
use Rattle.sgb_combine.specs.Lowest.{lowest, add_or_lower}
use Rattle.sgb_combine.proofs.SpokeLookup.{leading-lowest}
use Rattle.sgb_combine.proofs.WalkedSpokes.{upward_candidates}

-- what the spokes of the first graph that are found in the second insert
pub joints_none : (v : ℕ) (ss : List Spoke) (r : Spoke) → leading_to r.to ss ≡ [] → joints v ss r ≡ []
joints_none v ss r none = ap (map (λ s. along v (longer r s))) none

-- ---- among the spokes of the other graph only those to vertices that pass count
added-passes : (p : ℕ → Bool) (rs : List Spoke) (s : Spoke) → list_all (λ q. p q.to) rs ≡ true → p s.to ≡ true → list_all (λ q. p q.to) (add_or_lower rs s) ≡ true
unfolding add_or_lower
added-passes p [] s all here = rw here refl
added-passes p (r ∷ rs) s all here =
    let parts = and_parts (p r.to) (list_all (λ (q : Spoke). p q.to) rs) all in
    elim (cases_Bool (r.to == s.to)) [
      | inl same ↦ rw same (ap₂ (λ b c. b && c) parts.0 parts.1)
      | inr apart ↦ rw apart (ap₂ (λ b c. b && c) parts.0 (added-passes p rs s parts.1 here))
    ]

fold-passes : (p : ℕ → Bool) (rs ss : List Spoke) → list_all (λ q. p q.to) rs ≡ true → list_all (λ q. p q.to) (fold add_or_lower rs (filter (λ q. p q.to) ss)) ≡ true
fold-passes p rs [] all = all
fold-passes p rs (s ∷ ss) all =
    elim (cases_Bool (p s.to)) [
      | inl here ↦ rw here (fold-passes p (add_or_lower rs s) ss (added-passes p rs s all here))
      | inr off ↦ rw off (fold-passes p rs ss all)
    ]

lowest-passes : (p : ℕ → Bool) (ss : List Spoke) → list_all (λ q. p q.to) (lowest (filter (λ q. p q.to) ss)) ≡ true
unfolding lowest
lowest-passes p ss = fold-passes p [] ss refl

joints-passing : (p : ℕ → Bool) (v : ℕ) (ss rs : List Spoke) → list_all (λ q. p q.to) rs ≡ true → flat_map (joints v (lowest (filter (λ q. p q.to) ss))) rs ≡ flat_map (joints v (lowest ss)) rs
joints-passing p v ss [] all = refl
joints-passing p v ss (r ∷ rs) all =
    let parts = and_parts (p r.to) (list_all (λ (q : Spoke). p q.to) rs) all in
    ap₂ (λ (xs ys : List Insertion). xs ++ ys)
    (ap (map (λ s. along v (longer r s))) (leading-lowest (λ q. p q.to) ss r.to (λ s same. ap p same ∙ parts.0)))
    (joints-passing p v ss rs parts.1)

pub intersection_is : (directed : Bool) (g h : GraphOf) (v : ℕ) (rs ss : List Spoke) → IsGraph g → rs ≡ lowest (filter (is_candidate directed (n_of g) v) (spokes true g v)) → ss ≡ lowest (filter (is_candidate directed (n_of g) v) (spokes true h v)) → flat_map (joints v ss) rs ≡ intersection_at directed g h v
unfolding intersection_at firsts
intersection_is directed g h v rs ss sound mine theirs =
    let p : ℕ → Bool = λ w. nat_lt w (n_of g) && (directed || nat_le v w) in
    ap₂ (λ ts us. flat_map (joints v ts) us) theirs mine
    ∙ (joints-passing p v (spokes true h v) (lowest (filter (is_candidate directed (n_of g) v) (spokes true g v))) (lowest-passes p (spokes true g v))
    ∙ ap (λ us. flat_map (joints v (lowest (spokes true h v))) (lowest us)) (upward_candidates directed g v (n_of g) sound refl))
