-- What the lines of DIMACS say by numbers of any size, and what is kept of it.
use Rattle.std.proofs.Common.{◌≡◌, ℕ, ℤ, Bool, List, Some, None, Option, pos, refl, ap, ◌∙◌}
use Rattle.std.specs.Option.{option_map, option_and_then}
use Rattle.sgb_import.specs.Numbers.{natural_of, length_of}
use Rattle.sgb_import.specs.Dimacs.{two, three, direction_of, problem_with, problem_of_words, link_with, arc_of_words, edge_of_words}
use Rattle.sgb_import.specs.Private.Dimacs.{cap, capped, capped_ends}

link_capped : (u v : Option ℕ) (w : Option ℤ) → link_with (option_map cap u) (option_map cap v) w ≡ option_map capped_ends (link_with u v w)
link_capped None v w = refl
link_capped (Some u) None w = refl
link_capped (Some u) (Some v) None = refl
link_capped (Some u) (Some v) (Some w) = refl

problem_capped : (line : ℕ) (d : Option Bool) (n m : Option ℕ) → problem_with line d (option_map cap n) (option_map cap m) ≡ option_map capped (problem_with line d n m)
problem_capped line None n m = refl
problem_capped line (Some d) None m = refl
problem_capped line (Some d) (Some n) None = refl
problem_capped line (Some d) (Some n) (Some m) = refl

-- ---- the words of a line
pub edge_none : (ws : List (List ℕ)) → None ≡ two ws → None ≡ option_map capped_ends (edge_of_words ws)
unfolding edge_of_words
edge_none ws none = ap (λ o. option_map capped_ends (option_and_then (λ t. link_with (natural_of t.0) (natural_of t.1) (Some (pos 1))) o)) none

pub edge_said : (ws : List (List ℕ)) (from to : List ℕ) (u v : Option ℕ) → Some (from, to) ≡ two ws → u ≡ option_map cap (natural_of from) → v ≡ option_map cap (natural_of to)
    → link_with u v (Some (pos 1)) ≡ option_map capped_ends (edge_of_words ws)
unfolding edge_of_words
edge_said ws from to u v said u_is v_is =
    ap (λ o. link_with o v (Some (pos 1))) u_is
    ∙ ap (λ o. link_with (option_map cap (natural_of from)) o (Some (pos 1))) v_is
    ∙ link_capped (natural_of from) (natural_of to) (Some (pos 1))
    ∙ ap (λ o. option_map capped_ends (option_and_then (λ t. link_with (natural_of t.0) (natural_of t.1) (Some (pos 1))) o)) said

pub arc_none : (ws : List (List ℕ)) → None ≡ three ws → None ≡ option_map capped_ends (arc_of_words ws)
unfolding arc_of_words
arc_none ws none = ap (λ o. option_map capped_ends (option_and_then (λ t. link_with (natural_of t.0) (natural_of t.1) (length_of t.2)) o)) none

pub arc_said : (ws : List (List ℕ)) (from to len : List ℕ) (u v : Option ℕ) (w : Option ℤ) → Some (from, to, len) ≡ three ws → u ≡ option_map cap (natural_of from) → v ≡ option_map cap (natural_of to) → w ≡ length_of len
    → link_with u v w ≡ option_map capped_ends (arc_of_words ws)
unfolding arc_of_words
arc_said ws from to len u v w said u_is v_is w_is =
    ap (λ o. link_with o v w) u_is
    ∙ ap (λ o. link_with (option_map cap (natural_of from)) o w) v_is
    ∙ ap (λ o. link_with (option_map cap (natural_of from)) (option_map cap (natural_of to)) o) w_is
    ∙ link_capped (natural_of from) (natural_of to) (length_of len)
    ∙ ap (λ o. option_map capped_ends (option_and_then (λ t. link_with (natural_of t.0) (natural_of t.1) (length_of t.2)) o)) said

pub problem_none : (line : ℕ) (ws : List (List ℕ)) → None ≡ three ws → None ≡ option_map capped (problem_of_words line ws)
unfolding problem_of_words
problem_none line ws none = ap (λ o. option_map capped (option_and_then (λ t. problem_with line (direction_of t.0) (natural_of t.1) (natural_of t.2)) o)) none

pub problem_said_is : (line : ℕ) (ws : List (List ℕ)) (kind n m : List ℕ) (d : Option Bool) (u v : Option ℕ) → Some (kind, n, m) ≡ three ws → d ≡ direction_of kind → u ≡ option_map cap (natural_of n) → v ≡ option_map cap (natural_of m)
    → problem_with line d u v ≡ option_map capped (problem_of_words line ws)
unfolding problem_of_words
problem_said_is line ws kind n m d u v said d_is u_is v_is =
    ap (λ o. problem_with line o u v) d_is
    ∙ ap (λ o. problem_with line (direction_of kind) o v) u_is
    ∙ ap (λ o. problem_with line (direction_of kind) (option_map cap (natural_of n)) o) v_is
    ∙ problem_capped line (direction_of kind) (natural_of n) (natural_of m)
    ∙ ap (λ o. option_map capped (option_and_then (λ t. problem_with line (direction_of t.0) (natural_of t.1) (natural_of t.2)) o)) said
