-- Random graphs: what attempts there are, what comes of each, and the graph of their insertions.
use Rattle.std.specs.Prelude.{◌≡◌, ◌+◌, ◌*◌, ◌==◌, ◌||◌, ◌&&◌, ℕ, zero, suc, ℤ, pos, List, [], ◌∷◌, ◌++◌, map, codes, Bool, false, not, nat_lt, nat_le, int_lt, int_le, unsigned_abs, Option, None, Some, Result, Ok, Err, if◌then◌else◌}
use Rattle.std.specs.Int.{int_min, int_signum}
use Rattle.std.specs.List.{range_with_len, list_any, AllPairs}
use Rattle.std.specs.Option.{option_or}
use Rattle.sgb_flip.specs.Generator.{Generator, uniform}
use Rattle.sgb_graph.specs.declared.refusal.Refusal.{Refusal}
use Rattle.sgb_graph.specs.declared.refusal.Refusal.TheVariants.{BadSpecs, TooLarge, Stuck}
use Rattle.sgb_graph.specs.Builder.{Insertion, insertion}
use Rattle.sgb_graph.specs.Edit.{refusal_unless}
use Rattle.sgb_graph.specs.New.{six_zeros}
use Rattle.sgb_plan.specs.declared.part.Seed.{Seed}
use Rattle.sgb_plan.specs.declared.part.Part.TheVariants.{Number, Count, Flag, Drawn}
use Rattle.sgb_plan.specs.Id.{id_of, part_text}
use Rattle.sgb_plan.specs.Length.{drawn_length, refusal_of_range}
use Rattle.sgb_plan.specs.Name.{dotted}
use Rattle.sgb_plan.specs.Plan.{Named, Plan, no_letters}
use Rattle.sgb_random.specs.declared.spec.RandomSpec.{RandomSpec}

-- how many vertices there are, and how many arcs or edges are to be made
abbrev pub size_of : RandomSpec → ℕ
size_of s = unsigned_abs s.n

abbrev pub wanted : RandomSpec → ℕ
wanted s = unsigned_abs s.m

-- how many numbers an arc or an edge is given
abbrev pub numbers_each : Bool → ℕ
numbers_each directed = if directed then 1 else 2

-- there are at most 65,535 vertices and 1,000,000 numbers
abbrev pub is_small : RandomSpec → Bool
is_small s = nat_le (size_of s) 65535 && nat_le (wanted s * numbers_each s.directed) 1000000

-- the first refusal that comes before any draw
unfoldable pub refusal_of_random : RandomSpec → Option Refusal
refusal_of_random s =
    refusal_unless (int_lt (pos 0) s.n && int_le (pos 0) s.m) BadSpecs
    (option_or (refusal_of_range s.min s.max)
    (refusal_unless (is_small s) TooLarge None))

-- What the attempts have come to: the insertions, how many of the arcs or edges that are wanted count as made, how many
-- numbers were drawn, and the generator after them.
pub record Course : Type 0 where
  pub insertions : List Insertion
  pub made : ℕ
  pub draws : ℕ
  pub rest : Generator

abbrev pub begun : Generator → Course
begun w = record { insertions = []; made = 0; draws = 0; rest = w }

-- an insertion joins u to v, in this order where arcs are inserted
abbrev pub joins : Bool → ℕ → ℕ → Insertion → Bool
joins directed u v e = ((e.from == u) && (e.to == v)) || (not directed && ((e.from == v) && (e.to == u)))

-- the first insertion that joins u to v takes the length, if that is smaller
unfoldable pub lowered : Bool → ℕ → ℕ → ℤ → List Insertion → List Insertion
lowered directed u v len [] = []
lowered directed u v len (e ∷ es) =
    if joins directed u v e then insertion e.from e.to (int_min e.len len) ∷ es
    else e ∷ lowered directed u v len es

-- a length from min to max is drawn, with which the insertions become these; one more counts as made
unfoldable pub with_length : ℤ → ℤ → Course → (ℤ → List Insertion) → Course
with_length min max c es =
    let drawn = drawn_length min max c.rest in
    record { insertions = es drawn.len; made = c.made + 1; draws = c.draws + drawn.draws; rest = drawn.rest }

-- What an attempt does once u and v are drawn. Where they are one vertex and loops are not wanted, nothing. Where no
-- insertion joins them yet, or where multi is above 0, it inserts; where one does, it shortens that one if multi is
-- below 0, and does nothing if multi is 0.
unfoldable pub tried : RandomSpec → ℕ → ℕ → Course → Course
tried s u v c =
    if (u == v) && not s.loops then c
    else (if int_le s.multi (pos 0) && list_any (joins s.directed u v) c.insertions
    then (if int_lt s.multi (pos 0) then with_length s.min s.max c (λ len. lowered s.directed u v len c.insertions) else c)
    else with_length s.min s.max c (λ len. c.insertions ++ insertion u v len ∷ []))

-- an attempt: u is drawn, and then v
unfoldable pub attempted : RandomSpec → Course → Course
attempted s c =
    let u = uniform c.rest (size_of s) in
    let v = uniform u.rest (size_of s) in
    tried s u.value v.value (record c { draws = c.draws + (u.draws + v.draws); rest = v.rest })

-- the course of the first k attempts, of which there are none once all that is wanted is made
unfoldable pub attempts : RandomSpec → Generator → ℕ → Course
attempts s w zero = begun w
attempts s w (suc k) =
    let c = attempts s w k in
    if nat_lt c.made (wanted s) then attempted s c else c

-- the whole course
unfoldable pub course : RandomSpec → Generator → Course
course s w = attempts s w 10000000

-- a vertex is named by its number
abbrev pub numbered : ℕ → Named
numbered v = record { label = dotted (v ∷ []); fields = six_zeros }

-- multi shows by its sign; the two zeros stand for the distributions of the book
abbrev pub random_id : RandomSpec → Seed → List ℕ
random_id s seed =
    id_of (codes "random_graph") (map part_text (
    Count (size_of s) ∷ Count (wanted s) ∷ Number (int_signum s.multi) ∷ Flag s.loops ∷ Flag s.directed
    ∷ Count 0 ∷ Count 0 ∷ Number s.min ∷ Number s.max ∷ Drawn seed ∷ []))

abbrev pub random_plan : RandomSpec → Seed → List Insertion → Plan
random_plan s seed insertions = record {
  id = random_id s seed;
  types = no_letters;
  vertices = map numbered (range_with_len 0 (size_of s));
  directed = s.directed;
  insertions = insertions;
}

-- what comes of a course: it is stuck where not all that is wanted is made
abbrev pub plan_of_course : RandomSpec → Seed → Course → Result Plan Refusal
plan_of_course s seed c =
    if nat_lt c.made (wanted s) then Err Stuck
    else Ok (random_plan s seed c.insertions)

-- the refusal if there is one, and else the plan
unfoldable pub unless_refused : Option Refusal → Result Plan Refusal → Result Plan Refusal
unless_refused None plan = plan
unless_refused (Some e) plan = Err e

-- the plan of a random graph from a generator, or the first refusal
unfoldable pub plan_of_random : RandomSpec → Seed → Generator → Result Plan Refusal
plan_of_random s seed w = unless_refused (refusal_of_random s) (plan_of_course s seed (course s w))

-- Where multi is at most 0, at most one insertion joins a pair: none is joined again by a later one.
abbrev pub JoinsOnce : Bool → List Insertion → Type 0
JoinsOnce directed es = AllPairs (λ e f. joins directed f.from f.to e ≡ false) es
