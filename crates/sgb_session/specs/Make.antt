-- How each command makes a new graph.
use Rattle.std.specs.Prelude.{ℕ, ℤ, pos, unsigned_abs, int_lt, nat_le, List, [], ◌∷◌, length, Bool, true, false, is_none, Result, Ok, Err, is_ok, if◌then◌else◌}
use Rattle.sgb_binary.specs.Binary.{plan_of_binary}
use Rattle.sgb_combine.specs.Complement.{plan_of_complement}
use Rattle.sgb_combine.specs.Gunion.{plan_of_gunion}
use Rattle.sgb_combine.specs.Intersection.{plan_of_intersection}
use Rattle.sgb_combine.specs.Product.{plan_of_product}
use Rattle.sgb_graph.specs.declared.refusal.Refusal.{Refusal}
use Rattle.sgb_graph.specs.declared.refusal.Refusal.TheVariants.{BadSpecs, TooLarge}
use Rattle.sgb_graph.specs.Graph.{GraphOf}
use Rattle.sgb_graph.specs.New.{new_graph}
use Rattle.sgb_induced.specs.declared.inducing.InducedSpec.{InducedSpec}
use Rattle.sgb_induced.specs.Induced.{plan_of_induced, refusal_of_induced}
use Rattle.sgb_make.specs.Board.{plan_of_board}
use Rattle.sgb_perms.specs.Perms.{plan_of_perms}
use Rattle.sgb_plan.specs.declared.part.Seed.{Seed}
use Rattle.sgb_plan.specs.declared.part.Seed.TheVariants as seeds
use Rattle.sgb_plan.specs.Plan.{Plan, outcome_of}
use Rattle.sgb_random.specs.declared.spec.RandomSpec.{RandomSpec}
use Rattle.sgb_random.specs.Random.{course, plan_of_random, refusal_of_random}
use Rattle.sgb_script.specs.declared.command.Maker.{Maker}
use Rattle.sgb_script.specs.declared.command.Maker.TheVariants.{Empty, Board, Simplex, Subsets, Perms, Binary, Random, Complement, Gunion, Intersection, Product, Induced, Load}
use Rattle.sgb_session.specs.declared.reply.SingleDelta.{SingleDelta}
use Rattle.sgb_session.specs.declared.reply.SingleDelta.TheVariants as kept
use Rattle.sgb_session.specs.declared.table.Entry.{Entry}
use Rattle.sgb_session.specs.Drawing.{Drawing, generator_of, drawn_from, drawn_on}
use Rattle.sgb_session.specs.Source.{source_of}
use Rattle.sgb_session.specs.Table.{graph_named}
use Rattle.sgb_simplex.specs.Simplex.{plan_of_simplex}
use Rattle.sgb_simplex.specs.Subsets.{plan_of_subsets}
use Rattle.sgb_text.specs.declared.restoring.CheckRule.{CheckRule}
use Rattle.sgb_text.specs.Read.{begins_well, read_as}

-- the graphs that a maker names, in the order of its words
abbrev pub operands : Maker → List (List ℕ)
operands (Complement g spec) = g ∷ []
operands (Gunion g h spec) = g ∷ h ∷ []
operands (Intersection g h directed) = g ∷ h ∷ []
operands (Product g h spec) = g ∷ h ∷ []
operands (Induced g description spec) = g ∷ []
operands m = []

-- the generator of the session goes on
abbrev pub goes_on : Maker → Bool
goes_on (Random spec seeds.Current) = true
goes_on m = false

-- a graph without arcs
abbrev pub empty_graph : ℤ → Result GraphOf Refusal
empty_graph n =
    if int_lt n (pos 0) then Err BadSpecs
    else (if int_lt (pos 65535) n then Err TooLarge else Ok (new_graph (unsigned_abs n)))

-- What a maker makes its graph by: a count of vertices; a plan, that the table of graphs gives; draws of a generator; what
-- the vertices of the graph of this name say; a text.
pub data Recipe : Type 0 where
  ByCount : ℤ → Recipe
  ByPlan : (List Entry → Result Plan Refusal) → Recipe
  ByDraws : RandomSpec → Seed → Recipe
  ByFates : List ℕ → List ℕ → InducedSpec → Recipe
  ByText : CheckRule → List ℕ → Recipe

abbrev pub recipe_of : Maker → Recipe
recipe_of (Empty n) = ByCount n
recipe_of (Board spec) = ByPlan (λ t. plan_of_board spec)
recipe_of (Simplex spec) = ByPlan (λ t. plan_of_simplex spec)
recipe_of (Subsets spec) = ByPlan (λ t. plan_of_subsets spec)
recipe_of (Perms spec) = ByPlan (λ t. plan_of_perms spec)
recipe_of (Binary spec) = ByPlan (λ t. plan_of_binary spec)
recipe_of (Random spec seed) = ByDraws spec seed
recipe_of (Complement g spec) = ByPlan (λ t. plan_of_complement (graph_named t g) spec)
recipe_of (Gunion g h spec) = ByPlan (λ t. plan_of_gunion (graph_named t g) (graph_named t h) spec)
recipe_of (Intersection g h directed) = ByPlan (λ t. plan_of_intersection (graph_named t g) (graph_named t h) directed)
recipe_of (Product g h spec) = ByPlan (λ t. plan_of_product (graph_named t g) (graph_named t h) spec)
recipe_of (Induced g description spec) = ByFates g description spec
recipe_of (Load text rule) = ByText rule text

-- the graph that a recipe makes, with a generator and the graphs of a table, or its own first refusal
abbrev pub graph_by : Drawing → List Entry → Recipe → Result GraphOf Refusal
graph_by d table (ByCount n) = empty_graph n
graph_by d table (ByPlan plan) = outcome_of (plan table)
graph_by d table (ByDraws spec seed) = outcome_of (plan_of_random spec seed (generator_of (drawn_from seed d)))
graph_by d table (ByFates g description spec) = outcome_of (plan_of_induced (graph_named table g) description spec)
graph_by d table (ByText rule text) = read_as rule text

abbrev pub graph_made : Drawing → List Entry → Maker → Result GraphOf Refusal
graph_made d table m = graph_by d table (recipe_of m)

-- Whether making it may allocate: never where it is refused for what is judged without memory, but for what only a
-- table of classes tells of an induced graph.
abbrev pub plan_may_allocate : Result Plan Refusal → Bool
plan_may_allocate (Ok p) = nat_le (length p.vertices) 65535
plan_may_allocate (Err r) = false

abbrev pub recipe_may_allocate : List Entry → Recipe → Bool
recipe_may_allocate table (ByCount n) = is_ok (empty_graph n)
recipe_may_allocate table (ByPlan plan) = plan_may_allocate (plan table)
recipe_may_allocate table (ByDraws spec seed) = is_none (refusal_of_random spec)
recipe_may_allocate table (ByFates g description spec) = is_none (refusal_of_induced (graph_named table g) description)
recipe_may_allocate table (ByText rule text) = begins_well text

abbrev pub maker_may_allocate : List Entry → Maker → Bool
maker_may_allocate table m = recipe_may_allocate table (recipe_of m)

-- the generator after a recipe, and what undoing it needs: of draws, what the generator was
abbrev pub after : Drawing → Recipe → Drawing × SingleDelta
after d (ByDraws spec seed) = let from = drawn_from seed d in
    let draws = (course spec (generator_of from)).draws in (drawn_on from draws, kept.MadeBy (source_of seed d draws))
after d r = (d, kept.Made)

abbrev pub generator_after : Drawing → Maker → Drawing
generator_after d m = (after d (recipe_of m)).0

abbrev pub kept_of : Drawing → Maker → SingleDelta
kept_of d m = (after d (recipe_of m)).1
