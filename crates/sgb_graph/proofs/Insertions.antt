-- Lemmas on graphs that are built by insertions.
use Rattle.std.proofs.Common.{◌≡◌, ◌≤◌, ◌+◌, ◌*◌, ℕ, ℤ, List, [], ◌∷◌, ◌++◌, length, Bool, true, false, Result, Ok, Err, Some, ◌⊎◌, inl, inr, refl, sym, ap, ◌∙◌, arith, set, min, max}
use Rattle.std.proofs.lemmas.List.{length-set, length_push}
use Rattle.std.proofs.lemmas.List.Sums.{fold-append}
use Rattle.sgb_graph.specs.declared.builder.Builder.{Builder}
use Rattle.sgb_graph.specs.declared.refusal.Refusal.{Refusal}
use Rattle.sgb_graph.specs.declared.refusal.Refusal.TheVariants.{NoRoom, TooLarge}
use Rattle.sgb_graph.specs.Graph.{GraphOf, n_of, made_of}
use Rattle.sgb_graph.specs.Edit.{with_arc, with_edge, with_listed, with_entry_last, arc_to}
use Rattle.sgb_graph.specs.Builder.{Insertion, inserted, with_all, grown, IsTooMany, Inserts}
use Rattle.sgb_graph.specs.Private.Insert.{IsRefusedAt}

pub grown-nil : (b : Builder) → grown b [] ≡ b
unfolding grown with_all
grown-nil b = refl

pub grown-append : (b : Builder) (es fs : List Insertion) → grown b (es ++ fs) ≡ grown (grown b es) fs
unfolding grown with_all
grown-append b es fs = ap (λ g. record { graph = g; directed = b.directed }) (fold-append (inserted b.directed) b.graph es fs)

pub grown-directed : (b : Builder) (es : List Insertion) → (grown b es).directed ≡ b.directed
unfolding grown
grown-directed b es = refl

-- one insertion
pub grown_arc : (b : Builder) (e : Insertion) → b.directed ≡ true → grown b (e ∷ []) ≡ record { graph = with_arc b.graph e.from e.to e.len; directed = b.directed }
unfolding grown with_all inserted
grown_arc b e is = ap (λ d. record { graph = inserted d b.graph e; directed = b.directed }) is

pub grown_edge : (b : Builder) (e : Insertion) → b.directed ≡ false → grown b (e ∷ []) ≡ record { graph = with_edge b.graph e.from e.to e.len; directed = b.directed }
unfolding grown with_all inserted
grown_edge b e is = ap (λ d. record { graph = inserted d b.graph e; directed = b.directed }) is

-- the vertices stay as many, and each insertion gives out one number or two
pub n-with_arc : (g : GraphOf) (u v : ℕ) (len : ℤ) → n_of (with_arc g u v len) ≡ n_of g
unfolding with_arc with_listed with_entry_last
n-with_arc g u v len = length-set g.vertices u _

pub n-with_edge : (g : GraphOf) (u v : ℕ) (len : ℤ) → n_of (with_edge g u v len) ≡ n_of g
unfolding with_edge with_listed with_entry_last
n-with_edge g u v len = length-set (set g.vertices _ _) _ _ ∙ length-set g.vertices _ _

pub made-with_arc : (g : GraphOf) (u v : ℕ) (len : ℤ) → made_of (with_arc g u v len) ≡ made_of g + 1
unfolding with_arc with_listed with_entry_last
made-with_arc g u v len = length_push g.entries _

pub made-with_edge : (g : GraphOf) (u v : ℕ) (len : ℤ) → made_of (with_edge g u v len) ≡ made_of g + 2
unfolding with_edge with_listed with_entry_last
made-with_edge g u v len =
    let a = Some (arc_to (max u v) len) in
    let b = Some (arc_to (min u v) len) in
    omega (arith, length_push g.entries a, length_push (g.entries ++ a ∷ []) b)

pub n-inserted : (d : Bool) (g : GraphOf) (e : Insertion) → n_of (inserted d g e) ≡ n_of g
unfolding inserted
n-inserted true g e = n-with_arc g e.from e.to e.len
n-inserted false g e = n-with_edge g e.from e.to e.len

pub n-with_all : (d : Bool) (g : GraphOf) (es : List Insertion) → n_of (with_all d g es) ≡ n_of g
unfolding with_all
n-with_all d g [] = refl
n-with_all d g (e ∷ es) = n-with_all d (inserted d g e) es ∙ n-inserted d g e

pub n-grown : (b : Builder) (es : List Insertion) → n_of (grown b es).graph ≡ n_of b.graph
unfolding grown
n-grown b es = n-with_all b.directed b.graph es

-- how many numbers one insertion gives out
abbrev pub numbers_each : Bool → ℕ
numbers_each true = 1
numbers_each false = 2

pub made-inserted : (d : Bool) (g : GraphOf) (e : Insertion) → made_of (inserted d g e) ≡ made_of g + numbers_each d
unfolding inserted
made-inserted true g e = made-with_arc g e.from e.to e.len
made-inserted false g e = made-with_edge g e.from e.to e.len

pub made-with_all : (d : Bool) (g : GraphOf) (es : List Insertion) → made_of (with_all d g es) ≡ made_of g + length es * numbers_each d
unfolding with_all
made-with_all d g [] = omega arith
made-with_all d g (e ∷ es) = omega (arith, made-with_all d (inserted d g e) es, made-inserted d g e)

pub made-grown : (b : Builder) (es : List Insertion) → made_of (grown b es).graph ≡ made_of b.graph + length es * numbers_each b.directed
unfolding grown
made-grown b es = made-with_all b.directed b.graph es

-- too many stays too many
pub too_many-append : (b : Builder) (es fs : List Insertion) → IsTooMany b es → IsTooMany b (es ++ fs)
too_many-append b es fs many =
    let more : made_of (grown (grown b es) fs).graph ≡ made_of (grown b es).graph + length fs * numbers_each (grown b es).directed = made-grown (grown b es) fs in
    let same : made_of (grown b (es ++ fs)).graph ≡ made_of (grown (grown b es) fs).graph = ap (λ (c : Builder). made_of c.graph) (grown-append b es fs) in
    omega (arith, many, more, same)

-- insertions after insertions
pub Inserts-append : {T S : Type 0} (a b c : Builder) (es fs : List Insertion) (r : Result T Refusal) (x : S) → Inserts a b es (Ok x) → Inserts b c fs r → Inserts a c (es ++ fs) r
Inserts-append a b c es fs (Ok y) x first next = next ∙ (ap (λ d. grown d fs) first ∙ sym (grown-append a es fs))
Inserts-append a b c es fs (Err e) x first next =
    elim next [
      | inl room ↦ inl room
      | inr large ↦ inr (
        large.0,
        (let same : made_of (grown a (es ++ fs)).graph ≡ made_of (grown b fs).graph = ap (λ (d : Builder). made_of d.graph) (grown-append a es fs ∙ ap (λ d. grown d fs) (sym first)) in omega (arith, large.1, same)),
      )
    ]

-- what a refusal tells
pub few_at : (made : ℕ) (e : Refusal) → IsRefusedAt made e → e ≡ NoRoom → made ≤ 1000000
few_at made e (inl room) is = room.1
few_at made e (inr large) is = absurd (let no : NoRoom ≡ TooLarge = sym is ∙ large.0 in cc)

pub refused_all : (b : Builder) (directed : Bool) (es : List Insertion) (e : Refusal) → b.directed ≡ directed → IsRefusedAt (made_of b.graph + length es * numbers_each directed) e → (e ≡ NoRoom) ⊎ ((e ≡ TooLarge) × IsTooMany b es)
refused_all b directed es e is (inl room) = inl room.0
refused_all b directed es e is (inr large) =
    let each : length es * numbers_each b.directed ≡ length es * numbers_each directed = ap (λ d. length es * numbers_each d) is in
    inr (large.0, omega (arith, large.1, each, made-grown b es))

pub all_room : (b : Builder) (directed : Bool) (es : List Insertion) → b.directed ≡ directed → made_of b.graph + length es * numbers_each directed ≤ 1000000 → made_of (grown b es).graph ≤ 1000000
all_room b directed es is few =
    let each : length es * numbers_each b.directed ≡ length es * numbers_each directed = ap (λ d. length es * numbers_each d) is in
    omega (arith, few, each, made-grown b es)
