-- The course of the attempts, as it is kept while they run.
use Rattle.std.specs.Prelude.{◌≡◌, ◌+◌, ◌*◌, ◌<◌, ◌≤◌, ◌==◌, ℕ, ℤ, zero, suc, pos, List, [], ◌∷◌, length, map, min, max, All, Bool, true, false, int_le, int_lt, if◌then◌else◌}
use Rattle.std.specs.Int.{int_min}
use Rattle.std.specs.List.{list_any, range_with_len}
use Rattle.sgb_flip.specs.Generator.{Generator, IsGenerator, after}
use Rattle.sgb_graph.specs.declared.builder.Builder.{Builder}
use Rattle.sgb_graph.specs.Builder.{Insertion, insertion, grown}
use Rattle.sgb_graph.specs.Graph.{n_of, made_of}
use Rattle.sgb_graph.specs.New.{bare_graph}
use Rattle.sgb_plan.specs.declared.length.LengthRange.{LengthRange}
use Rattle.sgb_plan.specs.declared.part.Seed.{Seed}
use Rattle.sgb_plan.specs.Plan.{no_letters, with_named}
use Rattle.sgb_random.specs.declared.progress.Edge.{Edge}
use Rattle.sgb_random.specs.declared.progress.Progress.{Progress}
use Rattle.sgb_random.specs.declared.spec.RandomSpec.{RandomSpec}
use Rattle.sgb_random.specs.Random.{Course, numbered, numbers_each, random_id, size_of, wanted}
use Rattle.sgb_random.specs.Private.Table.{holds, taken, IsFree, IsNumbered}

abbrev pub insertion_of : Edge → Insertion
insertion_of e = insertion e.from e.to e.len

abbrev pub insertions_of : Progress → List Insertion
insertions_of p = map insertion_of p.edges.items

-- the range is that of the lengths
abbrev pub IsLengths : RandomSpec → LengthRange → Type 0
IsLengths s range = (range.min ≡ s.min) × (range.max ≡ s.max)

-- one number for a pair, the same either way round where edges are inserted
abbrev pub key_of : Bool → ℕ → ℕ → ℕ
key_of directed u v = if directed then u * 65536 + v else min u v * 65536 + max u v

abbrev pub key_of_insertion : Bool → Insertion → ℕ
key_of_insertion directed e = key_of directed e.from e.to

-- both ends are vertices
abbrev pub IsWithin : ℕ → Insertion → Type 0
IsWithin n e = (e.from < n) × (e.to < n)

-- The course is kept, with the generator. Its insertions are made from the builder `a`; where lengths may be shortened,
-- they are listed instead.
pub record IsKept (s : RandomSpec) (a : Builder) (c : Course) (p : Progress) (w : Generator) : Type 0 where
  pub made : p.made ≡ c.made
  pub draws : p.draws ≡ c.draws
  pub rest : w ≡ c.rest
  pub listed : int_lt s.multi (pos 0) ≡ true → (p.builder ≡ a) × (insertions_of p ≡ c.insertions)
  pub inserted : int_lt s.multi (pos 0) ≡ false → p.builder ≡ grown a c.insertions

-- the numbers of the pairs that are joined
abbrev pub keys_of : RandomSpec → Course → List ℕ
keys_of s c = map (key_of_insertion s.directed) c.insertions

-- And where a pair is joined once only, the numbers of the pairs stand in the table; and beside them the places of their
-- insertions, where lengths may be shortened.
pub record IsIndexed (s : RandomSpec) (a : Builder) (c : Course) (p : Progress) (w : Generator) : Type 0 where
  pub kept : IsKept s a c p w
  pub ends : All (IsWithin (size_of s)) c.insertions
  pub keys : int_le s.multi (pos 0) ≡ true → (key : ℕ) → holds key p.pairs ≡ list_any (λ k. key == k) (keys_of s c)
  pub taken : int_le s.multi (pos 0) ≡ true → taken p.pairs ≡ length c.insertions
  pub room : int_le s.multi (pos 0) ≡ true → wanted s < length p.pairs
  pub numbers : int_lt s.multi (pos 0) ≡ true → IsNumbered p.pairs p.numbers.items (keys_of s c)

-- a builder with the vertices and nothing else
pub record IsBare (s : RandomSpec) (a : Builder) : Type 0 where
  pub vertices : n_of a.graph ≡ size_of s
  pub directed : a.directed ≡ s.directed
  pub no_numbers : made_of a.graph ≡ 0

-- nothing is tried yet
pub record IsFresh (s : RandomSpec) (p : Progress) (w : Generator) : Type 0 where
  pub bare : IsBare s p.builder
  pub no_edges : p.edges.items ≡ []
  pub no_pairs : IsFree p.pairs
  pub room : int_le s.multi (pos 0) ≡ true → wanted s < length p.pairs
  pub numbers : int_lt s.multi (pos 0) ≡ true → length p.numbers.items ≡ length p.pairs
  pub none_made : p.made ≡ 0
  pub no_draws : p.draws ≡ 0
  pub generator : IsGenerator w

-- one insertion more is within the limits
pub record IsReady (s : RandomSpec) (b : Builder) (made : ℕ) : Type 0 where
  pub vertices : n_of b.graph ≡ size_of s
  pub directed : b.directed ≡ s.directed
  pub few_numbers : made_of b.graph + numbers_each s.directed ≤ 1000000
  pub few_made : made < 1000000

-- a builder of the vertices, before any insertion
abbrev pub bare_builder : RandomSpec → Seed → Builder
bare_builder s seed = with_named (record { graph = bare_graph (random_id s seed) no_letters []; directed = s.directed }) (map numbered (range_with_len 0 (size_of s)))

-- the insertion at the place takes the length, if that is smaller
unfoldable pub with_len_at : List Insertion → ℕ → ℤ → List Insertion
with_len_at [] place len = []
with_len_at (e ∷ es) zero len = insertion e.from e.to (int_min e.len len) ∷ es
with_len_at (e ∷ es) (suc place) len = e ∷ with_len_at es place len

-- from whatever generator so many draws led to the one, so many now lead to the other
pub record Follows (old : Generator) (before : ℕ) (new : Generator) (now : ℕ) : Type 0 where
  pub led : (w : Generator) → IsGenerator w → after w before ≡ old → after w now ≡ new
