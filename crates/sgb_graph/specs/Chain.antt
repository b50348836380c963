-- Lists that are linked by number: `next` tells which number follows.
use Rattle.std.specs.Prelude.{◌≡◌, ℕ, zero, suc, List, [], ◌∷◌, Option, Some, None}
use Rattle.sgb_graph.specs.declared.field.ArcNo.{ArcNo}

-- from this link on these numbers follow one another, and the last is followed by `last`
unfoldable pub Leads : (ℕ → Option ArcNo) → Option ArcNo → List ℕ → Option ArcNo → Type 0
Leads next link [] last = link ≡ last
Leads next link (k ∷ ks) last = (link ≡ Some (record { 0 = k })) × Leads next (next k) ks last

-- the numbers from this link on, at most m of them
unfoldable pub chain : (ℕ → Option ArcNo) → ℕ → Option ArcNo → List ℕ
chain next zero link = []
chain next (suc m) None = []
chain next (suc m) (Some k) = k.0 ∷ chain next m (next k.0)
