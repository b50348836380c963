-- Lemmas on unions.
use Rattle.std.proofs.Common.{◌≡◌, ℕ, List, map, ap}
use Rattle.sgb_graph.specs.Graph.{GraphOf}
use Rattle.sgb_graph.specs.declared.spoke.Spoke.{Spoke}
use Rattle.sgb_graph.specs.Builder.{along}
use Rattle.sgb_combine.specs.declared.spec.GunionSpec.{GunionSpec}
use Rattle.sgb_combine.specs.Gunion.{candidates, run_of, union_at}

pub union_is : (spec : GunionSpec) (g h : GraphOf) (v : ℕ) (ss : List Spoke) → ss ≡ candidates spec.directed g h v → map (along v) (run_of spec.multi ss) ≡ union_at spec g h v
unfolding union_at
union_is spec g h v ss is = ap (λ ts. map (along v) (run_of spec.multi ts)) is
