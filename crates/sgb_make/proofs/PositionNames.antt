-- Lemmas on positions that are made vertices.
use Rattle.std.proofs.Common.{◌≡◌, ℕ, List, get_or, sym, ap, ◌∙◌}
use Rattle.sgb_make.specs.declared.side.Side.{Side}
use Rattle.sgb_make.specs.Ride.{positions}
use Rattle.sgb_make.specs.Private.Rank.{IsOn, rank}
use Rattle.sgb_make.proofs.Ranks.{get_or-positions}

-- a position stands at its number
pub position_here : (sides : List Side) (p : List ℕ) (i : ℕ) → IsOn sides p → rank sides p ≡ i → p ≡ get_or (positions sides) i p
position_here sides p i on number =
    sym (ap (λ k. get_or (positions sides) k p) (sym number) ∙ get_or-positions sides p p on)
