-- What is printed of a text, from what restoring it answers.
use Rattle.std.proofs.Common.{◌≡◌, Result, Err, inl, inr}
use Rattle.std.specs.Prelude.{◌⊎◌}
use Rattle.sgb_graph.specs.declared.refusal.Refusal.{Refusal}
use Rattle.sgb_graph.specs.declared.refusal.Refusal.TheVariants as refusals
use Rattle.sgb_graph.specs.Graph.{GraphOf}

-- a refusal other than a failed allocation
pub refused_by : (read : Result GraphOf Refusal) (e : Refusal) → (e ≡ refusals.NoRoom → ⊥)
    → (e ≡ refusals.NoRoom) ⊎ (read ≡ Err e) → read ≡ Err e
refused_by read e other (inl none) = absurd (other none)
refused_by read e other (inr same) = same
