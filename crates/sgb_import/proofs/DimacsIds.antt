-- The first line that says an id.
use Rattle.std.proofs.Common.{◌≡◌, ℕ, List, [], ◌∷◌, map, codes, Some, None, refl, ap}
use Rattle.std.specs.Option.{option_map}
use Rattle.sgb_import.specs.Dimacs.{id_line, id_in}
use Rattle.sgb_import.specs.Lines.{LineOf, behind}
use Rattle.sgb_import.specs.Refusal.{first_some}

pub id_here : (l : LineOf) (rest all : List LineOf) (id : List ℕ) → all ≡ l ∷ rest → Some id ≡ behind (codes "c ") l.bytes → Some (record l { bytes = id }) ≡ id_line all
unfolding id_line
id_here l rest all id is said =
    rw is (ap (λ o. first_some (option_map (λ b. record l { bytes = b }) o ∷ map id_in rest)) said)

pub id_later : (l : LineOf) (rest all : List LineOf) → all ≡ l ∷ rest → None ≡ behind (codes "c ") l.bytes → id_line rest ≡ id_line all
unfolding id_line
id_later l rest all is none =
    rw is (ap (λ o. first_some (option_map (λ b. record l { bytes = b }) o ∷ map id_in rest)) none)

pub id_nowhere : (all : List LineOf) → all ≡ [] → None ≡ id_line all
unfolding id_line
id_nowhere all is = rw is refl
