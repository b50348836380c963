-- Links, owners and tips as numbers.
use Rattle.std.specs.Prelude.{◌≡◌, ℕ, ◌==◌, if◌then◌else◌, Some, None, ◌-◌, ◌^◌, Option}
use Rattle.std.proofs.Common.{refl, ap, sym, inl, inr}
use Rattle.std.proofs.lemmas.Bool.{cases_Bool, eqb-true}
use Rattle.sgb_graph.specs.declared.field.Tip.TheVariants as tips
use Rattle.sgb_graph.specs.declared.graph.codes.Link.TheInside as link
use Rattle.sgb_graph.specs.declared.graph.codes.OwnerCode.TheInside as owner
use Rattle.sgb_graph.specs.declared.graph.codes.TipCode.TheInside as tip
use Rattle.sgb_graph.specs.declared.field.ArcNo.{ArcNo}
use Rattle.sgb_graph.specs.declared.field.VertexNo.{VertexNo}
use Rattle.sgb_graph.specs.declared.field.Tip.{Tip}

-- the arcs, and none behind them all
abbrev pub link_of : ℕ → Option ArcNo
link_of k = if k == 2 ^ 32 - 1 then None else Some (record { 0 = k })

abbrev pub code_of_link : Option ArcNo → ℕ
code_of_link None = 2 ^ 32 - 1
code_of_link (Some k) = k.0

-- the vertices, and none behind them all
abbrev pub owner_of_code : ℕ → Option VertexNo
owner_of_code k = if k == 2 ^ 32 - 1 then None else Some (record { 0 = k })

abbrev pub code_of_owner : Option VertexNo → ℕ
code_of_owner None = 2 ^ 32 - 1
code_of_owner (Some v) = v.0

-- the vertices, and zero and one behind them all
abbrev pub tip_of : ℕ → Tip
tip_of k = if k == 2 ^ 32 - 1 then tips.Zero else (if k == 2 ^ 32 - 2 then tips.One else tips.To (record { 0 = k }))

abbrev pub code_of_tip : Tip → ℕ
code_of_tip tips.Zero = 2 ^ 32 - 1
code_of_tip tips.One = 2 ^ 32 - 2
code_of_tip (tips.To v) = v.0

-- a number that stands for a where it is the code of a, and else for b, whose code it is then
coded : {X : Type 0} (code : X → ℕ) (n : ℕ) (a b : X) → code b ≡ n → code (if n == code a then a else b) ≡ n
coded code n a b by_b = elim (cases_Bool (n == code a)) [
  | inl same ↦ rw same (sym (eqb-true n (code a) same))
  | inr other ↦ rw other by_b
]

link_code : (n : ℕ) → code_of_link (link_of n) ≡ n
link_code n = coded code_of_link n None (Some (record { 0 = n })) refl

owner_code : (n : ℕ) → code_of_owner (owner_of_code n) ≡ n
owner_code n = coded code_of_owner n None (Some (record { 0 = n })) refl

tip_code : (n : ℕ) → code_of_tip (tip_of n) ≡ n
tip_code n =
    coded code_of_tip n tips.Zero (if n == code_of_tip tips.One then tips.One else tips.To (record { 0 = n }))
    (coded code_of_tip n tips.One (tips.To (record { 0 = n })) refl)

pub link_back : (a : link.Inside) → record { code = code_of_link (link_of a.code) } ≡ a
link_back a = ap (λ n. record { code = n }) (link_code a.code)

pub owner_back : (a : owner.Inside) → record { code = code_of_owner (owner_of_code a.code) } ≡ a
owner_back a = ap (λ n. record { code = n }) (owner_code a.code)

pub tip_back : (a : tip.Inside) → record { code = code_of_tip (tip_of a.code) } ≡ a
tip_back a = ap (λ n. record { code = n }) (tip_code a.code)
