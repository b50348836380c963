-- Lemmas on where the edges or arcs of a vertex lead, as a loop passes over its list.
use Rattle.std.proofs.Common.{◌≡◌, ◌≤◌, ◌<◌, ◌||◌, nat_le, ℕ, List, [], ◌∷◌, ◌++◌, length, map, All, Bool, true, false, refl, sym, ap, ◌∙◌, arith, append_assoc}
use Rattle.std.specs.List.{filter}
use Rattle.std.proofs.lemmas.List.{length-map}
use Rattle.std.proofs.lemmas.List.Elements.{All-map, All-filter}
use Rattle.std.proofs.lemmas.List.Sums.{length-filter, count_by-le-length}
use Rattle.sgb_graph.specs.declared.spoke.Spoke.{Spoke}
use Rattle.sgb_graph.specs.Graph.{GraphOf, IsGraph, n_of}
use Rattle.sgb_graph.specs.Edit.{entry_at}
use Rattle.sgb_graph.specs.Operand.{spoke_of}
use Rattle.sgb_graph.specs.Paired.{walk}
use Rattle.sgb_graph.proofs.Spokes.{entry_within}
use Rattle.sgb_export.specs.Links.{link, is_written, links_at}
use Rattle.sgb_info.specs.Repeats.{tips}

-- where those of the numbers lead that are written
abbrev pub tips_of : Bool → GraphOf → ℕ → List ℕ → List ℕ
tips_of directed g v ks = map (λ l. l.to) (filter (is_written directed) (map (link g v) ks))

pub tips_start : (directed : Bool) (g : GraphOf) (v : ℕ) (ks : List ℕ) → ks ≡ walk directed g v → tips_of directed g v ks ≡ tips directed g v
unfolding tips links_at
tips_start directed g v ks is = ap (tips_of directed g v) is

module _ (directed : Bool) (g : GraphOf) (v k : ℕ) (ks after : List ℕ) (s : Spoke) (steps : ks ≡ k ∷ after) (is : s ≡ spoke_of (entry_at g k)) where
  pub tips_skip : (directed || nat_le v s.to) ≡ false → tips_of directed g v ks ≡ tips_of directed g v after
  tips_skip other =
      let here : is_written directed (link g v k) ≡ false = ap (λ (t : Spoke). directed || nat_le v t.to) (sym is) ∙ other in
      ap (tips_of directed g v) steps ∙ rw here refl

  pub tips_one : (directed || nat_le v s.to) ≡ true → tips_of directed g v ks ≡ s.to ∷ tips_of directed g v after
  tips_one so =
      let here : is_written directed (link g v k) ≡ true = ap (λ (t : Spoke). directed || nat_le v t.to) (sym is) ∙ so in
      let first : tips_of directed g v (k ∷ after) ≡ (spoke_of (entry_at g k)).to ∷ tips_of directed g v after = rw here refl in
      ap (tips_of directed g v) steps ∙ (first ∙ ap (λ (t : Spoke). t.to ∷ tips_of directed g v after) (sym is))

-- one more is read
pub read_one : (into new all rest after : List ℕ) (t : ℕ) → into ++ rest ≡ all → rest ≡ t ∷ after → new ≡ into ++ t ∷ [] → new ++ after ≡ all
read_one into new all rest after t before one pushed =
    ap (λ ts. ts ++ after) pushed ∙ (append_assoc into (t ∷ []) after ∙ (ap (λ ts. into ++ ts) (sym one) ∙ before))

pub tips_few : (directed : Bool) (g : GraphOf) (v : ℕ) (ks : List ℕ) → ks ≡ walk directed g v → length (tips directed g v) ≤ length ks
tips_few directed g v ks is =
    let ls = map (link g v) ks in
    let kept = length-filter (is_written directed) ls in
    let less = count_by-le-length (is_written directed) ls in
    omega (arith, sym (ap length (tips_start directed g v ks is)), length-map (filter (is_written directed) ls) (λ l. l.to), kept, less, length-map ks (link g v))

pub tips_within : (directed : Bool) (g : GraphOf) (v : ℕ) → IsGraph g → v < n_of g → All (λ t. t < n_of g) (tips directed g v)
unfolding tips links_at
tips_within directed g v sound within =
    All-map (λ t. t < n_of g) (λ l. l.to) (links_at directed g v)
    (All-filter (is_written directed) (λ l. l.to < n_of g) (map (link g v) (walk directed g v))
    (All-map (λ l. l.to < n_of g) (link g v) (walk directed g v) (λ i d low. entry_within g _ sound (omega arith))))
