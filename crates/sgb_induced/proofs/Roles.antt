-- Lemmas on what becomes of the vertices of a graph, as a loop reads it.
use Rattle.std.proofs.Common.{◌≡◌, ◌<◌, ◌+◌, ℕ, List, [], ◌∷◌, ◌++◌, get_or, length, map, Some, None, Bool, true, false, ◌&&◌, refl, sym, ap, ap₂, ◌∙◌, arith}
use Rattle.std.specs.List.{range_with_len}
use Rattle.std.proofs.lemmas.List.{get_or_default}
use Rattle.std.proofs.lemmas.List.FromFn.{map-range_with_len_more}
use Rattle.sgb_graph.specs.declared.field.Util.{Util}
use Rattle.sgb_graph.specs.declared.field.Util.TheVariants.{Zero}
use Rattle.sgb_graph.specs.declared.refusal.Refusal.TheVariants.{BadOperand}
use Rattle.sgb_graph.specs.Edit.{refusal_unless}
use Rattle.sgb_graph.specs.Graph.{GraphOf, vertex_at}
use Rattle.sgb_induced.specs.Fate.{have_fates, fates_of, z_of}
use Rattle.sgb_induced.specs.Image.{have_names}
use Rattle.sgb_induced.specs.Induced.{refusal_of_fates}
use Rattle.sgb_induced.proofs.Ranges.{and_false}

-- the value that was read is that of the field z
pub z_read : (g : GraphOf) (v : ℕ) (fields : List Util) (d : Util) {place : ℕ} → fields ≡ (vertex_at g v).fields → place ≡ 5 → place < length fields → get_or fields place d ≡ z_of g v
z_read g v fields d {place} whose at within =
    get_or_default fields place d Zero within ∙ ap₂ (λ fs k. get_or fs k Zero) whose at

pub map_range_push : {X : Type 0} (f : ℕ → X) (v : ℕ) (x : X) {xs ys : List X} → xs ≡ map f (range_with_len 0 v) → ys ≡ xs ++ x ∷ [] → x ≡ f v → ys ≡ map f (range_with_len 0 (v + 1))
map_range_push f v x so pushed is =
    pushed ∙ (ap (λ ps. ps ++ x ∷ []) so ∙ (ap (λ p. map f (range_with_len 0 v) ++ p ∷ []) is ∙ sym (map-range_with_len_more f 0 v v (omega arith))))

-- ---- their refusal
pub fates_refused : (g : GraphOf) → have_fates g ≡ false → refusal_of_fates g ≡ Some BadOperand
fates_refused g is = rw is refl

pub names_refused : (g : GraphOf) → have_names g (fates_of g) ≡ false → refusal_of_fates g ≡ Some BadOperand
names_refused g is = rw (is, and_false (have_fates g)) refl

none_fails : (a b : Bool) → refusal_unless (a && b) BadOperand None ≡ None → b ≡ true
none_fails a true is = refl
none_fails true false is = absurd cc
none_fails false false is = absurd cc

pub names_kept : (g : GraphOf) → refusal_of_fates g ≡ None → have_names g (fates_of g) ≡ true
names_kept g = none_fails (have_fates g) (have_names g (fates_of g))
