-- Lemmas on the runs that the arcs of a graph ask for.
use Rattle.std.proofs.Common.{◌≡◌, ◌==◌, ◌+◌, ℕ, ℤ, List, [], ◌∷◌, ◌++◌, map, cond, Bool, true, false, refl, sym, ap, ap₂, ◌∙◌}
use Rattle.std.specs.List.{filter, flat_map, range_with_len}
use Rattle.std.proofs.lemmas.Bool.{eq-eqb, ne_eqb}
use Rattle.std.proofs.lemmas.List.{append_assoc, append-nil}
use Rattle.sgb_graph.specs.Graph.{GraphOf}
use Rattle.sgb_graph.specs.declared.spoke.Spoke.{Spoke}
use Rattle.sgb_graph.specs.Edit.{entry_at}
use Rattle.sgb_graph.specs.Paired.{walk}
use Rattle.sgb_graph.specs.Operand.{spoke_of, spokes}
use Rattle.sgb_induced.specs.declared.image.Image.{Image}
use Rattle.sgb_induced.specs.declared.run.Run.{Run}
use Rattle.sgb_induced.specs.Private.Run.{image_at, is_run, run_at, runs_at}
use Rattle.sgb_induced.proofs.Ranges.{flat_map_range_more}

-- a vertex without images asks for nothing
pub runs_skip : (directed : Bool) (g : GraphOf) (is : List Image) (v : ℕ) (i : Image) {rs : List Run} → i ≡ image_at is v → i.count ≡ 0 → rs ≡ flat_map (runs_at directed g is) (range_with_len 0 v) → rs ≡ flat_map (runs_at directed g is) (range_with_len 0 (v + 1))
unfolding runs_at
runs_skip directed g is v i found none so =
    let count : ((image_at is v).count == 0) ≡ true = ap (λ (j : Image). j.count == 0) (sym found) ∙ eq-eqb i.count 0 none in
    let here : runs_at directed g is v ≡ [] = rw count refl in
    so ∙ sym (flat_map_range_more (runs_at directed g is) v ∙ (ap (λ rs. flat_map (runs_at directed g is) (range_with_len 0 v) ++ rs) here ∙ append-nil (flat_map (runs_at directed g is) (range_with_len 0 v))))

pub runs_step : (directed : Bool) (g : GraphOf) (is : List Image) (v : ℕ) (i : Image) {rs ts : List Run} → i ≡ image_at is v → (i.count ≡ 0 → ⊥) → rs ≡ flat_map (runs_at directed g is) (range_with_len 0 v)
    → ts ≡ rs ++ map (run_at is v) (filter (is_run directed is v) (spokes directed g v)) → ts ≡ flat_map (runs_at directed g is) (range_with_len 0 (v + 1))
unfolding runs_at
runs_step directed g is v i {rs} {ts} found some so written =
    let count : ((image_at is v).count == 0) ≡ false = ap (λ (j : Image). j.count == 0) (sym found) ∙ ne_eqb i.count 0 some in
    let here : runs_at directed g is v ≡ map (run_at is v) (filter (is_run directed is v) (spokes directed g v)) = rw count refl in
    written ∙ (ap (λ ps. ps ++ map (run_at is v) (filter (is_run directed is v) (spokes directed g v))) so
    ∙ sym (flat_map_range_more (runs_at directed g is) v ∙ ap (λ ps. flat_map (runs_at directed g is) (range_with_len 0 v) ++ ps) here))

-- ---- the arcs of one vertex
-- the runs of the arcs of these numbers
abbrev runs_along : Bool → GraphOf → List Image → ℕ → List ℕ → List Run
runs_along directed g is v ks = map (run_at is v) (filter (is_run directed is v) (map (λ k. spoke_of (entry_at g k)) ks))

-- the runs that were written, and those of the numbers that are left, are all
pub record Appends (directed : Bool) (g : GraphOf) (is : List Image) (v : ℕ) (start now : List Run) (rest : List ℕ) : Type 0 where
  pub same : now ++ runs_along directed g is v rest ≡ start ++ map (run_at is v) (filter (is_run directed is v) (spokes directed g v))

pub appends_start : (directed : Bool) (g : GraphOf) (is : List Image) (v : ℕ) (start : List Run) {rest : List ℕ} → rest ≡ walk directed g v → Appends directed g is v start start rest
unfolding spokes
appends_start directed g is v start begins = record { same = ap (λ ks. start ++ runs_along directed g is v ks) begins }

pub appends_skip : {directed : Bool} {g : GraphOf} {is : List Image} {v k : ℕ} {start now : List Run} {rest after : List ℕ} (s : Spoke) → rest ≡ k ∷ after → s ≡ spoke_of (entry_at g k) → is_run directed is v s ≡ false
    → Appends directed g is v start now rest → Appends directed g is v start now after
appends_skip {directed} {g} {is} {v} {k} {start} {now} {rest} {after} s steps read fails left =
    let others = filter (is_run directed is v) (map (λ j. spoke_of (entry_at g j)) after) in
    let here : is_run directed is v (spoke_of (entry_at g k)) ≡ false = ap (is_run directed is v) (sym read) ∙ fails in
    record {
      same = ap (λ b. now ++ map (run_at is v) (cond b (spoke_of (entry_at g k) ∷ others) others)) (sym here)
          ∙ (ap (λ ks. now ++ runs_along directed g is v ks) (sym steps) ∙ left.same);
    }

pub appends_one : {directed : Bool} {g : GraphOf} {is : List Image} {v k : ℕ} {start now new : List Run} {rest after : List ℕ} (s : Spoke) → rest ≡ k ∷ after → s ≡ spoke_of (entry_at g k) → is_run directed is v s ≡ true
    → new ≡ now ++ run_at is v s ∷ [] → Appends directed g is v start now rest → Appends directed g is v start new after
appends_one {directed} {g} {is} {v} {k} {start} {now} {new} {rest} {after} s steps read passes made left =
    let others = filter (is_run directed is v) (map (λ j. spoke_of (entry_at g j)) after) in
    let here : is_run directed is v (spoke_of (entry_at g k)) ≡ true = ap (is_run directed is v) (sym read) ∙ passes in
    record {
      same = ap (λ rs. rs ++ map (run_at is v) others) made
          ∙ (append_assoc now (run_at is v s ∷ []) (map (run_at is v) others)
          ∙ (ap (λ t. now ++ run_at is v t ∷ map (run_at is v) others) read
          ∙ (ap (λ b. now ++ map (run_at is v) (cond b (spoke_of (entry_at g k) ∷ others) others)) (sym here)
          ∙ (ap (λ ks. now ++ runs_along directed g is v ks) (sym steps) ∙ left.same))));
    }

pub run_is : (is : List Image) (v : ℕ) (s : Spoke) (i j : Image) {len : ℤ} → i ≡ image_at is v → j ≡ image_at is s.to → len ≡ s.len → ◌≡◌ {A = Run} (record { from = i.leader; to = j.leader; len = len }) (run_at is v s)
run_is is v s i j {len} from to same =
    ap₂ {A = Image} {B = Image} {C = Run} (λ a b. record { from = a.leader; to = b.leader; len = len }) from to
    ∙ ap {A = ℤ} {B = Run} (λ l. record { from = (image_at is v).leader; to = (image_at is s.to).leader; len = l }) same
