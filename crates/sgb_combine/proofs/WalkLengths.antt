-- Lengths that are drawn along a walk, and along all of them.
use Rattle.std.proofs.Common.{◌≡◌, ◌<◌, ◌≤◌, ◌+◌, ◌*◌, ℕ, ℤ, List, ◌∷◌, length, filter, Bool, true, false, All, IsSome, None, sym, ap, subst, ◌∙◌, refl, arith}
use Rattle.std.proofs.lemmas.List.{length-append}
use Rattle.std.proofs.lemmas.List.Elements.{All-tail}
use Rattle.std.proofs.lemmas.List.Sums.{fold-append}
use Rattle.sgb_flip.specs.Generator.{Generator, IsGenerator, after}
use Rattle.sgb_graph.specs.Graph.{GraphOf, IsGraph, n_of, made_of, arc_at}
use Rattle.sgb_graph.specs.Paired.{walk}
use Rattle.sgb_plan.specs.Length.{drawn_length}
use Rattle.sgb_combine.specs.Drawing.{Draws, drawing, drawing_at, is_drawing, drawn, chosen_lengths}
use Rattle.sgb_combine.specs.Lengths.{refusal_of_arcs, with_lengths}
use Rattle.sgb_combine.specs.Private.Table.{written, with_draw, drawn_over}
use Rattle.sgb_combine.proofs.DrawCounts.{few_draw}
use Rattle.sgb_combine.proofs.Drawn.{drawn_moved}
use Rattle.sgb_combine.proofs.DrawingArcs.{drawing_before, drawing_more}
use Rattle.sgb_combine.proofs.Tables.{Told, told_graph, lengths_same}

-- ---- one walk
-- those of v that draw are to do so from the start on; some of them have, and `rest` is still to be looked at
pub record Walked (directed : Bool) (min max : ℤ) (g : GraphOf) (v : ℕ) (start now : Draws) (rest : List ℕ) : Type 0 where
  pub table : drawn_over directed min max now (filter (is_drawing directed g v) rest) ≡ drawn_over directed min max start (drawing_at directed g v)
  pub few : now.draws + 1814 * length (filter (is_drawing directed g v) rest) ≤ start.draws + 1814 * length (drawing_at directed g v)
  pub generator : IsGenerator now.rest
  pub live : All (λ k. IsSome (arc_at g k)) rest

pub walked_start : {directed : Bool} {min max : ℤ} {g : GraphOf} {v : ℕ} {start : Draws} {rest : List ℕ} → rest ≡ walk directed g v → IsGenerator start.rest → All (λ k. IsSome (arc_at g k)) rest → Walked directed min max g v start start rest
unfolding drawing_at
walked_start {directed} {min} {max} {g} {v} {start} {rest} is generator live =
    let same = ap (filter (is_drawing directed g v)) is in
    record { table = ap (drawn_over directed min max start) same; few = omega (arith, ap length same); generator = generator; live = live }

live_on : (g : GraphOf) {rest on : List ℕ} {k : ℕ} → rest ≡ k ∷ on → All (λ j. IsSome (arc_at g j)) rest → All (λ j. IsSome (arc_at g j)) on
live_on g {rest} {on} {k} steps live =
    All-tail (λ j. IsSome (arc_at g j)) k on (subst (All (λ j. IsSome (arc_at g j))) steps live)

pub walked_skip : {directed : Bool} {min max : ℤ} {g : GraphOf} {v k : ℕ} {start now : Draws} {rest on : List ℕ} → rest ≡ k ∷ on → is_drawing directed g v k ≡ false → Walked directed min max g v start now rest → Walked directed min max g v start now on
walked_skip {directed} {min} {max} {g} {v} {k} {start} {now} {rest} {on} steps fails x =
    let p : ℕ → Bool = is_drawing directed g v in
    let here : filter p (k ∷ on) ≡ filter p on = rw fails refl in
    let same : filter p rest ≡ filter p on = ap (filter p) steps ∙ here in
    record {
      table = ap (drawn_over directed min max now) (sym same) ∙ x.table;
      few = let few = x.few in omega (arith, few, ap length same);
      generator = x.generator;
      live = live_on g steps x.live;
    }

drawing_here : (p : ℕ → Bool) {k : ℕ} {rest on : List ℕ} → rest ≡ k ∷ on → p k ≡ true → filter p rest ≡ k ∷ filter p on
drawing_here p {k} {rest} {on} steps passes =
    let here : filter p (k ∷ on) ≡ k ∷ filter p on = rw passes refl in
    ap (filter p) steps ∙ here

pub walked_draw : {directed : Bool} {min max : ℤ} {g : GraphOf} {v k : ℕ} {start now new : Draws} {rest on : List ℕ} → rest ≡ k ∷ on → is_drawing directed g v k ≡ true → Walked directed min max g v start now rest
    → new ≡ with_draw directed min max now k → new.draws ≤ now.draws + 1814 → IsGenerator new.rest → Walked directed min max g v start new on
walked_draw {directed} {min} {max} {g} {v} {k} {start} {now} {new} {rest} {on} steps passes x is few generator =
    let left : List ℕ = filter (is_drawing directed g v) on in
    let same = drawing_here (is_drawing directed g v) steps passes in
    record {
      table = ap (λ t. drawn_over directed min max t left) is ∙ (ap (drawn_over directed min max now) (sym same) ∙ x.table);
      few = let before = x.few in omega (arith, before, few, ap length same);
      generator = generator;
      live = live_on g steps x.live;
    }

-- one draw, told by its parts
pub draw_is : (directed : Bool) (min max : ℤ) (lens : List ℤ) (draws k : ℕ) (now : Generator) {lens' : List ℤ} {more : ℕ} {len : ℤ} {new : Generator} → lens' ≡ written directed lens k len
    → len ≡ (drawn_length min max now).len → more ≡ (drawn_length min max now).draws → new ≡ (drawn_length min max now).rest
    → record { lens = lens'; draws = draws + more; rest = new } ≡ with_draw directed min max (record { lens = lens; draws = draws; rest = now }) k
unfolding with_draw
draw_is directed min max lens draws k now {lens'} {more} {len} {new} stored is count rest =
    let d = drawn_length min max now in
    let table : List ℤ → ℕ → Generator → Draws = λ ls n w. record { lens = ls; draws = draws + n; rest = w } in
    ap (λ ls. table ls more new) (stored ∙ ap (written directed lens k) is)
    ∙ (ap (λ n. table (written directed lens k d.len) n new) count ∙ ap (table (written directed lens k d.len) d.draws) rest)

-- ---- all walks
-- the arcs of the vertices before v have drawn
pub record Over (directed : Bool) (min max : ℤ) (g : GraphOf) (start now : Draws) (v : ℕ) : Type 0 where
  pub table : now ≡ drawn_over directed min max start (drawing_before directed g v)
  pub few : now.draws ≤ start.draws + 1814 * length (drawing_before directed g v)
  pub generator : IsGenerator now.rest

longer : (directed : Bool) (g : GraphOf) (v : ℕ) → length (drawing_before directed g v) + length (drawing_at directed g v) ≡ length (drawing_before directed g (v + 1))
longer directed g v =
    sym (length-append (drawing_before directed g v) (drawing_at directed g v)) ∙ ap length (drawing_more directed g v)

pub over_room : {directed : Bool} {min max : ℤ} {g : GraphOf} {start now : Draws} {v : ℕ} → IsGraph g → v < n_of g → start.draws ≡ 0 → Over directed min max g start now v
    → now.draws + 1814 * length (drawing_at directed g v) ≤ 1814000000
over_room {directed} {min} {max} {g} {start} {now} {v} sound low none x =
    let few = x.few in
    let most = few_draw directed g (v + 1) (omega (arith, low)) sound in
    let made = sound.few_arcs in
    omega (arith, few, none, most, made, longer directed g v)

pub over_more : {directed : Bool} {min max : ℤ} {g : GraphOf} {start now new : Draws} {v : ℕ} → Over directed min max g start now v
    → new ≡ drawn_over directed min max now (drawing_at directed g v) → new.draws ≤ now.draws + 1814 * length (drawing_at directed g v) → IsGenerator new.rest → Over directed min max g start new (v + 1)
over_more {directed} {min} {max} {g} {start} {now} {new} {v} x is few generator =
    let over : Draws → List ℕ → Draws = drawn_over directed min max in
    record {
      table = is ∙ (ap (λ t. over t (drawing_at directed g v)) x.table
          ∙ (sym (fold-append (with_draw directed min max) start (drawing_before directed g v) (drawing_at directed g v)) ∙ ap (over start) (drawing_more directed g v)));
      few = let before = x.few in omega (arith, before, few, longer directed g v);
      generator = generator;
    }

-- what all of them have drawn
pub record AllDrawn (directed : Bool) (min max : ℤ) (g : GraphOf) (w : Generator) (t : Draws) : Type 0 where
  pub lengths : with_lengths g t.lens ≡ with_lengths g (chosen_lengths directed (drawing directed g) (drawn min max w (length (drawing directed g))).lens (made_of g))
  pub count : length t.lens ≡ made_of g
  pub draws : t.draws ≡ (drawn min max w (length (drawing directed g))).draws
  pub rest : t.rest ≡ after w t.draws
  pub few : t.draws ≤ 1814000000

pub over_all : {directed : Bool} {min max : ℤ} {g : GraphOf} {now : Draws} {v : ℕ} (w : Generator) (olds : List ℤ) → v ≡ n_of g → IsGraph g → IsGenerator w → refusal_of_arcs directed g ≡ None → length olds ≡ made_of g
    → Over directed min max g (record { lens = olds; draws = 0; rest = w }) now v → AllDrawn directed min max g w now
unfolding drawing
over_all {directed} {min} {max} {g} {now} {v} w olds all sound generator whole count x =
    let ks : List ℕ = drawing directed g in
    let start : Draws = record { lens = olds; draws = 0; rest = w } in
    let same : now ≡ drawn_over directed min max start ks = x.table ∙ ap (λ n. drawn_over directed min max start (drawing_before directed g n)) all in
    let told : Told directed min max w (made_of g) ks now = subst (Told directed min max w (made_of g) ks) (sym same) (told_graph directed min max w g olds sound whole count) in
    let few = x.few in
    let most = few_draw directed g v (omega (arith, all)) sound in
    let made = sound.few_arcs in
    record {
      lengths = lengths_same directed min max w g now sound whole told;
      count = told.long;
      draws = told.count;
      rest = told.rest ∙ (drawn_moved min max w (length ks) generator ∙ ap (after w) (sym told.count));
      few = omega (arith, few, most, made);
    }
