-- Lemmas on second halves, and on the other half of an arc.
use Rattle.std.proofs.Common.{◌≡◌, ◌≢◌, ◌<◌, ◌≤◌, ◌+◌, ◌-◌, ℕ, suc, List, [], ◌∷◌, length, get_or, map, Option, Some, None, is_some, Bool, true, false, ◌&&◌, not, ◌==◌, nat_lt, nat_le, cond, ◌⊎◌, inl, inr, refl, sym, ap, subst, ◌∙◌, arith, zero-add}
use Rattle.std.specs.Bool.{Decides}
use Rattle.std.specs.List.{list_all, filter, range_with_len}
use Rattle.std.proofs.lemmas.Bool.{cases_Bool, and_parts, and_from, eqb-true, eq-eqb, ne_eqb, lt-ltb, le-ltb, leb-true, le-leb, cases_lt, cases_eq}
use Rattle.sgb_graph.proofs.SameRows.{and_no}
use Rattle.sgb_graph.specs.declared.field.Tip.{Tip}
use Rattle.sgb_graph.specs.declared.field.Tip.TheVariants.{Zero, One, To}
use Rattle.sgb_graph.specs.Graph.{GraphOf, ArcOf, n_of, made_of, arcs_of, arc_at, has_arc}
use Rattle.sgb_graph.specs.Edit.{owner_of, entry_at, arc_or, no_arc}
use Rattle.sgb_graph.specs.Read.{entry_view}
use Rattle.sgb_graph.specs.Paired.{goes, is_vertex, leads_from, is_loop, is_loop_pair, without_halves, is_half, without_half_places, walk, are_loops_paired, is_tip_matched, is_view_matched, is_matched, is_paired, GoesTo, HasHalves}
use Rattle.sgb_graph.proofs.Graphs.{made_of_live, no_arcs_past}
use Rattle.sgb_graph.proofs.TakeOut.{some_entry}
use Rattle.sgb_graph.proofs.PairedLemmas.{below_all, range_all}

-- the next place, told from this one
half_next : (g : GraphOf) (v : ℕ) (ks : List ℕ) (i : ℕ) → is_half g v ks (i + 1) ≡ (is_loop_pair g v (get_or ks i 0) (get_or ks (i + 1) 0) && not (is_half g v ks i))
unfolding is_half
half_next g v ks i =
    let more : i + 1 ≡ suc i = omega arith in
    ap (is_half g v ks) more ∙ ap (λ n. is_loop_pair g v (get_or ks i 0) (get_or ks n 0) && not (is_half g v ks i)) (sym more)

half_first : (g : GraphOf) (v : ℕ) (ks : List ℕ) → is_half g v ks 0 ≡ false
unfolding is_half
half_first g v ks = refl

and_true : (b : Bool) → (b && true) ≡ b
and_true true = refl
and_true false = refl

-- behind a place that is no second half, and behind one that is
half_after : (g : GraphOf) (v : ℕ) (ks : List ℕ) (i j k : ℕ) (b : Bool) → get_or ks i 0 ≡ j → get_or ks (i + 1) 0 ≡ k → is_half g v ks i ≡ false → is_loop_pair g v j k ≡ b → is_half g v ks (i + 1) ≡ b
half_after g v ks i j k b here next none pair =
    let is : is_loop_pair g v (get_or ks i 0) (get_or ks (i + 1) 0) ≡ b =
    ap (λ x. is_loop_pair g v x (get_or ks (i + 1) 0)) here ∙ (ap (λ x. is_loop_pair g v j x) next ∙ pair) in
    half_next g v ks i ∙ (ap (λ x. x && not (is_half g v ks i)) is ∙ (ap (λ h. b && not h) none ∙ and_true b))

half_over : (g : GraphOf) (v : ℕ) (ks : List ℕ) (i : ℕ) → is_half g v ks i ≡ true → is_half g v ks (i + 1) ≡ false
half_over g v ks i half =
    let pair = is_loop_pair g v (get_or ks i 0) (get_or ks (i + 1) 0) in
    half_next g v ks i ∙ (ap (λ h. pair && not h) half ∙ and_no pair)

-- the rest of a list stands in it from place i on
abbrev pub StandsAt : List ℕ → ℕ → List ℕ → Type 0
StandsAt all i rest = (m : ℕ) → m < length rest → get_or all (i + m) 0 ≡ get_or rest m 0

stands_all : (ks : List ℕ) → StandsAt ks 0 ks
stands_all ks m h = ap (λ n. get_or ks n 0) (zero-add m)

pub stands_first : (all : List ℕ) (i j : ℕ) (ks : List ℕ) → StandsAt all i (j ∷ ks) → get_or all i 0 ≡ j
stands_first all i j ks at = let here : i + 0 ≡ i = omega arith in subst (λ n. get_or all n 0 ≡ j) here (at 0 (omega arith))

pub stands_rest : (all : List ℕ) (i j : ℕ) (ks : List ℕ) → StandsAt all i (j ∷ ks) → StandsAt all (i + 1) ks
stands_rest all i j ks at m h =
    let there : i + suc m ≡ i + 1 + m = omega arith in
    subst (λ n. get_or all n 0 ≡ get_or ks m 0) there (at (suc m) (omega arith))

-- the places from i on that are no second half
abbrev left_places : GraphOf → ℕ → List ℕ → List ℕ → List ℕ
left_places g v all places = map (λ j. get_or all j 0) (filter (λ j. not (is_half g v all j)) places)

place_kept : (g : GraphOf) (v : ℕ) (all : List ℕ) (i j : ℕ) (places : List ℕ) → get_or all i 0 ≡ j → is_half g v all i ≡ false → left_places g v all (i ∷ places) ≡ j ∷ left_places g v all places
place_kept g v all i j places here none =
    let kept : List ℕ = filter (λ x. not (is_half g v all x)) places in
    ap (λ b. map (λ x. get_or all x 0) (cond (not b) (i ∷ kept) kept)) none ∙ ap (λ x. x ∷ left_places g v all places) here

place_left : (g : GraphOf) (v : ℕ) (all : List ℕ) (i : ℕ) (places : List ℕ) → is_half g v all i ≡ true → left_places g v all (i ∷ places) ≡ left_places g v all places
place_left g v all i places half =
    let kept : List ℕ = filter (λ x. not (is_half g v all x)) places in
    ap (λ b. map (λ x. get_or all x 0) (cond (not b) (i ∷ kept) kept)) half

halves_at : (g : GraphOf) (v : ℕ) (all rest : List ℕ) (i : ℕ) → StandsAt all i rest → is_half g v all i ≡ false → without_halves g v rest ≡ left_places g v all (range_with_len i (length rest))
unfolding without_halves
halves_at g v all [] i at none = refl
halves_at g v all (j ∷ []) i at none = sym (place_kept g v all i j [] (stands_first all i j [] at) none)
halves_at g v all (j ∷ (k ∷ ks)) i at none =
    let here = stands_first all i j (k ∷ ks) at in
    let at' = stands_rest all i j (k ∷ ks) at in
    let next = stands_first all (i + 1) k ks at' in
    let split : Bool → List ℕ = λ b. cond b (j ∷ without_halves g v ks) (j ∷ without_halves g v (k ∷ ks)) in
    let first = place_kept g v all i j (range_with_len (i + 1) (length (k ∷ ks))) here none in
    elim (cases_Bool (is_loop_pair g v j k)) [
      | inl pair ↦
          let half : is_half g v all (i + 1) ≡ true = half_after g v all i j k true here next none pair in
          ap split pair
          ∙ (ap (λ l. j ∷ l) (halves_at g v all ks (i + 1 + 1) (stands_rest all (i + 1) k ks at') (half_over g v all (i + 1) half) ∙ sym (place_left g v all (i + 1) (range_with_len (i + 1 + 1) (length ks)) half))
          ∙ sym first)
      | inr single ↦
          let whole : is_half g v all (i + 1) ≡ false = half_after g v all i j k false here next none single in
          ap split single ∙ (ap (λ l. j ∷ l) (halves_at g v all (k ∷ ks) (i + 1) at' whole) ∙ sym first)
    ]

pub walk_undirected : (g : GraphOf) (v : ℕ) → walk false g v ≡ without_half_places g v (arcs_of g v)
walk_undirected g v =
    let ks = arcs_of g v in
    halves_at g v ks ks 0 (stands_all ks) (half_first g v ks)

-- a loop is a second half, or the place behind it has one
abbrev HasHalf : GraphOf → ℕ → List ℕ → ℕ → Type 0
HasHalf g v all i = (is_half g v all i ≡ true) ⊎ ((i + 1 < length all) × (is_half g v all (i + 1) ≡ true))

loops_at : (g : GraphOf) (v : ℕ) (all rest : List ℕ) (i : ℕ) → StandsAt all i rest → length all ≡ i + length rest → is_half g v all i ≡ false → are_loops_paired g v rest ≡ true
    → (n : ℕ) → i ≤ n → n < length all → is_loop g v (get_or all n 0) ≡ true → HasHalf g v all n
unfolding are_loops_paired
loops_at g v all [] i at end none paired n low high loop = absurd (omega (arith, end))
loops_at g v all (j ∷ []) i at end none paired n low high loop =
    let here : n ≡ i = omega (arith, end) in
    let yes' : is_loop g v j ≡ true = ap (is_loop g v) (sym (ap (λ m. get_or all m 0) here ∙ stands_first all i j [] at)) ∙ loop in
    absurd (let not' : not (is_loop g v j) ≡ false = ap not yes' in cc)
loops_at g v all (j ∷ (k ∷ ks)) i at end none paired n low high loop =
    let here = stands_first all i j (k ∷ ks) at in
    let at' = stands_rest all i j (k ∷ ks) at in
    let next = stands_first all (i + 1) k ks at' in
    let split : Bool → Bool = λ b. cond b (are_loops_paired g v ks) (not (is_loop g v j) && are_loops_paired g v (k ∷ ks)) in
    elim (cases_Bool (is_loop_pair g v j k)) [
      | inl pair ↦
          let half : is_half g v all (i + 1) ≡ true = half_after g v all i j k true here next none pair in
          let paired' : are_loops_paired g v ks ≡ true = sym (ap split pair) ∙ paired in
          elim (cases_eq n i) [
            | inl first ↦ subst (HasHalf g v all) (sym first) (inr (omega (arith, end), half))
            | inr other ↦ elim (cases_eq n (i + 1)) [
              | inl second ↦ subst (HasHalf g v all) (sym second) (inl half)
              | inr later ↦
                  let ne : n ≢ i = other in
                  let ne' : n ≢ i + 1 = later in
                  loops_at g v all ks (i + 1 + 1) (stands_rest all (i + 1) k ks at') (omega (arith, end)) (half_over g v all (i + 1) half) paired' n (omega arith) high loop
            ]
          ]
      | inr single ↦
          let whole : is_half g v all (i + 1) ≡ false = half_after g v all i j k false here next none single in
          let p = and_parts (not (is_loop g v j)) (are_loops_paired g v (k ∷ ks)) (sym (ap split single) ∙ paired) in
          elim (cases_eq n i) [
            | inl first ↦
                let yes' : is_loop g v j ≡ true = ap (is_loop g v) (sym (ap (λ m. get_or all m 0) first ∙ here)) ∙ loop in
                absurd (let not' : not (is_loop g v j) ≡ false = ap not yes' in let p0 = p.0 in cc)
            | inr other ↦
                let ne : n ≢ i = other in
                loops_at g v all (k ∷ ks) (i + 1) at' (omega (arith, end)) whole p.1 n (omega arith) high loop
          ]
    ]

-- where neither the place nor the one behind it is a second half, no loop stands
no_loop : (g : GraphOf) (v : ℕ) (all : List ℕ) (i j : ℕ) → get_or all i 0 ≡ j → is_half g v all i ≡ false → (i + 1 < length all → is_half g v all (i + 1) ≡ false)
    → (is_loop g v (get_or all i 0) ≡ true → HasHalf g v all i) → not (is_loop g v j) ≡ true
no_loop g v all i j here none behind has =
    elim (cases_Bool (is_loop g v j)) [
      | inl loop ↦ elim (has (ap (is_loop g v) here ∙ loop)) [
        | inl half ↦ absurd (let bad : true ≡ false = sym half ∙ none in cc)
        | inr p ↦ absurd (let bad : true ≡ false = sym p.1 ∙ behind p.0 in cc)
      ]
      | inr not' ↦ ap not not'
    ]

loops_from : (g : GraphOf) (v : ℕ) (all rest : List ℕ) (i : ℕ) → StandsAt all i rest → length all ≡ i + length rest → is_half g v all i ≡ false
    → ((n : ℕ) → n < length all → is_loop g v (get_or all n 0) ≡ true → HasHalf g v all n) → are_loops_paired g v rest ≡ true
unfolding are_loops_paired
loops_from g v all [] i at end none has = refl
loops_from g v all (j ∷ []) i at end none has =
    no_loop g v all i j (stands_first all i j [] at) none (λ h. absurd (omega (arith, h, end))) (has i (omega (arith, end)))
loops_from g v all (j ∷ (k ∷ ks)) i at end none has =
    let here = stands_first all i j (k ∷ ks) at in
    let at' = stands_rest all i j (k ∷ ks) at in
    let next = stands_first all (i + 1) k ks at' in
    let split : Bool → Bool = λ b. cond b (are_loops_paired g v ks) (not (is_loop g v j) && are_loops_paired g v (k ∷ ks)) in
    elim (cases_Bool (is_loop_pair g v j k)) [
      | inl pair ↦
          let half : is_half g v all (i + 1) ≡ true = half_after g v all i j k true here next none pair in
          ap split pair ∙ loops_from g v all ks (i + 1 + 1) (stands_rest all (i + 1) k ks at') (omega (arith, end)) (half_over g v all (i + 1) half) has
      | inr single ↦
          let whole : is_half g v all (i + 1) ≡ false = half_after g v all i j k false here next none single in
          ap split single
          ∙ and_from (not (is_loop g v j)) (are_loops_paired g v (k ∷ ks)) (no_loop g v all i j here none (λ h. whole) (has i (omega (arith, end))))
          (loops_from g v all (k ∷ ks) (i + 1) at' (omega (arith, end)) whole has)
    ]

-- an arc that lives, with its owner and its tip
vertex_tip : (v : ℕ) (t : Tip) → is_vertex v t ≡ true → t ≡ To (record { 0 = v })
vertex_tip v Zero h = absurd cc
vertex_tip v One h = absurd cc
vertex_tip v (To w) h = ap (λ x. To (record { 0 = x })) (eqb-true w.0 v h)

goes_then : (g : GraphOf) (k u v : ℕ) (o : Option ArcOf) → arc_at g k ≡ o → goes u v (entry_view (owner_of g k) o) ≡ true → GoesTo g k u v
goes_then g k u v None is h = absurd cc
goes_then g k u v (Some e) is h =
    let p = and_parts (owner_of g k == u) (is_vertex v e.tip) h in
    record {
      live = ap is_some is;
      owner = eqb-true (owner_of g k) u p.0;
      tip = ap (λ x. (arc_or no_arc x).tip) is ∙ vertex_tip v e.tip p.1;
    }

pub leads_goes : (g : GraphOf) (k u v : ℕ) → leads_from g k u v ≡ true → GoesTo g k u v
unfolding leads_from
leads_goes g k u v h = goes_then g k u v (arc_at g k) refl h

goes_leads : (g : GraphOf) (k u v : ℕ) → GoesTo g k u v → leads_from g k u v ≡ true
unfolding leads_from
goes_leads g k u v x =
    let e = entry_at g k in
    ap (λ o. goes u v (entry_view (owner_of g k) o)) (some_entry (arc_at g k) x.live)
    ∙ (ap (λ b. b && is_vertex v e.tip) (eq-eqb (owner_of g k) u x.owner)
    ∙ (ap (is_vertex v) x.tip ∙ eq-eqb v v refl))

-- what each test of a paired graph says of one arc
matched : (g : GraphOf) (k : ℕ) → is_paired g ≡ true → has_arc g k ≡ true → is_tip_matched g k (owner_of g k) (entry_at g k).tip ≡ true
unfolding is_matched
matched g k paired live =
    let p = and_parts (list_all (is_matched g) (range_with_len 0 (made_of g))) (list_all (λ v. are_loops_paired g v (arcs_of g v)) (range_with_len 0 (n_of g))) paired in
    let at : is_matched g k ≡ true = below_all (is_matched g) (made_of g) k p.0 (made_of_live g k live) in
    ap (λ o. is_view_matched g k (entry_view (owner_of g k) o)) (sym (some_entry (arc_at g k) live)) ∙ at

matched_to : (g : GraphOf) (k u v : ℕ) → is_paired g ≡ true → GoesTo g k u v → is_tip_matched g k u (To (record { 0 = v })) ≡ true
matched_to g k u v paired x =
    ap (is_tip_matched g k u) (sym x.tip) ∙ (ap (λ o. is_tip_matched g k o (entry_at g k).tip) (sym x.owner) ∙ matched g k paired x.live)

tip_there : (g : GraphOf) (k u : ℕ) (t : Tip) → is_tip_matched g k u t ≡ true → (v : ℕ) × (t ≡ To (record { 0 = v }))
tip_there g k u Zero h = absurd cc
tip_there g k u One h = absurd cc
tip_there g k u (To w) h = (w.0, refl)

pub pair_tip : (g : GraphOf) (k : ℕ) → is_paired g ≡ true → has_arc g k ≡ true → (v : ℕ) × GoesTo g k (owner_of g k) v
pair_tip g k paired live =
    let t = tip_there g k (owner_of g k) (entry_at g k).tip (matched g k paired live) in
    (t.0, record { live = live; owner = refl; tip = t.1 })

pub pair_down : (g : GraphOf) (k u v : ℕ) → is_paired g ≡ true → GoesTo g k u v → v < u → (1 ≤ k) × GoesTo g (k - 1) v u
pair_down g k u v paired x low =
    let below : Bool = nat_le 1 k && leads_from g (k - 1) v u in
    let above : Bool = leads_from g (k + 1) v u in
    let is : below ≡ true =
    sym (ap (λ b. cond b true (cond (nat_lt v u) below above)) (ne_eqb v u (omega arith)) ∙ ap (λ b. cond b below above) (lt-ltb v u low))
    ∙ matched_to g k u v paired x in
    let p = and_parts (nat_le 1 k) (leads_from g (k - 1) v u) is in
    (leb-true 1 k p.0, leads_goes g (k - 1) v u p.1)

pub pair_up : (g : GraphOf) (k u v : ℕ) → is_paired g ≡ true → GoesTo g k u v → u < v → GoesTo g (k + 1) v u
pair_up g k u v paired x high =
    let below : Bool = nat_le 1 k && leads_from g (k - 1) v u in
    let above : Bool = leads_from g (k + 1) v u in
    let is : above ≡ true =
    sym (ap (λ b. cond b true (cond (nat_lt v u) below above)) (ne_eqb v u (omega arith)) ∙ ap (λ b. cond b below above) (le-ltb v u (omega arith)))
    ∙ matched_to g k u v paired x in
    leads_goes g (k + 1) v u is

pair_loops : (g : GraphOf) (v i : ℕ) → is_paired g ≡ true → i < length (arcs_of g v) → GoesTo g (get_or (arcs_of g v) i 0) v v → HasHalf g v (arcs_of g v) i
pair_loops g v i paired h x =
    let ks = arcs_of g v in
    let p = and_parts (list_all (is_matched g) (range_with_len 0 (made_of g))) (list_all (λ w. are_loops_paired g w (arcs_of g w)) (range_with_len 0 (n_of g))) paired in
    elim (cases_lt v (n_of g)) [
      | inl low ↦
          loops_at g v ks ks 0 (stands_all ks) (sym (zero-add (length ks))) (half_first g v ks) (below_all (λ w. are_loops_paired g w (arcs_of g w)) (n_of g) v p.1 low) i (omega arith) h
          (goes_leads g (get_or ks i 0) v v x)
      | inr past ↦ absurd (let none : length (arcs_of g v) ≡ 0 = ap length (no_arcs_past g v past) in omega (arith, none, h))
    ]

-- and the other way round
tip_matched : (g : GraphOf) (k u v : ℕ) → HasHalves g → GoesTo g k u v → is_tip_matched g k u (To (record { 0 = v })) ≡ true
tip_matched g k u v x goes =
    let below : Bool = nat_le 1 k && leads_from g (k - 1) v u in
    let above : Bool = leads_from g (k + 1) v u in
    elim (cases_eq v u) [
      | inl same ↦ ap (λ b. cond b true (cond (nat_lt v u) below above)) (eq-eqb v u same)
      | inr ne ↦
          ap (λ b. cond b true (cond (nat_lt v u) below above)) (ne_eqb v u ne)
          ∙ elim (cases_lt v u) [
            | inl low ↦
                let d = x.down k u v goes low in
                ap (λ b. cond b below above) (lt-ltb v u low) ∙ and_from (nat_le 1 k) (leads_from g (k - 1) v u) (le-leb 1 k d.0) (goes_leads g (k - 1) v u d.1)
            | inr high ↦
                let other : v ≢ u = ne in
                ap (λ b. cond b below above) (le-ltb v u high) ∙ goes_leads g (k + 1) v u (x.up k u v goes (omega arith))
          ]
    ]

view_hole : (g : GraphOf) (k u : ℕ) (o : Option ArcOf) → is_some o ≡ false → is_view_matched g k (entry_view u o) ≡ true
view_hole g k u None hole = refl
view_hole g k u (Some e) hole = absurd cc

each_matched : (g : GraphOf) (k : ℕ) → HasHalves g → is_matched g k ≡ true
unfolding is_matched
each_matched g k x =
    let u = owner_of g k in
    elim (cases_Bool (has_arc g k)) [
      | inl live ↦
          let t = x.tip k live in
          ap (λ o. is_view_matched g k (entry_view u o)) (some_entry (arc_at g k) live) ∙ (ap (is_tip_matched g k u) t.1.tip ∙ tip_matched g k u t.0 x t.1)
      | inr hole ↦ view_hole g k u (arc_at g k) hole
    ]

pub pair_decides : (g : GraphOf) → Decides (is_paired g) (HasHalves g)
pair_decides g = (
  λ paired. record { tip = λ k. pair_tip g k paired; down = λ k u v. pair_down g k u v paired; up = λ k u v. pair_up g k u v paired; loops = λ v i. pair_loops g v i paired },
  λ x. and_from (list_all (is_matched g) (range_with_len 0 (made_of g))) (list_all (λ v. are_loops_paired g v (arcs_of g v)) (range_with_len 0 (n_of g)))
      (range_all (is_matched g) 0 (made_of g) (λ k. each_matched g k x))
      (range_all (λ v. are_loops_paired g v (arcs_of g v)) 0 (n_of g)
      (λ v.
      let ks = arcs_of g v in
      loops_from g v ks ks 0 (stands_all ks) (sym (zero-add (length ks))) (half_first g v ks) (λ n h loop. x.loops v n h (leads_goes g (get_or ks n 0) v v loop)))),
)
