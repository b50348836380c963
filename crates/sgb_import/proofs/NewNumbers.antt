-- Lemmas on the numbers of the arcs of a vertex that are written, in a graph with an arc or an edge more.
use Rattle.std.proofs.Common.{◌≡◌, ◌≢◌, ◌<◌, ◌≤◌, ◌+◌, ◌-◌, ℕ, ℤ, List, [], ◌∷◌, map, Option, Some, None, is_some, Bool, true, false, ◌&&◌, ◌||◌, ◌==◌, nat_lt, nat_le, cond, min, max, inl, inr, All, refl, sym, ap, ap₂, ◌∙◌, arith}
use Rattle.std.specs.List.{filter, list_all}
use Rattle.std.proofs.lemmas.Bool.{cases_Bool, cases_lt, cases_eq, and_parts, and_from, eqb-true, eqb-false, eq-eqb, le-leb, lt-leb, lt-ltb, le-ltb}
use Rattle.std.proofs.lemmas.Bool.Decides.{Decides-int_eq}
use Rattle.std.proofs.lemmas.List.Elements.{All-head, All-tail, All-filter, All-weaker}
use Rattle.sgb_graph.specs.declared.field.Tip.TheVariants.{To}
use Rattle.sgb_graph.specs.Graph.{GraphOf, ArcOf, n_of, made_of, arcs_of, arc_at, occurrences}
use Rattle.sgb_graph.specs.Builder.{Insertion, insertion}
use Rattle.sgb_graph.specs.Edit.{arc_to, with_arc, with_edge, entry_at, arc_or, no_arc}
use Rattle.sgb_graph.specs.Operand.{tip_number}
use Rattle.sgb_graph.specs.Paired.{walk, without_halves, is_loop, is_loop_pair, are_loops_paired, leads_from, is_matched, is_tip_matched, GoesTo}
use Rattle.sgb_graph.proofs.Counts.{occurs_yes}
use Rattle.sgb_graph.proofs.Graphs.{owner_is, no_arc_past}
use Rattle.sgb_graph.proofs.Halves.{leads_goes}
use Rattle.sgb_graph.proofs.Insertions.{made-with_edge}
use Rattle.sgb_graph.proofs.LoopWalks.{All-walked}
use Rattle.sgb_graph.proofs.PairedLemmas.{skip_other, skip_pair}
use Rattle.sgb_export.specs.Links.{has_length}
use Rattle.sgb_import.proofs.Extensions.{Extends, IsListed, all_listed, same_entry, same_halves, same_loops, goes_leads, matched_live, matched_hole, still_matched}
use Rattle.sgb_import.proofs.NewLinks.{grown_list, grown_more, arcs-with_arc, new-with_arc, arcs-with_edge, first-with_edge, second-with_edge}

-- ---- lists on whose elements two functions agree
pub map_same : {X Y : Type 0} (f g : X → Y) (xs : List X) → All (λ x. f x ≡ g x) xs → map f xs ≡ map g xs
map_same f g [] all = refl
map_same f g (x ∷ xs) all = ap₂ (λ y ys. y ∷ ys) (All-head (λ z. f z ≡ g z) x xs all) (map_same f g xs (All-tail (λ z. f z ≡ g z) x xs all))

pub filter_same : {X : Type 0} (p q : X → Bool) (xs : List X) → All (λ x. p x ≡ q x) xs → filter p xs ≡ filter q xs
filter_same p q [] all = refl
filter_same p q (x ∷ xs) all =
    ap₂ (λ b ys. cond b (x ∷ ys) ys) (All-head (λ z. p z ≡ q z) x xs all) (filter_same p q xs (All-tail (λ z. p z ≡ q z) x xs all))

-- ---- the numbers of the arcs that are written
abbrev pub up_at : Bool → GraphOf → ℕ → ℕ → Bool
up_at directed g v k = directed || nat_le v (tip_number (entry_at g k).tip)

abbrev pub numbers_at : Bool → GraphOf → ℕ → List ℕ
numbers_at directed g v = filter (up_at directed g v) (walk directed g v)

walk_listed : (directed : Bool) (g : GraphOf) (v : ℕ) → All (IsListed g v) (walk directed g v)
walk_listed directed g v = All-walked (IsListed g v) directed g v (walk directed g v) refl (all_listed g v)

pub numbers_listed : (directed : Bool) (g : GraphOf) (v : ℕ) → All (IsListed g v) (numbers_at directed g v)
numbers_listed directed g v = All-filter (up_at directed g v) (IsListed g v) (walk directed g v) (walk_listed directed g v)

same_up : (directed : Bool) (g h : GraphOf) → Extends g h → (v : ℕ) (ks : List ℕ) → All (IsListed g v) ks → filter (up_at directed h v) ks ≡ filter (up_at directed g v) ks
same_up directed g h x v ks all =
    filter_same (up_at directed h v) (up_at directed g v) ks
    (All-weaker (IsListed g v) (λ k. up_at directed h v k ≡ up_at directed g v k) (λ k listed. ap (λ (e : ArcOf). directed || nat_le v (tip_number e.tip)) (same_entry g h x v k listed)) ks all)

-- ---- an arc more
pub entry-with_arc : (g : GraphOf) (u w : ℕ) (len : ℤ) → entry_at (with_arc g u w len) (made_of g) ≡ arc_to w len
entry-with_arc g u w len = ap (arc_or no_arc) (new-with_arc g u w len)

pub numbers-with_arc : (g : GraphOf) (u w : ℕ) (len : ℤ) → Extends g (with_arc g u w len) → u < n_of g → (v : ℕ)
    → numbers_at true (with_arc g u w len) v ≡ grown_list u (made_of g) v (numbers_at true g v)
numbers-with_arc g u w len x from v =
    let h = with_arc g u w len in
    let ks = arcs_of g v in
    let old = same_up true g h x v ks (all_listed g v) in
    ap (filter (up_at true h v)) (arcs-with_arc g u w len v from)
    ∙ elim (u == v) as (λ b. filter (up_at true h v) (cond b (made_of g ∷ ks) ks) ≡ cond b (made_of g ∷ filter (up_at true g v) ks) (filter (up_at true g v) ks)) [
      | true ↦ ap (λ l. made_of g ∷ l) old
      | false ↦ old
    ]

-- ---- an edge more
pub record NewEdge (g h : GraphOf) (low high : ℕ) (len : ℤ) : Type 0 where
  pub extends : Extends g h
  pub ordered : low ≤ high
  pub arcs : (v : ℕ) → arcs_of h v ≡ grown_list low (made_of g) v (grown_list high (made_of g + 1) v (arcs_of g v))
  pub first : arc_at h (made_of g) ≡ Some (arc_to high len)
  pub second : arc_at h (made_of g + 1) ≡ Some (arc_to low len)
  pub made : made_of h ≡ made_of g + 2

pub new_edge : (g : GraphOf) (u w : ℕ) (len : ℤ) → Extends g (with_edge g u w len) → u < n_of g → w < n_of g → NewEdge g (with_edge g u w len) (min u w) (max u w) len
new_edge g u w len x from to = record {
  extends = x;
  ordered = omega arith;
  arcs = λ v. arcs-with_edge g u w len v from to;
  first = first-with_edge g u w len;
  second = second-with_edge g u w len;
  made = made-with_edge g u w len;
}

module _ (g h : GraphOf) (low high : ℕ) (len : ℤ) (x : NewEdge g h low high len) where
  pub first_entry : entry_at h (made_of g) ≡ arc_to high len
  first_entry = ap (arc_or no_arc) x.first

  second_entry : entry_at h (made_of g + 1) ≡ arc_to low len
  second_entry = ap (arc_or no_arc) x.second

  first_listed : IsListed h low (made_of g)
  first_listed =
      let k = made_of g in
      let rest = grown_list high (k + 1) low (arcs_of g low) in
      let is : arcs_of h low ≡ k ∷ rest = x.arcs low ∙ ap (λ b. cond b (k ∷ rest) rest) (eq-eqb low low refl) in
      omega (arith, ap (occurrences k) is, occurs_yes k k rest refl)

  second_listed : IsListed h high (made_of g + 1)
  second_listed =
      let k = made_of g in
      let ks = arcs_of g high in
      let rest = grown_list high (k + 1) high ks in
      let is : rest ≡ (k + 1) ∷ ks = ap (λ b. cond b ((k + 1) ∷ ks) ks) (eq-eqb high high refl) in
      omega (arith, ap (occurrences (k + 1)) (x.arcs high), grown_more (k + 1) low k high rest, ap (occurrences (k + 1)) is, occurs_yes (k + 1) (k + 1) ks refl)

  first_goes : GoesTo h (made_of g) low high
  first_goes = record {
    live = ap is_some x.first;
    owner = owner_is h (made_of g) low x.extends.after first_listed;
    tip = ap (λ (e : ArcOf). e.tip) first_entry;
  }

  second_goes : GoesTo h (made_of g + 1) high low
  second_goes = record {
    live = ap is_some x.second;
    owner = owner_is h (made_of g + 1) high x.extends.after second_listed;
    tip = ap (λ (e : ArcOf). e.tip) second_entry;
  }

  -- an arc to another vertex is no loop
  not_loop : (k v w : ℕ) → tip_number (entry_at h k).tip ≡ w → w ≢ v → is_loop h v k ≡ false
  not_loop k v w tip other =
      elim (cases_Bool (is_loop h v k)) [
        | inl loop ↦ absurd (other (sym tip ∙ ap tip_number (leads_goes h k v v loop).tip))
        | inr none ↦ none
      ]

  first_tip : tip_number (entry_at h (made_of g)).tip ≡ high
  first_tip = ap (λ (e : ArcOf). tip_number e.tip) first_entry

  second_tip : tip_number (entry_at h (made_of g + 1)).tip ≡ low
  second_tip = ap (λ (e : ArcOf). tip_number e.tip) second_entry

  loop_pair : (v : ℕ) → low ≡ v → high ≡ v → is_loop_pair h v (made_of g) (made_of g + 1) ≡ true
  loop_pair v here there =
      let k = made_of g in
      let one : is_loop h v k ≡ true = ap₂ (λ a b. leads_from h k a b) (sym here) (sym there) ∙ goes_leads h k low high first_goes in
      let two : is_loop h v (k + 1) ≡ true = ap₂ (λ a b. leads_from h (k + 1) a b) (sym there) (sym here) ∙ goes_leads h (k + 1) high low second_goes in
      and_from (is_loop h v k && is_loop h v (k + 1)) (k + 1 == k + 1) (and_from (is_loop h v k) (is_loop h v (k + 1)) one two) (eq-eqb (k + 1) (k + 1) refl)

-- ---- walks
pair_walk : (g : GraphOf) (v j k : ℕ) (ks : List ℕ) → is_loop_pair g v j k ≡ true → without_halves g v (j ∷ (k ∷ ks)) ≡ j ∷ without_halves g v ks
unfolding without_halves
pair_walk g v j k ks pair = rw pair refl

single_walk : (g : GraphOf) (v j : ℕ) (ks : List ℕ) → is_loop g v j ≡ false → without_halves g v (j ∷ ks) ≡ j ∷ without_halves g v ks
unfolding without_halves
single_walk g v j [] none = refl
single_walk g v j (k ∷ ks) none = rw none refl

module _ (g h : GraphOf) (low high : ℕ) (len : ℤ) (x : NewEdge g h low high len) where
  old_numbers : (v : ℕ) → filter (up_at false h v) (without_halves h v (arcs_of g v)) ≡ numbers_at false g v
  old_numbers v =
      ap (filter (up_at false h v)) (same_halves g h x.extends v (arcs_of g v) (all_listed g v))
      ∙ same_up false g h x.extends v (walk false g v) (walk_listed false g v)

  first_kept : (v : ℕ) (ks : List ℕ) → low ≡ v → filter (up_at false h v) (made_of g ∷ ks) ≡ made_of g ∷ filter (up_at false h v) ks
  first_kept v ks here =
      let up : up_at false h v (made_of g) ≡ true = ap (nat_le v) (first_tip g h low high len x) ∙ le-leb v high (let o = x.ordered in omega arith) in
      rw up refl

  second_left : (v : ℕ) (ks : List ℕ) → high ≡ v → low ≢ v → filter (up_at false h v) ((made_of g + 1) ∷ ks) ≡ filter (up_at false h v) ks
  second_left v ks there other =
      let up : up_at false h v (made_of g + 1) ≡ false = ap (nat_le v) (second_tip g h low high len x) ∙ lt-leb v low (let o = x.ordered in omega arith) in
      rw up refl

  pub numbers-new_edge : (v : ℕ) → numbers_at false h v ≡ grown_list low (made_of g) v (numbers_at false g v)
  numbers-new_edge v =
      let k = made_of g in
      let ks = arcs_of g v in
      let walked = without_halves h v ks in
      let form : Bool → Bool → List ℕ = λ a b. filter (up_at false h v) (without_halves h v (cond a (k ∷ cond b ((k + 1) ∷ ks) ks) (cond b ((k + 1) ∷ ks) ks))) in
      let goal : Bool → List ℕ = λ a. cond a (k ∷ numbers_at false g v) (numbers_at false g v) in
      let old = old_numbers v in
      ap (λ l. filter (up_at false h v) (without_halves h v l)) (x.arcs v)
      ∙ elim (cases_Bool (low == v)) [
        | inl a ↦
            let here = eqb-true low v a in
            elim (cases_Bool (high == v)) [
              | inl b ↦
                  ap₂ form a b
                  ∙ (ap (filter (up_at false h v)) (pair_walk h v k (k + 1) ks (loop_pair g h low high len x v here (eqb-true high v b)))
                  ∙ (first_kept v walked here ∙ (ap (λ l. k ∷ l) old ∙ sym (ap goal a))))
              | inr b ↦
                  ap₂ form a b
                  ∙ (ap (filter (up_at false h v)) (single_walk h v k ks (not_loop g h low high len x k v high (first_tip g h low high len x) (eqb-false high v b)))
                  ∙ (first_kept v walked here ∙ (ap (λ l. k ∷ l) old ∙ sym (ap goal a))))
            ]
        | inr a ↦
            let other = eqb-false low v a in
            elim (cases_Bool (high == v)) [
              | inl b ↦
                  ap₂ form a b
                  ∙ (ap (filter (up_at false h v)) (single_walk h v (k + 1) ks (not_loop g h low high len x (k + 1) v low (second_tip g h low high len x) other))
                  ∙ (second_left v walked (eqb-true high v b) other ∙ (old ∙ sym (ap goal a))))
              | inr b ↦ ap₂ form a b ∙ (old ∙ sym (ap goal a))
            ]
      ]

  -- the loops of each list stay paired
  pub loops-new_edge : (v : ℕ) → are_loops_paired g v (arcs_of g v) ≡ true → are_loops_paired h v (arcs_of h v) ≡ true
  loops-new_edge v paired =
      let k = made_of g in
      let ks = arcs_of g v in
      let form : Bool → Bool → Bool = λ a b. are_loops_paired h v (cond a (k ∷ cond b ((k + 1) ∷ ks) ks) (cond b ((k + 1) ∷ ks) ks)) in
      let old : are_loops_paired h v ks ≡ true = same_loops g h x.extends v ks (all_listed g v) ∙ paired in
      ap (are_loops_paired h v) (x.arcs v)
      ∙ elim (cases_Bool (low == v)) [
        | inl a ↦ elim (cases_Bool (high == v)) [
          | inl b ↦ ap₂ form a b ∙ (skip_pair h v k (k + 1) ks (loop_pair g h low high len x v (eqb-true low v a) (eqb-true high v b)) ∙ old)
          | inr b ↦ ap₂ form a b ∙ (skip_other h v k ks (not_loop g h low high len x k v high (first_tip g h low high len x) (eqb-false high v b)) ∙ old)
        ]
        | inr a ↦ elim (cases_Bool (high == v)) [
          | inl b ↦ ap₂ form a b ∙ (skip_other h v (k + 1) ks (not_loop g h low high len x (k + 1) v low (second_tip g h low high len x) (eqb-false low v a)) ∙ old)
          | inr b ↦ ap₂ form a b ∙ old
        ]
      ]

  -- and each arc has its other half
  first_matched : is_tip_matched h (made_of g) low (To (record { 0 = high })) ≡ true
  first_matched =
      let k = made_of g in
      let o = x.ordered in
      let below : Bool = nat_le 1 k && leads_from h (k - 1) high low in
      let above : Bool = leads_from h (k + 1) high low in
      elim (cases_Bool (high == low)) [
        | inl same ↦ ap (λ b. cond b true (cond (nat_lt high low) below above)) same
        | inr ne ↦
            ap (λ b. cond b true (cond (nat_lt high low) below above)) ne
            ∙ (ap (λ b. cond b below above) (le-ltb high low o) ∙ goes_leads h (k + 1) high low (second_goes g h low high len x))
      ]

  second_matched : is_tip_matched h (made_of g + 1) high (To (record { 0 = low })) ≡ true
  second_matched =
      let k = made_of g in
      let o = x.ordered in
      let back : k + 1 - 1 ≡ k = omega arith in
      let below : Bool = nat_le 1 (k + 1) && leads_from h (k + 1 - 1) low high in
      let above : Bool = leads_from h (k + 1 + 1) low high in
      elim (cases_Bool (low == high)) [
        | inl same ↦ ap (λ b. cond b true (cond (nat_lt low high) below above)) same
        | inr ne ↦
            let other : low ≢ high = eqb-false low high ne in
            ap (λ b. cond b true (cond (nat_lt low high) below above)) ne
            ∙ (ap (λ b. cond b below above) (lt-ltb low high (omega arith))
            ∙ and_from (nat_le 1 (k + 1)) (leads_from h (k + 1 - 1) low high) (le-leb 1 (k + 1) (omega arith))
            (ap (λ j. leads_from h j low high) back ∙ goes_leads h k low high (first_goes g h low high len x)))
      ]

  pub matched-new_edge : (j : ℕ) → is_matched g j ≡ true → is_matched h j ≡ true
  matched-new_edge j matched =
      let k = made_of g in
      elim (cases_lt j k) [
        | inl old ↦ still_matched g h x.extends j old matched
        | inr past ↦ elim (cases_eq j k) [
          | inl first ↦
              let y = first_goes g h low high len x in
              ap (is_matched h) first
              ∙ (matched_live h k y.live
              ∙ (ap₂ (is_tip_matched h k) y.owner y.tip ∙ first_matched))
          | inr other ↦ elim (cases_eq j (k + 1)) [
            | inl second ↦
                let y = second_goes g h low high len x in
                ap (is_matched h) second
                ∙ (matched_live h (k + 1) y.live
                ∙ (ap₂ (is_tip_matched h (k + 1)) y.owner y.tip ∙ second_matched))
            | inr later ↦
                let ne : j ≢ k = other in
                let ne' : j ≢ k + 1 = later in
                let m = x.made in
                matched_hole h j (ap is_some (no_arc_past h j (omega arith)))
          ]
        ]
      ]

-- ---- halves of one length
abbrev pub even_at : GraphOf → ℕ → Bool
even_at g k = has_length (entry_at g k).len (arc_at g (k + 1))

lengths_none : (len : ℤ) (o : Option ArcOf) → o ≡ None → has_length len o ≡ true → ⊥
lengths_none len None is even = absurd cc
lengths_none len (Some e) is even = absurd cc

still_even : (g h : GraphOf) → Extends g h → (v k : ℕ) → IsListed g v k → even_at g k ≡ true → even_at h k ≡ true
still_even g h x v k listed even =
    elim (cases_lt (k + 1) (made_of g)) [
      | inl made ↦
          ap (λ (e : ArcOf). has_length e.len (arc_at h (k + 1))) (same_entry g h x v k listed)
          ∙ (ap (has_length (entry_at g k).len) (x.arcs (k + 1) made) ∙ even)
      | inr past ↦ absurd (lengths_none (entry_at g k).len (arc_at g (k + 1)) (no_arc_past g (k + 1) past) even)
    ]

all_even : (g h : GraphOf) → Extends g h → (v : ℕ) (ks : List ℕ) → All (IsListed g v) ks → list_all (even_at g) ks ≡ true → list_all (even_at h) ks ≡ true
all_even g h x v [] all even = refl
all_even g h x v (k ∷ ks) all even =
    let p = and_parts (even_at g k) (list_all (even_at g) ks) even in
    and_from (even_at h k) (list_all (even_at h) ks) (still_even g h x v k (All-head (IsListed g v) k ks all) p.0)
    (all_even g h x v ks (All-tail (IsListed g v) k ks all) p.1)

pub even-new_edge : (g h : GraphOf) (low high : ℕ) (len : ℤ) → NewEdge g h low high len → (v : ℕ)
    → list_all (even_at g) (numbers_at false g v) ≡ true → list_all (even_at h) (numbers_at false h v) ≡ true
even-new_edge g h low high len x v even =
    let k = made_of g in
    let ns = numbers_at false g v in
    let old : list_all (even_at h) ns ≡ true = all_even g h x.extends v ns (numbers_listed false g v) even in
    let first : even_at h k ≡ true =
    ap (λ (e : ArcOf). has_length e.len (arc_at h (k + 1))) (first_entry g h low high len x)
    ∙ (ap (has_length len) x.second ∙ (Decides-int_eq len len).1 refl) in
    ap (list_all (even_at h)) (numbers-new_edge g h low high len x v)
    ∙ elim (low == v) as (λ b. list_all (even_at h) (cond b (k ∷ ns) ns) ≡ true) [
      | true ↦ and_from (even_at h k) (list_all (even_at h) ns) first old
      | false ↦ old
    ]

-- ---- the arcs of the numbers
abbrev pub ends_at : GraphOf → ℕ → ℕ → Insertion
ends_at g v k = insertion v (tip_number (entry_at g k).tip) (entry_at g k).len

same_ends : (directed : Bool) (g h : GraphOf) → Extends g h → (v : ℕ) → map (ends_at h v) (numbers_at directed g v) ≡ map (ends_at g v) (numbers_at directed g v)
same_ends directed g h x v =
    map_same (ends_at h v) (ends_at g v) (numbers_at directed g v)
    (All-weaker (IsListed g v) (λ k. ends_at h v k ≡ ends_at g v k) (λ k listed. ap (λ (e : ArcOf). insertion v (tip_number e.tip) e.len) (same_entry g h x v k listed)) (numbers_at directed g v) (numbers_listed directed g v))

pub ends_more : (directed : Bool) (g h : GraphOf) (e : Insertion) (v : ℕ) (rest : List Insertion) → Extends g h → numbers_at directed h v ≡ grown_list e.from (made_of g) v (numbers_at directed g v)
    → entry_at h (made_of g) ≡ arc_to e.to e.len → map (ends_at g v) (numbers_at directed g v) ≡ rest → map (ends_at h v) (numbers_at directed h v) ≡ cond (e.from == v) (e ∷ rest) rest
ends_more directed g h e v rest x grown entry same =
    let k = made_of g in
    let ns = numbers_at directed g v in
    let old : map (ends_at h v) ns ≡ rest = same_ends directed g h x v ∙ same in
    let form : Bool → List Insertion = λ b. map (ends_at h v) (cond b (k ∷ ns) ns) in
    ap (map (ends_at h v)) grown
    ∙ elim (cases_Bool (e.from == v)) [
      | inl here ↦
          let first : ends_at h v k ≡ e = ap (λ (a : ArcOf). insertion v (tip_number a.tip) a.len) entry ∙ ap (λ w. insertion w e.to e.len) (sym (eqb-true e.from v here)) in
          ap form here ∙ (ap₂ (λ a l. a ∷ l) first old ∙ sym (ap (λ b. cond b (e ∷ rest) rest) here))
      | inr other ↦ ap form other ∙ (old ∙ sym (ap (λ b. cond b (e ∷ rest) rest) other))
    ]
