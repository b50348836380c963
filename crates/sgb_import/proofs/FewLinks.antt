-- No more arcs are written than numbers were given out, and half as many edges: the other halves of edges that are written have numbers of their own.
use Rattle.std.proofs.Common.{◌≡◌, ◌≢◌, ◌<◌, ◌≤◌, ◌+◌, ◌*◌, ℕ, zero, suc, List, [], ◌∷◌, ◌++◌, length, map, Bool, true, false, ◌&&◌, not, ◌==◌, nat_lt, cond, inl, inr, All, refl, sym, ap, subst, ◌∙◌, arith}
use Rattle.std.specs.List.{filter, flat_map, list_all, range_with_len}
use Rattle.std.proofs.lemmas.Bool.{cases_Bool, cases_lt, cases_eq, and_parts, eqb-true, eqb-false, eq-eqb, leb-true, ltb-true, le-leb, lt-leb, lt-ltb, le-ltb}
use Rattle.std.proofs.lemmas.List.{length-append, length-map}
use Rattle.std.proofs.lemmas.List.Elements.{All-head, All-tail, All-weaker}
use Rattle.std.proofs.lemmas.List.Sums.{sum_by-append}
use Rattle.sgb_graph.specs.declared.field.Tip.{Tip}
use Rattle.sgb_graph.specs.declared.field.Tip.TheVariants.{To}
use Rattle.sgb_graph.specs.Edit.{entry_at, owner_of}
use Rattle.sgb_graph.specs.Graph.{GraphOf, IsGraph, n_of, made_of, arcs_of, arc_at, occurrences}
use Rattle.sgb_graph.specs.Operand.{tip_number}
use Rattle.sgb_graph.specs.Paired.{without_halves, is_loop, is_loop_pair, are_loops_paired, is_matched, is_paired, is_vertex, goes, leads_from, GoesTo}
use Rattle.sgb_graph.specs.Read.{entry_view}
use Rattle.sgb_graph.proofs.Counts.{few_numbers, occurs_yes, occurs_no, occurs_more}
use Rattle.sgb_graph.proofs.Graphs.{listed_live, made_of_live, owner_is}
use Rattle.sgb_graph.proofs.Halves.{pair_tip, pair_up}
use Rattle.sgb_graph.proofs.PairedLemmas.{below_all}
use Rattle.sgb_graph.proofs.TakeOut.{some_entry}
use Rattle.sgb_export.specs.Links.{is_directed, are_even_at}
use Rattle.sgb_import.specs.Laws.{written}
use Rattle.sgb_import.specs.Outline.{arcs_of_links}
use Rattle.sgb_import.proofs.Extensions.{IsListed, all_listed}
use Rattle.sgb_import.proofs.NewNumbers.{up_at, numbers_at, ends_at}
use Rattle.sgb_import.proofs.OutlineLinks.{written_is}

-- ---- numbers in lists
pub occurs_append : (k : ℕ) (xs ys : List ℕ) → occurrences k (xs ++ ys) ≡ occurrences k xs + occurrences k ys
occurs_append k xs ys = sum_by-append (λ j. cond (j == k) 1 0) xs ys

occurs_filter : (p : ℕ → Bool) (k : ℕ) (ks : List ℕ) → occurrences k (filter p ks) ≤ occurrences k ks
occurs_filter p k [] = omega arith
occurs_filter p k (j ∷ ks) =
    let rest = occurs_filter p k ks in
    elim (p j) as (λ b. occurrences k (cond b (j ∷ filter p ks) (filter p ks)) ≤ occurrences k (j ∷ ks)) [
      | true ↦ elim (cases_Bool (j == k)) [
        | inl here ↦ let e = eqb-true j k here in omega (arith, rest, occurs_yes k j ks e, occurs_yes k j (filter p ks) e)
        | inr past ↦ let e = eqb-false j k past in omega (arith, rest, occurs_no k j ks e, occurs_no k j (filter p ks) e)
      ]
      | false ↦ omega (arith, rest, occurs_more k j ks)
    ]

passes : (p : ℕ → Bool) (k : ℕ) (ks : List ℕ) → 0 < occurrences k (filter p ks) → p k ≡ true
passes p k [] some = absurd (omega arith)
passes p k (j ∷ ks) some =
    elim (cases_Bool (p j)) [
      | inl e ↦
          let is : filter p (j ∷ ks) ≡ j ∷ filter p ks = rw e refl in
          let some' : 0 < occurrences k (j ∷ filter p ks) = subst (λ xs. 0 < occurrences k xs) is some in
          elim (cases_Bool (j == k)) [
            | inl here ↦ ap p (sym (eqb-true j k here)) ∙ e
            | inr past ↦ passes p k ks (omega (arith, some', occurs_no k j (filter p ks) (eqb-false j k past)))
          ]
      | inr e ↦
          let is : filter p (j ∷ ks) ≡ filter p ks = rw e refl in
          passes p k ks (subst (λ xs. 0 < occurrences k xs) is some)
    ]

-- the next numbers
abbrev nexts : List ℕ → List ℕ
nexts = map (λ k. k + 1)

occurs_next : (k : ℕ) (ks : List ℕ) → occurrences (k + 1) (nexts ks) ≡ occurrences k ks
occurs_next k [] = refl
occurs_next k (j ∷ ks) =
    let rest = occurs_next k ks in
    elim (cases_eq j k) [
      | inl same ↦ omega (arith, rest, occurs_yes k j ks same, occurs_yes (k + 1) (j + 1) (nexts ks) (omega arith))
      | inr other ↦
          let ne : j ≢ k = other in
          omega (arith, rest, occurs_no k j ks ne, occurs_no (k + 1) (j + 1) (nexts ks) (λ e. ne (omega arith)))
    ]

no_first_next : (ks : List ℕ) → occurrences 0 (nexts ks) ≡ 0
no_first_next [] = refl
no_first_next (j ∷ ks) = omega (arith, no_first_next ks, occurs_no 0 (j + 1) (nexts ks) (λ e. omega arith))

-- ---- numbers that one vertex has
module _ (lists : ℕ → List ℕ) (k : ℕ) where
  occurs_none : (n a : ℕ) → ((v : ℕ) → a ≤ v → occurrences k (lists v) ≡ 0) → occurrences k (flat_map lists (range_with_len a n)) ≡ 0
  occurs_none zero a none = refl
  occurs_none (suc n) a none =
      omega (arith, occurs_append k (lists a) (flat_map lists (range_with_len (a + 1) n)), none a (omega arith), occurs_none n (a + 1) (λ v low. none v (omega arith)))

  not_there : (w : ℕ) → ((v : ℕ) → 0 < occurrences k (lists v) → v ≡ w) → (v : ℕ) → v ≢ w → occurrences k (lists v) ≡ 0
  not_there w one v ne =
      elim (cases_lt 0 (occurrences k (lists v))) [
        | inl some ↦ absurd (ne (one v some))
        | inr none ↦ omega arith
      ]

  pub occurs_range : (w : ℕ) → ((v : ℕ) → 0 < occurrences k (lists v) → v ≡ w) → (n a : ℕ) → occurrences k (flat_map lists (range_with_len a n)) ≤ occurrences k (lists w)
  occurs_range w one zero a = omega arith
  occurs_range w one (suc n) a =
      let both = occurs_append k (lists a) (flat_map lists (range_with_len (a + 1) n)) in
      elim (cases_eq a w) [
        | inl same ↦
            let here : occurrences k (lists a) ≡ occurrences k (lists w) = ap (λ v. occurrences k (lists v)) same in
            omega (arith, both, here, occurs_none n (a + 1) (λ v low. not_there w one v (λ e. omega arith)))
        | inr other ↦
            let ne : a ≢ w = other in
            omega (arith, both, not_there w one a ne, occurs_range w one n (a + 1))
      ]

-- parts of the lists of a graph
abbrev IsPart : GraphOf → (ℕ → List ℕ) → Type 0
IsPart g lists = (k v : ℕ) → occurrences k (lists v) ≤ occurrences k (arcs_of g v)

abbrev pub all_of : GraphOf → (ℕ → List ℕ) → List ℕ
all_of g lists = flat_map lists (range_with_len 0 (n_of g))

module _ (g : GraphOf) (sound : IsGraph g) (lists : ℕ → List ℕ) (part : IsPart g lists) where
  owned : (k v : ℕ) → 0 < occurrences k (lists v) → v ≡ owner_of g k
  owned k v some = let less = part k v in sym (owner_is g k v sound (omega arith))

  of_owner : (k : ℕ) → occurrences k (all_of g lists) ≤ occurrences k (lists (owner_of g k))
  of_owner k = occurs_range lists k (owner_of g k) (owned k) (n_of g) 0

  once : (k : ℕ) → occurrences k (all_of g lists) ≤ 1
  once k =
      let u = owner_of g k in
      let less = of_owner k in
      let less' = part k u in
      elim (cases_lt 0 (occurrences k (arcs_of g u))) [
        | inl some ↦ let one = (listed_live g k u sound some).once in omega arith
        | inr none ↦ omega arith
      ]

  past : (k : ℕ) → made_of g ≤ k → occurrences k (all_of g lists) ≡ 0
  past k high =
      let u = owner_of g k in
      let less = of_owner k in
      let less' = part k u in
      elim (cases_lt 0 (occurrences k (arcs_of g u))) [
        | inl some ↦ let low = (listed_live g k u sound some).made in absurd (omega arith)
        | inr none ↦ omega arith
      ]

-- ---- as many as numbers
lengths_of : {X : Type 0} (f : ℕ → ℕ → X) (lists : ℕ → List ℕ) (n a : ℕ) → length (flat_map (λ v. map (f v) (lists v)) (range_with_len a n)) ≡ length (flat_map lists (range_with_len a n))
lengths_of f lists zero a = refl
lengths_of f lists (suc n) a =
    omega (
      arith,
      length-append (map (f a) (lists a)) (flat_map (λ v. map (f v) (lists v)) (range_with_len (a + 1) n)),
      length-append (lists a) (flat_map lists (range_with_len (a + 1) n)),
      length-map (lists a) (f a),
      lengths_of f lists n (a + 1),
    )

pub length_is : (directed : Bool) (g : GraphOf) → length (written directed g) ≡ length (all_of g (numbers_at directed g))
length_is directed g = ap length (written_is directed g) ∙ lengths_of (ends_at g) (numbers_at directed g) (n_of g) 0

pub few_arcs : (g : GraphOf) → IsGraph g → length (written true g) ≤ made_of g
few_arcs g sound =
    let part : IsPart g (numbers_at true g) = λ k v. occurs_filter (up_at true g v) k (arcs_of g v) in
    let few = few_numbers (made_of g) (all_of g (numbers_at true g)) (once g sound (numbers_at true g) part) (past g sound (numbers_at true g) part) in
    omega (arith, few, length_is true g)

-- ---- two for each edge
abbrev tip_at : GraphOf → ℕ → ℕ
tip_at g k = tip_number (entry_at g k).tip

-- arcs that lead up or are loops, and those that lead up
abbrev rising : GraphOf → ℕ → List ℕ
rising g v = filter (up_at false g v) (arcs_of g v)

abbrev leads_up : GraphOf → ℕ → ℕ → Bool
leads_up g v k = nat_lt v (tip_at g k)

abbrev leading_up : GraphOf → ℕ → List ℕ
leading_up g v = filter (leads_up g v) (arcs_of g v)

length_kept : (p : ℕ → Bool) (k : ℕ) (ks : List ℕ) (b : Bool) → p k ≡ b → length (filter p (k ∷ ks)) ≡ cond b 1 0 + length (filter p ks)
length_kept p k ks true is = rw is (omega arith)
length_kept p k ks false is = rw is (omega arith)

-- the test of a loop goes by its tip
abbrev LoopTip : GraphOf → ℕ → ℕ → Type 0
LoopTip g v k = is_loop g v k ≡ (tip_at g k == v)

module _ (g : GraphOf) (v : ℕ) where
  abbrev up_count : List ℕ → ℕ
  up_count ks = length (filter (up_at false g v) ks)

  abbrev strict_count : List ℕ → ℕ
  strict_count ks = length (filter (leads_up g v) ks)

  no_loop_both : (k : ℕ) → LoopTip g v k → not (is_loop g v k) ≡ true → up_at false g v k ≡ leads_up g v k
  no_loop_both k tip none =
      elim (cases_Bool (tip_at g k == v)) [
        | inl same ↦ absurd (let wrong : not (is_loop g v k) ≡ false = ap not (tip ∙ same) in cc)
        | inr other ↦
            let ne = eqb-false (tip_at g k) v other in
            elim (cases_lt v (tip_at g k)) [
              | inl up ↦ le-leb v (tip_at g k) (omega arith) ∙ sym (lt-ltb v (tip_at g k) up)
              | inr down ↦ lt-leb v (tip_at g k) (let apart : tip_at g k ≢ v = ne in omega arith) ∙ sym (le-ltb v (tip_at g k) down)
            ]
      ]

  loop_counts : (k : ℕ) → LoopTip g v k → is_loop g v k ≡ true → (up_at false g v k ≡ true) × (leads_up g v k ≡ false)
  loop_counts k tip loop =
      let same : tip_at g k ≡ v = eqb-true (tip_at g k) v (sym tip ∙ loop) in
      (le-leb v (tip_at g k) (omega arith), le-ltb v (tip_at g k) (omega arith))

  pub two_each : (ks : List ℕ) → All (LoopTip g v) ks → are_loops_paired g v ks ≡ true → 2 * up_count (without_halves g v ks) ≡ up_count ks + strict_count ks
  unfolding without_halves are_loops_paired
  two_each [] all paired = refl
  two_each (j ∷ []) all paired =
      let same = no_loop_both j (All-head (LoopTip g v) j [] all) paired in
      let a = length_kept (up_at false g v) j [] (leads_up g v j) same in
      let b = length_kept (leads_up g v) j [] (leads_up g v j) refl in
      omega arith
  two_each (j ∷ (k ∷ ks)) all paired =
      let first = All-head (LoopTip g v) j (k ∷ ks) all in
      let tail = All-tail (LoopTip g v) j (k ∷ ks) all in
      let walks : Bool → List ℕ = λ b. cond b (j ∷ without_halves g v ks) (j ∷ without_halves g v (k ∷ ks)) in
      let tests : Bool → Bool = λ b. cond b (are_loops_paired g v ks) (not (is_loop g v j) && are_loops_paired g v (k ∷ ks)) in
      elim (cases_Bool (is_loop_pair g v j k)) [
        | inl pair ↦
            let p = and_parts (is_loop g v j && is_loop g v k) (j + 1 == k) pair in
            let q = and_parts (is_loop g v j) (is_loop g v k) p.0 in
            let c = loop_counts j first q.0 in
            let d = loop_counts k (All-head (LoopTip g v) k ks tail) q.1 in
            let rest = two_each ks (All-tail (LoopTip g v) k ks tail) (sym (ap tests pair) ∙ paired) in
            let a1 = length_kept (up_at false g v) j (k ∷ ks) true c.0 in
            let a2 = length_kept (up_at false g v) k ks true d.0 in
            let b1 = length_kept (leads_up g v) j (k ∷ ks) false c.1 in
            let b2 = length_kept (leads_up g v) k ks false d.1 in
            let w = length_kept (up_at false g v) j (without_halves g v ks) true c.0 in
            let is : up_count (walks (is_loop_pair g v j k)) ≡ up_count (j ∷ without_halves g v ks) = ap (λ b. up_count (walks b)) pair in
            omega arith
        | inr apart ↦
            let p = and_parts (not (is_loop g v j)) (are_loops_paired g v (k ∷ ks)) (sym (ap tests apart) ∙ paired) in
            let same = no_loop_both j first p.0 in
            let rest = two_each (k ∷ ks) tail p.1 in
            let a = length_kept (up_at false g v) j (k ∷ ks) (leads_up g v j) same in
            let b = length_kept (leads_up g v) j (k ∷ ks) (leads_up g v j) refl in
            let w = length_kept (up_at false g v) j (without_halves g v (k ∷ ks)) (leads_up g v j) same in
            let is : up_count (walks (is_loop_pair g v j k)) ≡ up_count (j ∷ without_halves g v (k ∷ ks)) = ap (λ b. up_count (walks b)) apart in
            omega arith
      ]

-- ---- of a paired graph
pub record PairedLists (g : GraphOf) : Type 0 where
  pub paired : is_paired g ≡ true
  pub loops : (v : ℕ) → v < n_of g → are_loops_paired g v (arcs_of g v) ≡ true

pub undirected_pairs : (g : GraphOf) → is_directed g ≡ false → PairedLists g
unfolding is_directed
undirected_pairs g undirected =
    let vs = range_with_len 0 (n_of g) in
    let p = and_parts (is_paired g) (list_all (are_even_at g) vs) (unflip (is_paired g && list_all (are_even_at g) vs) undirected) in
    let q = and_parts (list_all (is_matched g) (range_with_len 0 (made_of g))) (list_all (λ w. are_loops_paired g w (arcs_of g w)) vs) p.0 in
    record { paired = p.0; loops = λ v inside. below_all (λ w. are_loops_paired g w (arcs_of g w)) (n_of g) v q.1 inside }
  where
    unflip : (b : Bool) → not b ≡ false → b ≡ true
    unflip true is = refl
    unflip false is = absurd cc

loop_tip : (g : GraphOf) → IsGraph g → is_paired g ≡ true → (v k : ℕ) → IsListed g v k → LoopTip g v k
unfolding leads_from
loop_tip g sound paired v k listed =
    let it = listed_live g k v sound listed in
    let t = pair_tip g k paired it.live in
    let tip : (entry_at g k).tip ≡ To (record { 0 = t.0 }) = t.1.tip in
    ap (λ o. goes v v (entry_view (owner_of g k) o)) (some_entry (arc_at g k) it.live)
    ∙ (ap (λ b. b && is_vertex v (entry_at g k).tip) (eq-eqb (owner_of g k) v (owner_is g k v sound listed))
    ∙ (ap (is_vertex v) tip ∙ sym (ap (λ (x : Tip). tip_number x == v) tip)))

module _ (g : GraphOf) (sound : IsGraph g) (x : PairedLists g) where
  rising_part : IsPart g (rising g)
  rising_part k v = occurs_filter (up_at false g v) k (arcs_of g v)

  leading_part : IsPart g (leading_up g)
  leading_part k v = occurs_filter (leads_up g v) k (arcs_of g v)

  -- the arc behind one that leads up lives, and leads down
  down_next : (k : ℕ) → 0 < occurrences k (all_of g (leading_up g)) → (k + 1 < made_of g) × (occurrences (k + 1) (all_of g (rising g)) ≡ 0)
  down_next k some =
      let v = owner_of g k in
      let here : 0 < occurrences k (leading_up g v) = let less = of_owner g sound (leading_up g) leading_part k in omega arith in
      let listed : IsListed g v k = let less = leading_part k v in omega arith in
      let it = listed_live g k v sound listed in
      let t = pair_tip g k x.paired it.live in
      let tip_is : tip_at g k ≡ t.0 = ap tip_number t.1.tip in
      let up : v < tip_at g k = ltb-true v (tip_at g k) (passes (leads_up g v) k (arcs_of g v) here) in
      let back : GoesTo g (k + 1) t.0 v = pair_up g k v t.0 x.paired t.1 (omega arith) in
      let back_tip : tip_at g (k + 1) ≡ v = ap tip_number back.tip in
      let owner : owner_of g (k + 1) ≡ t.0 = back.owner in (
        made_of_live g (k + 1) back.live,
        elim (cases_lt 0 (occurrences (k + 1) (all_of g (rising g)))) [
          | inl both ↦
              let w = owner_of g (k + 1) in
              let there : 0 < occurrences (k + 1) (rising g w) = let less = of_owner g sound (rising g) rising_part (k + 1) in omega arith in
              let up' : w ≤ tip_at g (k + 1) = leb-true w (tip_at g (k + 1)) (passes (up_at false g w) (k + 1) (arcs_of g w) there) in
              absurd (omega arith)
          | inr none ↦ omega arith
        ],
      )

  abbrev rises : List ℕ
  rises = all_of g (rising g)

  abbrev leads : List ℕ
  leads = all_of g (leading_up g)

  both_once : (k : ℕ) → occurrences k (rises ++ nexts leads) ≤ 1
  both_once zero = omega (arith, occurs_append 0 rises (nexts leads), no_first_next leads, once g sound (rising g) rising_part 0)
  both_once (suc j) =
      let next : j + 1 ≡ suc j = omega arith in
      let both = occurs_append (j + 1) rises (nexts leads) in
      let of_leads = occurs_next j leads in
      subst (λ k. occurrences k (rises ++ nexts leads) ≤ 1) next
      (elim (cases_lt 0 (occurrences j leads)) [
        | inl some ↦ let none = (down_next j some).1 in let one = once g sound (leading_up g) leading_part j in omega arith
        | inr none ↦ let one = once g sound (rising g) rising_part (j + 1) in omega arith
      ])

  both_past : (k : ℕ) → made_of g ≤ k → occurrences k (rises ++ nexts leads) ≡ 0
  both_past zero high = omega (arith, occurs_append 0 rises (nexts leads), no_first_next leads, past g sound (rising g) rising_part 0 high)
  both_past (suc j) high =
      let next : j + 1 ≡ suc j = omega arith in
      let high' : made_of g ≤ j + 1 = omega arith in
      let both = occurs_append (j + 1) rises (nexts leads) in
      let of_leads = occurs_next j leads in
      let none_rises = past g sound (rising g) rising_part (j + 1) high' in
      subst (λ k. occurrences k (rises ++ nexts leads) ≡ 0) next
      (elim (cases_lt 0 (occurrences j leads)) [
        | inl some ↦ let low = (down_next j some).0 in absurd (omega arith)
        | inr none ↦ omega arith
      ])

  halves_of : (n a : ℕ) → a + n ≤ n_of g → 2 * length (flat_map (numbers_at false g) (range_with_len a n)) ≡ length (flat_map (rising g) (range_with_len a n)) + length (flat_map (leading_up g) (range_with_len a n))
  halves_of zero a within = refl
  halves_of (suc n) a within =
      let here = two_each g a (arcs_of g a) (All-weaker (IsListed g a) (LoopTip g a) (loop_tip g sound x.paired a) (arcs_of g a) (all_listed g a)) (x.loops a (omega arith)) in
      let rest = halves_of n (a + 1) (omega arith) in
      omega (
        arith,
        here,
        rest,
        length-append (numbers_at false g a) (flat_map (numbers_at false g) (range_with_len (a + 1) n)),
        length-append (rising g a) (flat_map (rising g) (range_with_len (a + 1) n)),
        length-append (leading_up g a) (flat_map (leading_up g) (range_with_len (a + 1) n)),
      )

  paired_few : 2 * length (written false g) ≤ made_of g
  paired_few =
      let few = few_numbers (made_of g) (rises ++ nexts leads) both_once both_past in
      let halves = halves_of (n_of g) 0 (omega arith) in
      omega (arith, few, halves, length-append rises (nexts leads), length-map leads (λ k. k + 1), length_is false g)

pub few_edges : (g : GraphOf) → IsGraph g → is_directed g ≡ false → 2 * length (written false g) ≤ made_of g
few_edges g sound undirected = paired_few g sound (undirected_pairs g undirected)

pub few_links : (directed : Bool) (g : GraphOf) → IsGraph g → (directed ≡ false → is_directed g ≡ false) → arcs_of_links directed (length (written directed g)) ≤ 1000000
few_links true g sound undirected = let few = sound.few_arcs in omega (arith, few_arcs g sound)
few_links false g sound undirected = let few = sound.few_arcs in omega (arith, few_edges g sound (undirected refl))
