-- Lemmas on the vertices that a vertex is joined to, in an undirected graph.
use Rattle.std.proofs.Common.{◌≡◌, ◌≢◌, ◌≤◌, ◌<◌, ◌+◌, ◌-◌, ◌==◌, ℕ, zero, suc, List, [], ◌∷◌, ◌++◌, length, get_or, set, map, take, drop, None, Bool, true, false, ◌&&◌, ◌||◌, nat_le, inl, inr, refl, sym, ap, ap₂, subst, ◌∙◌, arith, zero-add}
use Rattle.std.specs.List.{flat_map, list_all, list_any, range_with_len}
use Rattle.std.proofs.lemmas.Bool.{cases_Bool, cases_eq, cases_lt, eq-eqb, ne_eqb, eqb-true, le-leb, and_parts, or_right, not-false}
use Rattle.std.proofs.lemmas.List.{get_or-set_same, get_or-set_other, take_more, map-append}
use Rattle.std.proofs.lemmas.List.FromFn.{get_or-range_with_len, length-range_with_len, map-range_with_len_more}
use Rattle.std.proofs.lemmas.List.Folds.{list_any-append, list_any_at, list_any_none, Any-from_list_any}
use Rattle.sgb_graph.specs.declared.field.Tip.TheVariants.{To}
use Rattle.sgb_graph.specs.Graph.{GraphOf, IsGraph, n_of, arcs_of}
use Rattle.sgb_graph.specs.Edit.{entry_at, owner_of, place_of}
use Rattle.sgb_graph.specs.Operand.{refusal_of_operand, tip_number}
use Rattle.sgb_graph.specs.Paired.{GoesTo, is_loop, is_loop_pair, is_paired, without_halves, walk}
use Rattle.sgb_graph.proofs.Graphs.{arcs_live}
use Rattle.sgb_graph.proofs.Halves.{leads_goes, pair_down, pair_up}
use Rattle.sgb_graph.proofs.Readers.{arcs_owned}
use Rattle.sgb_graph.proofs.Spokes.{tip_of_operand}
use Rattle.sgb_graph.proofs.TakeOut.{found_live}
use Rattle.sgb_export.specs.declared.link.Link.{Link}
use Rattle.sgb_export.specs.declared.graph6.Six.{Six}
use Rattle.sgb_export.specs.Graph6.{column, joins, is_joined}
use Rattle.sgb_export.specs.Links.{link, is_written, links_at, links, are_even_at, is_directed}
use Rattle.sgb_export.specs.Private.Marks.{leads_to, has_arc_to}
use Rattle.sgb_export.specs.Private.Packing.{bytes_with, six_after}
use Rattle.sgb_print.proofs.TextPieces.{number_and_rest, or-false}
use Rattle.sgb_export.proofs.ExportedArcs.{written}
use Rattle.sgb_export.proofs.PackedBits.{packed_from, packed_append}

-- ---- a search of the edges is one of the arcs of the lower endpoint
any_flat : (p : Link → Bool) (f : ℕ → List Link) (ws : List ℕ) → list_any p (flat_map f ws) ≡ list_any (λ w. list_any p (f w)) ws
any_flat p f [] = refl
any_flat p f (w ∷ ws) = list_any-append p (f w) (flat_map f ws) ∙ ap (λ b. list_any p (f w) || b) (any_flat p f ws)

any_one : (q : ℕ → Bool) (n i : ℕ) → i < n → ((w : ℕ) → w ≢ i → q w ≡ false) → list_any q (range_with_len 0 n) ≡ q i
any_one q n i within others =
    elim (cases_Bool (q i)) [
      | inl so ↦
          list_any_at q (range_with_len 0 n) i 0 (omega (arith, length-range_with_len 0 n)) (ap q (get_or-range_with_len 0 n i 0 within ∙ zero-add i) ∙ so) ∙ sym so
      | inr not_so ↦ list_any_none q (range_with_len 0 n) (λ k d h. none not_so (get_or (range_with_len 0 n) k d)) ∙ sym not_so
    ]
  where
    none : q i ≡ false → (w : ℕ) → q w ≡ false
    none not_so w = elim (cases_eq w i) [
      | inl same ↦ ap q same ∙ not_so
      | inr other ↦ others w other
    ]

module _ (g : GraphOf) (i v : ℕ) where
  joins_other : (w : ℕ) (ks : List ℕ) → w ≢ i → list_any (joins i v) (written false g w ks) ≡ false
  joins_other w [] other = refl
  joins_other w (k ∷ ks) other =
      elim (cases_Bool (is_written false (link g w k))) [
        | inl so ↦ rw so (ap (λ b. (b && leads_to g v k) || list_any (joins i v) (written false g w ks)) (ne_eqb w i (let ne : w ≢ i = other in omega arith)) ∙ joins_other w ks other)
        | inr not_so ↦ rw not_so (joins_other w ks other)
      ]

  joins_here : (ks : List ℕ) → i < v → list_any (joins i v) (written false g i ks) ≡ list_any (leads_to g v) ks
  joins_here [] low = refl
  joins_here (k ∷ ks) low =
      elim (cases_Bool (is_written false (link g i k))) [
        | inl so ↦ rw so (ap₂ (λ b c. (b && leads_to g v k) || c) (eq-eqb i i refl) (joins_here ks low))
        | inr not_so ↦
            let high = not_up not_so in
            rw not_so (joins_here ks low ∙ ap (λ b. b || list_any (leads_to g v) ks) (sym (ne_eqb (tip_number (entry_at g k).tip) v (omega (arith, high, low)))))
      ]
    where
      not_up : nat_le i (tip_number (entry_at g k).tip) ≡ false → tip_number (entry_at g k).tip < i
      not_up not_so = elim (cases_lt (tip_number (entry_at g k).tip) i) [
        | inl under ↦ under
        | inr over ↦ absurd (let so = le-leb i (tip_number (entry_at g k).tip) over in cc)
      ]

  no_loop : (k : ℕ) → i ≢ v → is_loop g i k ≡ true → leads_to g v k ≡ false
  no_loop k other loop =
      let x = leads_goes g k i i loop in
      let to : tip_number (entry_at g k).tip ≡ i = ap tip_number x.tip in
      let ne : i ≢ v = other in
      ne_eqb (tip_number (entry_at g k).tip) v (omega (arith, to))

  halves_any : (ks : List ℕ) → i ≢ v → list_any (leads_to g v) (without_halves g i ks) ≡ list_any (leads_to g v) ks
  unfolding without_halves
  halves_any [] other = refl
  halves_any (j ∷ []) other = refl
  halves_any (j ∷ (k ∷ ks)) other =
      let L = leads_to g v in
      elim (cases_Bool (is_loop_pair g i j k)) [
        | inl pair ↦
            let p = and_parts (is_loop g i j && is_loop g i k) (j + 1 == k) pair in
            let p' = and_parts (is_loop g i j) (is_loop g i k) p.0 in
            rw pair (ap (λ b. L j || b) (halves_any ks other ∙ ap (λ b. b || list_any L ks) (sym (no_loop k other p'.1))))
        | inr single ↦ rw single (ap (λ b. L j || b) (halves_any (k ∷ ks) other))
      ]

  low_arcs : i < v → i < n_of g → is_joined g i v ≡ has_arc_to g i v
  unfolding is_joined links links_at has_arc_to
  low_arcs low within =
      let ne : i ≢ v = λ same. absurd (omega (arith, same, low)) in
      any_flat (joins i v) (links_at false g) (range_with_len 0 (n_of g))
      ∙ (any_one (λ w. list_any (joins i v) (links_at false g w)) (n_of g) i within (λ w other. joins_other w (walk false g w) other)
      ∙ (joins_here (walk false g i) low ∙ halves_any (arcs_of g i) ne))

-- ---- and one of the arcs of the higher
arc_goes : (g : GraphOf) (u w : ℕ) → IsGraph g → refusal_of_operand g ≡ None → has_arc_to g u w ≡ true → (k : ℕ) × GoesTo g k u w
unfolding has_arc_to
arc_goes g u w sound operand has =
    let a = Any-from_list_any (leads_to g w) (arcs_of g u) has in
    let k : ℕ = get_or (arcs_of g u) a.0 a.1 in
    let live = (arcs_live g u sound a.0 a.1 a.2).live in
    let to : tip_number (entry_at g k).tip ≡ w = ap (λ x. tip_number (entry_at g x).tip) a.3 ∙ eqb-true (tip_number (entry_at g a.1).tip) w a.4 in (
      k,
      record {
        live = live;
        owner = arcs_owned g u sound a.0 a.1 a.2;
        tip = tip_of_operand g k operand live ∙ ap (λ x. To (record { 0 = x })) to;
      },
    )

goes_arc : (g : GraphOf) (k u w : ℕ) → IsGraph g → GoesTo g k u w → has_arc_to g u w ≡ true
unfolding has_arc_to
goes_arc g k u w sound x =
    let f = found_live g k sound x.live in
    subst (λ y. list_any (leads_to g w) (arcs_of g y) ≡ true) x.owner
    (list_any_at (leads_to g w) (arcs_of g (owner_of g k)) (place_of g k) 0 f.within
    (ap (leads_to g w) f.at ∙ eq-eqb (tip_number (entry_at g k).tip) w (ap tip_number x.tip)))

undirected_paired : (g : GraphOf) → is_directed g ≡ false → is_paired g ≡ true
unfolding is_directed
undirected_paired g is =
    (and_parts (is_paired g) (list_all (are_even_at g) (range_with_len 0 (n_of g))) (not-false (is_paired g && list_all (are_even_at g) (range_with_len 0 (n_of g))) is)).0

arc_back : (g : GraphOf) (i v : ℕ) → IsGraph g → refusal_of_operand g ≡ None → is_paired g ≡ true → i < v → has_arc_to g v i ≡ has_arc_to g i v
arc_back g i v sound operand paired low =
    elim (cases_Bool (has_arc_to g v i)) [
      | inl so ↦
          let down = arc_goes g v i sound operand so in
          so ∙ sym (goes_arc g (down.0 - 1) i v sound (pair_down g down.0 v i paired down.1 low).1)
      | inr not_so ↦ elim (cases_Bool (has_arc_to g i v)) [
        | inl so ↦
            let up = arc_goes g i v sound operand so in
            absurd (let back = goes_arc g (up.0 + 1) v i sound (pair_up g up.0 i v paired up.1 low) in cc)
        | inr neither ↦ not_so ∙ sym neither
      ]
    ]

pub joined_is : (g : GraphOf) (v i : ℕ) → IsGraph g → refusal_of_operand g ≡ None → is_directed g ≡ false → v < n_of g → i < v → has_arc_to g v i ≡ is_joined g i v
joined_is g v i sound operand undirected within low =
    arc_back g i v sound operand (undirected_paired g undirected) low ∙ sym (low_arcs g i v low (omega (arith, low, within)))

-- ---- marks of the vertices that the arcs of one reach
pub marked_start : (g : GraphOf) (v w m : ℕ) (marks ks : List ℕ) → get_or marks w 0 < m → ks ≡ arcs_of g v → ((get_or marks w 0 == m) || list_any (leads_to g w) ks) ≡ has_arc_to g v w
unfolding has_arc_to
marked_start g v w m marks ks low is = ap₂ (λ b l. b || list_any (leads_to g w) l) (ne_eqb (get_or marks w 0) m (omega arith)) is

pub marked_one : (g : GraphOf) (w m t k : ℕ) (marks ks all : List ℕ) → all ≡ k ∷ ks → t ≡ tip_number (entry_at g k).tip → t < length marks
    → ((get_or (set marks t m) w 0 == m) || list_any (leads_to g w) ks) ≡ ((get_or marks w 0 == m) || list_any (leads_to g w) all)
marked_one g w m t k marks ks all steps to within =
    let rest : Bool = list_any (leads_to g w) ks in
    let whole : list_any (leads_to g w) all ≡ (leads_to g w k || rest) = ap (list_any (leads_to g w)) steps in
    elim (cases_eq w t) [
      | inl same ↦
          let here : (get_or (set marks t m) w 0 == m) ≡ true = eq-eqb (get_or (set marks t m) w 0) m (ap (λ x. get_or (set marks t m) x 0) same ∙ get_or-set_same marks t m 0 within) in
          let leads : leads_to g w k ≡ true = eq-eqb (tip_number (entry_at g k).tip) w (sym to ∙ sym same) in
          ap (λ b. b || rest) here
          ∙ sym (ap (λ b. (get_or marks w 0 == m) || b) (whole ∙ ap (λ b. b || rest) leads) ∙ or_right (get_or marks w 0 == m) true refl)
      | inr other ↦
          let ne : w ≢ t = other in
          let kept : get_or (set marks t m) w 0 ≡ get_or marks w 0 = get_or-set_other marks t w m 0 ne in
          let leads : leads_to g w k ≡ false = ne_eqb (tip_number (entry_at g k).tip) w (omega (arith, to)) in
          ap (λ x. (x == m) || rest) kept
          ∙ sym (ap (λ b. (get_or marks w 0 == m) || b) (whole ∙ ap (λ b. b || rest) leads))
    ]

pub marked_all : (g : GraphOf) (v w m : ℕ) (marks ks : List ℕ) → ks ≡ [] → ((get_or marks w 0 == m) || list_any (leads_to g w) ks) ≡ has_arc_to g v w
    → (get_or marks w 0 == m) ≡ has_arc_to g v w
marked_all g v w m marks ks none is =
    sym (ap (λ l. (get_or marks w 0 == m) || list_any (leads_to g w) l) none ∙ or-false (get_or marks w 0 == m)) ∙ is

-- the marks of the vertices below v as bits
pub column_is : (f : ℕ → Bool) (m v : ℕ) (marks : List ℕ) → v ≤ length marks → ((w : ℕ) → w < v → (get_or marks w 0 == m) ≡ f w)
    → map (λ x. x == m) (take v marks) ≡ map f (range_with_len 0 v)
column_is f m zero marks within same = refl
column_is f m (suc v) marks within same =
    let next : v + 1 ≡ suc v = omega arith in
    let B : ℕ → Bool = λ x. x == m in
    ap (λ n. map B (take n marks)) (sym next)
    ∙ (ap (map B) (take_more marks v 0 (omega arith))
    ∙ (map-append B (take v marks) (get_or marks v 0 ∷ [])
    ∙ (ap₂ (λ xs x. xs ++ x ∷ []) (column_is f m v marks (omega arith) (λ w low. same w (omega (arith, low)))) (same v (omega arith))
    ∙ (sym (map-range_with_len_more f 0 v v (omega arith)) ∙ ap (λ n. map f (range_with_len 0 n)) next))))

-- the bits of v, and those of the vertices behind it
pub columns_one : (g : GraphOf) (v : ℕ) (s more : Six) (bits : List Bool) → v < n_of g → bits ≡ column (is_joined g) v → more ≡ six_after s bits
    → packed_from s (flat_map (column (is_joined g)) (drop v (range_with_len 0 (n_of g))))
    ≡ bytes_with s bits ++ packed_from more (flat_map (column (is_joined g)) (drop (v + 1) (range_with_len 0 (n_of g))))
columns_one g v s more bits within here is =
    let rest : List Bool = flat_map (column (is_joined g)) (drop (v + 1) (range_with_len 0 (n_of g))) in
    ap (packed_from s) (number_and_rest (column (is_joined g)) (n_of g) v within ∙ ap (λ c. c ++ rest) (sym here))
    ∙ (packed_append s bits rest ∙ ap (λ t. bytes_with s bits ++ packed_from t rest) (sym is))
