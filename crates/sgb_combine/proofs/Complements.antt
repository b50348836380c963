-- Lemmas on complements.
use Rattle.std.proofs.Common.{◌≡◌, ◌<◌, ◌≤◌, ◌+◌, ◌==◌, ℕ, zero, suc, List, [], ◌∷◌, ◌++◌, length, get_or, take, map, Bool, true, false, ◌||◌, ◌&&◌, not, nat_le, cond, All, refl, sym, ap, subst, ◌∙◌, arith}
use Rattle.std.specs.List.{flat_map, filter, range_with_len}
use Rattle.std.proofs.lemmas.Bool.{eqb-true, lt-leb}
use Rattle.std.proofs.lemmas.List.{append-nil, take_more, map-append}
use Rattle.std.proofs.lemmas.List.Elements.{All-map, All-filter, filter-append}
use Rattle.std.proofs.lemmas.Map.Views.{any-filter_same}
use Rattle.sgb_graph.specs.declared.builder.Builder.{Builder}
use Rattle.sgb_graph.specs.Builder.{Insertion}
use Rattle.sgb_graph.proofs.InsertionRuns.{LeftFrom, from_none, map-filter}
use Rattle.sgb_graph.specs.declared.spoke.Spoke.{Spoke}
use Rattle.sgb_graph.specs.Operand.{IsWithin}
use Rattle.sgb_combine.specs.declared.spec.ComplementSpec.{ComplementSpec}
use Rattle.sgb_combine.specs.Complement.{leads_to, is_wanted, unit_step, wanted_steps}
use Rattle.sgb_combine.specs.Lowest.{lowest}
use Rattle.sgb_combine.specs.Private.Targets.{IsInOrder}
use Rattle.sgb_combine.proofs.SpokeLookup.{leads-lowest}
use Rattle.sgb_combine.proofs.AscendingNumbers.{is_one, rises, rising_is_filter}

-- what is inserted to one vertex
abbrev pub wanted_at : ComplementSpec → ℕ → List Spoke → ℕ → List Insertion
wanted_at spec u ss w = cond (is_wanted spec u (leads_to ss w) w) (unit_step u w ∷ []) []

pub wanted_is : (spec : ComplementSpec) (n u : ℕ) (ss : List Spoke) → flat_map (wanted_at spec u ss) (range_with_len 0 n) ≡ wanted_steps spec n u ss
unfolding wanted_steps
wanted_is spec n u ss = sym (map-filter (unit_step u) (λ w. is_wanted spec u (leads_to ss w) w) (range_with_len 0 n))

pub wanted_one : (spec : ComplementSpec) (u : ℕ) (ss : List Spoke) (w : ℕ) → is_wanted spec u (leads_to ss w) w ≡ true → unit_step u w ∷ [] ≡ wanted_at spec u ss w
wanted_one spec u ss w yes_so = rw yes_so refl

pub wanted_none : (spec : ComplementSpec) (u : ℕ) (ss : List Spoke) (w : ℕ) → is_wanted spec u (leads_to ss w) w ≡ false → wanted_at spec u ss w ≡ []
wanted_none spec u ss w no_so = rw no_so refl

and_last : (b : Bool) → (b && true) ≡ b
and_last true = refl
and_last false = refl

and_not : (b : Bool) → (b && false) ≡ false
and_not true = refl
and_not false = refl

-- where edges are made none below the vertex is wanted, and the run begins at the vertex
none_below : (spec : ComplementSpec) (u : ℕ) (ss : List Spoke) (w : ℕ) → spec.directed ≡ false → w < u → wanted_at spec u ss w ≡ []
none_below spec u ss w edges low =
    let fails : (spec.directed || nat_le u w) ≡ false = rw (edges, lt-leb u w low) refl in
    let others : Bool = cond spec.copy (leads_to ss w) (not (leads_to ss w)) && (spec.loops || not (u == w)) in
    wanted_none spec u ss w (ap (λ b. others && b) fails ∙ and_not others)

pub from_vertex : {a b : Builder} {all : List Insertion} (spec : ComplementSpec) (u n : ℕ) (ss : List Spoke) (w : ℕ) → spec.directed ≡ false → u < n → w ≤ u
    → LeftFrom a all b (wanted_at spec u ss) 0 n → LeftFrom a all b (wanted_at spec u ss) w n
from_vertex spec u n ss zero edges h low left = left
from_vertex {a} {b} {all} spec u n ss (suc w) edges h low left =
    let one : w + 1 ≡ suc w = omega arith in
    subst (λ i. LeftFrom a all b (wanted_at spec u ss) i n) one
    (from_none (omega (arith, h, low)) (from_vertex spec u n ss w edges h (omega (arith, low)) left) (none_below spec u ss w edges (omega (arith, low))))

-- lowering changes nothing
filter_as : (p q : ℕ → Bool) (ns : List ℕ) → ((w : ℕ) → p w ≡ q w) → filter p ns ≡ filter q ns
filter_as p q [] same = refl
filter_as p q (n ∷ ns) same = ap (λ b. cond b (n ∷ filter p ns) (filter p ns)) (same n) ∙ ap (λ ms. cond (q n) (n ∷ ms) ms) (filter_as p q ns same)

pub wanted-lowest : (spec : ComplementSpec) (n u : ℕ) (ss rs : List Spoke) → rs ≡ lowest ss → wanted_steps spec n u rs ≡ wanted_steps spec n u ss
unfolding wanted_steps
wanted-lowest spec n u ss rs is =
    ap (λ ts. map (unit_step u) (filter (λ w. is_wanted spec u (leads_to ts w) w) (range_with_len 0 n))) is
    ∙ ap (map (unit_step u)) (filter_as (λ w. is_wanted spec u (leads_to (lowest ss) w) w) (λ w. is_wanted spec u (leads_to ss w) w) (range_with_len 0 n)
    (λ w. ap (λ b. is_wanted spec u b w) (leads-lowest ss w)))

-- ---- copies: the wanted among those that are joined
wanted_joined : (spec : ComplementSpec) (u w : ℕ) (j : Bool) → spec.copy ≡ true → (is_wanted spec u true w && j) ≡ is_wanted spec u j w
wanted_joined spec u w true copy = and_last (is_wanted spec u true w)
wanted_joined spec u w false copy = and_not (is_wanted spec u true w) ∙ rw copy refl

one_of_tips : (w : ℕ) (ss : List Spoke) → is_one w (map (λ s. s.to) ss) ≡ leads_to ss w
one_of_tips w [] = refl
one_of_tips w (s ∷ ss) = ap (λ b. (s.to == w) || b) (one_of_tips w ss)

-- a number is one of the wanted tips where it is wanted and a spoke leads to it
tips_tell : (spec : ComplementSpec) (u : ℕ) (ss : List Spoke) (w : ℕ) → spec.copy ≡ true → is_one w (filter (is_wanted spec u true) (map (λ s. s.to) ss)) ≡ is_wanted spec u (leads_to ss w) w
tips_tell spec u ss w copy =
    any-filter_same (λ x. x == w) (is_wanted spec u true) (is_wanted spec u true w) (λ k same. ap (is_wanted spec u true) (eqb-true k w same)) (map (λ s. s.to) ss)
    ∙ (ap (λ b. is_wanted spec u true w && b) (one_of_tips w ss)
    ∙ wanted_joined spec u w (leads_to ss w) copy)

-- below n, as the spokes lead
tips_below : (spec : ComplementSpec) (n u : ℕ) (ss : List Spoke) → All (IsWithin n) ss → All (λ w. w < n) (filter (is_wanted spec u true) (map (λ s. s.to) ss))
tips_below spec n u ss all =
    All-filter (is_wanted spec u true) (λ w. w < n) (map (λ s. s.to) ss) (All-map (λ w. w < n) (λ (s : Spoke). s.to) ss all)

pub ordered_below : (spec : ComplementSpec) (n u : ℕ) (ss : List Spoke) (ns ms : List ℕ) → All (IsWithin n) ss → ns ≡ filter (is_wanted spec u true) (map (λ s. s.to) ss) → IsInOrder ns ms → All (λ w. w < n) ms
ordered_below spec n u ss ns ms all is order = order.below n (subst (λ ws. All (λ w. w < n) ws) (sym is) (tips_below spec n u ss all))

pub ordered_is : (spec : ComplementSpec) (n u : ℕ) (ss : List Spoke) (ns ms : List ℕ) → spec.copy ≡ true → All (IsWithin n) ss → ns ≡ filter (is_wanted spec u true) (map (λ s. s.to) ss) → IsInOrder ns ms → map (unit_step u) ms ≡ wanted_steps spec n u ss
unfolding wanted_steps
ordered_is spec n u ss ns ms copy all is order =
    ap (map (unit_step u)) (rising_is_filter (λ w. is_wanted spec u (leads_to ss w) w) n 0 ms (rises ms order.rising)
    (λ k d low. let h = ordered_below spec n u ss ns ms all is order k d low in omega (arith, h))
    (λ w from to. order.same w ∙ (ap (is_one w) is ∙ tips_tell spec u ss w copy)))

-- one spoke more
tips_more : (spec : ComplementSpec) (u : ℕ) (ss : List Spoke) (i : ℕ) (d : Spoke) → i < length ss → filter (is_wanted spec u true) (map (λ s. s.to) (take (i + 1) ss)) ≡ filter (is_wanted spec u true) (map (λ s. s.to) (take i ss)) ++ cond (is_wanted spec u true (get_or ss i d).to) ((get_or ss i d).to ∷ []) []
tips_more spec u ss i d h =
    ap (λ (rs : List Spoke). filter (is_wanted spec u true) (map (λ s. s.to) rs)) (take_more ss i d h)
    ∙ (ap (filter (is_wanted spec u true)) (map-append (λ (s : Spoke). s.to) (take i ss) (get_or ss i d ∷ []))
    ∙ filter-append (is_wanted spec u true) (map (λ s. s.to) (take i ss)) ((get_or ss i d).to ∷ []))

pub tips_push : (spec : ComplementSpec) (u : ℕ) (ss : List Spoke) (i : ℕ) (d : Spoke) → i < length ss → is_wanted spec u true (get_or ss i d).to ≡ true → filter (is_wanted spec u true) (map (λ s. s.to) (take (i + 1) ss)) ≡ filter (is_wanted spec u true) (map (λ s. s.to) (take i ss)) ++ (get_or ss i d).to ∷ []
tips_push spec u ss i d h is =
    tips_more spec u ss i d h ∙ ap (λ b. filter (is_wanted spec u true) (map (λ s. s.to) (take i ss)) ++ cond b ((get_or ss i d).to ∷ []) []) is

pub tips_skip : (spec : ComplementSpec) (u : ℕ) (ss : List Spoke) (i : ℕ) (d : Spoke) → i < length ss → is_wanted spec u true (get_or ss i d).to ≡ false → filter (is_wanted spec u true) (map (λ s. s.to) (take (i + 1) ss)) ≡ filter (is_wanted spec u true) (map (λ s. s.to) (take i ss))
tips_skip spec u ss i d h is =
    tips_more spec u ss i d h
    ∙ (ap (λ b. filter (is_wanted spec u true) (map (λ s. s.to) (take i ss)) ++ cond b ((get_or ss i d).to ∷ []) []) is
    ∙ append-nil (filter (is_wanted spec u true) (map (λ s. s.to) (take i ss))))
