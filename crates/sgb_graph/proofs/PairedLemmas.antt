-- Lemmas on paired graphs.
use Rattle.std.proofs.Common.{◌≡◌, ◌<◌, ◌≤◌, ◌+◌, ℕ, zero, suc, List, [], ◌∷◌, Option, Some, None, is_some, IfSome, Bool, true, false, not, refl, sym, ap, ◌∙◌, arith, subst}
use Rattle.std.proofs.Common.{add-one, zero-add}
use Rattle.std.specs.List.{list_all, range_with_len}
use Rattle.std.proofs.Common.{inl, inr}
use Rattle.std.proofs.lemmas.Bool.{and_parts, and_from, cases_Bool}
use Rattle.std.proofs.lemmas.List.Folds.{list_all_at}
use Rattle.std.proofs.lemmas.List.FromFn.{length-range_with_len, get_or-range_with_len}
use Rattle.sgb_graph.specs.declared.field.ArcNo.{ArcNo}
use Rattle.sgb_graph.specs.declared.graph.read.ArcView.{ArcView}
use Rattle.sgb_graph.specs.Graph.{GraphOf, made_of}
use Rattle.sgb_graph.specs.Edit.{owner_of}
use Rattle.sgb_graph.specs.Read.{entry_view, arc_view}
use Rattle.sgb_graph.specs.Paired.{goes, leads_from, is_loop, is_loop_pair, are_loops_paired, is_matched, is_view_matched}
use Rattle.sgb_graph.proofs.Graphs.{no_arc_past}

pub leads_from_past : (g : GraphOf) (k v u : ℕ) → made_of g ≤ k → leads_from g k v u ≡ false
unfolding leads_from
leads_from_past g k v u h = ap (λ o. goes v u (entry_view (owner_of g k) o)) (no_arc_past g k h)

pub leads_from_is : (g : GraphOf) (k v u : ℕ) (o : Option ArcView) → o ≡ arc_view g k → leads_from g k v u ≡ goes v u o
unfolding leads_from
leads_from_is g k v u o is = ap (goes v u) (sym is)

pub is_matched_is : (g : GraphOf) (k : ℕ) (o : Option ArcView) → o ≡ arc_view g k → is_matched g k ≡ is_view_matched g k o
unfolding is_matched
is_matched_is g k o is = ap (is_view_matched g k) (sym is)

-- a list that may have one arc more in front
abbrev pub behind : Option ArcNo → List ℕ → List ℕ
behind None ks = ks
behind (Some k) ks = k.0 ∷ ks

-- an arc in front that is no loop
pub skip_other : (g : GraphOf) (v k : ℕ) (ks : List ℕ) → is_loop g v k ≡ false → are_loops_paired g v (k ∷ ks) ≡ are_loops_paired g v ks
unfolding are_loops_paired
skip_other g v k [] other = ap not other
skip_other g v k (j ∷ ks) other = rw other refl

-- a loop in front with its second half
pub skip_pair : (g : GraphOf) (v j k : ℕ) (ks : List ℕ) → is_loop_pair g v j k ≡ true → are_loops_paired g v (j ∷ (k ∷ ks)) ≡ are_loops_paired g v ks
unfolding are_loops_paired
skip_pair g v j k ks pair = rw pair refl

-- a loop in front without one
pub alone_first : (g : GraphOf) (v j k : ℕ) (ks : List ℕ) → is_loop g v j ≡ true → is_loop_pair g v j k ≡ false → are_loops_paired g v (j ∷ (k ∷ ks)) ≡ false
unfolding are_loops_paired
alone_first g v j k ks loop pair = rw (pair, loop) refl

pub alone_last : (g : GraphOf) (v j : ℕ) → is_loop g v j ≡ true → are_loops_paired g v (j ∷ []) ≡ false
unfolding are_loops_paired
alone_last g v j loop = ap not loop

pub none_alone : (g : GraphOf) (v : ℕ) → are_loops_paired g v [] ≡ true
unfolding are_loops_paired
none_alone g v = refl

-- a test of all numbers below n
range_more : (p : ℕ → Bool) (a n : ℕ) → list_all p (range_with_len a n) ≡ true → p (a + n) ≡ true → list_all p (range_with_len a (suc n)) ≡ true
range_more p a zero all here = let here' : p a ≡ true = subst (λ i. p i ≡ true) (omega arith) here in rw here' refl
range_more p a (suc n) all here =
    let both = and_parts (p a) (list_all p (range_with_len (a + 1) n)) all in
    and_from (p a) (list_all p (range_with_len (a + 1) (suc n))) both.0
    (range_more p (a + 1) n both.1 (subst (λ i. p i ≡ true) (omega arith) here))

pub below_all_more : (p : ℕ → Bool) (n : ℕ) → list_all p (range_with_len 0 n) ≡ true → p n ≡ true → list_all p (range_with_len 0 (n + 1)) ≡ true
below_all_more p n all here = rw add-one (range_more p 0 n all (subst (λ i. p i ≡ true) (omega arith) here))

pub below_all_not : (p : ℕ → Bool) (n k : ℕ) → k < n → p k ≡ false → list_all p (range_with_len 0 n) ≡ false
below_all_not p n k h not =
    list_all_at p (range_with_len 0 n) k 0 (omega (arith, length-range_with_len 0 n))
    (subst (λ i. p i ≡ false) (sym (get_or-range_with_len 0 n k 0 h ∙ zero-add k)) not)

-- the next arc of the list, with what stood before it
pub pair_missing : (g : GraphOf) (v : ℕ) (alone : Option ArcNo) (first : ArcNo) (left rest all : List ℕ) (k : ℕ) → are_loops_paired g v (behind alone left) ≡ are_loops_paired g v all → IfSome alone (λ j. is_loop g v j.0 ≡ true)
    → alone ≡ Some first → left ≡ k ∷ rest → is_loop_pair g v first.0 k ≡ false → are_loops_paired g v all ≡ false
pair_missing g v alone first left rest all k same loops is steps pair =
    sym same
    ∙ (ap (λ a. are_loops_paired g v (behind a left)) is
    ∙ (ap (λ l. are_loops_paired g v (first.0 ∷ l)) steps
    ∙ alone_first g v first.0 k rest (subst (λ a. IfSome a (λ j. is_loop g v j.0 ≡ true)) is loops) pair))

pub pair_met : (g : GraphOf) (v : ℕ) (alone : Option ArcNo) (first : ArcNo) (left rest all : List ℕ) (k : ℕ) → are_loops_paired g v (behind alone left) ≡ are_loops_paired g v all
    → alone ≡ Some first → left ≡ k ∷ rest → is_loop_pair g v first.0 k ≡ true → are_loops_paired g v rest ≡ are_loops_paired g v all
pair_met g v alone first left rest all k same is steps pair =
    sym (skip_pair g v first.0 k rest pair)
    ∙ (ap (λ l. are_loops_paired g v (first.0 ∷ l)) (sym steps)
    ∙ (ap (λ a. are_loops_paired g v (behind a left)) (sym is) ∙ same))

pub loop_begins : (g : GraphOf) (v : ℕ) (alone : Option ArcNo) (left rest all : List ℕ) (k : ℕ) → are_loops_paired g v (behind alone left) ≡ are_loops_paired g v all
    → alone ≡ None → left ≡ k ∷ rest → are_loops_paired g v (k ∷ rest) ≡ are_loops_paired g v all
loop_begins g v alone left rest all k same is steps =
    ap (are_loops_paired g v) (sym steps) ∙ (ap (λ a. are_loops_paired g v (behind a left)) (sym is) ∙ same)

pub other_passed : (g : GraphOf) (v : ℕ) (alone : Option ArcNo) (left rest all : List ℕ) (k : ℕ) → are_loops_paired g v (behind alone left) ≡ are_loops_paired g v all
    → alone ≡ None → left ≡ k ∷ rest → is_loop g v k ≡ false → are_loops_paired g v (behind alone rest) ≡ are_loops_paired g v all
other_passed g v alone left rest all k same is steps other =
    ap (λ a. are_loops_paired g v (behind a rest)) is ∙ (sym (skip_other g v k rest other) ∙ loop_begins g v alone left rest all k same is steps)

unflip : (b r : Bool) → b ≡ not r → r ≡ not b
unflip b true h = ap not (sym h)
unflip b false h = ap not (sym h)

loops_ended : (g : GraphOf) (v : ℕ) (alone : Option ArcNo) (left all : List ℕ) → are_loops_paired g v (behind alone left) ≡ are_loops_paired g v all → IfSome alone (λ j. is_loop g v j.0 ≡ true)
    → left ≡ [] → not (is_some alone) ≡ are_loops_paired g v all
loops_ended g v None left all same loops ends = sym (none_alone g v) ∙ (ap (are_loops_paired g v) (sym ends) ∙ same)
loops_ended g v (Some j) left all same loops ends = sym (alone_last g v j.0 loops) ∙ (ap (λ l. are_loops_paired g v (j.0 ∷ l)) (sym ends) ∙ same)

pub loops_end : (g : GraphOf) (v : ℕ) (alone : Option ArcNo) (left all : List ℕ) (r : Bool) → are_loops_paired g v (behind alone left) ≡ are_loops_paired g v all → IfSome alone (λ j. is_loop g v j.0 ≡ true)
    → left ≡ [] → is_some alone ≡ not r → r ≡ are_loops_paired g v all
loops_end g v alone left all r same loops ends is = unflip (is_some alone) r is ∙ loops_ended g v alone left all same loops ends

-- the test at one of the numbers
pub below_all : (p : ℕ → Bool) (n k : ℕ) → list_all p (range_with_len 0 n) ≡ true → k < n → p k ≡ true
below_all p n k all h =
    elim (cases_Bool (p k)) [
      | inl yes' ↦ yes'
      | inr no' ↦ absurd (let none = below_all_not p n k h no' in cc)
    ]

-- and of all numbers
pub range_all : (q : ℕ → Bool) (a n : ℕ) → ((k : ℕ) → q k ≡ true) → list_all q (range_with_len a n) ≡ true
range_all q a zero each = refl
range_all q a (suc n) each = and_from (q a) (list_all q (range_with_len (a + 1) n)) (each a) (range_all q (a + 1) n each)
