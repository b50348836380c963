-- Lemmas on the codes of names.
use Rattle.std.proofs.Common.{◌≡◌, ◌≢◌, ◌<◌, ◌≤◌, ◌+◌, ◌-◌, ◌*◌, ◌^◌, ◌%◌, ◌==◌, ℕ, suc, pos, List, [], ◌∷◌, ◌++◌, length, get_or, map, take, drop, codes, true, false, All, inl, inr, refl, sym, ap, ap₂, subst, ◌∙◌, arith}
use Rattle.std.specs.Prelude.{position}
use Rattle.std.specs.List.{flat_map, list_any, starts_with}
use Rattle.std.specs.Option.{option_to_list}
use Rattle.std.specs.Cmp.Lexicographic.{pointwise}
use Rattle.std.proofs.Math.Pow.{pow_mono}
use Rattle.std.proofs.Math.Nat.{mul-add, mul_assoc, mul_comm, mul_left_comm, mod-eq_of_lt, pow-succ'}
use Rattle.std.proofs.lemmas.Bool.{false≢true, cases_Bool, eq-eqb, ne_eqb}
use Rattle.std.proofs.lemmas.List.{length-append, length-map, map-append, length-take-le, length-drop, take-append-drop, take_more, drop_more, at_drop_all, get_or-map, get_or-take}
use Rattle.std.proofs.lemmas.List.Folds.{list_any_none}
use Rattle.std.proofs.lemmas.List.Elements.{All-nil, All-cons, All-head, All-tail, All-append, All-map, All-take, All-drop}
use Rattle.std.proofs.lemmas.Slice.Eq.{bytes_eq-Decides}
use Rattle.indexmap.specs.IndexSet.{insert_key}
use Rattle.sgb_graph.specs.Builder.{insertion}
use denote.Ref.{Bor}
use Rattle.sgb_binary.specs.Private.Names.{bytes_of}
use Rattle.sgb_plan.proofs.Distincts.{position_agree}
use Rattle.sgb_binary.specs.Rotation.{tree_fronts, turned, turned_at, number_in, targets, rotations_at}
use Rattle.sgb_binary.specs.Private.Code.{leaf, code_of, codes_of, number_among, IsLetter, IsName, AreNames}
use Rattle.sgb_binary.proofs.RotationSteps.{position-map, behind_dot, rotation_one, rotation_none}

-- ---- digits
leaf_few : (c : ℕ) → leaf c ≤ 1
leaf_few c = elim (cases_Bool (c == 46)) [ inl dot ↦ rw dot (omega arith) | inr other ↦ rw other (omega arith) ]

leaf_dot : (c : ℕ) → c ≡ 46 → leaf c ≡ 0
leaf_dot c is = ap leaf is

leaf_other : (c : ℕ) → c ≡ 120 → leaf c ≡ 1
leaf_other c is = ap leaf is

same_letter : (a b : ℕ) → IsLetter a → IsLetter b → leaf a ≡ leaf b → a ≡ b
same_letter a b (inl p) (inl q) same = p ∙ sym q
same_letter a b (inl p) (inr q) same = absurd (let no : 0 ≡ 1 = sym (leaf_dot a p) ∙ (same ∙ leaf_other b q) in cc)
same_letter a b (inr p) (inl q) same = absurd (let no : 1 ≡ 0 = sym (leaf_other a p) ∙ (same ∙ leaf_dot b q) in cc)
same_letter a b (inr p) (inr q) same = p ∙ sym q

digits_differ : (x y a b : ℕ) → a ≤ 1 → b ≤ 1 → 2 * x + a ≡ 2 * y + b → a ≡ b
digits_differ x y a b p q same = omega arith

code_same : (v w : List ℕ) → All IsLetter v → All IsLetter w → length v ≡ length w → code_of v ≡ code_of w → v ≡ w
unfolding code_of
code_same [] [] p q long same = refl
code_same [] (b ∷ w) p q long same = absurd (omega (arith, long))
code_same (a ∷ v) [] p q long same = absurd (omega (arith, long))
code_same (a ∷ v) (b ∷ w) p q long same =
    let digit : leaf a ≡ leaf b = digits_differ (code_of v) (code_of w) (leaf a) (leaf b) (leaf_few a) (leaf_few b) same in
    ap₂ (λ c u. c ∷ u) (same_letter a b (All-head IsLetter a v p) (All-head IsLetter b w q) digit)
    (code_same v w (All-tail IsLetter a v p) (All-tail IsLetter b w q) (omega (arith, long)) (omega (arith, same, digit)))

pub code_below : (w : List ℕ) → code_of w < 2 ^ length w
unfolding code_of
code_below [] = omega arith
code_below (c ∷ w) =
    let rest = code_below w in
    let few = leaf_few c in
    let twice : 2 ^ suc (length w) ≡ 2 * 2 ^ length w = pow-succ' 2 (length w) in
    omega (arith, rest, few, twice)

code_append : (v w : List ℕ) → code_of (v ++ w) ≡ code_of v + 2 ^ length v * code_of w
unfolding code_of
code_append [] w = omega arith
code_append (c ∷ v) w =
    let rest = code_append v w in
    let twice : 2 ^ suc (length v) * code_of w ≡ 2 * (2 ^ length v * code_of w) = ap (λ p. p * code_of w) (pow-succ' 2 (length v)) ∙ mul_assoc 2 (2 ^ length v) (code_of w) in
    omega (arith, rest, twice)

-- one letter more from the front, and from the end
pub code_more : (w : List ℕ) (i : ℕ) → i < length w → code_of (take (i + 1) w) ≡ code_of (take i w) + 2 ^ i * leaf (get_or w i 0)
unfolding code_of
code_more w i less =
    ap code_of (take_more w i 0 less)
    ∙ (code_append (take i w) (get_or w i 0 ∷ [])
    ∙ ap₂ (λ n c. code_of (take i w) + 2 ^ n * c) (length-take-le i w (omega arith)) (omega arith))

pub code_end : (w : List ℕ) (i : ℕ) → length w ≤ i → code_of (drop i w) ≡ 0
unfolding code_of
code_end w i past = at_drop_all code_of w i past

pub code_before : (w : List ℕ) (i : ℕ) → i < length w → code_of (drop i w) ≡ 2 * code_of (drop (i + 1) w) + leaf (get_or w i 0)
unfolding code_of
code_before w i less = ap code_of (drop_more w i 0 less)

pub code_grown : (w : List ℕ) (place code : ℕ) → 0 < place → place ≤ length w → code ≡ code_of (drop place w) → code_of (drop (place - 1) w) ≡ 2 * code + leaf (get_or w (place - 1) 0)
code_grown w place code some within is =
    let back : place - 1 + 1 ≡ place = omega arith in
    code_before w (place - 1) (omega arith)
    ∙ ap (λ x. 2 * x + leaf (get_or w (place - 1) 0)) (ap (λ i. code_of (drop i w)) back ∙ sym is)

-- a code has room for all of them
pub code_fits : (w : List ℕ) (i : ℕ) → length w < 64 → code_of (drop i w) < 2 ^ 64
code_fits w i short =
    let few = code_below (drop i w) in
    let most : 2 ^ length (drop i w) ≤ 2 ^ 64 = pow_mono {i = length (drop i w)} {j = 64} (omega (arith, length-drop i w)) in
    omega (arith, few, most)

pub worth_fits : (w : List ℕ) (i : ℕ) → i < length w → length w < 64 → 2 ^ i * 2 < 2 ^ 64
worth_fits w i less short =
    let most : 2 ^ suc i ≤ 2 ^ 63 = pow_mono {i = suc i} {j = 63} (omega arith) in
    omega (arith, most, pow-succ' 2 i)

pub sum_fits : (w : List ℕ) (i code worth : ℕ) → i < length w → length w < 64 → code ≡ code_of (take i w) → worth ≡ 2 ^ i → code + worth < 2 ^ 64
sum_fits w i code worth less short is doubles =
    let few : code_of (take i w) < 2 ^ i = subst (λ n. code_of (take i w) < 2 ^ n) (length-take-le i w (omega arith)) (code_below (take i w)) in
    omega (arith, few, is, doubles, worth_fits w i less short)

pub worth_more : (i worth : ℕ) → worth ≡ 2 ^ i → worth * 2 ≡ 2 ^ (i + 1)
worth_more i worth is =
    let next : suc i ≡ i + 1 = omega arith in
    ap (λ p. p * 2) is ∙ (mul_comm (2 ^ i) 2 ∙ (sym (pow-succ' 2 i) ∙ ap (λ n. 2 ^ n) next))

pub code_on_dot : (w : List ℕ) (i code next : ℕ) → i < length w → get_or w i 0 ≡ 46 → code ≡ code_of (take i w) → next ≡ code → next ≡ code_of (take (i + 1) w)
code_on_dot w i code next less dot is same =
    let none : 2 ^ i * leaf (get_or w i 0) ≡ 0 = ap (λ c. 2 ^ i * leaf c) dot ∙ omega arith in
    omega (arith, code_more w i less, none, is, same)

pub code_on_leaf : (w : List ℕ) (i code worth next : ℕ) → i < length w → get_or w i 0 ≢ 46 → code ≡ code_of (take i w) → worth ≡ 2 ^ i → next ≡ code + worth → next ≡ code_of (take (i + 1) w)
code_on_leaf w i code worth next less other is doubles sum =
    let one : leaf (get_or w i 0) ≡ 1 = rw (ne_eqb (get_or w i 0) 46 other) refl in
    let whole : 2 ^ i * leaf (get_or w i 0) ≡ 2 ^ i = ap (λ d. 2 ^ i * d) one ∙ omega arith in
    omega (arith, code_more w i less, whole, is, doubles, sum)

-- ---- what a word turns into
whole : (w : List ℕ) (i k : ℕ) → drop (i + 1) w ≡ 46 ∷ drop (i + 2) w → w ≡ take (i + 1) w ++ (46 ∷ (take k (drop (i + 2) w) ++ drop k (drop (i + 2) w)))
whole w i k dot =
    sym (take-append-drop (i + 1) w)
    ∙ ap (λ xs. take (i + 1) w ++ xs) (dot ∙ ap (λ xs. 46 ∷ xs) (sym (take-append-drop k (drop (i + 2) w))))

halved : (c p t x : ℕ) → c + p * (2 * (t + x)) ≡ c + p * (t + 2 * x) + t * p
halved c p t x =
    let twice : 2 * (t + x) ≡ (t + 2 * x) + t = omega arith in
    ap (λ y. c + p * y) twice ∙ (ap (λ y. c + y) (mul-add p (t + 2 * x) t ∙ ap (λ y. p * (t + 2 * x) + y) (mul_comm p t)) ∙ omega arith)

code_dot : (w : List ℕ) → code_of (46 ∷ w) ≡ 2 * code_of w
unfolding code_of
code_dot w = omega arith

pub turned_sum : (w : List ℕ) (i k : ℕ) → drop (i + 1) w ≡ 46 ∷ drop (i + 2) w → i + 1 ≤ length w → code_of w ≡ code_of (turned w i k) + code_of (take k (drop (i + 2) w)) * 2 ^ (i + 1)
turned_sum w i k dot within =
    let front : List ℕ = take (i + 1) w in
    let tree : List ℕ = take k (drop (i + 2) w) in
    let back : List ℕ = drop k (drop (i + 2) w) in
    let p : ℕ = 2 ^ length front in
    let x : ℕ = 2 ^ length tree * code_of back in
    let long : p ≡ 2 ^ (i + 1) = ap (λ n. 2 ^ n) (length-take-le (i + 1) w within) in
    let before : code_of w ≡ code_of front + p * (2 * (code_of tree + x)) =
    ap code_of (whole w i k dot)
    ∙ (code_append front (46 ∷ (tree ++ back))
    ∙ ap (λ y. code_of front + p * y) (code_dot (tree ++ back) ∙ ap (λ y. 2 * y) (code_append tree back))) in
    let after : code_of (turned w i k) ≡ code_of front + p * (code_of tree + 2 * x) =
    code_append front (tree ++ (46 ∷ back))
    ∙ ap (λ y. code_of front + p * y)
    (code_append tree (46 ∷ back)
    ∙ ap (λ y. code_of tree + y) (ap (λ y. 2 ^ length tree * y) (code_dot back) ∙ mul_left_comm (2 ^ length tree) 2 (code_of back))) in
    before ∙ (halved (code_of front) p (code_of tree) x ∙ ap₂ (λ y q. y + code_of tree * q) (sym after) long)

turned_name : (width : ℕ) (w : List ℕ) (i k : ℕ) → drop (i + 1) w ≡ 46 ∷ drop (i + 2) w → IsName width w → IsName width (turned w i k)
turned_name width w i k dot is =
    let front : List ℕ = take (i + 1) w in
    let rest : List ℕ = drop (i + 2) w in
    let tree : List ℕ = take k rest in
    let back : List ℕ = drop k rest in
    let all : All IsLetter rest = All-drop IsLetter (i + 2) w is.letters in
    let size = ap (λ xs. length xs) (whole w i k dot) in
    record {
      long =
          omega
          (arith, size, is.long, length-append front (46 ∷ (tree ++ back)), length-append tree back, length-append front (tree ++ (46 ∷ back)), length-append tree (46 ∷ back));
      letters =
          All-append IsLetter front (tree ++ (46 ∷ back)) (All-take IsLetter (i + 1) w is.letters)
          (All-append IsLetter tree (46 ∷ back) (All-take IsLetter k rest all)
          (All-cons IsLetter 46 back (inl refl) (All-drop IsLetter k rest all)));
    }

turned_names : (width : ℕ) (w : List ℕ) (i : ℕ) → IsName width w → All (IsName width) (turned_at w i)
unfolding turned_at
turned_names width w i is =
    elim (cases_Bool (starts_with ◌==◌ (drop i w) (codes ".."))) [
      | inl starts ↦ rw starts
          (All-map (IsName width) (turned w i) (tree_fronts (drop (i + 2) w))
          (λ j d h. turned_name width w i (get_or (tree_fronts (drop (i + 2) w)) j d) (behind_dot w i starts) is))
      | inr none ↦ rw none (All-nil (IsName width))
    ]

pub turned_none : (w : List ℕ) (i : ℕ) → starts_with ◌==◌ (drop i w) (codes "..") ≡ false → codes_of (turned_at w i) ≡ []
unfolding turned_at
turned_none w i is = rw is refl

none_mapped : (f : ℕ → ℕ) (ks : List ℕ) → [] ≡ map f ks → ks ≡ []
none_mapped f [] none = refl
none_mapped f (k ∷ ks) none = absurd cc

one_mapped : (f : ℕ → ℕ) (ks : List ℕ) (x : ℕ) → x ∷ [] ≡ map f ks → (k : ℕ) × (ks ≡ k ∷ []) × (x ≡ f k)
one_mapped f [] x one = absurd cc
one_mapped f (k ∷ []) x one = (k, refl, cc)
one_mapped f (k ∷ (j ∷ ks)) x one = absurd (let few = ap (λ xs. length xs) one in omega (arith, few))

pub turned_no_tree : (w : List ℕ) (i : ℕ) → starts_with ◌==◌ (drop i w) (codes "..") ≡ true → [] ≡ map (λ k. code_of (take k (drop (i + 2) w))) (tree_fronts (drop (i + 2) w)) → codes_of (turned_at w i) ≡ []
unfolding turned_at
turned_no_tree w i is none =
    let no : tree_fronts (drop (i + 2) w) ≡ [] = none_mapped (λ k. code_of (take k (drop (i + 2) w))) (tree_fronts (drop (i + 2) w)) none in
    rw (is, no) refl

turned_fronts : (w : List ℕ) (i k : ℕ) → starts_with ◌==◌ (drop i w) (codes "..") ≡ true → tree_fronts (drop (i + 2) w) ≡ k ∷ [] → codes_of (turned_at w i) ≡ code_of (turned w i k) ∷ []
unfolding turned_at
turned_fronts w i k is one = rw (is, one) refl

pub turned_one : (w : List ℕ) (i code : ℕ) → starts_with ◌==◌ (drop i w) (codes "..") ≡ true → i + 1 ≤ length w → code ∷ [] ≡ map (λ k. code_of (take k (drop (i + 2) w))) (tree_fronts (drop (i + 2) w)) → (t : ℕ) × (codes_of (turned_at w i) ≡ t ∷ []) × (code_of w ≡ t + code * 2 ^ (i + 1))
turned_one w i code is within one =
    let fronts = one_mapped (λ k. code_of (take k (drop (i + 2) w))) (tree_fronts (drop (i + 2) w)) code one in
    let k : ℕ = fronts.0 in
    (code_of (turned w i k), turned_fronts w i k is fronts.1, turned_sum w i k (behind_dot w i is) within ∙ ap (λ c. code_of (turned w i k) + c * 2 ^ (i + 1)) (sym fronts.2))

sub_mod : (m code t s : ℕ) → code < m → code ≡ t + s → (s % m ≤ code) × (code - s % m ≡ t)
sub_mod m code t s fits is =
    let same : s % m ≡ s = mod-eq_of_lt {n = s} {m = m} (omega arith) in
    (omega (arith, same), omega (arith, same))

pub turned_value : (w : List ℕ) (i tree code m : ℕ) → starts_with ◌==◌ (drop i w) (codes "..") ≡ true → i + 1 ≤ length w → tree ∷ [] ≡ map (λ k. code_of (take k (drop (i + 2) w))) (tree_fronts (drop (i + 2) w)) → code ≡ code_of w → code < m → (tree * 2 ^ (i + 1) % m ≤ code) × ((code - tree * 2 ^ (i + 1) % m) ∷ [] ≡ codes_of (turned_at w i))
turned_value w i tree code m is within one known fits =
    let turns = turned_one w i tree is within one in
    let both = sub_mod m code turns.0 (tree * 2 ^ (i + 1)) fits (known ∙ turns.2) in
    (both.0, ap (λ x. x ∷ []) both.1 ∙ sym turns.1)

pub name_short : (names : List (List ℕ)) (i : ℕ) (x : List ℕ) → AreNames names → i < length names → x ≡ get_or names i [] → length x < 64
name_short names i x are less is =
    let long : length (get_or names i []) ≡ are.width = (are.names i [] less).long in
    omega (arith, ap (λ xs. length xs) is, long, are.short)

-- ---- names by their codes
number_same : (width : ℕ) (names : List (List ℕ)) (t : List ℕ) → All (IsName width) names → IsName width t → number_in names t ≡ number_among (codes_of names) (code_of t)
number_same width names t all is =
    let agree : (w : List ℕ) → IsName width w → pointwise ◌==◌ t w ≡ (code_of t == code_of w) = λ w name.
    elim (cases_Bool (pointwise ◌==◌ t w)) [
      | inl same ↦ same ∙ sym (eq-eqb (code_of t) (code_of w) (ap code_of ((bytes_eq-Decides t w).0 same)))
      | inr other ↦ other ∙ sym (ne_eqb (code_of t) (code_of w) (λ same. absurd
          (false≢true (sym other ∙ (bytes_eq-Decides t w).1 (code_same t w is.letters name.letters (is.long ∙ sym name.long) same)))))
    ] in
    let places : position (pointwise ◌==◌ t) names ≡ position (λ w. code_of t == code_of w) names =
    rw (position_agree (pointwise ◌==◌ t) (λ w. code_of t == code_of w) (IsName width) names agree all) refl in
    ap option_to_list (places ∙ sym (position-map (λ k. code_of t == k) code_of names))

pub targets_by_code : (width : ℕ) (names ts : List (List ℕ)) → All (IsName width) names → All (IsName width) ts → flat_map (number_in names) ts ≡ flat_map (number_among (codes_of names)) (codes_of ts)
targets_by_code width names [] all are = refl
targets_by_code width names (t ∷ ts) all are =
    ap₂ (λ xs ys. xs ++ ys) (number_same width names t all (All-head (IsName width) t ts are))
    (targets_by_code width names ts all (All-tail (IsName width) t ts are))

pub targets_are : (names : List (List ℕ)) (v i : ℕ) (w : List ℕ) → AreNames names → v < length names → w ≡ get_or names v [] → targets names w i ≡ flat_map (number_among (codes_of names)) (codes_of (turned_at w i))
targets_are names v i w are less is =
    let name : IsName are.width w = subst (IsName are.width) (sym is) (are.names v [] less) in
    targets_by_code are.width names (turned_at w i) are.names (turned_names are.width w i name)

-- ---- the codes of the names up to one; this one goes last
pub code_added : (names : List (List ℕ)) (i code : ℕ) (codes after : List ℕ) → AreNames names → i < length names → code ≡ code_of (get_or names i []) → codes ≡ codes_of (take i names) → after ≡ insert_key ◌==◌ codes code → after ≡ codes_of (take (i + 1) names)
code_added names i code codes after are less is shown put =
    let few : length codes ≡ i = ap (λ xs. length xs) shown ∙ (length-map (take i names) code_of ∙ length-take-le i names (omega arith)) in
    let fresh : list_any (λ k. code == k) codes ≡ false =
    list_any_none (λ k. code == k) codes
    (λ j d low. ne_eqb code (get_or codes j d) (λ same.
    let below : j < i = omega (arith, low, few) in
    let other : get_or codes j d ≡ code_of (get_or names j []) =
    ap (λ xs. get_or xs j d) shown
    ∙ (get_or-map code_of (take i names) j [] d (omega (arith, length-take-le i names (omega arith))) ∙ ap code_of (get_or-take i names j [] below)) in
    let mine : IsName are.width (get_or names i []) = are.names i [] less in
    let first : IsName are.width (get_or names j []) = are.names j [] (omega arith) in
    are.apart j i [] below less (sym
    (code_same (get_or names i []) (get_or names j []) mine.letters first.letters (mine.long ∙ sym first.long) (sym is ∙ (same ∙ other)))))) in
    put
    ∙ rw fresh (ap₂ (λ xs y. xs ++ y ∷ []) shown is
    ∙ (sym (map-append code_of (take i names) (get_or names i [] ∷ []))
    ∙ ap codes_of (sym (take_more names i [] less))))

-- the name that one of the keys is
pub name_at : (keys : List (Bor (List ℕ))) (i : ℕ) (d : Bor (List ℕ)) → i < length keys → bytes_of (get_or keys i d) ≡ get_or (map bytes_of keys) i []
name_at keys i d less = sym (get_or-map bytes_of keys i d [] less)

-- ---- the insertions at a place
found_by_code : (names : List (List ℕ)) (codes found : List ℕ) (v i : ℕ) (w : List ℕ) → AreNames names → v < length names → w ≡ get_or names v [] → codes ≡ codes_of names → found ≡ flat_map (number_among codes) (codes_of (turned_at w i)) → found ≡ targets names w i
found_by_code names codes found v i w are less is shown value =
    value ∙ (ap (λ cs. flat_map (number_among cs) (codes_of (turned_at w i))) shown ∙ sym (targets_are names v i w are less is))

pub target_some : (names : List (List ℕ)) (codes : List ℕ) (v i target : ℕ) (w : List ℕ) → AreNames names → v < length names → w ≡ get_or names v [] → codes ≡ codes_of names → target ∷ [] ≡ flat_map (number_among codes) (codes_of (turned_at w i)) → rotations_at names v w i ≡ insertion v target (pos 1) ∷ []
target_some names codes v i target w are less is shown value =
    rotation_one names v w w i target refl (found_by_code names codes (target ∷ []) v i w are less is shown value)

pub target_none : (names : List (List ℕ)) (codes : List ℕ) (v i : ℕ) (w : List ℕ) → AreNames names → v < length names → w ≡ get_or names v [] → codes ≡ codes_of names → [] ≡ flat_map (number_among codes) (codes_of (turned_at w i)) → rotations_at names v w i ≡ []
target_none names codes v i w are less is shown value =
    rotation_none names v w w i refl (found_by_code names codes [] v i w are less is shown value)
