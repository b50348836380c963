-- Trees as they are built and as they are listed: the same ones, each once.
use Rattle.std.proofs.Common.{◌≡◌, ◌≢◌, ◌≤◌, ◌+◌, ◌*◌, ◌⊎◌, ℕ, zero, suc, List, [], ◌∷◌, ◌++◌, length, map, max, get_or, Option, None, Some, Bool, true, false, All, Contains, inl, inr, refl, sym, ap, ap₂, subst, ◌∙◌, arith, append_assoc}
use Rattle.std.specs.List.{filter}
use Rattle.std.specs.Option.{option_map, option_and_then}
use Rattle.std.proofs.lemmas.Bool.{cases_Bool, eq-eqb, ne_eqb, le-leb, leb-true}
use Rattle.std.proofs.lemmas.List.{append-nil, length-append, length-map, get_or-map}
use Rattle.std.specs.List.{AllPairs}
use Rattle.std.specs.Cmp.Lexicographic.{slice_cmp}
use Rattle.std.specs.Ordering.{nat_cmp}
use Rattle.std.specs.declared.cmp.Ordering.TheVariants.{Less}
use Rattle.std.proofs.lemmas.List.Kept.{AllPairs-cons, AllPairs-filter}
use Rattle.std.proofs.lemmas.List.Elements.{All-head, All-tail, All-nil, All-cons, All-append, All-map, All-filter, All-contains, filter_passes, Contains-append_left, Contains-append_right}
use Rattle.sgb_plan.specs.Distinct.{Distinct}
use Rattle.sgb_plan.proofs.Distincts.{Distinct-nil, Distinct-cons, Distinct-append, Distinct-map, Distinct-filter}
use Rattle.sgb_binary.specs.Shape.{Tree, text, dots, height}
use Rattle.sgb_binary.specs.Shape.Tree.{Leaf, Node}
use Rattle.sgb_binary.specs.Tree.{words, joined, heights, is_one_low, is_low_tree, trees}
use Rattle.sgb_binary.proofs.Rows.{words_length}

-- ---- elements of lists that are filtered or mapped
contains_later : {X : Type 0} (y : X) (ys : List X) (x : X) → Contains ys x → Contains (y ∷ ys) x
contains_later y ys x at = Contains-append_right (y ∷ []) ys x at

contains_map : {X Y : Type 0} (f : X → Y) (xs : List X) (x : X) → Contains xs x → Contains (map f xs) (f x)
contains_map f xs x at =
    (at.0, omega (arith, at.1, length-map xs f), get_or-map f xs at.0 x (f x) at.1 ∙ ap f at.2)

contains_filter : {X : Type 0} (p : X → Bool) (xs : List X) (x : X) → p x ≡ true → Contains xs x → Contains (filter p xs) x
contains_filter p [] x passes at = absurd (omega (arith, at.1))
contains_filter p (y ∷ ys) x passes (zero, h, is) =
    rw (ap p is ∙ passes) (zero, omega arith, is)
contains_filter p (y ∷ ys) x passes (suc k, h, is) =
    let rest : Contains (filter p ys) x = contains_filter p ys x passes (k, omega arith, is) in
    elim (cases_Bool (p y)) [
      | inl first ↦ rw first (contains_later y (filter p ys) x rest)
      | inr fails ↦ rw fails rest
    ]

-- ---- words
abbrev IsLetter : ℕ → Type 0
IsLetter c = (c ≡ 46) ⊎ (c ≡ 120)

words_letters : (m : ℕ) → All (All IsLetter) (words m)
unfolding words
words_letters zero = All-cons (All IsLetter) [] [] (All-nil IsLetter) (All-nil (All IsLetter))
words_letters (suc m) =
    All-append (All IsLetter) (map (λ w. 46 ∷ w) (words m)) (map (λ w. 120 ∷ w) (words m))
    (All-map (All IsLetter) (λ w. 46 ∷ w) (words m) (λ k d h. All-cons IsLetter 46 (get_or (words m) k d) (inl refl) (words_letters m k d h)))
    (All-map (All IsLetter) (λ w. 120 ∷ w) (words m) (λ k d h. All-cons IsLetter 120 (get_or (words m) k d) (inr refl) (words_letters m k d h)))

abbrev pub IsWord : List ℕ → Type 0
IsWord [] = Unit {0}
IsWord (c ∷ w) = IsLetter c × IsWord w

words_all : (w : List ℕ) → IsWord w → Contains (words (length w)) w
unfolding words
words_all [] is = (0, omega arith, refl)
words_all (c ∷ w) (inl dot, is) =
    subst (λ x. Contains (words (length (c ∷ w))) (x ∷ w)) (sym dot)
    (Contains-append_left (map (λ v. 46 ∷ v) (words (length w))) (map (λ v. 120 ∷ v) (words (length w))) (46 ∷ w)
    (contains_map (λ v. 46 ∷ v) (words (length w)) w (words_all w is)))
words_all (c ∷ w) (inr leaf, is) =
    subst (λ x. Contains (words (length (c ∷ w))) (x ∷ w)) (sym leaf)
    (Contains-append_right (map (λ v. 46 ∷ v) (words (length w))) (map (λ v. 120 ∷ v) (words (length w))) (120 ∷ w)
    (contains_map (λ v. 120 ∷ v) (words (length w)) w (words_all w is)))

begin_apart : (v w : List ℕ) → 46 ∷ v ≡ 120 ∷ w → ⊥
begin_apart v w same =
    let dot : ℕ = 46 in
    let leaf : ℕ = 120 in
    let no : dot ≡ leaf = cc in
    absurd (omega (arith, no))

words_distinct : (m : ℕ) → Distinct (words m)
unfolding words
words_distinct zero = Distinct-cons [] [] (All-nil (λ y. [] ≢ y)) Distinct-nil
words_distinct (suc m) =
    Distinct-append (map (λ w. 46 ∷ w) (words m)) (map (λ w. 120 ∷ w) (words m))
    (Distinct-map (λ w. 46 ∷ w) (words m) (λ x y same. cc) (words_distinct m))
    (Distinct-map (λ w. 120 ∷ w) (words m) (λ x y same. cc) (words_distinct m))
    (All-map (λ x. All (λ y. x ≢ y) (map (λ w. 120 ∷ w) (words m))) (λ w. 46 ∷ w) (words m)
    (λ k d h.
    All-map (λ y. (46 ∷ get_or (words m) k d) ≢ y) (λ w. 120 ∷ w) (words m)
    (λ j e low same. begin_apart (get_or (words m) k d) (get_or (words m) j e) same)))

pub trees_distinct : (n most : ℕ) → Distinct (trees n most)
unfolding trees
trees_distinct n most = Distinct-filter (is_low_tree most) (words (2 * n + 1)) (words_distinct (2 * n + 1))

-- ---- the order of the bytes
abbrev pub IsBefore : List ℕ → List ℕ → Type 0
IsBefore v w = slice_cmp nat_cmp v w ≡ Less

pairs_tail : {X : Type 0} (R : X → X → Type 0) (x : X) (xs : List X) → AllPairs R (x ∷ xs) → AllPairs R xs
pairs_tail R x xs all i j d less below = all (suc i) (suc j) d (omega arith) (omega arith)

pairs_head : {X : Type 0} (R : X → X → Type 0) (x : X) (xs : List X) → AllPairs R (x ∷ xs) → All (R x) xs
pairs_head R x xs all k d below = all zero (suc k) d (omega arith) (omega arith)

pairs_append : {X : Type 0} (R : X → X → Type 0) (xs ys : List X) → AllPairs R xs → AllPairs R ys → All (λ x. All (R x) ys) xs → AllPairs R (xs ++ ys)
pairs_append R [] ys front back across = back
pairs_append R (x ∷ xs) ys front back across =
    AllPairs-cons R x (xs ++ ys)
    (All-append (R x) xs ys (pairs_head R x xs front) (All-head (λ a. All (R a) ys) x xs across))
    (pairs_append R xs ys (pairs_tail R x xs front) back (All-tail (λ a. All (R a) ys) x xs across))

pairs_map : {X Y : Type 0} (R : Y → Y → Type 0) (f : X → Y) (xs : List X) → AllPairs (λ a b. R (f a) (f b)) xs → AllPairs R (map f xs)
pairs_map R f [] all = λ i j d less below. absurd (omega (arith, below))
pairs_map R f (x ∷ xs) all =
    AllPairs-cons R (f x) (map f xs)
    (All-map (R (f x)) f xs (pairs_head (λ a b. R (f a) (f b)) x xs all))
    (pairs_map R f xs (pairs_tail (λ a b. R (f a) (f b)) x xs all))

words_ordered : (m : ℕ) → AllPairs IsBefore (words m)
unfolding words
words_ordered zero = λ i j d less below. absurd (omega (arith, less, below))
words_ordered (suc m) =
    pairs_append IsBefore (map (λ w. 46 ∷ w) (words m)) (map (λ w. 120 ∷ w) (words m))
    (pairs_map IsBefore (λ w. 46 ∷ w) (words m) (words_ordered m))
    (pairs_map IsBefore (λ w. 120 ∷ w) (words m) (words_ordered m))
    (All-map (λ x. All (IsBefore x) (map (λ w. 120 ∷ w) (words m))) (λ w. 46 ∷ w) (words m)
    (λ k d h. All-map (IsBefore (46 ∷ get_or (words m) k d)) (λ w. 120 ∷ w) (words m) (λ j e low. refl)))

pub trees_ordered : (n most : ℕ) → AllPairs IsBefore (trees n most)
unfolding trees
trees_ordered n most = AllPairs-filter IsBefore (is_low_tree most) (words (2 * n + 1)) (words_ordered (2 * n + 1))

-- ---- the word of a tree
word_append : (v w : List ℕ) → IsWord v → IsWord w → IsWord (v ++ w)
word_append [] w front back = back
word_append (c ∷ v) w (letter, front) back = (letter, word_append v w front back)

text_word : (t : Tree) → IsWord (text t)
text_word Leaf = (inr refl, tt)
text_word (Node a b) = (inl refl, word_append (text a) (text b) (text_word a) (text_word b))

text_length : (t : Tree) → length (text t) ≡ 2 * dots t + 1
text_length Leaf = refl
text_length (Node a b) = omega (arith, length-append (text a) (text b), text_length a, text_length b)

join_two : (a b : ℕ) (o : Option (List ℕ)) → option_and_then joined (option_map (λ hs. a ∷ hs) (option_map (λ hs. b ∷ hs) o)) ≡ option_map (λ hs. (1 + max a b) ∷ hs) o
join_two a b None = refl
join_two a b (Some hs) = refl

heights_text : (t : Tree) (w : List ℕ) → heights (text t ++ w) ≡ option_map (λ hs. height t ∷ hs) (heights w)
unfolding heights
heights_text Leaf w = refl
heights_text (Node a b) w =
    ap (λ v. option_and_then joined (heights v)) (append_assoc (text a) (text b) w)
    ∙ (ap (option_and_then joined) (heights_text a (text b ++ w) ∙ ap (option_map (λ hs. height a ∷ hs)) (heights_text b w))
    ∙ join_two (height a) (height b) (heights w))

heights_one : (t : Tree) → heights (text t) ≡ Some (height t ∷ [])
unfolding heights
heights_one t = ap heights (sym (append-nil (text t))) ∙ heights_text t []

pub trees_all : (t : Tree) (n most : ℕ) → dots t ≡ n → height t ≤ most → Contains (trees n most) (text t)
unfolding trees is_low_tree
trees_all t n most same low =
    let long : length (text t) ≡ 2 * n + 1 = omega (arith, text_length t, same) in
    let passes : is_low_tree most (text t) ≡ true = ap (is_one_low most) (heights_one t) ∙ le-leb (height t) most low in
    contains_filter (is_low_tree most) (words (2 * n + 1)) (text t) passes
    (subst (λ m. Contains (words m) (text t)) long (words_all (text t) (text_word t)))

-- ---- the trees of a word
unfoldable pub texts : List Tree → List ℕ
texts [] = []
texts (t ∷ ts) = text t ++ texts ts

pub record Row (w hs : List ℕ) : Type 0 where
  pub shapes : List Tree
  pub spelled : texts shapes ≡ w
  pub high : map height shapes ≡ hs

row_leaf : (c : ℕ) (w : List ℕ) (o : Option (List ℕ)) (hs : List ℕ) → c ≡ 120 → ((gs : List ℕ) → o ≡ Some gs → Row w gs) → option_map (λ gs. 0 ∷ gs) o ≡ Some hs → Row (c ∷ w) hs
unfolding texts
row_leaf c w None hs leaf rest is = absurd cc
row_leaf c w (Some gs) hs leaf rest is =
    let row = rest gs refl in
    let same : 0 ∷ gs ≡ hs = cc in
    record {
      shapes = Leaf ∷ row.shapes;
      spelled = ap (λ v. 120 ∷ v) row.spelled ∙ ap (λ x. x ∷ w) (sym leaf);
      high = ap (λ ks. 0 ∷ ks) row.high ∙ same;
    }

row_join : (c : ℕ) (w : List ℕ) (a b : ℕ) (gs : List ℕ) → c ≡ 46 → (ts : List Tree) → texts ts ≡ w → map height ts ≡ a ∷ (b ∷ gs) → Row (c ∷ w) ((1 + max a b) ∷ gs)
unfolding texts
row_join c w a b gs dot [] spelled high = absurd cc
row_join c w a b gs dot (t ∷ []) spelled high = absurd (let no : [] ≡ b ∷ gs = cc in cc)
row_join c w a b gs dot (t ∷ (u ∷ us)) spelled high =
    let first : height t ≡ a = cc in
    let second : height u ≡ b = cc in
    let rest : map height us ≡ gs = cc in
    record {
      shapes = Node t u ∷ us;
      spelled = ap₂ (λ x v. x ∷ v) (sym dot) (append_assoc (text t) (text u) (texts us) ∙ spelled);
      high = ap₂ (λ x ks. x ∷ ks) (ap₂ (λ x y. 1 + max x y) first second) rest;
    }

row_dot : (c : ℕ) (w : List ℕ) (o : Option (List ℕ)) (hs : List ℕ) → c ≡ 46 → ((gs : List ℕ) → o ≡ Some gs → Row w gs) → option_and_then joined o ≡ Some hs → Row (c ∷ w) hs
row_dot c w None hs dot rest is = absurd cc
row_dot c w (Some []) hs dot rest is = absurd (let no : None ≡ Some hs = is in cc)
row_dot c w (Some (a ∷ [])) hs dot rest is = absurd (let no : None ≡ Some hs = is in cc)
row_dot c w (Some (a ∷ (b ∷ gs))) hs dot rest is =
    let row = rest (a ∷ (b ∷ gs)) refl in
    let same : (1 + max a b) ∷ gs ≡ hs = let e : Some ((1 + max a b) ∷ gs) ≡ Some hs = is in cc in
    subst (Row (c ∷ w)) same (row_join c w a b gs dot row.shapes row.spelled row.high)

pub row_of : (w hs : List ℕ) → IsWord w → heights w ≡ Some hs → Row w hs
unfolding heights texts
row_of [] hs is made = record { shapes = []; spelled = refl; high = let e : Some [] ≡ Some hs = made in cc }
row_of (c ∷ w) hs (inl dot, is) made =
    row_dot c w (heights w) hs dot (λ gs same. row_of w gs is same) (rw (eq-eqb c 46 dot) at made)
row_of (c ∷ w) hs (inr leaf, is) made =
    let other : c ≢ 46 = λ same. omega (arith, leaf, same) in
    row_leaf c w (heights w) hs leaf (λ gs same. row_of w gs is same) (rw (ne_eqb c 46 other) at made)

word_from : (w : List ℕ) → All IsLetter w → IsWord w
word_from [] all = tt
word_from (c ∷ w) all = (all zero c (omega arith), word_from w (λ k d h. all (suc k) d (omega arith)))

-- a word of one tree, within the height
one_of : (w : List ℕ) (most : ℕ) (o : Option (List ℕ)) → heights w ≡ o → is_one_low most o ≡ true → (h : ℕ) × (heights w ≡ Some (h ∷ [])) × (h ≤ most)
one_of w most None is low = absurd (let no : false ≡ true = low in cc)
one_of w most (Some []) is low = absurd (let no : false ≡ true = low in cc)
one_of w most (Some (h ∷ [])) is low = (h, is, leb-true h most low)
one_of w most (Some (h ∷ (k ∷ hs))) is low = absurd (let no : false ≡ true = low in cc)

one_shape : (w : List ℕ) (h : ℕ) (ts : List Tree) → texts ts ≡ w → map height ts ≡ h ∷ [] → (t : Tree) × (text t ≡ w) × (height t ≡ h)
unfolding texts
one_shape w h [] spelled high = absurd cc
one_shape w h (t ∷ []) spelled high = (t, sym (append-nil (text t)) ∙ spelled, let e : height t ∷ [] ≡ h ∷ [] = high in cc)
one_shape w h (t ∷ (u ∷ us)) spelled high = absurd (let e : height t ∷ (height u ∷ map height us) ≡ h ∷ [] = high in cc)

-- what a tree of the list is made of
pub trees_length : (n most : ℕ) → All (λ w. length w ≡ 2 * n + 1) (trees n most)
unfolding trees
trees_length n most = All-filter (is_low_tree most) (λ v. length v ≡ 2 * n + 1) (words (2 * n + 1)) (words_length (2 * n + 1))

pub trees_letters : (n most : ℕ) → All (All IsLetter) (trees n most)
unfolding trees
trees_letters n most = All-filter (is_low_tree most) (All IsLetter) (words (2 * n + 1)) (words_letters (2 * n + 1))

-- a word of the list
pub tree_word : (n most : ℕ) (w : List ℕ) → Contains (trees n most) w → (h : ℕ) × (heights w ≡ Some (h ∷ [])) × (h ≤ most) × IsWord w
unfolding trees is_low_tree
tree_word n most w at =
    let ws : List (List ℕ) = words (2 * n + 1) in
    let low : is_low_tree most w ≡ true = All-contains (λ v. is_low_tree most v ≡ true) (trees n most) w (filter_passes (is_low_tree most) ws) at in
    let letters : All IsLetter w = All-contains (All IsLetter) (trees n most) w (trees_letters n most) at in
    let one = one_of w most (heights w) refl low in
    (one.0, one.1, one.2, word_from w letters)

pub trees_only : (n most : ℕ) (w : List ℕ) → Contains (trees n most) w → (t : Tree) × (text t ≡ w) × (dots t ≡ n) × (height t ≤ most)
trees_only n most w at =
    let long : length w ≡ 2 * n + 1 = All-contains (λ v. length v ≡ 2 * n + 1) (trees n most) w (trees_length n most) at in
    let one = tree_word n most w at in
    let row : Row w (one.0 ∷ []) = row_of w (one.0 ∷ []) one.3 one.1 in
    let shape = one_shape w one.0 row.shapes row.spelled row.high in
    let same : length (text shape.0) ≡ length w = ap length shape.1 in
    (shape.0, shape.1, omega (arith, long, same, text_length shape.0), omega (arith, one.2, shape.2))
