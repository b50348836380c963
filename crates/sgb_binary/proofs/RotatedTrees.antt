-- Lemmas on rotations, by the trees that they are of.
use Rattle.std.proofs.Common.{◌≡◌, ◌+◌, ◌==◌, ℕ, zero, suc, List, [], ◌∷◌, ◌++◌, length, map, max, take, drop, codes, Option, None, Some, true, Contains, inl, inr, refl, sym, ap, ap₂, subst, ◌∙◌, arith, append_assoc}
use Rattle.std.specs.List.{starts_with}
use Rattle.std.specs.Option.{option_map, option_and_then, option_to_list}
use Rattle.std.proofs.lemmas.Bool.{cases_Bool}
use Rattle.std.proofs.lemmas.List.{length-append, take_at, drop_at, drop-drop}
use Rattle.sgb_binary.specs.Shape.{Tree, text, height}
use Rattle.sgb_binary.specs.Shape.Tree.{Leaf, Node}
use Rattle.sgb_binary.specs.Tree.{joined, heights, trees}
use Rattle.sgb_binary.specs.Rotation.{tree_fronts, turned, turned_at}
use Rattle.sgb_binary.specs.Private.Span.{span_from}
use Rattle.sgb_binary.proofs.Shapes.{IsWord, texts, row_of, tree_word}
use Rattle.sgb_binary.proofs.Spans.{tree_fronts_are}
use Rattle.sgb_binary.proofs.RotationSteps.{two_dots}

-- ---- the tree that a word begins with
span_text : (t : Tree) (i k : ℕ) (rest : List ℕ) → span_from i (suc k) (text t ++ rest) ≡ span_from (i + length (text t)) k rest
unfolding span_from
span_text Leaf i k rest = refl
span_text (Node a b) i k rest =
    let sum : ((i + 1) + length (text a)) + length (text b) ≡ i + length (text (Node a b)) = omega (arith, length-append (text a) (text b)) in
    ap (span_from (i + 1) (suc (suc k))) (append_assoc (text a) (text b) rest)
    ∙ (span_text a (i + 1) (suc k) (text b ++ rest)
    ∙ (span_text b ((i + 1) + length (text a)) k rest ∙ ap (λ j. span_from j k rest) sum))

span_one : (t : Tree) (rest : List ℕ) → span_from 0 1 (text t ++ rest) ≡ Some (length (text t))
unfolding span_from
span_one t rest =
    let same : 0 + length (text t) ≡ length (text t) = omega arith in
    span_text t 0 0 rest ∙ ap (λ k. Some k) same

fronts_one : (t : Tree) (rest : List ℕ) → tree_fronts (text t ++ rest) ≡ length (text t) ∷ []
fronts_one t rest = tree_fronts_are (text t ++ rest) ∙ ap option_to_list (span_one t rest)

-- ---- what a word turns into where a tree with a subtree on its left begins
turns : (w front v rest : List ℕ) → w ≡ front ++ (46 ∷ (46 ∷ (v ++ rest))) → tree_fronts (v ++ rest) ≡ length v ∷ [] → turned_at w (length front) ≡ (front ++ (46 ∷ (v ++ (46 ∷ rest)))) ∷ []
unfolding turned_at
turns w front v rest is one =
    let i : ℕ = length front in
    let here : drop i w ≡ 46 ∷ (46 ∷ (v ++ rest)) = ap (drop i) is ∙ drop_at front (46 ∷ (46 ∷ (v ++ rest))) i refl in
    let after : drop (i + 2) w ≡ v ++ rest = sym (drop-drop 2 i w) ∙ ap (drop 2) here in
    let starts : starts_with ◌==◌ (drop i w) (codes "..") ≡ true = ap (λ xs. starts_with ◌==◌ xs (codes "..")) here in
    let split : front ++ (46 ∷ (46 ∷ (v ++ rest))) ≡ (front ++ 46 ∷ []) ++ (46 ∷ (v ++ rest)) = sym (append_assoc front (46 ∷ []) (46 ∷ (v ++ rest))) in
    let size : length (front ++ 46 ∷ []) ≡ i + 1 = length-append front (46 ∷ []) in
    let before : take (i + 1) w ≡ front ++ 46 ∷ [] = ap (take (i + 1)) (is ∙ split) ∙ take_at (front ++ 46 ∷ []) (46 ∷ (v ++ rest)) (i + 1) size in
    let fronts : tree_fronts (drop (i + 2) w) ≡ length v ∷ [] = ap tree_fronts after ∙ one in
    let tail : take (length v) (drop (i + 2) w) ++ (46 ∷ drop (length v) (drop (i + 2) w)) ≡ v ++ (46 ∷ rest) =
    ap (λ xs. take (length v) xs ++ (46 ∷ drop (length v) xs)) after
    ∙ ap₂ (λ xs ys. xs ++ (46 ∷ ys)) (take_at v rest (length v) refl) (drop_at v rest (length v) refl) in
    let all : turned w i (length v) ≡ front ++ (46 ∷ (v ++ (46 ∷ rest))) =
    ap₂ (λ xs ys. xs ++ ys) before tail ∙ append_assoc front (46 ∷ []) (v ++ (46 ∷ rest)) in
    rw (starts, fronts) (ap (λ x. x ∷ []) all)

pub turned_tree : (a b c : Tree) (front back : List ℕ) → turned_at (front ++ (text (Node (Node a b) c) ++ back)) (length front) ≡ (front ++ (text (Node a (Node b c)) ++ back)) ∷ []
turned_tree a b c front back =
    let rest : List ℕ = text b ++ (text c ++ back) in
    let old : ((text a ++ text b) ++ text c) ++ back ≡ text a ++ rest =
    append_assoc (text a ++ text b) (text c) back ∙ append_assoc (text a) (text b) (text c ++ back) in
    let new : (text a ++ (46 ∷ (text b ++ text c))) ++ back ≡ text a ++ (46 ∷ rest) =
    append_assoc (text a) (46 ∷ (text b ++ text c)) back ∙ ap (λ xs. text a ++ (46 ∷ xs)) (append_assoc (text b) (text c) back) in
    turns (front ++ (text (Node (Node a b) c) ++ back)) front (text a) rest (ap (λ xs. front ++ (46 ∷ (46 ∷ xs))) old) (fronts_one a rest)
    ∙ ap (λ xs. (front ++ (46 ∷ xs)) ∷ []) (sym new)

-- ---- where two dots stand in a tree
record Made (w : List ℕ) : Type 0 where
  hs : List ℕ
  are : heights w ≡ Some hs

made_leaf : (o : Option (List ℕ)) (hs : List ℕ) → option_map (λ gs. 0 ∷ gs) o ≡ Some hs → (gs : List ℕ) × (o ≡ Some gs)
made_leaf None hs is = absurd cc
made_leaf (Some gs) hs is = (gs, refl)

record Joins (o : Option (List ℕ)) (hs : List ℕ) : Type 0 where
  first : ℕ
  second : ℕ
  rest : List ℕ
  were : o ≡ Some (first ∷ (second ∷ rest))
  are : hs ≡ (1 + max first second) ∷ rest

made_dot : (o : Option (List ℕ)) (hs : List ℕ) → option_and_then joined o ≡ Some hs → Joins o hs
made_dot None hs is = absurd cc
made_dot (Some []) hs is = absurd (let no : None ≡ Some hs = is in cc)
made_dot (Some (a ∷ [])) hs is = absurd (let no : None ≡ Some hs = is in cc)
made_dot (Some (a ∷ (b ∷ gs))) hs is =
    let e : Some ((1 + max a b) ∷ gs) ≡ Some hs = is in
    record { first = a; second = b; rest = gs; were = refl; are = cc }

made_tail : (c : ℕ) (w : List ℕ) → Made (c ∷ w) → Made w
unfolding heights
made_tail c w made =
    elim (cases_Bool (c == 46)) [
      | inl dot ↦
          let two = made_dot (heights w) made.hs (rw dot at made.are) in
          record { hs = two.first ∷ (two.second ∷ two.rest); are = two.were }
      | inr leaf ↦
          let rest = made_leaf (heights w) made.hs (rw leaf at made.are) in
          record { hs = rest.0; are = rest.1 }
    ]

made_drop : (i : ℕ) (w : List ℕ) → Made w → Made (drop i w)
made_drop zero w made = made
made_drop (suc i) [] made = made
made_drop (suc i) (c ∷ w) made = made_drop i w (made_tail c w made)

word_drop : (i : ℕ) (w : List ℕ) → IsWord w → IsWord (drop i w)
word_drop zero w is = is
word_drop (suc i) [] is = is
word_drop (suc i) (c ∷ w) (letter, is) = word_drop i w is

record Doubled (w : List ℕ) : Type 0 where
  a : Tree
  b : Tree
  c : Tree
  back : List ℕ
  spelled : w ≡ text (Node (Node a b) c) ++ back

three : (x y z : ℕ) (rest hs : List ℕ) → (ts : List Tree) → texts ts ≡ rest → map height ts ≡ x ∷ (y ∷ (z ∷ hs)) → Doubled (46 ∷ (46 ∷ rest))
unfolding texts
three x y z rest hs [] spelled high = absurd cc
three x y z rest hs (a ∷ []) spelled high = absurd (let no : [] ≡ y ∷ (z ∷ hs) = cc in cc)
three x y z rest hs (a ∷ (b ∷ [])) spelled high = absurd (let no : [] ≡ z ∷ hs = let e : height b ∷ [] ≡ y ∷ (z ∷ hs) = cc in cc in cc)
three x y z rest hs (a ∷ (b ∷ (c ∷ ts))) spelled high =
    let joins : ((text a ++ text b) ++ text c) ++ texts ts ≡ texts (a ∷ (b ∷ (c ∷ ts))) =
    append_assoc (text a ++ text b) (text c) (texts ts) ∙ append_assoc (text a) (text b) (text c ++ texts ts) in
    record { a = a; b = b; c = c; back = texts ts; spelled = ap (λ xs. 46 ∷ (46 ∷ xs)) (sym spelled ∙ sym joins) }

doubled : (rest : List ℕ) → IsWord rest → Made (46 ∷ (46 ∷ rest)) → Doubled (46 ∷ (46 ∷ rest))
unfolding heights
doubled rest is made =
    let outer = made_dot (heights (46 ∷ rest)) made.hs made.are in
    let inner = made_dot (heights rest) (outer.first ∷ (outer.second ∷ outer.rest)) outer.were in
    let same : inner.rest ≡ outer.second ∷ outer.rest = let e = inner.are in cc in
    let row = row_of rest (inner.first ∷ (inner.second ∷ inner.rest)) is inner.were in
    three inner.first inner.second outer.second rest outer.rest row.shapes row.spelled (row.high ∙ ap (λ gs. inner.first ∷ (inner.second ∷ gs)) same)

pub found_tree : (n most i : ℕ) (w : List ℕ) → Contains (trees n most) w → starts_with ◌==◌ (drop i w) (codes "..") ≡ true
    → (a : Tree) × (b : Tree) × (c : Tree) × (back : List ℕ) × (drop i w ≡ text (Node (Node a b) c) ++ back)
found_tree n most i w at starts =
    let tree = tree_word n most w at in
    let two : drop i w ≡ 46 ∷ (46 ∷ drop 2 (drop i w)) = two_dots (drop i w) starts in
    let made : Made (drop i w) = made_drop i w (record { hs = tree.0 ∷ []; are = tree.1 }) in
    let is : IsWord (drop 2 (drop i w)) = word_drop 2 (drop i w) (word_drop i w tree.3) in
    let d = doubled (drop 2 (drop i w)) is (subst Made two made) in
    (d.a, d.b, d.c, d.back, two ∙ d.spelled)
