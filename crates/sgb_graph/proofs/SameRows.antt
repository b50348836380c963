-- Lemmas on the fields of two graphs that are compared.
use Rattle.std.proofs.Common.{◌≡◌, ◌<◌, ◌+◌, ℕ, zero, suc, List, [], ◌∷◌, length, get_or, Bool, true, false, ◌&&◌, refl, ap, ◌∙◌, arith, inl, inr, zip, ◌++◌, map, Option, Some, None, is_some, IfSome, ◌==◌, nat_eq, sym, subst}
use Rattle.std.specs.List.{list_all}
use Rattle.std.proofs.lemmas.Bool.{cases_lt, and_from, eq-eqb, cases_Bool, and_parts, eqb-true, eqb-false, ne_eqb, cases_eq}
use Rattle.sgb_graph.specs.Private.SameRows.{each_eq, link_eq, row_eq, slot_eq, own_eq, lists_eq}
use Rattle.std.specs.Cmp.Lexicographic.{pointwise}
use Rattle.std.specs.Ordering.{int_eq}
use Rattle.std.proofs.lemmas.List.{same_lists, get_or_default}
use Rattle.sgb_graph.specs.declared.field.ArcNo.{ArcNo}
use Rattle.sgb_graph.specs.declared.graph.Vertex.{Vertex}
use Rattle.sgb_graph.specs.declared.graph.arena.Slot.{Slot}
use Rattle.sgb_graph.specs.declared.graph.Graph.TheInside.{Inside}
use Rattle.sgb_graph.specs.Graph.{GraphOf, VertexOf, n_of, arcs_of, occurrences}
use Rattle.sgb_graph.specs.Chain.{chain}
use Rattle.sgb_graph.specs.Private.Arena.{Slots, IsArena, slot_at, next_at, next_of, entry_of, owner_in, numbers, vertex_of, graph_of}
use Rattle.sgb_graph.specs.Edit.{arc_or, no_arc}
use Rattle.sgb_graph.specs.Same.{tip_eq, util_eq, graph_eq}
use Rattle.sgb_graph.proofs.Counts.{occurs_no}
use Rattle.sgb_graph.proofs.Graphs.{vertex_of_listed}
use Rattle.sgb_graph.proofs.Shows.{Opened, opened}
use Rattle.sgb_graph.proofs.Readers.{first_is, next_is}
use Rattle.sgb_graph.specs.Private.SameLaws.{Tells, lists_tell, texts_tell, utils_tell, ints_tell, graphs_tell, tip_same, tip_self, same_graph}

pub and_no : (b : Bool) → (b && false) ≡ false
and_no true = refl
and_no false = refl

-- the first i of both pass the test
abbrev pub SameBelow : {K : Type 0} → (K → K → Bool) → K → List K → List K → ℕ → Type 0
SameBelow E d xs ys i = (j : ℕ) → j < i → E (get_or xs j d) (get_or ys j d) ≡ true

pub same_more : {K : Type 0} (E : K → K → Bool) (d : K) (xs ys : List K) (i : ℕ) → SameBelow E d xs ys i → E (get_or xs i d) (get_or ys i d) ≡ true → SameBelow E d xs ys (i + 1)
same_more E d xs ys i below here j low =
    elim (cases_lt j i) [
      | inl h ↦ below j h
      | inr h ↦
          let same : j ≡ i = omega (arith, low, h) in
          ap (λ k. E (get_or xs k d) (get_or ys k d)) same ∙ here
    ]

all_same : {K : Type 0} (E : K → K → Bool) (d : K) (xs ys : List K) → length xs ≡ length ys → SameBelow E d xs ys (length xs) → list_all (λ p. E p.0 p.1) (zip xs ys) ≡ true
all_same E d [] ys many below = refl
all_same E d (x ∷ xs) [] many below = absurd (omega (arith, many))
all_same E d (x ∷ xs) (y ∷ ys) many below =
    and_from (E x y) (list_all (λ p. E p.0 p.1) (zip xs ys)) (below 0 (omega arith))
    (all_same E d xs ys (omega (arith, many)) (λ j low. below (suc j) (omega (arith, low))))

one_differs : {K : Type 0} (E : K → K → Bool) (d : K) (xs ys : List K) (i : ℕ) → i < length xs → i < length ys → E (get_or xs i d) (get_or ys i d) ≡ false → list_all (λ p. E p.0 p.1) (zip xs ys) ≡ false
one_differs E d [] ys i low low' differs = absurd (omega (arith, low))
one_differs E d (x ∷ xs) [] i low low' differs = absurd (omega (arith, low'))
one_differs E d (x ∷ xs) (y ∷ ys) zero low low' differs = ap (λ b. b && list_all (λ p. E p.0 p.1) (zip xs ys)) differs
one_differs E d (x ∷ xs) (y ∷ ys) (suc i) low low' differs =
    ap (λ b. E x y && b) (one_differs E d xs ys i (omega (arith, low)) (omega (arith, low')) differs) ∙ and_no (E x y)

pub each_same : {K : Type 0} (E : K → K → Bool) (d : K) (xs ys : List K) → length xs ≡ length ys → SameBelow E d xs ys (length xs) → each_eq E xs ys ≡ true
each_same E d xs ys many below =
    and_from (length xs == length ys) (list_all (λ p. E p.0 p.1) (zip xs ys)) (eq-eqb (length xs) (length ys) many) (all_same E d xs ys many below)

pub each_differs : {K : Type 0} (E : K → K → Bool) (d : K) (xs ys : List K) (i : ℕ) → i < length xs → i < length ys → E (get_or xs i d) (get_or ys i d) ≡ false → each_eq E xs ys ≡ false
each_differs E d xs ys i low low' differs = ap (λ b. (length xs == length ys) && b) (one_differs E d xs ys i low low' differs) ∙ and_no (length xs == length ys)

-- the tests
link_same : (l m : Option ArcNo) → link_eq l m ≡ true → l ≡ m
link_same None None h = refl
link_same (Some j) (Some k) h = ap (λ x. Some (record { 0 = x })) (eqb-true j.0 k.0 h)
link_same _ _ h = absurd cc

link_self : (l : Option ArcNo) → link_eq l l ≡ true
link_self None = refl
link_self (Some k) = eq-eqb k.0 k.0 refl

row_same : (v w : Vertex) → row_eq v w ≡ true → v ≡ w
row_same v w h =
    let p = and_parts (pointwise nat_eq v.label w.label && pointwise util_eq v.fields w.fields) (link_eq v.first w.first) h in
    let q = and_parts (pointwise nat_eq v.label w.label) (pointwise util_eq v.fields w.fields) p.0 in
    ap (λ l. record v { label = l }) (texts_tell.same v.label w.label q.0)
    ∙ (ap (λ us. record v { label = w.label; fields = us }) (utils_tell.same v.fields w.fields q.1)
    ∙ ap (λ l. record w { first = l }) (link_same v.first w.first p.1))

row_self : (v : Vertex) → row_eq v v ≡ true
row_self v =
    and_from (pointwise nat_eq v.label v.label && pointwise util_eq v.fields v.fields) (link_eq v.first v.first)
    (and_from (pointwise nat_eq v.label v.label) (pointwise util_eq v.fields v.fields) (texts_tell.self v.label) (utils_tell.self v.fields))
    (link_self v.first)

rows_tell : Tells (pointwise row_eq)
rows_tell = lists_tell row_eq (record { same = row_same; self = row_self })

-- what two slots that pass the test show
record SlotSame (o p : Option Slot) : Type 0 where
  entry : entry_of o ≡ entry_of p
  next : next_of o ≡ next_of p

slot_same : (o p : Option Slot) → slot_eq o p ≡ true → SlotSame o p
slot_same None None h = record { entry = refl; next = refl }
slot_same (Some s) (Some t) h =
    let p = and_parts (tip_eq s.tip t.tip && link_eq s.next t.next && int_eq s.len t.len) (pointwise util_eq s.fields t.fields) h in
    let q = and_parts (tip_eq s.tip t.tip && link_eq s.next t.next) (int_eq s.len t.len) p.0 in
    let r = and_parts (tip_eq s.tip t.tip) (link_eq s.next t.next) q.0 in
    record {
      entry = ap (λ x. Some (record { tip = x; len = s.len; fields = s.fields })) (tip_same s.tip t.tip r.0)
          ∙ (ap (λ z. Some (record { tip = t.tip; len = z; fields = s.fields })) (ints_tell.same s.len t.len q.1)
          ∙ ap (λ us. Some (record { tip = t.tip; len = t.len; fields = us })) (utils_tell.same s.fields t.fields p.1));
      next = link_same s.next t.next r.1;
    }
slot_same _ _ h = absurd cc

slot_passes : (o p : Option Slot) → entry_of o ≡ entry_of p → (is_some (entry_of o) ≡ true → next_of o ≡ next_of p) → slot_eq o p ≡ true
slot_passes None None e n = refl
slot_passes None (Some t) e n = absurd cc
slot_passes (Some s) None e n = absurd cc
slot_passes (Some s) (Some t) e n =
    let tip : s.tip ≡ t.tip = ap (λ o. (arc_or no_arc o).tip) e in
    let len : s.len ≡ t.len = ap (λ o. (arc_or no_arc o).len) e in
    let fields : s.fields ≡ t.fields = ap (λ o. (arc_or no_arc o).fields) e in
    and_from (tip_eq s.tip t.tip && link_eq s.next t.next && int_eq s.len t.len) (pointwise util_eq s.fields t.fields)
    (and_from (tip_eq s.tip t.tip && link_eq s.next t.next) (int_eq s.len t.len)
    (and_from (tip_eq s.tip t.tip) (link_eq s.next t.next)
    (ap (tip_eq s.tip) (sym tip) ∙ tip_self s.tip)
    (ap (link_eq s.next) (sym (n refl)) ∙ link_self s.next))
    (ap (int_eq s.len) (sym len) ∙ ints_tell.self s.len))
    (ap (pointwise util_eq s.fields) (sym fields) ∙ utils_tell.self s.fields)

suc_eq : (n m : ℕ) → (suc n == suc m) ≡ (n == m)
suc_eq n m =
    elim (cases_eq n m) [
      | inl same ↦ eq-eqb (suc n) (suc m) (ap suc same) ∙ sym (eq-eqb n m same)
      | inr other ↦ ne_eqb (suc n) (suc m) (λ e. other (omega (arith, e))) ∙ sym (ne_eqb n m other)
    ]

-- one pair more in front
each_more : (e : Bool) (n m : ℕ) (all : Bool) → ((suc n == suc m) && (e && all)) ≡ (e && ((n == m) && all))
each_more true n m all = ap (λ b. b && all) (suc_eq n m)
each_more false n m all = and_no (suc n == suc m)

-- pairs that pass, place by place
each_is : {K : Type 0} (E : K → K → Bool) (xs ys : List K) → each_eq E xs ys ≡ pointwise E xs ys
each_is E [] [] = refl
each_is E [] (y ∷ ys) = ap (λ b. b && true) (ne_eqb 0 (suc (length ys)) (λ e. omega (arith, e)))
each_is E (x ∷ xs) [] = ap (λ b. b && true) (ne_eqb (suc (length xs)) 0 (λ e. omega (arith, e)))
each_is E (x ∷ xs) (y ∷ ys) =
    each_more (E x y) (length xs) (length ys) (list_all (λ p. E p.0 p.1) (zip xs ys)) ∙ ap (λ b. E x y && b) (each_is E xs ys)

passes_at : {K : Type 0} (E : K → K → Bool) (xs ys : List K) → length xs ≡ length ys → ((k : ℕ) (d : K) → k < length xs → E (get_or xs k d) (get_or ys k d) ≡ true) → pointwise E xs ys ≡ true
passes_at E [] [] n h = refl
passes_at E [] (y ∷ ys) n h = absurd (omega arith)
passes_at E (x ∷ xs) [] n h = absurd (omega arith)
passes_at E (x ∷ xs) (y ∷ ys) n h =
    and_from (E x y) (pointwise E xs ys) (h 0 x (omega arith)) (passes_at E xs ys (omega arith) (λ k d l. h (suc k) d (omega arith)))

-- slots that pass show the same entries, and lead the same ways
entries_same : (ss ts : Slots) → pointwise slot_eq ss ts ≡ true → map entry_of ss ≡ map entry_of ts
entries_same [] [] h = refl
entries_same [] (t ∷ ts) h = absurd cc
entries_same (s ∷ ss) [] h = absurd cc
entries_same (s ∷ ss) (t ∷ ts) h =
    let p = and_parts (slot_eq s t) (pointwise slot_eq ss ts) h in
    ap (λ e. e ∷ map entry_of ss) (slot_same s t p.0).entry ∙ ap (λ es. entry_of t ∷ es) (entries_same ss ts p.1)

lengths_same : (ss ts : Slots) → pointwise slot_eq ss ts ≡ true → length ss ≡ length ts
lengths_same [] [] h = refl
lengths_same [] (t ∷ ts) h = absurd cc
lengths_same (s ∷ ss) [] h = absurd cc
lengths_same (s ∷ ss) (t ∷ ts) h = omega (arith, lengths_same ss ts (and_parts (slot_eq s t) (pointwise slot_eq ss ts) h).1)

nexts_same : (ss ts : Slots) → pointwise slot_eq ss ts ≡ true → (k : ℕ) → next_at ss k ≡ next_at ts k
nexts_same [] [] h k = refl
nexts_same [] (t ∷ ts) h k = absurd cc
nexts_same (s ∷ ss) [] h k = absurd cc
nexts_same (s ∷ ss) (t ∷ ts) h zero = (slot_same s t (and_parts (slot_eq s t) (pointwise slot_eq ss ts) h).0).next
nexts_same (s ∷ ss) (t ∷ ts) h (suc k) = nexts_same ss ts (and_parts (slot_eq s t) (pointwise slot_eq ss ts) h).1 k

chains_same : (next after : ℕ → Option ArcNo) → ((k : ℕ) → next k ≡ after k) → (m : ℕ) (link : Option ArcNo) → chain next m link ≡ chain after m link
unfolding chain
chains_same next after same zero link = refl
chains_same next after same (suc m) None = refl
chains_same next after same (suc m) (Some k) =
    ap (λ l. k.0 ∷ chain next m l) (same k.0) ∙ ap (λ ks. k.0 ∷ ks) (chains_same next after same m (after k.0))

shown_same : (ss ts : Slots) → pointwise slot_eq ss ts ≡ true → (vs : List Vertex) → map (vertex_of ss) vs ≡ map (vertex_of ts) vs
shown_same ss ts h [] = refl
shown_same ss ts h (v ∷ vs) =
    let list : numbers ss v.first ≡ numbers ts v.first =
    chains_same (next_at ss) (next_at ts) (nexts_same ss ts h) (length ss) v.first ∙ ap (λ m. chain (next_at ts) m v.first) (lengths_same ss ts h) in
    let one : VertexOf → List VertexOf = λ x. x ∷ map (vertex_of ss) vs in
    ap (λ ks. one (record { label = v.label; fields = v.fields; arcs = ks })) list ∙ ap (λ xs. vertex_of ts v ∷ xs) (shown_same ss ts h vs)

-- the tests of all fields
abbrev insides_eq : Inside → Inside → Bool
insides_eq a b = own_eq a.id b.id a.types b.types a.fields b.fields && lists_eq a.vertices b.vertices a.slots b.slots

insides_same : (a b : Inside) → insides_eq a b ≡ true → graph_of a ≡ graph_of b
insides_same a b h =
    let own = own_eq a.id b.id a.types b.types a.fields b.fields in
    let rows = each_eq row_eq a.vertices b.vertices in
    let slots = each_eq slot_eq a.slots b.slots in
    let p = and_parts own (rows && slots) h in
    let q = and_parts rows slots p.1 in
    let r = and_parts (pointwise nat_eq a.id b.id && pointwise nat_eq a.types b.types) (pointwise util_eq a.fields b.fields) p.0 in
    let s = and_parts (pointwise nat_eq a.id b.id) (pointwise nat_eq a.types b.types) r.0 in
    let vs : a.vertices ≡ b.vertices = rows_tell.same a.vertices b.vertices (sym (each_is row_eq a.vertices b.vertices) ∙ q.0) in
    let pass : pointwise slot_eq a.slots b.slots ≡ true = sym (each_is slot_eq a.slots b.slots) ∙ q.1 in
    same_graph (graph_of a) (graph_of b) (texts_tell.same a.id b.id s.0) (texts_tell.same a.types b.types s.1) (utils_tell.same a.fields b.fields r.1)
    (ap (map (vertex_of a.slots)) vs ∙ shown_same a.slots b.slots pass b.vertices)
    (entries_same a.slots b.slots pass)

-- fields that show one graph pass the tests
record SplitAt (k : ℕ) (ks : List ℕ) : Type 0 where
  before : List ℕ
  after : List ℕ
  whole : ks ≡ before ++ (k ∷ after)

split_at : (k : ℕ) (ks : List ℕ) → 0 < occurrences k ks → SplitAt k ks
split_at k [] h = absurd (omega arith)
split_at k (j ∷ ks) h =
    elim (cases_Bool (j == k)) [
      | inl is ↦ record { before = []; after = ks; whole = ap (λ x. x ∷ ks) (eqb-true j k is) }
      | inr other ↦
          let s = split_at k ks (omega (arith, h, occurs_no k j ks (eqb-false j k other))) in
          record { before = j ∷ s.before; after = s.after; whole = ap (λ l. j ∷ l) s.whole }
    ]

next_shown : (a b : Inside) (g : GraphOf) (k : ℕ) (o : Option Slot) → graph_of a ≡ g → IsArena a → graph_of b ≡ g → IsArena b → slot_at a.slots k ≡ o → is_some (entry_of o) ≡ true → next_at a.slots k ≡ next_at b.slots k
next_shown a b g k None a_is a_arena b_is b_arena is live = absurd cc
next_shown a b g k (Some s) a_is a_arena b_is b_arena is live =
    let o = opened a g a_is a_arena in
    let once : occurrences k (arcs_of g s.owner.0) ≡ 1 = subst (λ x. IfSome (owner_in x) (λ v. occurrences k (arcs_of g v.0) ≡ 1)) is (o.shows.owners k) in
    let v = s.owner.0 in
    let low : v < n_of g = vertex_of_listed g k v (omega arith) in
    let at = split_at k (arcs_of g v) (omega arith) in
    next_is a g k a.slots (next_at a.slots k) a_is a_arena refl refl v low at.before at.after at.whole
    ∙ sym (next_is b g k b.slots (next_at b.slots k) b_is b_arena refl refl v low at.before at.after at.whole)

rows_shown : (a b : Inside) (g : GraphOf) → Opened a g → Opened b g → a.vertices ≡ b.vertices
rows_shown a b g o p =
    same_lists a.vertices b.vertices (o.shows.n ∙ sym p.shows.n)
    (λ v d h.
    let low : v < n_of g = omega (arith, o.shows.n) in
    let x = o.shows.vertices v d low in
    let y = p.shows.vertices v d low in
    let one = get_or a.vertices v d in
    let two = get_or b.vertices v d in
    let first : one.first ≡ two.first =
    first_is (next_at a.slots) one.first (arcs_of g v) x.arcs ∙ sym (first_is (next_at b.slots) two.first (arcs_of g v) y.arcs) in
    ap (λ l. record one { label = l }) (x.label ∙ sym y.label)
    ∙ (ap (λ us. record one { label = two.label; fields = us }) (x.fields ∙ sym y.fields)
    ∙ ap (λ l. record two { first = l }) first))

-- reads of slots that are there
at_default : (ss ts : Slots) (k : ℕ) (d : Option Slot) → k < length ss → k < length ts → slot_eq (slot_at ss k) (slot_at ts k) ≡ true → slot_eq (get_or ss k d) (get_or ts k d) ≡ true
at_default ss ts k d h l pass =
    ap (λ o. slot_eq o (get_or ts k d)) (get_or_default ss k d None h) ∙ (ap (slot_eq (slot_at ss k)) (get_or_default ts k d None l) ∙ pass)

shown_pass : (a b : Inside) (g : GraphOf) → graph_of a ≡ g → IsArena a → graph_of b ≡ g → IsArena b → insides_eq a b ≡ true
shown_pass a b g a_is a_arena b_is b_arena =
    let o = opened a g a_is a_arena in
    let p = opened b g b_is b_arena in
    let ss = a.slots in
    let ts = b.slots in
    let rows : each_eq row_eq a.vertices b.vertices ≡ true =
    each_is row_eq a.vertices b.vertices
    ∙ (ap (pointwise row_eq a.vertices) (sym (rows_shown a b g o p)) ∙ rows_tell.self a.vertices) in
    let slots : each_eq slot_eq ss ts ≡ true =
    each_is slot_eq ss ts
    ∙ passes_at slot_eq ss ts (o.shows.made ∙ sym p.shows.made)
    (λ k d h. at_default ss ts k d h (omega (arith, o.shows.made, p.shows.made))
    (slot_passes (slot_at ss k) (slot_at ts k) (o.shows.entries k ∙ sym (p.shows.entries k)) (λ live. next_shown a b g k (slot_at ss k) a_is a_arena b_is b_arena refl live))) in
    and_from (own_eq a.id b.id a.types b.types a.fields b.fields) (each_eq row_eq a.vertices b.vertices && each_eq slot_eq ss ts)
    (and_from (pointwise nat_eq a.id b.id && pointwise nat_eq a.types b.types) (pointwise util_eq a.fields b.fields)
    (and_from (pointwise nat_eq a.id b.id) (pointwise nat_eq a.types b.types)
    (ap (pointwise nat_eq a.id) (p.id ∙ sym o.id) ∙ texts_tell.self a.id)
    (ap (pointwise nat_eq a.types) (p.types ∙ sym o.types) ∙ texts_tell.self a.types))
    (ap (pointwise util_eq a.fields) (p.fields ∙ sym o.fields) ∙ utils_tell.self a.fields))
    (and_from (each_eq row_eq a.vertices b.vertices) (each_eq slot_eq ss ts) rows slots)

same_answer : (r b : Bool) → (r ≡ true → b ≡ true) → (b ≡ true → r ≡ true) → r ≡ b
same_answer true true f h = refl
same_answer false false f h = refl
same_answer true false f h = sym (f refl)
same_answer false true f h = h refl

pub graph_eq_is : (a b : Inside) (g h : GraphOf) → graph_of a ≡ g → IsArena a → graph_of b ≡ h → IsArena b
    → (own_eq a.id b.id a.types b.types a.fields b.fields && lists_eq a.vertices b.vertices a.slots b.slots) ≡ graph_eq g h
graph_eq_is a b g h a_is a_arena b_is b_arena =
    same_answer (insides_eq a b) (graph_eq g h)
    (λ pass.
    let one : g ≡ h = sym a_is ∙ (insides_same a b pass ∙ b_is) in
    ap (graph_eq g) (sym one) ∙ graphs_tell.self g)
    (λ is. shown_pass a b g a_is a_arena (b_is ∙ sym (graphs_tell.same g h is)) b_arena)

own_moved : (a b : Inside) (id id' types types' : List ℕ) → id ≡ a.id → id' ≡ b.id → types ≡ a.types → types' ≡ b.types → own_eq a.id b.id a.types b.types a.fields b.fields ≡ own_eq id id' types types' a.fields b.fields
own_moved a b id id' types types' i i' t t' =
    ap (λ x. own_eq x b.id a.types b.types a.fields b.fields) (sym i)
    ∙ (ap (λ x. own_eq id x a.types b.types a.fields b.fields) (sym i')
    ∙ (ap (λ x. own_eq id id' x b.types a.fields b.fields) (sym t) ∙ ap (λ x. own_eq id id' types x a.fields b.fields) (sym t')))

-- what `==` answers, from the tests that were made
pub eq_own : (a b : Inside) (g h : GraphOf) (id id' types types' : List ℕ) (r : Bool) → graph_of a ≡ g → IsArena a → graph_of b ≡ h → IsArena b → id ≡ a.id → id' ≡ b.id → types ≡ a.types → types' ≡ b.types
    → r ≡ own_eq id id' types types' a.fields b.fields → r ≡ false → false ≡ graph_eq g h
eq_own a b g h id id' types types' r a_is a_arena b_is b_arena i i' t t' is no' =
    let rest = lists_eq a.vertices b.vertices a.slots b.slots in
    let own : own_eq a.id b.id a.types b.types a.fields b.fields ≡ false =
    own_moved a b id id' types types' i i' t t' ∙ (sym is ∙ no') in
    sym (ap (λ x. x && rest) own) ∙ graph_eq_is a b g h a_is a_arena b_is b_arena

pub eq_lists : (a b : Inside) (g h : GraphOf) (id id' types types' : List ℕ) (r q : Bool) (vs ws : List Vertex) (ss ts : Slots) → graph_of a ≡ g → IsArena a → graph_of b ≡ h → IsArena b → id ≡ a.id → id' ≡ b.id → types ≡ a.types → types' ≡ b.types
    → r ≡ own_eq id id' types types' a.fields b.fields → r ≡ true → vs ≡ a.vertices → ws ≡ b.vertices → ss ≡ a.slots → ts ≡ b.slots → q ≡ lists_eq vs ws ss ts → q ≡ graph_eq g h
eq_lists a b g h id id' types types' r q vs ws ss ts a_is a_arena b_is b_arena i i' t t' is yes' v w s u lists =
    let rest = lists_eq a.vertices b.vertices a.slots b.slots in
    let own : own_eq a.id b.id a.types b.types a.fields b.fields ≡ true =
    own_moved a b id id' types types' i i' t t' ∙ (sym is ∙ yes') in
    let here : q ≡ rest =
    lists
    ∙ (ap (λ x. lists_eq x ws ss ts) v
    ∙ (ap (λ x. lists_eq a.vertices x ss ts) w
    ∙ (ap (λ x. lists_eq a.vertices b.vertices x ts) s ∙ ap (lists_eq a.vertices b.vertices a.slots) u))) in
    here ∙ (sym (ap (λ x. x && rest) own) ∙ graph_eq_is a b g h a_is a_arena b_is b_arena)
