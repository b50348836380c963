-- What the slots of a table show.
use Rattle.std.proofs.Common.{◌≡◌, ◌<◌, ◌+◌, ℕ, suc, List, [], ◌∷◌, ◌++◌, length, map, get_or, set, take, drop, Option, Some, None, All, Bool, refl, sym, ap, ◌∙◌, subst, cond, not, zero, arith}
use Rattle.std.specs.List.{insert, remove, position, position_or_len}
use Rattle.std.specs.Prelude.{nat_lt}
use Rattle.std.proofs.Math.ListN.{get_or-map}
use Rattle.std.proofs.lemmas.List.{map-set, length-map, get_or_default}
use Rattle.std.proofs.lemmas.List.Elements.{All-append, All-cons, All-take, All-drop}
use Rattle.sgb_graph.specs.declared.delta.GraphDelta.{GraphDelta}
use Rattle.sgb_graph.specs.Graph.{GraphOf}
use Rattle.sgb_graph.specs.Delta.{LeftBy}
use Rattle.sgb_graph.specs.Reverted.{reverted}
use Rattle.sgb_graph.proofs.Reverts.{reverted_is}
use Rattle.sgb_session.specs.declared.table.Entry.{Entry}
use Rattle.sgb_session.specs.Table.{entry_in, with_graph}
use Rattle.sgb_session.specs.Private.Making.{AtPlace, InSlot}
use Rattle.sgb_session.specs.Private.Slots.{held, slot_in, slot_with_graph}

-- of lists
pub map-append : {X Y : Type 0} (f : X → Y) (xs ys : List X) → map f (xs ++ ys) ≡ map f xs ++ map f ys
map-append f [] ys = refl
map-append f (x ∷ xs) ys = ap (λ l. f x ∷ l) (map-append f xs ys)

map-take : {X Y : Type 0} (f : X → Y) (n : ℕ) (xs : List X) → map f (take n xs) ≡ take n (map f xs)
map-take f zero xs = refl
map-take f (suc n) [] = refl
map-take f (suc n) (x ∷ xs) = ap (λ l. f x ∷ l) (map-take f n xs)

map-drop : {X Y : Type 0} (f : X → Y) (n : ℕ) (xs : List X) → map f (drop n xs) ≡ drop n (map f xs)
map-drop f zero xs = refl
map-drop f (suc n) [] = refl
map-drop f (suc n) (x ∷ xs) = map-drop f n xs

pub map-insert : {X Y : Type 0} (f : X → Y) (xs : List X) (i : ℕ) (x : X) → map f (insert xs i x) ≡ insert (map f xs) i (f x)
map-insert f xs i x = map-append f (take i xs) (x ∷ drop i xs) ∙ (ap (λ l. l ++ f x ∷ map f (drop i xs)) (map-take f i xs) ∙ ap (λ l. take i (map f xs) ++ f x ∷ l) (map-drop f i xs))

pub map-remove : {X Y : Type 0} (f : X → Y) (xs : List X) (i : ℕ) → map f (remove xs i) ≡ remove (map f xs) i
map-remove f xs i = map-append f (take i xs) (drop (suc i) xs) ∙ (ap (λ l. l ++ map f (drop (suc i) xs)) (map-take f i xs) ∙ ap (λ l. take i (map f xs) ++ l) (map-drop f (suc i) xs))

position_or_len-map : {X Y : Type 0} (f : X → Y) (p : Y → Bool) (xs : List X) → position_or_len (λ x. p (f x)) xs ≡ position_or_len p (map f xs)
position_or_len-map f p [] = refl
position_or_len-map f p (x ∷ xs) = ap (λ n. let m : ℕ = cond (not (p (f x))) (1 + n) 0 in m) (position_or_len-map f p xs)

pub position-map : {X Y : Type 0} (f : X → Y) (p : Y → Bool) (xs : List X) → position (λ x. p (f x)) xs ≡ position p (map f xs)
position-map f p xs =
    ap (λ n. cond (nat_lt n (length xs)) (Some n) None) (position_or_len-map f p xs)
    ∙ ap (λ l. cond (nat_lt (position_or_len p (map f xs)) l) (Some (position_or_len p (map f xs))) None) (sym (length-map xs f))

pub All-remove : {X : Type 0} (P : X → Type 0) (xs : List X) (i : ℕ) → All P xs → All P (remove xs i)
All-remove P xs i all = All-append P (take i xs) (drop (suc i) xs) (All-take P i xs all) (All-drop P (suc i) xs all)

pub All-insert : {X : Type 0} (P : X → Type 0) (xs : List X) (i : ℕ) (x : X) → All P xs → P x → All P (insert xs i x)
All-insert P xs i x all one = All-append P (take i xs) (x ∷ drop i xs) (All-take P i xs all) (All-cons P x (drop i xs) one (All-drop P i xs all))

-- what was removed is put back
pub insert-remove : {X : Type 0} (xs : List X) (i : ℕ) (d : X) → i < length xs → insert (remove xs i) i (get_or xs i d) ≡ xs
insert-remove [] i d low = absurd (let none : ⊥ = omega (arith, low) in none)
insert-remove (x ∷ xs) zero d low = refl
insert-remove (x ∷ xs) (suc i) d low = ap (λ l. x ∷ l) (insert-remove xs i d (let less : i < length xs = omega (arith, low) in less))

-- the entry and the graph that a slot shows
pub entry_shown : (ss : List (Option Entry)) (i : ℕ) → entry_in (map held ss) i ≡ held (slot_in ss i)
entry_shown ss i = get_or-map held ss i None

pub slot_edited : (ss : List (Option Entry)) (i : ℕ) (g : GraphOf) → map held (slot_with_graph ss i g) ≡ with_graph (map held ss) i g
slot_edited ss i g =
    map-set held ss i (Some (record (held (slot_in ss i)) { graph = g }))
    ∙ ap (λ (e : Entry). set (map held ss) i (record e { graph = g })) (sym (entry_shown ss i))

pub becomes_shown : (Becomes : GraphOf → GraphOf → Type 0) (ss ts : List (Option Entry)) (i : ℕ) → InSlot Becomes ss ts i → AtPlace Becomes (map held ss) (map held ts) i
becomes_shown Becomes ss ts i m = (
  m.0,
  ap (map held) m.1 ∙ slot_edited ss i m.0,
  subst (λ g. Becomes g m.0) (ap (λ (x : Entry). x.graph) (sym (entry_shown ss i))) m.2,
)

slot_is : (ss : List (Option Entry)) (i : ℕ) (d : Option Entry) (x : Entry) → i < length ss → get_or ss i d ≡ Some x → held (slot_in ss i) ≡ x
slot_is ss i d x within at = ap held (get_or_default ss i None d within ∙ at)

pub becomes_in_slot : (Becomes : GraphOf → GraphOf → Type 0) (ss : List (Option Entry)) (i : ℕ) (d : Option Entry) (x : Entry) (h : GraphOf)
    → i < length ss → get_or ss i d ≡ Some x → Becomes x.graph h → InSlot Becomes ss (set ss i (Some (record { name = x.name; graph = h }))) i
becomes_in_slot Becomes ss i d x h within at becomes =
    let same : x ≡ held (slot_in ss i) = sym (slot_is ss i d x within at) in (
      h,
      ap (λ (y : Entry). set ss i (Some (record { name = y.name; graph = h }))) same,
      subst (λ (y : Entry). Becomes y.graph h) same becomes,
    )

pub written_in_slot : (f : GraphOf → GraphOf) (ss : List (Option Entry)) (i : ℕ) (d : Option Entry) (x : Entry) (h : GraphOf)
    → i < length ss → get_or ss i d ≡ Some x → h ≡ f x.graph
    → set ss i (Some (record { name = x.name; graph = h })) ≡ slot_with_graph ss i (f (held (slot_in ss i)).graph)
written_in_slot f ss i d x h within at value =
    ap (λ g. set ss i (Some (record { name = x.name; graph = g }))) value
    ∙ ap (λ (y : Entry). set ss i (Some (record { name = y.name; graph = f y.graph }))) (sym (slot_is ss i d x within at))

pub reverted_in_slot : (ss : List (Option Entry)) (i : ℕ) (d : Option Entry) (x : Entry) (delta : GraphDelta) (h : GraphOf)
    → i < length ss → get_or ss i d ≡ Some x → ((g : GraphOf) × LeftBy g delta (held (slot_in ss i)).graph) → ((g : GraphOf) → LeftBy g delta x.graph → h ≡ g)
    → set ss i (Some (record { name = x.name; graph = h })) ≡ slot_with_graph ss i (reverted (held (slot_in ss i)).graph delta)
reverted_in_slot ss i d x delta h within at left back =
    let from : LeftBy left.0 delta x.graph = subst (λ (y : Entry). LeftBy left.0 delta y.graph) (slot_is ss i d x within at) left.1 in
    written_in_slot (λ g. reverted g delta) ss i d x h within at (back left.0 from ∙ sym (reverted_is left.0 x.graph delta from))
