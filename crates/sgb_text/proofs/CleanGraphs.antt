-- What cleaning leaves as it is.
use Rattle.std.proofs.Common.{◌≡◌, ℕ, zero, suc, ◌+◌, cond, not, ◌==◌, List, [], ◌∷◌, ◌++◌, codes, append_assoc, map, length, get_or, count_by, is_some, Option, Some, None, refl, sym, ap, ◌∙◌, arith}
use Rattle.std.specs.Option.{option_map}
use Rattle.std.specs.List.{list_any, position_or_len}
use Rattle.std.proofs.lemmas.List.{length-map}
use Rattle.std.proofs.lemmas.List.Sums.{sum_by-cons}
use Rattle.sgb_graph.specs.declared.field.Util.TheVariants.{Zero}
use Rattle.sgb_graph.specs.Graph.{GraphOf, VertexOf, n_of, m_of, made_of, vertex_at, no_vertex, arcs_of, arc_at}
use Rattle.sgb_graph.specs.Edit.{owner_of}
use Rattle.sgb_text.specs.Clean.{clean_of, clean_vertex, clean_arc, clean_fields, dirt_in}
use Rattle.std.specs.Fmt.{decimal}
use Rattle.sgb_graph.specs.Honest.{graph_letters}
use Rattle.sgb_text.specs.Save.{following, next_link, quoted, field_items, own_items, header_of}
use Rattle.sgb_text.specs.Private.Page.{PageOf, with_line}

pub get_or_map : {A B : Type 0} (f : A → B) (xs : List A) (i : ℕ) (d : A) → get_or (map f xs) i (f d) ≡ f (get_or xs i d)
get_or_map f [] zero d = refl
get_or_map f [] (suc i) d = refl
get_or_map f (x ∷ xs) zero d = refl
get_or_map f (x ∷ xs) (suc i) d = get_or_map f xs i d

pub some_map : {A B : Type 0} (f : A → B) (o : Option A) → is_some (option_map f o) ≡ is_some o
some_map f None = refl
some_map f (Some x) = refl

count_map : {A B : Type 0} (f : A → B) (os : List (Option A)) → count_by is_some (map (option_map f) os) ≡ count_by is_some os
count_map f [] = refl
count_map f (o ∷ os) =
    sum_by-cons (λ (x : Option _). cond (is_some x) 1 0) (option_map f o) (map (option_map f) os)
    ∙ ap (λ b. cond b 1 0 + count_by is_some (map (option_map f) os)) (some_map f o)
    ∙ ap (λ n. cond (is_some o) 1 0 + n) (count_map f os)
    ∙ sym (sum_by-cons (λ (x : Option _). cond (is_some x) 1 0) o os)

pub n_clean : (g : GraphOf) → n_of (clean_of g) ≡ n_of g
unfolding clean_of
n_clean g = length-map g.vertices (clean_vertex g.types)

pub made_clean : (g : GraphOf) → made_of (clean_of g) ≡ made_of g
unfolding clean_of
made_clean g = length-map g.entries (option_map (clean_arc g.types))

pub m_clean : (g : GraphOf) → m_of (clean_of g) ≡ m_of g
unfolding clean_of
m_clean g = count_map (clean_arc g.types) g.entries

pub vertex_clean : (g : GraphOf) (v : ℕ) → vertex_at (clean_of g) v ≡ clean_vertex g.types (vertex_at g v)
unfolding clean_of
vertex_clean g v = get_or_map (clean_vertex g.types) g.vertices v no_vertex

pub arcs_clean : (g : GraphOf) (v : ℕ) → arcs_of (clean_of g) v ≡ arcs_of g v
arcs_clean g v = ap (λ (x : VertexOf). x.arcs) (vertex_clean g v)

pub arc_clean : (g : GraphOf) (k : ℕ) → arc_at (clean_of g) k ≡ option_map (clean_arc g.types) (arc_at g k)
unfolding clean_of
arc_clean g k = get_or_map (option_map (clean_arc g.types)) g.entries k None

owner_map : (types : List ℕ) (vs : List VertexOf) (k : ℕ)
    → position_or_len (λ v. list_any (λ j. j == k) v.arcs) (map (clean_vertex types) vs) ≡ position_or_len (λ v. list_any (λ j. j == k) v.arcs) vs
owner_map types [] k = refl
owner_map types (v ∷ vs) k = ap (λ n. cond (not (list_any (λ j. j == k) v.arcs)) (1 + n) 0) (owner_map types vs k)

pub owner_clean : (g : GraphOf) (k : ℕ) → owner_of (clean_of g) k ≡ owner_of g k
unfolding clean_of
owner_clean g k = owner_map g.types g.vertices k

pub next_clean : (g : GraphOf) (k : ℕ) → next_link (clean_of g) k ≡ next_link g k
next_clean g k = ap (following k) (arcs_clean g (owner_of (clean_of g) k) ∙ ap (arcs_of g) (owner_clean g k))

-- ---- two values of Zero, as a hole has them
pub zeros_clean : (ls : List ℕ) → length ls ≡ 2 → clean_fields ls (Zero ∷ Zero ∷ []) ≡ Zero ∷ Zero ∷ []
zeros_clean [] h = absurd (omega arith)
zeros_clean (_ ∷ []) h = absurd (omega arith)
zeros_clean (_ ∷ _ ∷ []) h = refl
zeros_clean (_ ∷ _ ∷ _ ∷ _) h = absurd (omega arith)

pub zeros_spotless : (ls : List ℕ) → length ls ≡ 2 → dirt_in ls (Zero ∷ Zero ∷ []) ≡ 0
zeros_spotless [] h = absurd (omega arith)
zeros_spotless (_ ∷ []) h = absurd (omega arith)
zeros_spotless (_ ∷ _ ∷ []) h = refl
zeros_spotless (_ ∷ _ ∷ _ ∷ _) h = absurd (omega arith)

-- ---- the graph's own record
pub own_clean : (g : GraphOf) → quoted g.id ∷ decimal (n_of g) ∷ decimal (m_of g) ∷ field_items (graph_letters g.types) (clean_fields (graph_letters g.types) g.fields) ≡ own_items (clean_of g)
unfolding clean_of
own_clean g =
    ap (λ n. quoted g.id ∷ decimal n ∷ decimal (m_of g) ∷ field_items (graph_letters g.types) (clean_fields (graph_letters g.types) g.fields)) (sym (n_clean g))
    ∙ ap (λ m. quoted g.id ∷ decimal (n_of (clean_of g)) ∷ decimal m ∷ field_items (graph_letters g.types) (clean_fields (graph_letters g.types) g.fields)) (sym (m_clean g))

-- ---- the first line
pub header_pieces : (a t n m : List ℕ) → ((a ++ t) ++ (codes "," ++ (n ++ (codes "V," ++ (m ++ (codes "A)" ++ 10 ∷ [])))))) ≡ (a ++ (t ++ (codes "," ++ (n ++ (codes "V," ++ (m ++ codes "A)")))))) ++ 10 ∷ []
header_pieces a t n m = simp append_assoc

pub types_clean : (g : GraphOf) → (clean_of g).types ≡ g.types
unfolding clean_of
types_clean g = refl

pub header_clean : (g : GraphOf) (p q r s : PageOf) (types : List ℕ) (n made : ℕ) → q ≡ with_line p (codes "* GraphBase graph (util_types ") → r ≡ with_line q types
    → s ≡ with_line r (codes "," ++ (decimal n ++ (codes "V," ++ (decimal made ++ (codes "A)" ++ 10 ∷ [])))))
    → types ≡ g.types → n ≡ n_of g → made ≡ made_of g
    → s ≡ with_line p (header_of (clean_of g) ++ 10 ∷ [])
header_clean g p q r s types n made first second third a b c =
    third
    ∙ ap (λ x. with_line x (codes "," ++ (decimal n ++ (codes "V," ++ (decimal made ++ (codes "A)" ++ 10 ∷ [])))))) (second ∙ ap (λ x. with_line x types) first)
    ∙ ap (λ t. record { text = t; column = 0 }) (simp append_assoc)
    ∙ ap (λ t. with_line p ((codes "* GraphBase graph (util_types " ++ (t ++ (codes "," ++ (decimal n ++ (codes "V," ++ (decimal made ++ codes "A)")))))) ++ 10 ∷ [])) (a ∙ sym (types_clean g))
    ∙ ap (λ k. with_line p ((codes "* GraphBase graph (util_types " ++ ((clean_of g).types ++ (codes "," ++ (decimal k ++ (codes "V," ++ (decimal made ++ codes "A)")))))) ++ 10 ∷ [])) (b ∙ sym (n_clean g))
    ∙ ap (λ k. with_line p ((codes "* GraphBase graph (util_types " ++ ((clean_of g).types ++ (codes "," ++ (decimal (n_of (clean_of g)) ++ (codes "V," ++ (decimal k ++ codes "A)")))))) ++ 10 ∷ [])) (c ∙ sym (made_clean g))
