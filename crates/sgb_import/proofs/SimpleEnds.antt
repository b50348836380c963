-- Whether edges are simple is told by their endpoints alone.
use Rattle.std.proofs.Common.{◌≡◌, ◌==◌, List, [], ◌∷◌, map, Bool, true, false, ◌&&◌, ◌||◌, not, refl, sym, ap₂, ◌∙◌}
use Rattle.std.specs.List.{list_all, list_any}
use Rattle.sgb_graph.specs.Builder.{Insertion, insertion}
use Rattle.sgb_graph.specs.Graph.{GraphOf}
use Rattle.sgb_export.specs.Links.{links}
use Rattle.sgb_export.specs.Simple.{is_loop, have_same_ends, are_single, is_simple}
use Rattle.sgb_import.specs.Laws.{written}

abbrev no_loop : Insertion → Bool
no_loop e = not (e.from == e.to)

abbrev same_ends : Insertion → Insertion → Bool
same_ends e f = (e.from == f.from) && (e.to == f.to)

abbrev are_once : List Insertion → Bool
are_once [] = true
are_once (e ∷ es) = not (list_any (same_ends e) es) && are_once es

abbrev pub have_simple_ends : List Insertion → Bool
have_simple_ends es = list_all no_loop es && are_once es

all_mapped : {X : Type 0} (p : X → Bool) (f : X → Insertion) (q : Insertion → Bool) → ((x : X) → p x ≡ q (f x)) → (xs : List X) → list_all p xs ≡ list_all q (map f xs)
all_mapped p f q same [] = refl
all_mapped p f q same (x ∷ xs) = ap₂ (λ a b. a && b) (same x) (all_mapped p f q same xs)

any_mapped : {X : Type 0} (p : X → Bool) (f : X → Insertion) (q : Insertion → Bool) → ((x : X) → p x ≡ q (f x)) → (xs : List X) → list_any p xs ≡ list_any q (map f xs)
any_mapped p f q same [] = refl
any_mapped p f q same (x ∷ xs) = ap₂ (λ a b. a || b) (same x) (any_mapped p f q same xs)

once_mapped : (ls : _) → are_single ls ≡ are_once (map (λ l. insertion l.from l.to l.len) ls)
unfolding are_single
once_mapped [] = refl
once_mapped (l ∷ ls) =
    ap₂ (λ a b. not a && b) (any_mapped (have_same_ends l) (λ m. insertion m.from m.to m.len) (same_ends (insertion l.from l.to l.len)) (λ m. refl) ls) (once_mapped ls)

pub simple_written : (g : GraphOf) → is_simple g ≡ have_simple_ends (written false g)
unfolding is_simple
simple_written g =
    ap₂ (λ a b. a && b) (all_mapped (λ l. not (is_loop l)) (λ l. insertion l.from l.to l.len) no_loop (λ l. refl) (links false g)) (once_mapped (links false g))

-- edges with the same endpoints
module _ (t : Insertion → Insertion) (from : (e : Insertion) → (t e).from ≡ e.from) (to : (e : Insertion) → (t e).to ≡ e.to) where
  same_loop : (e : Insertion) → no_loop e ≡ no_loop (t e)
  same_loop e = sym (ap₂ (λ a b. not (a == b)) (from e) (to e))

  same_test : (e f : Insertion) → same_ends e f ≡ same_ends (t e) (t f)
  same_test e f =
      sym (ap₂ (λ a b. (a == (t f).from) && (b == (t f).to)) (from e) (to e) ∙ ap₂ (λ a b. (e.from == a) && (e.to == b)) (from f) (to f))

  same_once : (es : List Insertion) → are_once es ≡ are_once (map t es)
  same_once [] = refl
  same_once (e ∷ es) = ap₂ (λ a b. not a && b) (any_mapped (same_ends e) t (same_ends (t e)) (same_test e) es) (same_once es)

  pub same_simple : (es : List Insertion) → have_simple_ends (map t es) ≡ have_simple_ends es
  same_simple es = sym (ap₂ (λ a b. a && b) (all_mapped no_loop t no_loop same_loop es) (same_once es))
