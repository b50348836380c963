-- What a sound, honest graph has for its records to be read.
use Rattle.std.proofs.Common.{true≢false, ◌≡◌, ℕ, zero, suc, ◌^◌, ◌<◌, ◌≤◌, ◌==◌, ◌&&◌, Bool, true, List, [], ◌∷◌, take, drop, length, get_or, slice_index_or, Option, Some, None, IsSome, IfSome, is_some, refl, sym, ap, ◌∙◌, inl, inr, arith, subst, All, length-take, length-drop}
use Rattle.std.specs.List.{list_all}
use Rattle.std.proofs.lemmas.Bool.{cases_Bool, cases_lt, and_parts}
use Rattle.std.proofs.lemmas.List.{get_or_past}
use Rattle.std.proofs.lemmas.List.Elements.{All-get_or}
use Rattle.sgb_graph.specs.declared.field.ArcNo.{ArcNo}
use Rattle.sgb_graph.specs.declared.field.Tip.{Tip}
use Rattle.sgb_graph.specs.declared.field.Tip.TheVariants as tips
use Rattle.sgb_graph.specs.declared.field.Util.{Util}
use Rattle.sgb_graph.specs.declared.field.Util.TheVariants.{Zero, Int, Vertex, Arc, Text}
use Rattle.sgb_graph.specs.Types.{is_letter}
use Rattle.sgb_graph.specs.Graph.{GraphOf, ArcOf, IsGraph, IsVertex, IsArc, IsValue, IsTip, n_of, made_of, no_vertex, vertex_at, arcs_of, arc_at, occurrences}
use Rattle.sgb_graph.specs.Honest.{vertex_letters, arc_letters, graph_letters, are_allowed, is_honest, is_honest_vertex, is_honest_entry}
use Rattle.sgb_graph.specs.Edit.{owner_of}
use Rattle.sgb_graph.specs.Read.{first_of}
use Rattle.sgb_graph.proofs.Counts.{occurs_yes, occurs_more}
use Rattle.sgb_graph.proofs.Graphs.{listed_live}
use Rattle.sgb_text.specs.Save.{following, next_link}
use Rattle.sgb_text.proofs.FieldItems.{IsGood, IsGoodLink, IsGoodTip}
use Rattle.sgb_text.proofs.RecordLayout.{Fields}

-- ---- letters
all_take : (n : ℕ) (ls : List ℕ) → list_all is_letter ls ≡ true → list_all is_letter (take n ls) ≡ true
all_take zero ls h = refl
all_take (suc n) [] h = refl
all_take (suc n) (l ∷ ls) h =
    let p = and_parts (is_letter l) (list_all is_letter ls) h in
    ap (λ b. b && list_all is_letter (take n ls)) p.0 ∙ all_take n ls p.1

all_drop : (n : ℕ) (ls : List ℕ) → list_all is_letter ls ≡ true → list_all is_letter (drop n ls) ≡ true
all_drop zero ls h = h
all_drop (suc n) [] h = refl
all_drop (suc n) (l ∷ ls) h = all_drop n ls (and_parts (is_letter l) (list_all is_letter ls) h).1

-- ---- values
module _ (n : ℕ) (es : List (Option ArcOf)) (few : n ≤ 65535) (few' : length es ≤ 1000000) where
  live_below : (k : ℕ) → IsSome (slice_index_or es k None) → k < length es
  live_below k live = elim (cases_lt k (length es)) [
    | inl h ↦ h
    | inr h ↦ absurd (true≢false (sym live ∙ ap is_some (get_or_past es k None h)))
  ]

  good_value : (u : Util) → IsValue n es u → IsGood u
  good_value Zero v = tt
  good_value (Int z) v = v
  good_value (Vertex w) v = omega (arith, few)
  good_value (Arc a) v = let h = live_below a.0 v in omega (arith, h, few')
  good_value (Text t) v = v

  good_values : (us : List Util) → All (IsValue n es) us → All IsGood us
  good_values us vs i d h = good_value (get_or us i d) (vs i d h)

  pub good_tip : (t : Tip) → IsTip n t → IsGoodTip t
  good_tip tips.Zero h = tt
  good_tip tips.One h = tt
  good_tip (tips.To w) h = omega (arith, few)

  pub good_fields : (ls : List ℕ) (us : List Util) → length us ≡ length ls → list_all is_letter ls ≡ true → are_allowed ls us ≡ true → All (IsValue n es) us → Fields ls us
  good_fields ls us same letters allowed values = record { same = same; letters = letters; allowed = allowed; good = good_values us values }

-- ---- honest at each place
all_at : {X : Type 0} (p : X → Bool) (xs : List X) (d : X) (i : ℕ) → list_all p xs ≡ true → p d ≡ true → p (get_or xs i d) ≡ true
all_at p [] d zero h e = e
all_at p [] d (suc i) h e = e
all_at p (x ∷ xs) d zero h e = (and_parts (p x) (list_all p xs) h).0
all_at p (x ∷ xs) d (suc i) h e = all_at p xs d i (and_parts (p x) (list_all p xs) h).1 e

module _ (g : GraphOf) (sound : IsGraph g) (honest : is_honest g ≡ true) where
  parts : ((are_allowed (graph_letters g.types) g.fields && list_all (is_honest_vertex g.types) g.vertices) ≡ true) × (list_all (is_honest_entry g.types) g.entries ≡ true)
  parts = and_parts (are_allowed (graph_letters g.types) g.fields && list_all (is_honest_vertex g.types) g.vertices) (list_all (is_honest_entry g.types) g.entries) honest

  first_parts : (are_allowed (graph_letters g.types) g.fields ≡ true) × (list_all (is_honest_vertex g.types) g.vertices ≡ true)
  first_parts = and_parts (are_allowed (graph_letters g.types) g.fields) (list_all (is_honest_vertex g.types) g.vertices) parts.0

  pub own_fields : Fields (graph_letters g.types) g.fields
  own_fields =
      good_fields (n_of g) g.entries sound.few_vertices sound.few_arcs (graph_letters g.types) g.fields
      (omega (arith, sound.six, sound.types.fourteen, length-drop 8 g.types)) (all_drop 8 g.types sound.types.letters) first_parts.0 sound.values

  pub vertex_sound : (v : ℕ) → v < n_of g → IsVertex (n_of g) g.entries (vertex_at g v)
  vertex_sound v h = All-get_or (IsVertex (n_of g) g.entries) g.vertices v no_vertex h sound.vertices

  pub vertex_fields : (v : ℕ) → v < n_of g → Fields (vertex_letters g.types) (vertex_at g v).fields
  vertex_fields v h =
      let x = vertex_sound v h in
      good_fields (n_of g) g.entries sound.few_vertices sound.few_arcs (vertex_letters g.types) (vertex_at g v).fields
      (omega (arith, x.six, sound.types.fourteen, length-take 6 g.types)) (all_take 6 g.types sound.types.letters)
      (all_at (is_honest_vertex g.types) g.vertices no_vertex v first_parts.1 refl) x.values

  entry_sound : (k : ℕ) → IfSome (arc_at g k) (IsArc (n_of g) g.entries)
  entry_sound k = elim (cases_lt k (made_of g)) [
    | inl h ↦ All-get_or (λ o. IfSome o (IsArc (n_of g) g.entries)) g.entries k None h sound.arcs
    | inr h ↦ subst (λ (o : Option ArcOf). IfSome o (IsArc (n_of g) g.entries)) (sym (get_or_past g.entries k None h)) tt
  ]

  pub arc_sound : (k : ℕ) (e : ArcOf) → arc_at g k ≡ Some e → IsArc (n_of g) g.entries e
  arc_sound k e at = subst (λ (o : Option ArcOf). IfSome o (IsArc (n_of g) g.entries)) at (entry_sound k)

  pub arc_fields : (k : ℕ) (e : ArcOf) → arc_at g k ≡ Some e → Fields (arc_letters g.types) e.fields
  arc_fields k e at =
      let x = arc_sound k e at in
      let allowed : is_honest_entry g.types (Some e) ≡ true = ap (is_honest_entry g.types) (sym at) ∙ all_at (is_honest_entry g.types) g.entries None k parts.1 refl in
      good_fields (n_of g) g.entries sound.few_vertices sound.few_arcs (arc_letters g.types) e.fields
      (omega (arith, x.two, sound.types.fourteen, length-take 2 (drop 6 g.types), length-drop 6 g.types))
      (all_take 2 (drop 6 g.types) (all_drop 6 g.types sound.types.letters)) allowed x.values

  pub arc_tip : (k : ℕ) (e : ArcOf) → arc_at g k ≡ Some e → IsGoodTip e.tip
  arc_tip k e at = good_tip (n_of g) g.entries sound.few_vertices sound.few_arcs e.tip (arc_sound k e at).tip

-- ---- links
first_occurs : (ks : List ℕ) (j : ArcNo) → first_of ks ≡ Some j → 0 < occurrences j.0 ks
first_occurs [] j e = cc
first_occurs (k ∷ ks) j e = let same : k ≡ j.0 = ap (λ (o : Option ArcNo). number o) e in omega (arith, occurs_yes j.0 k ks same)
  where
    number : Option ArcNo → ℕ
    number None = 0
    number (Some x) = x.0

follows_occurs : (k : ℕ) (ks : List ℕ) (j : ArcNo) → following k ks ≡ Some j → 0 < occurrences j.0 ks
unfolding following
follows_occurs k [] j e = cc
follows_occurs k (i ∷ is) j e = elim (cases_Bool (i == k)) [
  | inl here ↦ let first : first_of is ≡ Some j = rw here at e in omega (arith, first_occurs is j first, occurs_more j.0 i is)
  | inr past ↦ let later : following k is ≡ Some j = rw past at e in omega (arith, follows_occurs k is j later, occurs_more j.0 i is)
]

link_good : (link : Option ArcNo) → ((j : ArcNo) → link ≡ Some j → j.0 < 2 ^ 32) → IsGoodLink link
link_good None h = tt
link_good (Some j) h = h j refl

occurs_small : (g : GraphOf) (v k : ℕ) → IsGraph g → 0 < occurrences k (arcs_of g v) → k < 2 ^ 32
occurs_small g v k sound some = omega (arith, (listed_live g k v sound some).made, sound.few_arcs)

pub first_good : (g : GraphOf) (v : ℕ) → IsGraph g → IsGoodLink (first_of (arcs_of g v))
first_good g v sound = link_good (first_of (arcs_of g v)) (λ j e. occurs_small g v j.0 sound (first_occurs (arcs_of g v) j e))

pub next_good : (g : GraphOf) (k : ℕ) → IsGraph g → IsGoodLink (next_link g k)
next_good g k sound = link_good (next_link g k) (λ j e. occurs_small g (owner_of g k) j.0 sound (follows_occurs k (arcs_of g (owner_of g k)) j e))

-- ---- holes
two_zeros : (ls : List ℕ) → length ls ≡ 2 → list_all is_letter ls ≡ true → Fields ls (Zero ∷ Zero ∷ [])
two_zeros [] two letters = absurd (omega arith)
two_zeros (_ ∷ []) two letters = absurd (omega arith)
two_zeros (l ∷ k ∷ []) two letters = record { same = refl; letters = letters; allowed = refl; good = zeros_good }
  where
    zeros_good : All IsGood (Zero ∷ Zero ∷ [])
    zeros_good zero d h = tt
    zeros_good (suc zero) d h = tt
    zeros_good (suc (suc i)) d h = absurd (omega arith)
two_zeros (_ ∷ _ ∷ _ ∷ _) two letters = absurd (omega arith)

pub hole_fields : (g : GraphOf) → IsGraph g → Fields (arc_letters g.types) (Zero ∷ Zero ∷ [])
hole_fields g sound =
    two_zeros (arc_letters g.types) (omega (arith, sound.types.fourteen, length-take 2 (drop 6 g.types), length-drop 6 g.types))
    (all_take 2 (drop 6 g.types) (all_drop 6 g.types sound.types.letters))
