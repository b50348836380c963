-- Lemmas on the arcs that are written, as a loop passes over a list.
use Rattle.std.proofs.Common.{◌≡◌, ◌≤◌, ◌<◌, ◌+◌, ℕ, List, [], ◌∷◌, ◌++◌, length, map, drop, Bool, true, false, ◌&&◌, not, inl, inr, refl, sym, ap, ◌∙◌, arith, append_assoc}
use Rattle.std.specs.List.{filter, flat_map, list_all, range_with_len}
use Rattle.std.proofs.lemmas.Bool.{cases_Bool}
use Rattle.std.proofs.lemmas.List.{length-map}
use Rattle.sgb_graph.specs.Graph.{GraphOf, n_of}
use Rattle.sgb_graph.specs.Paired.{walk}
use Rattle.sgb_export.specs.declared.link.Link.{Link}
use Rattle.sgb_export.specs.declared.format.Format.{Format}
use Rattle.sgb_export.specs.Links.{link, is_written, links_at, is_even}
use Rattle.sgb_export.specs.Text.{link_text, links_text}
use Rattle.sgb_print.proofs.TextPieces.{number_and_rest}

-- what is written of the numbers of a list
abbrev pub written : Bool → GraphOf → ℕ → List ℕ → List Link
written directed g v ks = filter (is_written directed) (map (link g v) ks)

pub written_start : (directed : Bool) (g : GraphOf) (v : ℕ) (ks : List ℕ) → ks ≡ walk directed g v → links_at directed g v ≡ written directed g v ks
unfolding links_at
written_start directed g v ks is = ap (written directed g v) (sym is)

pub written_skip : (directed : Bool) (g : GraphOf) (v k : ℕ) (ks after : List ℕ) (l : Link) → ks ≡ k ∷ after → l ≡ link g v k → is_written directed l ≡ false → written directed g v ks ≡ written directed g v after
written_skip directed g v k ks after l steps is not_so =
    let here : is_written directed (link g v k) ≡ false = ap (is_written directed) (sym is) ∙ not_so in
    ap (written directed g v) steps ∙ rw here refl

pub written_one : (directed : Bool) (g : GraphOf) (v k : ℕ) (ks after : List ℕ) (l : Link) → ks ≡ k ∷ after → l ≡ link g v k → is_written directed l ≡ true → written directed g v ks ≡ l ∷ written directed g v after
written_one directed g v k ks after l steps is so =
    let here : is_written directed (link g v k) ≡ true = ap (is_written directed) (sym is) ∙ so in
    let first : written directed g v (k ∷ after) ≡ link g v k ∷ written directed g v after = rw here refl in
    ap (written directed g v) steps ∙ (first ∙ ap (λ x. x ∷ written directed g v after) (sym is))

pub filter_few : {X : Type 0} (p : X → Bool) (xs : List X) → length (filter p xs) ≤ length xs
filter_few p [] = omega arith
filter_few p (x ∷ xs) =
    let rest = filter_few p xs in
    elim (cases_Bool (p x)) [
      | inl so ↦ rw so (omega (arith, rest))
      | inr not_so ↦ rw not_so (omega (arith, rest))
    ]

-- a vertex has no more than its walk has numbers
pub few_at : (directed : Bool) (g : GraphOf) (v : ℕ) (ks : List ℕ) → ks ≡ walk directed g v → length (links_at directed g v) ≤ length ks
few_at directed g v ks is =
    let less = filter_few (is_written directed) (map (link g v) ks) in
    omega (arith, less, length-map ks (link g v), ap length (written_start directed g v ks is))

-- ---- whether the halves of edges have one length
pub even_skip : (g : GraphOf) (v k : ℕ) (ks after : List ℕ) (l : Link) → ks ≡ k ∷ after → l ≡ link g v k → (is_written false l && not (is_even g l)) ≡ false
    → list_all (is_even g) (written false g v ks) ≡ list_all (is_even g) (written false g v after)
even_skip g v k ks after l steps is fine =
    elim (cases_Bool (is_written false l)) [
      | inl so ↦ elim (cases_Bool (is_even g l)) [
        | inl even ↦ ap (list_all (is_even g)) (written_one false g v k ks after l steps is so) ∙ ap (λ b. b && list_all (is_even g) (written false g v after)) even
        | inr uneven ↦ absurd (let wrong : (is_written false l && not (is_even g l)) ≡ true = rw (so, uneven) refl in cc)
      ]
      | inr not_so ↦ ap (list_all (is_even g)) (written_skip false g v k ks after l steps is not_so)
    ]

pub even_not : (g : GraphOf) (v k : ℕ) (ks after : List ℕ) (l : Link) → ks ≡ k ∷ after → l ≡ link g v k → (is_written false l && not (is_even g l)) ≡ true
    → list_all (is_even g) (written false g v ks) ≡ false
even_not g v k ks after l steps is wrong =
    elim (cases_Bool (is_written false l)) [
      | inl so ↦ elim (cases_Bool (is_even g l)) [
        | inl even ↦ absurd (let fine : (is_written false l && not (is_even g l)) ≡ false = rw (so, even) refl in cc)
        | inr uneven ↦ ap (list_all (is_even g)) (written_one false g v k ks after l steps is so) ∙ ap (λ b. b && list_all (is_even g) (written false g v after)) uneven
      ]
      | inr not_so ↦ absurd (let fine : (is_written false l && not (is_even g l)) ≡ false = rw not_so refl in cc)
    ]

-- ---- lines that are numbered
module _ (format : Format) (directed : Bool) (g : GraphOf) where
  pub lines_one : (k : ℕ) (l : Link) (ls all : List Link) → all ≡ l ∷ ls → links_text format directed g k all ≡ link_text format directed g k l ++ links_text format directed g (k + 1) ls
  unfolding links_text
  lines_one k l ls all is = ap (links_text format directed g k) is

  pub lines_none : (k : ℕ) (all : List Link) → all ≡ [] → links_text format directed g k all ≡ []
  unfolding links_text
  lines_none k all is = ap (links_text format directed g k) is

  lines_append : (k : ℕ) (ls ms : List Link) → links_text format directed g k (ls ++ ms) ≡ links_text format directed g k ls ++ links_text format directed g (k + length ls) ms
  unfolding links_text
  lines_append k [] ms = ap (λ n. links_text format directed g n ms) (omega arith)
  lines_append k (l ∷ ls) ms =
      ap (λ t. link_text format directed g k l ++ t) (lines_append (k + 1) ls ms ∙ ap (λ n. links_text format directed g (k + 1) ls ++ links_text format directed g n ms) (omega arith))
      ∙ sym (append_assoc (link_text format directed g k l) (links_text format directed g (k + 1) ls) (links_text format directed g (k + length (l ∷ ls)) ms))

  -- those of a vertex, and of the vertices behind it
  pub lines_at : (k v : ℕ) → v < n_of g
      → links_text format directed g k (flat_map (links_at directed g) (drop v (range_with_len 0 (n_of g))))
      ≡ links_text format directed g k (links_at directed g v)
      ++ links_text format directed g (k + length (links_at directed g v)) (flat_map (links_at directed g) (drop (v + 1) (range_with_len 0 (n_of g))))
  lines_at k v within = ap (links_text format directed g k) (number_and_rest (links_at directed g) (n_of g) v within) ∙ lines_append k _ _
