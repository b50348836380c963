-- Lemmas on the images of two vertices with one leader.
use Rattle.std.proofs.Common.{◌≡◌, ◌≢◌, ◌==◌, ◌<◌, ℕ, ℤ, List, [], ◌∷◌, length, map, Bool, true, false, nat_le, inl, inr, refl, sym, ap, ap₂, ◌∙◌, arith}
use Rattle.std.specs.List.{filter, flat_map, range_with_len}
use Rattle.std.proofs.lemmas.Bool.{cases_eq, eq-eqb, ne_eqb, le-leb}
use Rattle.sgb_graph.specs.Builder.{Insertion, insertion}
use Rattle.sgb_induced.specs.declared.fate.Fate.{Fate}
use Rattle.sgb_induced.specs.declared.fate.Fate.TheVariants.{Copies, Class}
use Rattle.sgb_induced.specs.Image.{count_of, fate, images, leader, start}
use Rattle.sgb_induced.specs.Induced.{is_wanted}
use Rattle.sgb_induced.proofs.Leaders.{fate_of_leader, leader_of_copies}

-- the insertions from each of some numbers to each of others
abbrev pub rows : Bool → Bool → Bool → List ℕ → List ℕ → ℤ → List Insertion
rows loops d alone xs ys len = flat_map (λ x. map (λ y. insertion x y len) (filter (is_wanted loops d alone x) ys)) xs

-- two vertices with one leader are of one class, which has one image
one_by : (fs : List Fate) (v w : ℕ) (f : Fate) → fate fs v ≡ f → v ≢ w → leader fs v ≡ leader fs w → w < length fs → count_of (fate fs v) ≡ 1
one_by fs v w (Class c) is apart same h = ap count_of is
one_by fs v w (Copies k) is apart same h =
    let led : leader fs w ≡ v = sym same ∙ leader_of_copies fs v k is in
    let fate_w : fate fs w ≡ Copies k = sym (fate_of_leader fs w h) ∙ (ap (fate fs) led ∙ is) in
    absurd (apart (sym led ∙ leader_of_copies fs w k fate_w))

one_image : (fs : List Fate) (v w : ℕ) → v ≢ w → leader fs v ≡ leader fs w → w < length fs → images fs v ≡ start fs (leader fs v) ∷ []
one_image fs v w apart same h = ap (range_with_len (start fs (leader fs v))) (one_by fs v w (fate fs v) refl apart same h)

rows_one : (loops d : Bool) (x : ℕ) (len : ℤ) → rows loops d true (x ∷ []) (x ∷ []) len ≡ rows loops d false (x ∷ []) (x ∷ []) len
rows_one loops true x len = refl
rows_one loops false x len =
    let itself : nat_le x x ≡ true = le-leb x x (omega arith) in
    rw itself refl

-- so it is the same if the vertices or if their leaders are one
pub alone_is : (loops d : Bool) (fs : List Fate) (v w : ℕ) (len : ℤ) → v < length fs → w < length fs
    → rows loops d (leader fs v == leader fs w) (images fs v) (images fs w) len ≡ rows loops d (v == w) (images fs v) (images fs w) len
alone_is loops d fs v w len h k =
    elim (cases_eq v w) [
      | inl same ↦ ap (λ a. rows loops d a (images fs v) (images fs w) len) (eq-eqb (leader fs v) (leader fs w) (ap (leader fs) same) ∙ sym (eq-eqb v w same))
      | inr apart ↦ (elim (cases_eq (leader fs v) (leader fs w)) [
        | inl led ↦ (let x : ℕ = start fs (leader fs v) in
            let first : images fs v ≡ x ∷ [] = one_image fs v w apart led k in
            let second : images fs w ≡ x ∷ [] = one_image fs w v (λ back. apart (sym back)) (sym led) h ∙ ap (λ a. start fs a ∷ []) (sym led) in
            ap (λ a. rows loops d a (images fs v) (images fs w) len) (eq-eqb (leader fs v) (leader fs w) led)
            ∙ (ap₂ (λ xs ys. rows loops d true xs ys len) first second
            ∙ (rows_one loops d x len
            ∙ (sym (ap₂ (λ xs ys. rows loops d false xs ys len) first second)
            ∙ ap (λ a. rows loops d a (images fs v) (images fs w) len) (sym (ne_eqb v w apart))))))
        | inr other ↦ ap (λ a. rows loops d a (images fs v) (images fs w) len) (ne_eqb (leader fs v) (leader fs w) other ∙ sym (ne_eqb v w apart))
      ])
    ]
