-- Lemmas on names that stand one behind another, and are kept in a set by their numbers.
use Rattle.std.proofs.Common.{◌≡◌, ◌<◌, ◌≤◌, ◌+◌, ◌-◌, ◌*◌, ◌==◌, ℕ, suc, List, [], ◌∷◌, ◌++◌, length, get_or, map, take, drop, false, All, inl, inr, refl, sym, ap, ap₂, subst, ◌∙◌, arith}
use Rattle.std.specs.List.{concat, list_any}
use Rattle.std.specs.Cmp.Lexicographic.{pointwise}
use Rattle.std.proofs.lemmas.Bool.{cases_Bool}
use Rattle.std.proofs.lemmas.List.{length-append, length-map, map-append, take_at, take_more, take-append-drop, drop_at, drop_more, get_or_append_left, get_or_at, get_or-map}
use Rattle.std.proofs.lemmas.List.Elements.{All-head, All-tail}
use Rattle.std.proofs.lemmas.List.Folds.{list_any_none}
use Rattle.std.proofs.lemmas.Slice.Eq.{bytes_eq-Decides}
use Rattle.indexmap.specs.IndexSet.{insert_key}
use Rattle.sgb_plan.specs.Distinct.{Distinct}
use denote.Ref.{Bor}
use Rattle.sgb_binary.specs.Private.Names.{bytes_of}
use Rattle.sgb_binary.specs.Private.Listing.{pieces}

-- the names that are keys
abbrev pub names_of : List (Bor (List ℕ)) → List (List ℕ)
names_of keys = map bytes_of keys

-- ---- a name that is new
name_new : (keys : List (Bor (List ℕ))) (name : List ℕ) (rest : List (List ℕ)) → Distinct (names_of keys ++ (name ∷ rest)) → list_any (λ key. pointwise ◌==◌ name (bytes_of key)) keys ≡ false
name_new keys name rest apart =
    list_any_none (λ key. pointwise ◌==◌ name (bytes_of key)) keys
    (λ i d h.
    let below : i < length (names_of keys) = omega (arith, length-map keys bytes_of) in
    let within : length (names_of keys) < length (names_of keys ++ (name ∷ rest)) = omega (arith, length-append (names_of keys) (name ∷ rest)) in
    let first : get_or (names_of keys ++ (name ∷ rest)) i name ≡ bytes_of (get_or keys i d) =
    get_or_append_left (names_of keys) (name ∷ rest) name i below ∙ get_or-map bytes_of keys i d name h in
    let second : get_or (names_of keys ++ (name ∷ rest)) (length (names_of keys)) name ≡ name =
    get_or_at (names_of keys) name rest name (length (names_of keys)) refl in
    elim (cases_Bool (pointwise ◌==◌ name (bytes_of (get_or keys i d)))) [
      | inl same ↦
          let equal : name ≡ bytes_of (get_or keys i d) = (bytes_eq-Decides name (bytes_of (get_or keys i d))).0 same in
          absurd (apart i (length (names_of keys)) name below within (first ∙ (sym equal ∙ sym second)))
      | inr other ↦ other
    ])

pub name_added : (keys : List (Bor (List ℕ))) (name : Bor (List ℕ)) (rest : List (List ℕ)) → Distinct (names_of keys ++ (bytes_of name ∷ rest))
    → names_of (insert_key (λ a b. pointwise ◌==◌ (bytes_of a) (bytes_of b)) keys name) ≡ names_of keys ++ bytes_of name ∷ []
name_added keys name rest apart =
    let new = name_new keys (bytes_of name) rest apart in
    rw new (map-append bytes_of keys (name ∷ []))

-- the names up to one are keys; this one goes last
pub name_more : (names : List (List ℕ)) (i : ℕ) (keys after : List (Bor (List ℕ))) (name : Bor (List ℕ)) → Distinct names → i < length names → bytes_of name ≡ get_or names i [] → names_of keys ≡ take i names
    → after ≡ insert_key (λ a b. pointwise ◌==◌ (bytes_of a) (bytes_of b)) keys name → names_of after ≡ take (i + 1) names
name_more names i keys after name apart less is shown put =
    let rest : List (List ℕ) = drop (i + 1) names in
    let all : names_of keys ++ (bytes_of name ∷ rest) ≡ names =
    ap₂ (λ xs x. xs ++ (x ∷ rest)) shown is ∙ (ap (λ xs. take i names ++ xs) (sym (drop_more names i [] less)) ∙ take-append-drop i names) in
    ap names_of put
    ∙ (name_added keys name rest (subst Distinct (sym all) apart)
    ∙ (ap₂ (λ xs x. xs ++ x ∷ []) shown is ∙ sym (take_more names i [] less)))

-- ---- pieces
pub pieces_more : (width k m : ℕ) (xs : List ℕ) → k ≡ suc m → pieces width k xs ≡ take width xs ∷ pieces width m (drop width xs)
unfolding pieces
pieces_more width k m xs is = ap (λ n. pieces width n xs) is

pub pieces_end : (width k : ℕ) (xs : List ℕ) → k ≡ 0 → pieces width k xs ≡ []
unfolding pieces
pieces_end width k xs is = ap (λ n. pieces width n xs) is

pub pieces_concat : (width : ℕ) (ws : List (List ℕ)) → All (λ w. length w ≡ width) ws → pieces width (length ws) (concat ws) ≡ ws
unfolding pieces
pieces_concat width [] all = refl
pieces_concat width (w ∷ ws) all =
    let long : length w ≡ width = All-head (λ v. length v ≡ width) w ws all in
    ap₂ (λ v vs. v ∷ vs) (take_at w (concat ws) width long)
    (ap (pieces width (length ws)) (drop_at w (concat ws) width long) ∙ pieces_concat width ws (All-tail (λ v. length v ≡ width) w ws all))

pub concat_length : (width : ℕ) (ws : List (List ℕ)) → All (λ w. length w ≡ width) ws → length (concat ws) ≡ length ws * width
concat_length width [] all = omega arith
concat_length width (w ∷ ws) all =
    omega (arith, length-append w (concat ws), All-head (λ v. length v ≡ width) w ws all, concat_length width ws (All-tail (λ v. length v ≡ width) w ws all))

-- one turn of the loop: what is left begins with the name
pub piece_taken : (width count v : ℕ) (rest : List ℕ) → v < count → pieces width (count - v) rest ≡ take width rest ∷ pieces width (count - (v + 1)) (drop width rest)
piece_taken width count v rest h =
    let more : count - v ≡ suc (count - (v + 1)) = omega arith in
    pieces_more width (count - v) (count - (v + 1)) rest more

pub width_left : (width count v len : ℕ) → v < count → len ≡ (count - v) * width → width ≤ len
width_left width count v len h is =
    let more : count - v ≡ suc (count - (v + 1)) = omega arith in
    let all : (count - v) * width ≡ suc (count - (v + 1)) * width = ap (λ k. k * width) more in
    omega (arith, is, all)

pub width_next : (width count v len : ℕ) → v < count → len ≡ (count - v) * width → len - width ≡ (count - (v + 1)) * width
width_next width count v len h is =
    let more : count - v ≡ suc (count - (v + 1)) = omega arith in
    let all : (count - v) * width ≡ suc (count - (v + 1)) * width = ap (λ k. k * width) more in
    omega (arith, is, all)
