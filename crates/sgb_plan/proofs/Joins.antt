-- Lemmas on pieces that are joined by a byte.
use Rattle.std.proofs.Common.{◌≡◌, ◌+◌, ℕ, List, [], ◌∷◌, ◌++◌, sym, ap, ◌∙◌, append_assoc}
use Rattle.std.specs.List.{flat_map, join_with_byte}
use Rattle.std.proofs.lemmas.List.{append-nil}
use Rattle.sgb_plan.specs.Private.Bytes.{IsShort}
use Rattle.sgb_plan.proofs.Shorts.{IsShort-append, IsShort-as}

-- each piece behind the byte
abbrev pub behind : ℕ → List (List ℕ) → List ℕ
behind c = flat_map (λ piece. c ∷ piece)

pub join-cons : (c : ℕ) (x : List ℕ) (xs : List (List ℕ)) → join_with_byte c (x ∷ xs) ≡ x ++ behind c xs
join-cons c x [] = sym (append-nil x)
join-cons c x (y ∷ xs) = ap (λ r. x ++ (c ∷ r)) (join-cons c y xs)

-- what stands in the list's first place is not behind the byte
pub wrote_first : (start : List ℕ) {old new : List ℕ} (c : ℕ) (x : List ℕ) (xs : List (List ℕ)) → old ≡ start ++ x → new ≡ old ++ behind c xs → new ≡ start ++ join_with_byte c (x ∷ xs)
wrote_first start c x xs first rest =
    rest ∙ (ap (λ ys. ys ++ behind c xs) first ∙ (append_assoc start x (behind c xs) ∙ ap (λ ys. start ++ ys) (sym (join-cons c x xs))))

pub short_first : {m n : ℕ} (c : ℕ) (x : List ℕ) (xs : List (List ℕ)) → IsShort m x → IsShort n (behind c xs) → IsShort (m + n) (join_with_byte c (x ∷ xs))
short_first c x xs first rest = IsShort-as (IsShort-append first rest) (sym (join-cons c x xs))
