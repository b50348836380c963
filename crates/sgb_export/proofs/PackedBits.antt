-- Lemmas on bits that are packed into bytes.
use Rattle.std.proofs.Common.{◌≡◌, ◌≤◌, ◌<◌, ◌+◌, ◌==◌, ℕ, List, [], ◌∷◌, ◌++◌, length, get_or, map, drop, Bool, refl, sym, ap, ap₂, ◌∙◌, arith, append_assoc}
use Rattle.std.proofs.lemmas.List.{drop_all, drop_more}
use Rattle.sgb_export.specs.declared.graph6.Six.{Six}
use Rattle.sgb_export.specs.Graph6.{packed}
use Rattle.sgb_export.specs.Private.Packing.{new_six, six_with, byte_with, six_after, bytes_with, last_byte}

-- what is still to be written of bits, behind those that the byte has
abbrev pub packed_from : Six → List Bool → List ℕ
packed_from s bits = bytes_with s bits ++ last_byte (six_after s bits)

pub packed_append : (s : Six) (xs ys : List Bool) → packed_from s (xs ++ ys) ≡ bytes_with s xs ++ packed_from (six_after s xs) ys
unfolding six_after bytes_with
packed_append s [] ys = refl
packed_append s (x ∷ xs) ys =
    let more = six_with s x in
    append_assoc (byte_with s x) (bytes_with more (xs ++ ys)) (last_byte (six_after more (xs ++ ys)))
    ∙ (ap (λ t. byte_with s x ++ t) (packed_append more xs ys)
    ∙ sym (append_assoc (byte_with s x) (bytes_with more xs) (packed_from (six_after more xs) ys)))

pub packed_none : (s : Six) (bits : List Bool) → bits ≡ [] → packed_from s bits ≡ last_byte s
unfolding six_after bytes_with
packed_none s bits none = ap (packed_from s) none

-- one bit
pub bits_one : (s more : Six) (b : Bool) (all bits : List Bool) → all ≡ b ∷ bits → more ≡ six_with s b → bytes_with s all ≡ byte_with s b ++ bytes_with more bits
unfolding bytes_with
bits_one s more b all bits steps is = ap (bytes_with s) steps ∙ ap (λ t. byte_with s b ++ bytes_with t bits) (sym is)

pub six_one : (s more : Six) (b : Bool) (all bits : List Bool) → all ≡ b ∷ bits → more ≡ six_with s b → six_after s all ≡ six_after more bits
unfolding six_after
six_one s more b all bits steps is = ap (six_after s) steps ∙ ap (λ t. six_after t bits) (sym is)

pub bits_none : (s : Six) (bits : List Bool) → bits ≡ [] → bytes_with s bits ≡ []
unfolding bytes_with
bits_none s bits none = ap (bytes_with s) none

pub six_none : (s : Six) (bits : List Bool) → bits ≡ [] → six_after s bits ≡ s
unfolding six_after
six_none s bits none = ap (six_after s) none

-- six bits and more, from the first on
pub packed_is : (bits : List Bool) → packed bits ≡ packed_from new_six bits
unfolding packed six_after bytes_with
packed_is [] = refl
packed_is (a ∷ []) = ap (λ n. n ∷ []) (omega arith)
packed_is (a ∷ (b ∷ [])) = ap (λ n. n ∷ []) (omega arith)
packed_is (a ∷ (b ∷ (c ∷ []))) = ap (λ n. n ∷ []) (omega arith)
packed_is (a ∷ (b ∷ (c ∷ (d ∷ [])))) = ap (λ n. n ∷ []) (omega arith)
packed_is (a ∷ (b ∷ (c ∷ (d ∷ (e ∷ []))))) = ap (λ n. n ∷ []) (omega arith)
packed_is (a ∷ (b ∷ (c ∷ (d ∷ (e ∷ (f ∷ bits)))))) = ap₂ (λ n ns. n ∷ ns) (omega arith) (packed_is bits)

-- the bits that marks make
pub marks_one : (m i : ℕ) (marks : List ℕ) → i < length marks → map (λ x. x == m) (drop i marks) ≡ (get_or marks i 0 == m) ∷ map (λ x. x == m) (drop (i + 1) marks)
marks_one m i marks within = ap (map (λ x. x == m)) (drop_more marks i 0 within)

pub marks_none : (m i : ℕ) (marks : List ℕ) → length marks ≤ i → map (λ x. x == m) (drop i marks) ≡ []
marks_none m i marks all = ap (map (λ x. x == m)) (drop_all i marks all)
