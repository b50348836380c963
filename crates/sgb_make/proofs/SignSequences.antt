-- Lemmas on the signs of a vector, as they are set one after the other.
use Rattle.std.proofs.Common.{◌≡◌, ◌<◌, ◌+◌, ℕ, zero, suc, ℤ, pos, negsuc, List, [], ◌∷◌, ◌++◌, length, get_or, map, take, drop, set, Bool, true, false, refl, sym, ap, ap₂, subst, ◌∙◌, arith}
use Rattle.std.proofs.Math.IntN.{neg_ℤ}
use Rattle.std.proofs.lemmas.List.{map-append, at_drop_more, take_all, drop_all, take_more_set, take-take, take-set-le}
use Rattle.sgb_graph.specs.declared.builder.Builder.{Builder}
use Rattle.sgb_graph.specs.declared.refusal.Refusal.{Refusal}
use Rattle.sgb_graph.specs.Builder.{Insertion}
use Rattle.sgb_graph.proofs.InsertionRuns.{RefusesInsertions, left_start, left_as, left_refused}
use Rattle.sgb_make.specs.declared.side.Side.{Side}
use Rattle.sgb_make.specs.declared.side.Step.{Step}
use Rattle.sgb_make.specs.Ride.{rides_along}
use Rattle.sgb_make.specs.Private.Link.{part_of}
use Rattle.sgb_make.specs.Private.Signs.{along_signings}
use Rattle.sgb_make.proofs.Signs.{signed_end, signed_zero, signed_first, signed_both}

-- the insertions of the vectors that begin with the steps before `at`
abbrev pub signed_from : List Side → Bool → List Step → List ℕ → ℕ → Bool → List Insertion
signed_from sides rides steps parts at seen = along_signings sides rides (map part_of (take at steps)) (drop at parts) seen

-- the step of a part
abbrev pub step_of : List ℕ → ℕ → Bool → Step
step_of parts at back = record { by = get_or parts at 0; back = back }

prefix_more : (steps : List Step) (at : ℕ) (s : Step) → at < length steps → map part_of (take (at + 1) (set steps at s)) ≡ map part_of (take at steps) ++ part_of s ∷ []
prefix_more steps at s below =
    ap (map part_of) (take_more_set steps at s below) ∙ map-append part_of (take at steps) (s ∷ [])

shorter : (xs : List Step) (at : ℕ) → take at (take (at + 1) xs) ≡ take at xs
shorter xs at = take-take at (at + 1) xs (omega arith)

-- the same before `at`
pub kept_before : (xs ys : List Step) (at : ℕ) (s : Step) → at < length xs → take (at + 1) ys ≡ take (at + 1) (set xs at s) → take at ys ≡ take at xs
kept_before xs ys at s below same =
    sym (shorter ys at) ∙ (ap (take at) same ∙ (shorter (set xs at s) at ∙ take-set-le at xs at s (omega arith)))

pub end_is : (sides : List Side) (rides : Bool) (steps : List Step) (parts : List ℕ) (at : ℕ) (seen : Bool) → at ≡ length parts → length steps ≡ length parts → signed_from sides rides steps parts at seen ≡ rides_along sides rides (map part_of steps)
end_is sides rides steps parts at seen end same =
    ap₂ (λ v ps. along_signings sides rides (map part_of v) ps seen) (take_all at steps (omega arith)) (drop_all at parts (omega arith))
    ∙ signed_end sides rides (map part_of steps) seen

part_first : (sides : List Side) (rides : Bool) (v : List ℤ) (parts : List ℕ) (at : ℕ) (seen : Bool) (by : ℕ) → at < length parts → get_or parts at 0 ≡ by → along_signings sides rides v (drop at parts) seen ≡ along_signings sides rides v (by ∷ drop (at + 1) parts) seen
part_first sides rides v parts at seen by below is =
    at_drop_more (λ ps. along_signings sides rides v ps seen) parts at 0 below ∙ ap (λ b. along_signings sides rides v (b ∷ drop (at + 1) parts) seen) is

step_more : (sides : List Side) (rides : Bool) (steps : List Step) (parts : List ℕ) (at : ℕ) (seen : Bool) (s : Step) (z : ℤ) → at < length steps → part_of s ≡ z → along_signings sides rides (map part_of (take at steps) ++ z ∷ []) (drop (at + 1) parts) seen ≡ signed_from sides rides (set steps at s) parts (at + 1) seen
step_more sides rides steps parts at seen s z below is =
    sym (ap (λ v. along_signings sides rides v (drop (at + 1) parts) seen) (prefix_more steps at s below ∙ ap (λ y. map part_of (take at steps) ++ y ∷ []) is))

pub zero_more : (sides : List Side) (rides : Bool) (steps : List Step) (parts : List ℕ) (at : ℕ) (seen : Bool) → at < length parts → length steps ≡ length parts → get_or parts at 0 ≡ 0 → signed_from sides rides steps parts at seen ≡ signed_from sides rides (set steps at (step_of parts at false)) parts (at + 1) seen
zero_more sides rides steps parts at seen below same none =
    let v = map part_of (take at steps) in
    part_first sides rides v parts at seen 0 below none
    ∙ (signed_zero sides rides v (drop (at + 1) parts) seen
    ∙ step_more sides rides steps parts at seen (step_of parts at false) (pos 0) (omega arith) (ap pos none))

some_part : (n : ℕ) → (n ≡ 0 → ⊥) → (a : ℕ) × (n ≡ suc a)
some_part zero some = absurd (some refl)
some_part (suc a) some = (a, refl)

pub first_more : (sides : List Side) (rides : Bool) (steps : List Step) (parts : List ℕ) (at : ℕ) → at < length parts → length steps ≡ length parts → (get_or parts at 0 ≡ 0 → ⊥) → signed_from sides rides steps parts at false ≡ signed_from sides rides (set steps at (step_of parts at false)) parts (at + 1) true
first_more sides rides steps parts at below same some =
    let v = map part_of (take at steps) in
    let (a, is) = some_part (get_or parts at 0) some in
    part_first sides rides v parts at false (suc a) below is
    ∙ (signed_first sides rides v a (drop (at + 1) parts)
    ∙ step_more sides rides steps parts at true (step_of parts at false) (pos (suc a)) (omega arith) (ap pos is))

pub both_more : (sides : List Side) (rides : Bool) (steps later : List Step) (parts : List ℕ) (at : ℕ) → at < length parts → length steps ≡ length parts → length later ≡ length parts → take at later ≡ take at steps → (get_or parts at 0 ≡ 0 → ⊥) → signed_from sides rides steps parts at true ≡ signed_from sides rides (set steps at (step_of parts at false)) parts (at + 1) true ++ signed_from sides rides (set later at (step_of parts at true)) parts (at + 1) true
both_more sides rides steps later parts at below same long kept some =
    let v = map part_of (take at steps) in
    let (a, is) = some_part (get_or parts at 0) some in
    part_first sides rides v parts at true (suc a) below is
    ∙ (signed_both sides rides v a (drop (at + 1) parts)
    ∙ ap₂ (λ s t. s ++ t)
    (step_more sides rides steps parts at true (step_of parts at false) (pos (suc a)) (omega arith) (ap pos is))
    (ap (λ ss. along_signings sides rides (map part_of ss ++ negsuc a ∷ []) (drop (at + 1) parts) true) (sym kept)
    ∙ step_more sides rides later parts at true (step_of parts at true) (negsuc a) (omega arith) (ap (λ n. neg_ℤ (pos n)) is)))

-- what is refused of the first of them is refused
pub refused_first : (sides : List Side) (rides : Bool) (steps : List Step) (parts : List ℕ) (at : ℕ) (seen : Bool) (b : Builder) (e : Refusal) → at < length parts → length steps ≡ length parts → (get_or parts at 0 ≡ 0 → ⊥) → RefusesInsertions b (signed_from sides rides (set steps at (step_of parts at false)) parts (at + 1) true) e → RefusesInsertions b (signed_from sides rides steps parts at seen) e
refused_first sides rides steps parts at false b e below same some refused =
    subst (λ es. RefusesInsertions b es e) (sym (first_more sides rides steps parts at below same some)) refused
refused_first sides rides steps parts at true b e below same some refused =
    let all = signed_from sides rides steps parts at true in
    left_refused (signed_from sides rides (set steps at (step_of parts at false)) parts (at + 1) true) (signed_from sides rides (set steps at (step_of parts at true)) parts (at + 1) true)
    (left_as (left_start b all) (both_more sides rides steps steps parts at below same same refl some)) refused
