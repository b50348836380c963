-- Lemmas on vectors by their absolute values and signs.
use Rattle.std.proofs.Common.{◌≡◌, ℕ, zero, suc, ℤ, pos, negsuc, List, [], ◌∷◌, ◌++◌, map, Bool, true, false, refl, sym, ap, ap₂, ◌∙◌, append_assoc}
use Rattle.std.specs.List.{flat_map, filter}
use Rattle.std.proofs.lemmas.List.{append-nil}
use Rattle.std.proofs.lemmas.List.Elements.{filter-append}
use Rattle.std.proofs.lemmas.List.Folds.{flat_map-map}
use Rattle.std.proofs.lemmas.Grind.{flat_map-append}
use Rattle.sgb_plan.proofs.Lists.{filter_all, filter_none, filter-map, flat_map_agree}
use Rattle.sgb_make.specs.declared.side.Side.{Side}
use Rattle.sgb_make.specs.Choice.{choices}
use Rattle.sgb_make.specs.Ride.{rides_along}
use Rattle.sgb_make.specs.Vector.{signed, is_forward, vectors_of}
use Rattle.sgb_make.specs.Private.Signs.{signings, along_signings, along_vectors}

-- ---- joined lists
-- ---- both signs, and those of forward vectors
signings_both : (parts : List ℕ) → choices (map signed parts) ≡ signings parts true
unfolding choices signings
signings_both [] = refl
signings_both (zero ∷ parts) = append-nil (map (λ v. pos 0 ∷ v) (choices (map signed parts))) ∙ ap (map (λ v. pos 0 ∷ v)) (signings_both parts)
signings_both (suc a ∷ parts) =
    ap (λ t. map (λ v. pos (suc a) ∷ v) (choices (map signed parts)) ++ t) (append-nil (map (λ v. negsuc a ∷ v) (choices (map signed parts))))
    ∙ ap (λ t. map (λ v. pos (suc a) ∷ v) t ++ map (λ v. negsuc a ∷ v) t) (signings_both parts)

pub signings_forward : (parts : List ℕ) → filter is_forward (choices (map signed parts)) ≡ signings parts false
unfolding choices signings is_forward
signings_forward [] = refl
signings_forward (zero ∷ parts) =
    let vs = choices (map signed parts) in
    ap (filter is_forward) (append-nil (map (λ v. pos 0 ∷ v) vs))
    ∙ (filter-map is_forward (λ v. pos 0 ∷ v) vs ∙ ap (map (λ v. pos 0 ∷ v)) (signings_forward parts))
signings_forward (suc a ∷ parts) =
    let vs = choices (map signed parts) in
    ap (filter is_forward) (ap (λ t. map (λ v. pos (suc a) ∷ v) vs ++ t) (append-nil (map (λ v. negsuc a ∷ v) vs)))
    ∙ (filter-append is_forward (map (λ v. pos (suc a) ∷ v) vs) (map (λ v. negsuc a ∷ v) vs)
    ∙ ap₂ (λ a b. a ++ b)
    (filter-map is_forward (λ v. pos (suc a) ∷ v) vs ∙ ap (map (λ v. pos (suc a) ∷ v)) (filter_all (λ v. is_forward (pos (suc a) ∷ v)) vs (λ k d below. refl) ∙ signings_both parts))
    (filter-map is_forward (λ v. negsuc a ∷ v) vs ∙ ap (map (λ v. negsuc a ∷ v)) (filter_none (λ v. is_forward (negsuc a ∷ v)) vs (λ k d below. refl))))

pub along_from_nothing : (sides : List Side) (rides : Bool) (parts : List ℕ) → along_signings sides rides [] parts false ≡ along_vectors sides rides parts
unfolding along_signings vectors_of
along_from_nothing sides rides parts = ap (flat_map (rides_along sides rides)) (sym (signings_forward parts))

-- ---- the insertions of the vectors that begin with v, part by part
pub signed_end : (sides : List Side) (rides : Bool) (v : List ℤ) (seen : Bool) → along_signings sides rides v [] seen ≡ rides_along sides rides v
unfolding along_signings signings
signed_end sides rides v seen = append-nil (rides_along sides rides (v ++ [])) ∙ ap (rides_along sides rides) (append-nil v)

behind_first : (sides : List Side) (rides : Bool) (v : List ℤ) (z : ℤ) (ws : List (List ℤ)) → flat_map (λ w. rides_along sides rides (v ++ w)) (map (λ w. z ∷ w) ws) ≡ flat_map (λ w. rides_along sides rides ((v ++ z ∷ []) ++ w)) ws
behind_first sides rides v z ws =
    flat_map-map (λ w. rides_along sides rides (v ++ w)) (λ w. z ∷ w) ws
    ∙ flat_map_agree (λ w. rides_along sides rides (v ++ z ∷ w)) (λ w. rides_along sides rides ((v ++ z ∷ []) ++ w)) ws
    (λ w. ap (rides_along sides rides) (sym (append_assoc v (z ∷ []) w)))

pub signed_zero : (sides : List Side) (rides : Bool) (v : List ℤ) (parts : List ℕ) (seen : Bool) → along_signings sides rides v (zero ∷ parts) seen ≡ along_signings sides rides (v ++ pos 0 ∷ []) parts seen
unfolding along_signings signings
signed_zero sides rides v parts seen = behind_first sides rides v (pos 0) (signings parts seen)

pub signed_first : (sides : List Side) (rides : Bool) (v : List ℤ) (a : ℕ) (parts : List ℕ) → along_signings sides rides v (suc a ∷ parts) false ≡ along_signings sides rides (v ++ pos (suc a) ∷ []) parts true
unfolding along_signings signings
signed_first sides rides v a parts =
    ap (flat_map (λ w. rides_along sides rides (v ++ w))) (append-nil (map (λ w. pos (suc a) ∷ w) (signings parts true)))
    ∙ behind_first sides rides v (pos (suc a)) (signings parts true)

pub signed_both : (sides : List Side) (rides : Bool) (v : List ℤ) (a : ℕ) (parts : List ℕ) → along_signings sides rides v (suc a ∷ parts) true ≡ along_signings sides rides (v ++ pos (suc a) ∷ []) parts true ++ along_signings sides rides (v ++ negsuc a ∷ []) parts true
unfolding along_signings signings
signed_both sides rides v a parts =
    let ws = signings parts true in
    flat_map-append (λ w. rides_along sides rides (v ++ w)) (map (λ w. pos (suc a) ∷ w) ws) (map (λ w. negsuc a ∷ w) ws)
    ∙ ap₂ (λ s t. s ++ t) (behind_first sides rides v (pos (suc a)) ws) (behind_first sides rides v (negsuc a) ws)
