-- Lemmas on the spoke that leads to a vertex.
use Rattle.std.proofs.Common.{◌≡◌, ◌≢◌, ◌<◌, ◌==◌, ℕ, zero, suc, List, [], ◌∷◌, length, get_or, Option, Some, None, is_some, Bool, true, false, ◌||◌, All, fold, cond, inl, inr, refl, sym, ap, ◌∙◌, arith}
use Rattle.std.specs.List.{filter}
use Rattle.std.proofs.lemmas.Bool.{eq-eqb, ne_eqb, cases_Bool, eqb-true}
use Rattle.std.proofs.lemmas.List.Elements.{All-head, All-tail}
use Rattle.std.proofs.lemmas.List.Folds.{list_any_none, list_any_at}
use Rattle.sgb_graph.specs.declared.spoke.Spoke.{Spoke}
use Rattle.sgb_combine.specs.Complement.{leads_to}
use Rattle.sgb_combine.specs.Intersection.{leading_to}
use Rattle.sgb_combine.specs.Lowest.{add_or_lower, lowest}
use Rattle.sgb_combine.specs.Private.Targets.{IsMarked, StandsAt, found}
use Rattle.sgb_combine.proofs.LeastLengths.{one_place}
use Rattle.sgb_combine.proofs.SpokeBounds.{no_spoke}

pub stands_leads : (ss : List Spoke) (to : ℕ) (o : Option ℕ) → StandsAt ss to o → is_some o ≡ leads_to ss to
stands_leads ss to None other = sym (list_any_none (λ (s : Spoke). s.to == to) ss (λ k d low. ne_eqb (get_or ss k d).to to (other k d low)))
stands_leads ss to (Some i) at = sym (list_any_at (λ (s : Spoke). s.to == to) ss i no_spoke at.0 (eq-eqb (get_or ss i no_spoke).to to (at.1 no_spoke)))

pub leading_none : (ss : List Spoke) (to : ℕ) → All (λ s. s.to ≢ to) ss → leading_to to ss ≡ []
leading_none [] to other = refl
leading_none (s ∷ ss) to other =
    rw (ne_eqb s.to to (All-head (λ q. q.to ≢ to) s ss other)) (leading_none ss to (All-tail (λ q. q.to ≢ to) s ss other))

leading_one : (ss : List Spoke) (p to : ℕ) (d : Spoke) → p < length ss → (get_or ss p d).to ≡ to → ((j : ℕ) (e : Spoke) → j < length ss → (get_or ss j e).to ≡ to → j ≡ p) → leading_to to ss ≡ get_or ss p d ∷ []
leading_one [] p to d h here only = absurd (omega arith)
leading_one (s ∷ ss) zero to d h here only =
    rw (eq-eqb s.to to here)
    (ap (λ ts. s ∷ ts) (leading_none ss to (λ k e low same. let wrong = only (suc k) e (omega arith) same in omega (arith, wrong))))
leading_one (s ∷ ss) (suc p) to d h here only =
    rw (ne_eqb s.to to (λ same. let wrong = only zero s (omega arith) same in omega (arith, wrong)))
    (leading_one ss p to d (omega arith) here (λ j e low same. let next = only (suc j) e (omega arith) same in omega (arith, next)))

pub found_at : (places : List ℕ) (ss : List Spoke) (p to : ℕ) (x : Spoke) → IsMarked places ss → p < length ss → ((d : Spoke) → (get_or ss p d).to ≡ to) → x ≡ get_or ss p x → leading_to to ss ≡ found (Some x)
found_at places ss p to x marked h at read =
    leading_one ss p to x h (at x) (λ j e low same. one_place places ss j p e marked low h (same ∙ sym (at e)))
    ∙ ap (λ s. s ∷ []) (sym read)

-- lowering changes nothing in where spokes lead
or_ends : (a b c : Bool) → (a || (b || c)) ≡ ((a || b) || c)
or_ends true b c = refl
or_ends false b c = refl

or_met : (a b : Bool) → (a || b) ≡ ((a || b) || a)
or_met true b = refl
or_met false true = refl
or_met false false = refl

pub leads-added : (rs : List Spoke) (s : Spoke) (w : ℕ) → leads_to (add_or_lower rs s) w ≡ (leads_to rs w || (s.to == w))
unfolding add_or_lower
leads-added [] s w =
    elim (s.to == w) as (λ b. (b || false) ≡ b) [
      | true ↦ refl
      | false ↦ refl
    ]
leads-added (r ∷ rs) s w =
    elim (cases_Bool (r.to == s.to)) [
      | inl same ↦
          let is : r.to ≡ s.to = eqb-true r.to s.to same in
          rw same (or_met (r.to == w) (leads_to rs w) ∙ ap (λ t. ((r.to == w) || leads_to rs w) || (t == w)) is)
      | inr apart ↦ rw apart (ap (λ b. (r.to == w) || b) (leads-added rs s w) ∙ or_ends (r.to == w) (leads_to rs w) (s.to == w))
    ]

leads-fold : (rs ss : List Spoke) (w : ℕ) → leads_to (fold add_or_lower rs ss) w ≡ (leads_to rs w || leads_to ss w)
leads-fold rs [] w =
    elim (leads_to rs w) as (λ b. b ≡ (b || false)) [
      | true ↦ refl
      | false ↦ refl
    ]
leads-fold rs (s ∷ ss) w =
    leads-fold (add_or_lower rs s) ss w
    ∙ (ap (λ b. b || leads_to ss w) (leads-added rs s w) ∙ sym (or_ends (leads_to rs w) (s.to == w) (leads_to ss w)))

pub leads-lowest : (ss : List Spoke) (w : ℕ) → leads_to (lowest ss) w ≡ leads_to ss w
unfolding lowest
leads-lowest ss w = leads-fold [] ss w

-- ---- the spokes to one vertex are what those to it alone would be
leading-lowered : (rs : List Spoke) (s : Spoke) (w : ℕ) → (s.to == w) ≡ true → leading_to w (add_or_lower rs s) ≡ add_or_lower (leading_to w rs) s
unfolding add_or_lower
leading-lowered [] s w here = rw here refl
leading-lowered (r ∷ rs) s w here =
    elim (cases_Bool (r.to == s.to)) [
      | inl same ↦
          let at : (r.to == w) ≡ true = ap (λ t. t == w) (eqb-true r.to s.to same) ∙ here in
          rw (same, at, same) refl
      | inr apart ↦
          let off : (r.to == w) ≡ false = ap (λ t. r.to == t) (sym (eqb-true s.to w here)) ∙ apart in
          rw (apart, off) (leading-lowered rs s w here)
    ]

leading-past : (rs : List Spoke) (s : Spoke) (w : ℕ) → (s.to == w) ≡ false → leading_to w (add_or_lower rs s) ≡ leading_to w rs
unfolding add_or_lower
leading-past [] s w off = rw off refl
leading-past (r ∷ rs) s w off =
    elim (cases_Bool (r.to == s.to)) [
      | inl same ↦
          let past : (r.to == w) ≡ false = ap (λ t. t == w) (eqb-true r.to s.to same) ∙ off in
          rw (same, past) refl
      | inr apart ↦ rw apart (ap (λ ts. cond (r.to == w) (r ∷ ts) ts) (leading-past rs s w off))
    ]

leading-fold : (rs ss : List Spoke) (w : ℕ) → leading_to w (fold add_or_lower rs ss) ≡ fold add_or_lower (leading_to w rs) (leading_to w ss)
leading-fold rs [] w = refl
leading-fold rs (s ∷ ss) w =
    leading-fold (add_or_lower rs s) ss w
    ∙ elim (cases_Bool (s.to == w)) [
      | inl here ↦ rw here (ap (λ ts. fold add_or_lower ts (leading_to w ss)) (leading-lowered rs s w here))
      | inr off ↦ rw off (ap (λ ts. fold add_or_lower ts (leading_to w ss)) (leading-past rs s w off))
    ]

leading-filter : (p : Spoke → Bool) (ss : List Spoke) (w : ℕ) → ((s : Spoke) → s.to ≡ w → p s ≡ true) → leading_to w (filter p ss) ≡ leading_to w ss
leading-filter p [] w passes = refl
leading-filter p (s ∷ ss) w passes =
    elim (cases_Bool (s.to == w)) [
      | inl here ↦ rw (passes s (eqb-true s.to w here), here) (ap (λ ts. s ∷ ts) (leading-filter p ss w passes))
      | inr off ↦
          elim (cases_Bool (p s)) [
            | inl kept ↦ rw (kept, off) (leading-filter p ss w passes)
            | inr gone ↦ rw (gone, off) (leading-filter p ss w passes)
          ]
    ]

-- where all spokes to a vertex pass, the one to it is the same among those that pass
pub leading-lowest : (p : Spoke → Bool) (ss : List Spoke) (w : ℕ) → ((s : Spoke) → s.to ≡ w → p s ≡ true) → leading_to w (lowest (filter p ss)) ≡ leading_to w (lowest ss)
unfolding lowest
leading-lowest p ss w passes =
    leading-fold [] (filter p ss) w ∙ (ap (fold add_or_lower []) (leading-filter p ss w passes) ∙ sym (leading-fold [] ss w))
