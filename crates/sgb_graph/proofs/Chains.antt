-- Lemmas on lists that are linked by number.
use Rattle.std.proofs.Common.{◌≡◌, ◌≢◌, ◌<◌, ◌≤◌, ◌+◌, ℕ, zero, suc, List, [], ◌∷◌, length, get_or, Option, Some, None, IsSome, All, refl, sym, ap, subst, ◌∙◌, arith}
use Rattle.std.specs.List.{insert, remove}
use Rattle.sgb_graph.specs.declared.field.ArcNo.{ArcNo}
use Rattle.sgb_graph.specs.Graph.{occurrences}
use Rattle.sgb_graph.proofs.Counts.{occurs_yes, occurs_more, occurs_at}
use Rattle.sgb_graph.specs.Chain.{Leads, chain}
use Rattle.sgb_graph.specs.Private.Arena.{Slots, slot_at, next_at, numbers, IsLinked}

-- links that lead along a list give that list
pub chain_is : (next : ℕ → Option ArcNo) (link : Option ArcNo) (ks : List ℕ) (m : ℕ) → Leads next link ks None → length ks ≤ m → chain next m link ≡ ks
unfolding Leads chain
chain_is next link [] zero l h = refl
chain_is next link [] (suc m) l h = rw l refl
chain_is next link (k ∷ ks) zero l h = absurd (omega arith)
chain_is next link (k ∷ ks) (suc m) l h = rw l.0 (ap (λ r. k ∷ r) (chain_is next (next k) ks m l.1 (omega arith)))

pub chain-none : (next : ℕ → Option ArcNo) (m : ℕ) → chain next m None ≡ []
unfolding chain
chain-none next zero = refl
chain-none next (suc m) = refl

pub length-chain : (next : ℕ → Option ArcNo) (m : ℕ) (link : Option ArcNo) → length (chain next m link) ≤ m
unfolding chain
length-chain next zero link = omega arith
length-chain next (suc m) None = omega arith
length-chain next (suc m) (Some k) = omega (arith, length-chain next m (next k.0))

-- one step along the links
pub record StepsTo (next : ℕ → Option ArcNo) (m : ℕ) (k : ArcNo) : Type 0 where
  pub numbers : chain next m (Some k) ≡ k.0 ∷ chain next m (next k.0)
  pub ends : Leads next (next k.0) (chain next m (next k.0)) None

pub chain_step : (next : ℕ → Option ArcNo) (m : ℕ) (k : ArcNo) → Leads next (Some k) (chain next m (Some k)) None → StepsTo next m k
unfolding Leads chain
chain_step next zero k l = absurd cc
chain_step next (suc m) k l =
    let same : chain next (suc m) (next k.0) ≡ chain next m (next k.0) =
    chain_is next (next k.0) (chain next m (next k.0)) (suc m) l.1 (omega (arith, length-chain next m (next k.0))) in
    record {
      numbers = ap (λ r. k.0 ∷ r) (sym same);
      ends = rw same l.1;
    }

-- the same along the slots
pub record LinkedStep (ss : Slots) (k : ArcNo) : Type 0 where
  pub numbers : numbers ss (Some k) ≡ k.0 ∷ numbers ss (next_at ss k.0)
  pub linked : IsLinked ss (next_at ss k.0)
  pub live : IsSome (slot_at ss k.0)

pub linked_step : (ss : Slots) (k : ArcNo) → IsLinked ss (Some k) → LinkedStep ss k
linked_step ss k l =
    let s = chain_step (next_at ss) (length ss) k l.ends in
    let live : All (λ j. IsSome (slot_at ss j)) (k.0 ∷ numbers ss (next_at ss k.0)) = rw s.numbers at l.live in
    record {
      numbers = s.numbers;
      linked = record { ends = s.ends; live = λ i d h. live (suc i) d (omega arith) };
      live = live 0 0 (omega arith);
    }

-- links that agree at the numbers of a list lead along it alike
pub Leads-agree : (next after : ℕ → Option ArcNo) (link : Option ArcNo) (ks : List ℕ) (last : Option ArcNo) → ((j : ℕ) → 0 < occurrences j ks → after j ≡ next j) → Leads next link ks last → Leads after link ks last
unfolding Leads
Leads-agree next after link [] last agree l = l
Leads-agree next after link (k ∷ ks) last agree l = (
  l.0,
  subst (λ x. Leads after x ks last) (sym (agree k (omega (arith, occurs_yes k k ks refl))))
      (Leads-agree next after (next k) ks last (λ j h. agree j (omega (arith, occurs_more j k ks))) l.1),
)

-- a number is put before the first
pub Leads-first : (next after : ℕ → Option ArcNo) (link : Option ArcNo) (ks : List ℕ) (k : ℕ) → after k ≡ link → ((j : ℕ) → 0 < occurrences j ks → after j ≡ next j) → Leads next link ks None → Leads after (Some (record { 0 = k })) (k ∷ ks) None
unfolding Leads
Leads-first next after link ks k here agree l =
    (refl, subst (λ x. Leads after x ks None) (sym here) (Leads-agree next after link ks None agree l))

-- a number is put behind the one at place i
pub Leads-behind : (next after : ℕ → Option ArcNo) (link : Option ArcNo) (ks : List ℕ) (i k p : ℕ) → i < length ks → get_or ks i 0 ≡ p → ((j : ℕ) → occurrences j ks ≤ 1) → occurrences k ks ≡ 0
    → after p ≡ Some (record { 0 = k }) → after k ≡ next p → ((j : ℕ) → j ≢ k → j ≢ p → after j ≡ next j) → Leads next link ks None → Leads after link (insert ks (suc i) k) None
unfolding Leads
Leads-behind next after link [] i k p h at once new there here agree l = absurd (omega arith)
Leads-behind next after link (q ∷ ks) zero k p h at once new there here agree l =
    let same : q ≡ p = at in
    let ahead : occurrences q (q ∷ ks) ≡ 1 + occurrences q ks = occurs_yes q q ks refl in
    let other : (j : ℕ) → 0 < occurrences j ks → j ≢ p = λ j o e. omega (arith, ap (λ x. occurrences x ks) (e ∙ sym same), ahead, once q) in
    let fresh : (j : ℕ) → 0 < occurrences j ks → j ≢ k = λ j o e. omega (arith, ap (λ x. occurrences x ks) e, occurs_more k q ks) in (
      l.0,
      (
        ap after same ∙ there,
        subst (λ x. Leads after x ks None) (ap next same ∙ sym here)
            (Leads-agree next after (next q) ks None (λ j o. agree j (fresh j o) (other j o)) l.1),
      ),
    )
Leads-behind next after link (q ∷ ks) (suc i) k p h at once new there here agree l =
    let in_rest : 0 < occurrences p ks = subst (λ x. 0 < occurrences x ks) at (occurs_at ks i 0 (omega arith)) in
    let not_p : q ≢ p = λ e. omega (arith, occurs_yes p q ks e, once p) in
    let not_k : q ≢ k = λ e. omega (arith, occurs_yes k q ks e) in (
      l.0,
      subst (λ x. Leads after x (insert ks (suc i) k) None) (sym (agree q not_k not_p))
          (Leads-behind next after (next q) ks i k p (omega arith) at (λ j. omega (arith, occurs_more j q ks, once j)) (omega (arith, occurs_more k q ks)) there here agree l.1),
    )

-- the first number is taken away
pub Leads-rest : (next after : ℕ → Option ArcNo) (link : Option ArcNo) (ks : List ℕ) (k : ℕ) → 0 < length ks → get_or ks 0 0 ≡ k → ((j : ℕ) → 0 < occurrences j ks → j ≢ k → after j ≡ next j) → ((j : ℕ) → occurrences j ks ≤ 1) → Leads next link ks None → Leads after (next k) (remove ks 0) None
unfolding Leads
Leads-rest next after link [] k h at agree once l = absurd (omega arith)
Leads-rest next after link (q ∷ ks) k h at agree once l =
    let ahead : occurrences k (q ∷ ks) ≡ 1 + occurrences k ks = occurs_yes k q ks at in
    subst (λ x. Leads after x ks None) (ap next at)
    (Leads-agree next after (next q) ks None (λ j o. agree j (omega (arith, occurs_more j q ks)) (λ e. omega (arith, ap (λ x. occurrences x ks) e, ahead, once k))) l.1)

-- the number behind the one at place i is taken away
pub Leads-without : (next after : ℕ → Option ArcNo) (link : Option ArcNo) (ks : List ℕ) (i k p : ℕ) → suc i < length ks → get_or ks i 0 ≡ p → get_or ks (suc i) 0 ≡ k → ((j : ℕ) → occurrences j ks ≤ 1)
    → after p ≡ next k → ((j : ℕ) → j ≢ k → j ≢ p → after j ≡ next j) → Leads next link ks None → Leads after link (remove ks (suc i)) None
unfolding Leads
Leads-without next after link [] i k p h at behind once there agree l = absurd (omega arith)
Leads-without next after link (q ∷ []) zero k p h at behind once there agree l = absurd (omega arith)
Leads-without next after link (q ∷ (r ∷ ks)) zero k p h at behind once there agree l =
    let first : occurrences p (q ∷ (r ∷ ks)) ≡ 1 + occurrences p (r ∷ ks) = occurs_yes p q (r ∷ ks) at in
    let second : occurrences k (r ∷ ks) ≡ 1 + occurrences k ks = occurs_yes k r ks behind in (
      l.0,
      subst (λ x. Leads after x ks None) (ap next behind ∙ (sym there ∙ ap after (sym at)))
          (Leads-agree next after (next r) ks None
          (λ j o. agree j
          (λ e. omega (arith, ap (λ x. occurrences x ks) e, second, occurs_more k q (r ∷ ks), once k))
          (λ e. omega (arith, ap (λ x. occurrences x ks) e, first, occurs_more p r ks, once p)))
          l.1.1),
    )
Leads-without next after link (q ∷ ks) (suc i) k p h at behind once there agree l =
    let p_in_rest : 0 < occurrences p ks = subst (λ x. 0 < occurrences x ks) at (occurs_at ks i 0 (omega arith)) in
    let k_in_rest : 0 < occurrences k ks = subst (λ x. 0 < occurrences x ks) behind (occurs_at ks (suc i) 0 (omega arith)) in
    let not_p : q ≢ p = λ e. omega (arith, occurs_yes p q ks e, once p) in
    let not_k : q ≢ k = λ e. omega (arith, occurs_yes k q ks e, once k) in (
      l.0,
      subst (λ x. Leads after x (remove ks (suc i)) None) (sym (agree q not_k not_p))
          (Leads-without next after (next q) ks i k p (omega arith) at behind (λ j. omega (arith, occurs_more j q ks, once j)) there agree l.1),
    )
