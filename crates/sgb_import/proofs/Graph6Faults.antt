-- Why a line is no graph in graph6.
use Rattle.std.proofs.Common.{◌≡◌, ℕ, ◌<◌, ◌≤◌, true, false, List, length, nat_lt, subst, Some, None, refl, sym, ap, ◌∙◌}
use Rattle.std.proofs.lemmas.Bool.{lt-ltb, le-ltb}
use Rattle.sgb_import.specs.declared.refusal.TextFault.TheVariants.{NotAGraph, TooManyVertices, TooManyArcs}
use Rattle.sgb_import.specs.Graph6.{has_size, size_in, body_in, fits, edges_in, fault_in}

pub no_size : (bytes : List ℕ) → has_size bytes ≡ false → fault_in bytes ≡ Some NotAGraph
unfolding fault_in
no_size bytes h = rw h refl

pub too_many_vertices : (bytes : List ℕ) (n : ℕ) → has_size bytes ≡ true → n ≡ size_in bytes → 65535 < n → fault_in bytes ≡ Some TooManyVertices
unfolding fault_in
too_many_vertices bytes n h e large =
    let t : nat_lt 65535 (size_in bytes) ≡ true = lt-ltb 65535 (size_in bytes) (subst (λ (m : ℕ). 65535 < m) e large) in
    rw (h, t) refl

-- the size is one that a graph may have
pub record IsSized (bytes : List ℕ) (n : ℕ) (body : List ℕ) : Type 0 where
  pub size : has_size bytes ≡ true
  pub n_is : n ≡ size_in bytes
  pub body_is : body ≡ body_in bytes
  pub few : n ≤ 65535

pub unfit : (bytes : List ℕ) (n : ℕ) (body : List ℕ) → IsSized bytes n body → fits n body ≡ false → fault_in bytes ≡ Some NotAGraph
unfolding fault_in
unfit bytes n body s h =
    let t : nat_lt 65535 (size_in bytes) ≡ false = le-ltb 65535 (size_in bytes) (subst (λ (m : ℕ). m ≤ 65535) s.n_is s.few) in
    let f : fits (size_in bytes) (body_in bytes) ≡ false = ap (λ m. fits m (body_in bytes)) (sym s.n_is) ∙ ap (fits n) (sym s.body_is) ∙ h in
    rw (s.size, t, f) refl

pub too_many_arcs : (bytes : List ℕ) (n : ℕ) (body : List ℕ) → IsSized bytes n body → fits n body ≡ true → 500000 < length (edges_in n body) → fault_in bytes ≡ Some TooManyArcs
unfolding fault_in
too_many_arcs bytes n body s h many =
    let t : nat_lt 65535 (size_in bytes) ≡ false = le-ltb 65535 (size_in bytes) (subst (λ (m : ℕ). m ≤ 65535) s.n_is s.few) in
    let f : fits (size_in bytes) (body_in bytes) ≡ true = ap (λ m. fits m (body_in bytes)) (sym s.n_is) ∙ ap (fits n) (sym s.body_is) ∙ h in
    let l : edges_in n body ≡ edges_in (size_in bytes) (body_in bytes) = ap (λ m. edges_in m body) s.n_is ∙ ap (edges_in (size_in bytes)) s.body_is in
    let m : nat_lt 500000 (length (edges_in (size_in bytes) (body_in bytes))) ≡ true = ap (λ es. nat_lt 500000 (length es)) (sym l) ∙ lt-ltb 500000 (length (edges_in n body)) many in
    rw (s.size, t, f, m) refl

pub no_fault : (bytes : List ℕ) (n : ℕ) (body : List ℕ) → IsSized bytes n body → fits n body ≡ true → length (edges_in n body) ≤ 500000 → fault_in bytes ≡ None
unfolding fault_in
no_fault bytes n body s h few =
    let t : nat_lt 65535 (size_in bytes) ≡ false = le-ltb 65535 (size_in bytes) (subst (λ (m : ℕ). m ≤ 65535) s.n_is s.few) in
    let f : fits (size_in bytes) (body_in bytes) ≡ true = ap (λ m. fits m (body_in bytes)) (sym s.n_is) ∙ ap (fits n) (sym s.body_is) ∙ h in
    let l : edges_in n body ≡ edges_in (size_in bytes) (body_in bytes) = ap (λ m. edges_in m body) s.n_is ∙ ap (edges_in (size_in bytes)) s.body_is in
    let m : nat_lt 500000 (length (edges_in (size_in bytes) (body_in bytes))) ≡ false = ap (λ es. nat_lt 500000 (length es)) (sym l) ∙ le-ltb 500000 (length (edges_in n body)) few in
    rw (s.size, t, f, m) refl
