use Rattle.std.proofs.Common.{◌≡◌, ◌≤◌, ◌<◌, ℕ, List, [], ◌∷◌, length, sum, Contains, ◌↔◌, arith}
use Rattle.sgb_perms.specs.Arrangement.{IsArrangement, arrangements, vector_of}
use Rattle.sgb_perms.proofs.Arrangements.{listed_is, listed_has, arrangements_differ, vector_tells}
use Rattle.sgb_perms.proofs.MostInversions.{at_most, reached}
use Rattle.sgb_perms.proofs.facts.perms_law.Goals as goal

law_all : (counts a : List ℕ) (most : ℕ) → 0 < length counts → Contains (arrangements counts most) a ↔ (IsArrangement counts a × (sum (vector_of counts a) ≤ most))
law_all [] a most some = absurd (omega arith)
law_all (zeros ∷ others) a most some = (
  λ within. let is = listed_is (zeros ∷ others) most a within in (is.arrangement, is.within),
  λ is. listed_has zeros others most a (record { arrangement = is.0; within = is.1 }),
)

law_vector : (counts a b : List ℕ) → 0 < length counts → IsArrangement counts a → IsArrangement counts b → vector_of counts a ≡ vector_of counts b → a ≡ b
law_vector [] a b some one other same = absurd (omega arith)
law_vector (zeros ∷ others) a b some one other same = vector_tells zeros others a b one other same

pub returns-clause-all : goal.returns-clause-all
returns-clause-all c = law_all

pub returns-clause-once : goal.returns-clause-once
returns-clause-once c = arrangements_differ

pub returns-clause-vector : goal.returns-clause-vector
returns-clause-vector c = law_vector

pub returns-clause-greatest : goal.returns-clause-greatest
returns-clause-greatest c = at_most

pub returns-clause-reached : goal.returns-clause-reached
returns-clause-reached c = reached
