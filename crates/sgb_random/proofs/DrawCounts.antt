-- Lemmas on draws that are counted.
use Rattle.std.proofs.Common.{◌≡◌, ◌+◌, ℕ, sym, ap, ◌∙◌}
use Rattle.sgb_flip.specs.Generator.{Generator, IsGenerator, after}
use Rattle.sgb_flip.proofs.Draws.{after-none, after-after}
use Rattle.sgb_random.specs.Private.Progress.{Follows}

pub follows_none : (w : Generator) (k : ℕ) → Follows w k w k
follows_none w k = record { led = λ start generator is. is }

pub follows_some : {old new : Generator} (k j : ℕ) → new ≡ after old j → Follows old k new (k + j)
follows_some k j is =
    record { led = λ start generator led. sym (after-after start k j) ∙ (ap (λ w. after w j) led ∙ sym is) }

pub follows_two : {a b c : Generator} (k i j : ℕ) → b ≡ after a i → c ≡ after b j → Follows a k c (k + (i + j))
follows_two {a} {b} {c} k i j first next = follows_some k (i + j) (next ∙ (ap (λ w. after w j) first ∙ after-after a i j))

pub follows_then : {a b c : Generator} {i j k : ℕ} → Follows a i b j → Follows b j c k → Follows a i c k
follows_then first next = record { led = λ start generator is. next.led start generator (first.led start generator is) }

-- from the start on
pub follows_start : {old new : Generator} {k : ℕ} → IsGenerator old → Follows old 0 new k → new ≡ after old k
follows_start {old} generator follows = sym (follows.led old generator (after-none old generator))
