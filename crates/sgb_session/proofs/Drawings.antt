-- A seed and a count of draws determine the generator.
use Rattle.std.proofs.Common.{◌≡◌, ℕ, ◌+◌, ◌-◌, ◌<◌, ◌≤◌, ◌^◌, ℤ, pos, negsuc, refl, sym, ap, ◌∙◌, arith}
use Rattle.sgb_flip.specs.Generator.{Generator, IsGenerator, window, seeded, seed_number, after}
use Rattle.sgb_flip.proofs.Draws.{window-none, after-window, window-before}
use Rattle.sgb_session.specs.Drawing.{IsMark}

pub seed_number-below : (s : ℤ) → seed_number s < 2 ^ 31
unfolding seed_number
seed_number-below (pos a) = omega arith
seed_number-below (negsuc a) = omega arith

below_stays : (n : ℕ) → n < 2 ^ 31 → seed_number (pos n) ≡ n
unfolding seed_number
below_stays n small = omega arith

-- a seed and its remainder start the same generator
seeded-seed_number : (s : ℤ) → seeded (pos (seed_number s)) ≡ seeded s
unfolding seeded
seeded-seed_number s = rw (below_stays (seed_number s) (seed_number-below s)) refl

pub mark_of_seed : (s : ℤ) (flip : Generator) (n : ℕ) → flip ≡ seeded s → n ≡ seed_number s → IsMark flip (record { seed = n; draws = 0 })
mark_of_seed s flip n start same = record {
  generator = start ∙ sym (seeded-seed_number s) ∙ ap (λ k. seeded (pos k)) (sym same) ∙ sym (window-none (pos n));
  seed = let below = seed_number-below s in omega arith;
  draws = omega arith;
}

pub mark_after : (flip flip' : Generator) (seed draws n : ℕ) → IsMark flip (record { seed = seed; draws = draws }) → flip' ≡ after flip n → draws + n < 2 ^ 63
    → IsMark flip' (record { seed = seed; draws = draws + n })
mark_after flip flip' seed draws n mark more few = record {
  generator = more ∙ ap (λ w. after w n) mark.generator ∙ after-window (pos seed) draws n;
  seed = mark.seed;
  draws = few;
}

pub mark_before : (flip flip' : Generator) (seed draws n : ℕ) → IsMark flip (record { seed = seed; draws = draws }) → n ≤ draws → IsGenerator flip' → after flip' n ≡ flip
    → IsMark flip' (record { seed = seed; draws = draws - n })
mark_before flip flip' seed draws n mark enough ok back =
    let split : draws ≡ (draws - n) + n = omega arith in record {
      generator = window-before (pos seed) (draws - n) n flip' ok (back ∙ mark.generator ∙ ap (window (pos seed)) split);
      seed = mark.seed;
      draws = let few : draws < 2 ^ 63 = mark.draws in omega arith;
    }
