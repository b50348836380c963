-- Lemmas on what is judged before any draw.
use Rattle.std.proofs.Common.{◌≡◌, ◌≤◌, ◌<◌, ◌*◌, ◌^◌, ℕ, ℤ, pos, negsuc, Bool, true, false, ◌&&◌, nat_le, int_lt, int_le, unsigned_abs, nat_lt, ◌≤ℤ◌, Option, None, Some, refl, subst, arith, T}
use Rattle.std.proofs.lemmas.Bool.{leb-true, lt-ltb}
use Rattle.std.specs.Option.{option_or}
use Rattle.sgb_graph.specs.declared.refusal.Refusal.{Refusal}
use Rattle.sgb_graph.specs.declared.refusal.Refusal.TheVariants.{NoRoom, BadSpecs, TooLarge, LengthRange}
use Rattle.sgb_graph.specs.Edit.{refusal_unless}
use Rattle.sgb_plan.specs.Length.{refusal_of_range, width}
use Rattle.sgb_random.specs.declared.spec.RandomSpec.{RandomSpec}
use Rattle.sgb_random.specs.Random.{refusal_of_random, is_small, size_of, wanted, numbers_each}

both : (b c : Bool) → (b && c) ≡ true → (b ≡ true) × (c ≡ true)
both true true is = (refl, refl)
both true false is = absurd cc
both false c is = absurd cc

unless_none : (b : Bool) (e : Refusal) (later : Option Refusal) → refusal_unless b e later ≡ None → (b ≡ true) × (later ≡ None)
unless_none true e later is = (refl, is)
unless_none false e later is = absurd cc

or_none : (a b : Option Refusal) → option_or a b ≡ None → (a ≡ None) × (b ≡ None)
or_none None b is = (refl, is)
or_none (Some e) b is = absurd cc

-- what holds where nothing is refused before the draws
pub record IsJudged (s : RandomSpec) : Type 0 where
  pub some : int_lt (pos 0) s.n ≡ true
  pub counted : int_le (pos 0) s.m ≡ true
  pub few : size_of s ≤ 65535
  pub few_numbers : wanted s * numbers_each s.directed ≤ 1000000

pub judged : (s : RandomSpec) → refusal_of_random s ≡ None → IsJudged s
unfolding refusal_of_random
judged s none =
    let first = unless_none (int_lt (pos 0) s.n && int_le (pos 0) s.m) _ _ none in
    let second = or_none (refusal_of_range s.min s.max) _ first.1 in
    let third = unless_none (is_small s) _ _ second.1 in
    let sound = both (int_lt (pos 0) s.n) (int_le (pos 0) s.m) first.0 in
    let small = both (nat_le (size_of s) 65535) _ third.0 in
    record {
      some = sound.0;
      counted = sound.1;
      few = leb-true (size_of s) 65535 small.0;
      few_numbers = leb-true (wanted s * numbers_each s.directed) 1000000 small.1;
    }

each_few : (d : Bool) (m : ℕ) → m * numbers_each d ≤ 1000000 → m ≤ 1000000
each_few true m h = omega (arith, h)
each_few false m h = omega (arith, h)

pub wanted_few : (s : RandomSpec) → IsJudged s → wanted s ≤ 1000000
wanted_few s j = each_few s.directed (wanted s) j.few_numbers

pub some_positive : (z : ℤ) → int_lt (pos 0) z ≡ true → 0 < unsigned_abs z
some_positive (pos n) is = grind (arith, is)
some_positive (negsuc n) is = absurd cc

-- ---- the first refusal
pub judge_unsound : (s : RandomSpec) → (int_lt (pos 0) s.n && int_le (pos 0) s.m) ≡ false → refusal_of_random s ≡ Some BadSpecs
unfolding refusal_of_random
judge_unsound s bad = rw bad refl

pub judge_range : (s : RandomSpec) (e : Refusal) → (int_lt (pos 0) s.n && int_le (pos 0) s.m) ≡ true → refusal_of_range s.min s.max ≡ Some e → refusal_of_random s ≡ Some e
unfolding refusal_of_random
judge_range s e sound refused = rw (sound, refused) refl

pub judge_large : (s : RandomSpec) → (int_lt (pos 0) s.n && int_le (pos 0) s.m) ≡ true → refusal_of_range s.min s.max ≡ None → is_small s ≡ false → refusal_of_random s ≡ Some TooLarge
unfolding refusal_of_random
judge_large s sound range large = rw (sound, range, large) refl

pub judge_none : (s : RandomSpec) → (int_lt (pos 0) s.n && int_le (pos 0) s.m) ≡ true → refusal_of_range s.min s.max ≡ None → is_small s ≡ true → refusal_of_random s ≡ None
unfolding refusal_of_random
judge_none s sound range small = rw (sound, range, small) refl

pub true_from_T : (b : Bool) → T b → b ≡ true
true_from_T true t = refl
true_from_T false t = absurd t

pub range_none : (s : RandomSpec) (low high : ℤ) → low ≡ s.min → high ≡ s.max → low ≤ℤ high → width low high < 2 ^ 31 → refusal_of_range s.min s.max ≡ None
range_none s low high is_low is_high ordered narrow =
    let le : int_le low high ≡ true = true_from_T (int_le low high) ordered.le in
    let lt : nat_lt (width low high) (2 ^ 31) ≡ true = lt-ltb (width low high) (2 ^ 31) narrow in
    subst (λ a. refusal_of_range a s.max ≡ None) is_low (subst (λ b. refusal_of_range low b ≡ None) is_high (rw (le, lt) refl))

-- ---- no refusal of the numbers is want of memory
unless_room : (b : Bool) (e : Refusal) (later : Option Refusal) → (Some e ≡ Some NoRoom → ⊥) → (later ≡ Some NoRoom → ⊥) → refusal_unless b e later ≡ Some NoRoom → ⊥
unless_room true e later other rest is = rest is
unless_room false e later other rest is = other is

or_room : (a b : Option Refusal) → (a ≡ Some NoRoom → ⊥) → (b ≡ Some NoRoom → ⊥) → option_or a b ≡ Some NoRoom → ⊥
or_room None b first next is = next is
or_room (Some e) b first next is = first is

no_refusal : None ≡ Some NoRoom → ⊥
no_refusal is = absurd cc

pub judge_room : (s : RandomSpec) → refusal_of_random s ≡ Some NoRoom → ⊥
unfolding refusal_of_random
judge_room s =
    let large : Some TooLarge ≡ Some NoRoom → ⊥ = λ is. absurd cc in
    unless_room (int_lt (pos 0) s.n && int_le (pos 0) s.m) BadSpecs _ (λ is. absurd cc)
    (or_room (refusal_of_range s.min s.max) (refusal_unless (is_small s) TooLarge None)
    (unless_room (int_le s.min s.max) TooLarge _ large (unless_room (nat_lt (width s.min s.max) (2 ^ 31)) LengthRange None (λ is. absurd cc) no_refusal))
    (unless_room (is_small s) TooLarge None large no_refusal))
