-- What makes a name, tested piece by piece, and a name's bytes with zeros behind them.
use Rattle.std.proofs.Common.{◌≡◌, ℕ, suc, ◌-◌, ◌<◌, ◌≤◌, Bool, true, false, ◌&&◌, nat_le, List, [], ◌∷◌, ◌++◌, length, take, drop, slice_index, refl, sym, ap, ◌∙◌, subst, arith, inl, inr, length-append, length-take-le}
use Rattle.std.specs.List.{list_all}
use Rattle.std.specs.Prelude.{replicate}
use Rattle.std.proofs.lemmas.Bool.{cases_lt, leb-true, le-leb, false_from_ne_true, and_right}
use Rattle.std.proofs.lemmas.List.{drop-replicate, length-replicate}
use Rattle.std.proofs.Math.Seq.{take-append_seam, drop-append_seam}
use Rattle.sgb_script.specs.Name.{is_name, is_letter, is_name_byte}
use Rattle.sgb_script.specs.Private.Padding.{IsPadded}

long_tail : (n : ℕ) → 32 < suc n → nat_le n 31 ≡ false
long_tail n h = false_from_ne_true _ (λ t. let k : n ≤ 31 = leb-true n 31 t in absurd (omega arith))

short_tail : (n : ℕ) → suc n ≤ 32 → nat_le n 31 ≡ true
short_tail n h = le-leb n 31 (omega arith)

pub too_long : (bs : List ℕ) → 32 < length bs → is_name bs ≡ false
unfolding is_name
too_long [] h = refl
too_long (c ∷ cs) h = and_right (is_letter c && list_all is_name_byte cs) _ (long_tail (length cs) h)

pub no_letter : (bs : List ℕ) → is_letter (slice_index bs 0) ≡ false → is_name bs ≡ false
unfolding is_name
no_letter [] h = refl
no_letter (c ∷ cs) h = rw h refl

and_true : (b : Bool) → b && true ≡ b
and_true true = refl
and_true false = refl

pub all_name_bytes : (bs : List ℕ) → length bs ≤ 32 → is_letter (slice_index bs 0) ≡ true → is_name bs ≡ list_all is_name_byte bs
unfolding is_name
all_name_bytes [] h letter = absurd (let bad : false ≡ true = letter in cc)
all_name_bytes (c ∷ cs) h letter =
    let first : is_letter c ≡ true = letter in
    rw (first, short_tail (length cs) h, and_true) refl

pub name_fits : (bs : List ℕ) → is_name bs ≡ true → length bs ≤ 32
name_fits bs h = elim (cases_lt 32 (length bs)) [
  | inl gt ↦ absurd (let bad : is_name bs ≡ false = too_long bs gt in cc)
  | inr le ↦ le
]

pub padded_is : (ys zs copy : List ℕ) → zs ≡ replicate 32 0 → copy ≡ ys → is_name ys ≡ true → IsPadded (length ys) (copy ++ drop (length ys) zs)
padded_is ys zs copy zeros same name =
    let fits : length ys ≤ 32 = name_fits ys name in
    let padding : drop (length ys) zs ≡ replicate (32 - length ys) 0 = ap (drop (length ys)) zeros ∙ drop-replicate (length ys) 32 0 in
    let all : copy ++ drop (length ys) zs ≡ ys ++ replicate (32 - length ys) 0 = ap (λ x. x ++ drop (length ys) zs) same ∙ ap (λ x. ys ++ x) padding in
    subst (IsPadded (length ys)) (sym all) (record {
      name = ap is_name (take-append_seam ys (replicate (32 - length ys) 0)) ∙ name;
      size = omega (arith, length-append ys (replicate (32 - length ys) 0), length-replicate {A = ℕ} (32 - length ys) 0);
      len = fits;
      padding = drop-append_seam ys (replicate (32 - length ys) 0);
    })

pub room : (n : ℕ) (zs : List ℕ) → zs ≡ replicate 32 0 → n ≤ 32 → length (take n zs) ≡ n
room n zs zeros fits = length-take-le n zs (omega (arith, ap length zeros, length-replicate {A = ℕ} 32 0))
