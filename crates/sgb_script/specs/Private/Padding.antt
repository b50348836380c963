-- How a name stands in memory.
use Rattle.std.specs.Prelude.{◌≡◌, ℕ, ◌-◌, ◌≤◌, IsTrue, List, ◌++◌, length, take, drop, replicate}
use Rattle.std.proofs.Common.{sym, ap, ◌∙◌, arith, take-append-drop, length-take-le}
use Rattle.sgb_script.specs.Name.{is_name}

-- a name of so many bytes, and zeros up to 32
pub record IsPadded (n : ℕ) (bytes : List ℕ) : Type 0 where
  pub name : IsTrue (is_name (take n bytes))
  pub size : length bytes ≡ 32
  pub len : n ≤ 32
  pub padding : drop n bytes ≡ replicate (32 - n) 0

-- its bytes and its length, given back by the name
pub len_back : (n : ℕ) (bytes : List ℕ) → IsPadded n bytes → length (take n bytes) ≡ n
len_back n bytes p = length-take-le n bytes (omega (arith, p.size, p.len))

pub bytes_back : (n : ℕ) (bytes : List ℕ) → IsPadded n bytes → take n bytes ++ replicate (32 - length (take n bytes)) 0 ≡ bytes
bytes_back n bytes p =
    ap (λ k. take n bytes ++ replicate (32 - k) 0) (len_back n bytes p) ∙ ap (λ zs. take n bytes ++ zs) (sym p.padding) ∙ take-append-drop n bytes
