-- How the trees are listed: from the left, with what each tree that is still to come may be high at most.
use Rattle.std.specs.Prelude.{◌≡◌, ◌⊎◌, ◌<◌, ◌≤◌, ◌+◌, ◌-◌, ◌*◌, ◌^◌, ◌==◌, ◌&&◌, ℕ, zero, suc, List, [], ◌∷◌, ◌++◌, length, map, take, drop, min, nat_lt, Bool, true, false, Result, Ok, Err, if◌then◌else◌, reverse}
use Rattle.std.specs.List.{filter, concat, sum_by}
use Rattle.sgb_graph.specs.declared.refusal.Refusal.{Refusal}
use Rattle.sgb_graph.specs.declared.refusal.Refusal.TheVariants.{NoRoom, TooLarge}
use Rattle.sgb_binary.specs.declared.lister.Lister.{Lister}
use Rattle.sgb_binary.specs.Tree.{words}

-- the word is a row of trees, each within its budget of height
unfoldable pub fits : List ℕ → List ℕ → Bool
fits [] [] = true
fits [] (c ∷ w) = false
fits (b ∷ bs) [] = false
fits (b ∷ bs) (c ∷ w) = if c == 46 then nat_lt 0 b && fits ((b - 1) ∷ ((b - 1) ∷ bs)) w else fits bs w

-- the rows of trees with so many letters and these budgets
unfoldable pub rows : ℕ → List ℕ → List (List ℕ)
rows m bs = filter (fits bs) (words m)

-- those of one letter more that begin with a dot or with `x`, where b is the budget of the first tree
unfoldable pub dotted_rows : ℕ → ℕ → List ℕ → List (List ℕ)
dotted_rows m b bs = if nat_lt 0 b then map (λ w. 46 ∷ w) (rows m ((b - 1) ∷ ((b - 1) ∷ bs))) else []

abbrev pub leaf_rows : ℕ → List ℕ → List (List ℕ)
leaf_rows m bs = map (λ w. 120 ∷ w) (rows m bs)

-- how many dots a tree of this budget has at most, as far as 127 are told apart
unfoldable pub room : ℕ → ℕ
room b = 2 ^ min b 7 - 1

unfoldable pub rooms : List ℕ → ℕ
rooms bs = sum_by room bs

-- the budgets, the next one first
abbrev pub budgets_of : Lister → List ℕ
budgets_of s = reverse s.budgets.items

-- how many letters are still to come, where so many are dots
abbrev pub letters_left : ℕ → List ℕ → ℕ
letters_left dots bs = 2 * dots + length bs

-- the rows are listed, each behind the word so far
pub record Listed (old new : Lister) (ws : List (List ℕ)) : Type 0 where
  pub names : new.names.items ≡ old.names.items ++ concat (map (λ w. old.word.items ++ w) ws)
  pub count : new.count ≡ old.count + length ws
  pub few : new.count ≤ 65535
  pub word : new.word.items ≡ old.word.items
  pub budgets : new.budgets.items ≡ old.budgets.items

-- or refused, for want of memory or because they are too many
abbrev pub Lists : {T : Type 0} → Lister → Lister → List (List ℕ) → Result T Refusal → Type 0
Lists old new ws (Ok x) = Listed old new ws
Lists old new ws (Err e) = (e ≡ NoRoom) ⊎ ((e ≡ TooLarge) × (65535 < old.count + length ws))

-- so many pieces of this width, one behind another
unfoldable pub pieces : ℕ → ℕ → List ℕ → List (List ℕ)
pieces width zero xs = []
pieces width (suc k) xs = take width xs ∷ pieces width k (drop width xs)
