-- The table of the pairs that are joined: where a number is looked for, and what stands at the places.
use Rattle.std.specs.Prelude.{◌≡◌, ◌≢◌, ◌⊎◌, ◌+◌, ◌*◌, ◌/◌, ◌%◌, ◌^◌, ◌<◌, ◌≤◌, ◌==◌, ℕ, List, [], ◌∷◌, length, get_or, Bool, false, cond}
use Rattle.std.specs.List.{list_any, position_or_len}

-- Of so many places, the one where a number is looked for first.
unfoldable pub first_place : ℕ → ℕ → ℕ
first_place key places = key * 2654435761 % 2 ^ 32 * places / 2 ^ 32

-- A free place has 0, and a number stands there as the next one.
abbrev pub holds : ℕ → List ℕ → Bool
holds key slots = list_any (λ slot. key + 1 == slot) slots

-- none of these places is free
abbrev pub IsFull : List ℕ → ℕ → ℕ → Type 0
IsFull slots from end = (i : ℕ) → from ≤ i → i < end → get_or slots i 0 ≢ 0

-- none of these places is free or has this
abbrev pub IsPassed : List ℕ → ℕ → ℕ → ℕ → Type 0
IsPassed slots slot from end = (i : ℕ) → from ≤ i → i < end → (get_or slots i 0 ≢ 0) × (get_or slots i 0 ≢ slot)

-- the way to a place from that first one, over the end to the front if need be, has no free place
abbrev pub IsBehind : List ℕ → ℕ → ℕ → Type 0
IsBehind slots first place =
    ((first ≤ place) × IsFull slots first place) ⊎ (IsFull slots first (length slots) × IsFull slots 0 place)

-- each number is found from its first place on
pub record IsTable (slots : List ℕ) : Type 0 where
  pub few : length slots ≤ 2 ^ 32
  pub reached : (key place : ℕ) → place < length slots → get_or slots place 0 ≡ key + 1 →
      IsBehind slots (first_place key (length slots)) place

-- the first place from there on that is free or has this
pub record IsFirstOf (slots : List ℕ) (slot from place : ℕ) : Type 0 where
  pub behind : from ≤ place
  pub below : place < length slots
  pub passed : IsPassed slots slot from place
  pub here : (get_or slots place 0 ≡ 0) ⊎ (get_or slots place 0 ≡ slot)

-- the place of a number, or the one that it is to take
pub record IsPlaceOf (slots : List ℕ) (key place : ℕ) : Type 0 where
  pub below : place < length slots
  pub here : (get_or slots place 0 ≡ 0) ⊎ (get_or slots place 0 ≡ key + 1)
  pub behind : IsBehind slots (first_place key (length slots)) place
  pub absent : get_or slots place 0 ≡ 0 → holds key slots ≡ false

-- how many places are taken
unfoldable pub taken : List ℕ → ℕ
taken [] = 0
taken (slot ∷ slots) = cond (slot == 0) (taken slots) (1 + taken slots)

-- a place is free
abbrev pub HasRoom : List ℕ → Type 0
HasRoom slots = taken slots < length slots

-- all places are free
abbrev pub IsFree : List ℕ → Type 0
IsFree slots = (place : ℕ) → get_or slots place 0 ≡ 0

-- Beside the place of a number stands where it is among the keys.
pub record IsNumbered (slots numbers keys : List ℕ) : Type 0 where
  pub count : length numbers ≡ length slots
  pub places : (key place : ℕ) → place < length slots → get_or slots place 0 ≡ key + 1 →
      get_or numbers place 0 ≡ position_or_len (λ k. key == k) keys

-- beside each number stands a place in a list of so many
pub record IsListed (slots numbers : List ℕ) (listed : ℕ) : Type 0 where
  pub count : length numbers ≡ length slots
  pub below : (place : ℕ) → get_or slots place 0 ≢ 0 → get_or numbers place 0 < listed
  pub few : listed ≤ 1000000
