-- Ids: a word, and behind it in parentheses the parts, separated by commas.
use Rattle.std.specs.Prelude.{◌+◌, ◌-◌, ◌/◌, ℕ, List, [], ◌∷◌, ◌++◌, length, take, codes, Bool, false, nat_le, if◌then◌else◌}
use Rattle.std.specs.List.{flat_map, join_with_byte, sum_by}
use Rattle.std.specs.Fmt.{decimal, signed_decimal, digits}
use Rattle.sgb_plan.specs.declared.part.Seed.{Seed}
use Rattle.sgb_plan.specs.declared.part.Seed.TheVariants as seeds
use Rattle.sgb_plan.specs.declared.part.Part.{Part}
use Rattle.sgb_plan.specs.declared.part.Part.TheVariants.{Number, Count, Flag, Bits, Drawn, Word}

-- the number, or `-` for the generator as it stands
abbrev pub seed_text : Seed → List ℕ
seed_text (seeds.Number s) = signed_decimal s
seed_text seeds.Current = codes "-"

-- without leading zeros, behind `0x`
abbrev pub hexadecimal : ℕ → List ℕ
hexadecimal n = codes "0x" ++ digits 16 false n

-- 1 for yes and 0 for no
abbrev pub flag_text : Bool → List ℕ
flag_text b = if b then codes "1" else codes "0"

abbrev pub part_text : Part → List ℕ
part_text (Number z) = signed_decimal z
part_text (Count n) = decimal n
part_text (Flag b) = flag_text b
part_text (Bits n) = hexadecimal n
part_text (Drawn s) = seed_text s
part_text (Word t) = t.now

abbrev pub id_of : List ℕ → List (List ℕ) → List ℕ
id_of word parts = word ++ codes "(" ++ join_with_byte 44 parts ++ codes ")"

-- each part behind a comma
abbrev pub behind_commas : List (List ℕ) → List ℕ
behind_commas = flat_map (λ part. 44 ∷ part)

-- a text of more bytes than these ends in "...)", and has so many
abbrev pub shortened : ℕ → List ℕ → List ℕ
shortened most t = if nat_le (length t) most then t else take (most - 4) t ++ codes "...)"

-- how many of an id's 160 bytes its other parts leave
abbrev pub room_beside : List ℕ → ℕ
room_beside others = 160 - length others

-- the id g stands first among the parts, and is shortened to the room that is left for it
abbrev pub id_of_one : List ℕ → List ℕ → List (List ℕ) → List ℕ
id_of_one word g parts = id_of word (shortened (room_beside (id_of word ([] ∷ parts))) g ∷ parts)

-- the ids g and h stand first; where there is no room for both, each is shortened to half of it
abbrev pub most_of_two : ℕ → List ℕ → List ℕ → ℕ
most_of_two room g h = if nat_le (length g + length h) room then room else room / 2

abbrev pub id_of_two : List ℕ → List ℕ → List ℕ → List (List ℕ) → List ℕ
id_of_two word g h parts =
    let most : ℕ = most_of_two (room_beside (id_of word ([] ∷ [] ∷ parts))) g h in
    id_of word (shortened most g ∷ shortened most h ∷ parts)

-- how many bytes a part has at most
abbrev pub widest : Part → ℕ
widest (Number z) = 20
widest (Count n) = 10
widest (Flag b) = 1
widest (Bits n) = 18
widest (Drawn s) = 20
widest (Word t) = length t.now

-- how many bytes the parts have at most, each with a comma, and how many an id has
abbrev pub widest_parts : List Part → ℕ
widest_parts parts = sum_by (λ p. widest p + 1) parts

abbrev pub widest_id : List ℕ → List Part → ℕ
widest_id word parts = length word + 2 + widest_parts parts
