-- What a label keeps.
use Rattle.std.specs.Prelude.{◌≤◌, ℕ, List, take}
use Rattle.sgb_graph.specs.declared.text.Kept.{Kept}
use Rattle.sgb_graph.specs.declared.text.Kept.TheVariants.{Short, Long}
use Rattle.sgb_graph.specs.Text.{IsText}

abbrev pub bytes_of : Kept → List ℕ
bytes_of (Short len bytes) = take len bytes
bytes_of (Long text) = text

abbrev pub len_of : Kept → ℕ
len_of (Short len bytes) = len
len_of (Long text) = 0

-- a text, and of one in place no more bytes than there is place for
pub record IsKept (kept : Kept) : Type 0 where
  pub text : IsText (bytes_of kept)
  pub few : len_of kept ≤ 14
