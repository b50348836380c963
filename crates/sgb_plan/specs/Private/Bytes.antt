-- Bytes that names and ids are put together from.
use Rattle.std.specs.Prelude.{◌≤◌, ℕ, List, length, IsTrue}
use Rattle.std.specs.List.{list_all}
use Rattle.sgb_graph.specs.Text.{is_text_byte}

-- bytes of a text, and no more than `most` of them
pub record IsShort (most : ℕ) (t : List ℕ) : Type 0 where
  pub short : length t ≤ most
  pub printable : IsTrue (list_all is_text_byte t)
