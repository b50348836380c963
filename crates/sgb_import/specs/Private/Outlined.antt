-- What is kept of a text while it is read.
use Rattle.std.specs.Prelude.{ℕ, List, map}
use Rattle.std.specs.Borrow.{Bor}
use Rattle.sgb_graph.specs.Builder.{Insertion, insertion}
use Rattle.sgb_import.specs.declared.outline.Link.{Link}
use Rattle.sgb_import.specs.declared.outline.Names.{Names}
use Rattle.sgb_import.specs.declared.outline.Names.TheVariants.{Numbers, Words}
use Rattle.sgb_import.specs.declared.outline.Outline.{Outline as Kept}
use Rattle.sgb_import.specs.Outline.{Outline, numbered}

abbrev pub bytes_of : Bor (List ℕ) → List ℕ
bytes_of word = word.now

abbrev pub insertion_of : Link → Insertion
insertion_of l = insertion l.from l.to l.len

abbrev pub names_in : Names → List (List ℕ)
names_in (Numbers first count) = numbered first count
names_in (Words words) = map bytes_of words.keys

abbrev pub outline_of : Kept → Outline
outline_of o = record { id = o.id.now; names = names_in o.names; directed = o.directed; links = map insertion_of o.links.items }
