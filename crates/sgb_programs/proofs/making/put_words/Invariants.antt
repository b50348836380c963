use Rattle.std.proofs.Common.{◌≡◌, ◌++◌, ◌∷◌, drop}
use Rattle.std.specs.List.{flat_map}
use Rattle.sgb_programs.proofs.making.put_words.Given as goal

abbrev pub invariant-loop-word : goal.invariant-loop-word
invariant-loop-word l =
    l.line.items ++ flat_map (λ word. 32 ∷ word.now) (drop l.word-index l.words) ≡ l.initial.line.items ++ flat_map (λ word. 32 ∷ word.now) l.words
