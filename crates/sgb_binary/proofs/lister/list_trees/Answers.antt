use Rattle.std.proofs.Common.{◌++◌, List, ℕ, map, ap, ap₂, ◌∙◌}
use Rattle.std.specs.List.{concat}
use Rattle.std.proofs.lemmas.List.{map-id}
use Rattle.sgb_binary.specs.Tree.{trees}
use Rattle.sgb_binary.proofs.lister.list_trees.Goals as goal

pub returns-clause-letters : goal.returns-clause-letters
returns-clause-letters c =
    let ws : List (List ℕ) = trees c.args.n c.args.most in
    c.in_ok-list_all.ensures.names
    ∙ (ap₂ (λ xs p. xs ++ concat (map (λ w. p ++ w) ws)) c.in_ok-with_capacity.ensures.items c.new.ensures.items ∙ ap concat (map-id ws))
