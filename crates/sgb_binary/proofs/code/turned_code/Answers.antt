use Rattle.std.proofs.Common.{◌≡◌, ◌+◌, ◌==◌, ◌∷◌, [], List, ℕ, map, take, drop, codes, true, false, ap, sym, ◌∙◌, arith}
use Rattle.std.specs.List.{starts_with}
use Rattle.std.specs.Option.{option_to_list}
use Rattle.std.proofs.lemmas.List.{take_rest}
use Rattle.sgb_binary.specs.Rotation.{tree_fronts}
use Rattle.sgb_binary.specs.Private.Code.{code_of}
use Rattle.sgb_binary.proofs.NameCodes.{turned_none, turned_no_tree, turned_value}
use Rattle.sgb_binary.proofs.code.turned_code.Goals as goal

pub returns-then-not-starts_with : goal.returns-then-not-starts_with
returns-then-not-starts_with c =
    let w : List ℕ = c.args.word.now in
    let starts : starts_with ◌==◌ (drop c.args.place w) (codes "..") ≡ false =
    ap (λ xs. starts_with ◌==◌ xs (codes "..")) (sym (take_rest w c.args.place)) ∙ (sym c.starts_with.ensures.value ∙ c.if-not-starts_with.true) in
    sym (turned_none w c.args.place starts)

pub returns-in_err-tree : goal.returns-in_err-tree
returns-in_err-tree c =
    let w : List ℕ = c.args.word.now in
    let i : ℕ = c.args.place in
    let starts : starts_with ◌==◌ (drop i w) (codes "..") ≡ true =
    ap (λ xs. starts_with ◌==◌ xs (codes "..")) (sym (take_rest w i)) ∙ (sym c.starts_with.ensures.value ∙ c.if-not-starts_with.false) in
    let none : [] ≡ map (λ k. code_of (take k (drop (i + 2) w))) (tree_fronts (drop (i + 2) w)) =
    c.in_err-tree.ensures ∙ ap (λ xs. map (λ k. code_of (take k xs)) (tree_fronts xs)) (take_rest w (i + 2)) in
    ap option_to_list c.from_residual.ensures ∙ sym (turned_no_tree w i starts none)

pub overflow_sub-result : goal.overflow_sub-result
overflow_sub-result c =
    let w : List ℕ = c.args.word.now in
    let i : ℕ = c.args.place in
    let starts : starts_with ◌==◌ (drop i w) (codes "..") ≡ true =
    ap (λ xs. starts_with ◌==◌ xs (codes "..")) (sym (take_rest w i)) ∙ (sym c.starts_with.ensures.value ∙ c.if-not-starts_with.false) in
    let one : c.in_ok-tree.tree ∷ [] ≡ map (λ k. code_of (take k (drop (i + 2) w))) (tree_fronts (drop (i + 2) w)) =
    c.in_ok-tree.ensures ∙ ap (λ xs. map (λ k. code_of (take k xs)) (tree_fronts xs)) (take_rest w (i + 2)) in
    (turned_value w i c.in_ok-tree.tree c.args.code 18446744073709551616 starts (omega arith) one c.requires.code (omega (arith, c.ranges.code))).0

pub returns : goal.returns
returns c =
    let w : List ℕ = c.args.word.now in
    let i : ℕ = c.args.place in
    let starts : starts_with ◌==◌ (drop i w) (codes "..") ≡ true =
    ap (λ xs. starts_with ◌==◌ xs (codes "..")) (sym (take_rest w i)) ∙ (sym c.starts_with.ensures.value ∙ c.if-not-starts_with.false) in
    let one : c.in_ok-tree.tree ∷ [] ≡ map (λ k. code_of (take k (drop (i + 2) w))) (tree_fronts (drop (i + 2) w)) =
    c.in_ok-tree.ensures ∙ ap (λ xs. map (λ k. code_of (take k xs)) (tree_fronts xs)) (take_rest w (i + 2)) in
    (turned_value w i c.in_ok-tree.tree c.args.code 18446744073709551616 starts (omega arith) one c.requires.code (omega (arith, c.ranges.code))).1
