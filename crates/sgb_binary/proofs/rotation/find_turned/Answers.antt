use Rattle.std.proofs.Common.{◌≡◌, ◌≤◌, ◌+◌, ◌-◌, ◌==◌, ◌∷◌, [], ℕ, List, length, map, drop, codes, true, false, suc, ap, sym, ◌∙◌, arith}
use Rattle.std.specs.Option.{option_to_list}
use borrow.Rule.Slice.PartMut.{put_mid}
use Rattle.std.specs.List.{starts_with}
use Rattle.std.proofs.lemmas.List.{take_rest}
use Rattle.sgb_binary.specs.Private.Names.{bytes_of}
use Rattle.sgb_binary.specs.Rotation.{number_in, tree_fronts, turned}
use Rattle.sgb_binary.proofs.RotationSteps.{behind_dot, turned_part, turned_is, turned_back, targets_none, targets_no_tree, targets_one}
use Rattle.sgb_binary.proofs.rotation.find_turned.Goals as goal

pub returns-then-not-starts_with-clause-value : goal.returns-then-not-starts_with-clause-value
returns-then-not-starts_with-clause-value c =
    let w : List ℕ = c.args.word.now in
    let starts : starts_with ◌==◌ (drop c.args.place w) (codes "..") ≡ false =
    ap (λ xs. starts_with ◌==◌ xs (codes "..")) (sym (take_rest w c.args.place)) ∙ (sym c.starts_with.ensures.value ∙ c.if-not-starts_with.true) in
    sym (targets_none (map bytes_of c.args.index.now.keys) w c.args.place starts)

pub returns-in_err-len-clause-value : goal.returns-in_err-len-clause-value
returns-in_err-len-clause-value c =
    let w : List ℕ = c.args.word.now in
    let starts : starts_with ◌==◌ (drop c.args.place w) (codes "..") ≡ true =
    ap (λ xs. starts_with ◌==◌ xs (codes "..")) (sym (take_rest w c.args.place)) ∙ (sym c.starts_with.ensures.value ∙ c.if-not-starts_with.false) in
    let none : tree_fronts (drop (c.args.place + 2) w) ≡ [] = ap tree_fronts (sym (take_rest w (c.args.place + 2))) ∙ sym c.in_err-len.ensures.value in
    ap option_to_list c.from_residual.ensures ∙ sym (targets_no_tree (map bytes_of c.args.index.now.keys) w c.args.place starts none)

pub returns-clause-value : goal.returns-clause-value
returns-clause-value c =
    let w : List ℕ = c.args.word.now in
    let i : ℕ = c.args.place in
    let names : List (List ℕ) = map bytes_of c.args.index.now.keys in
    let starts : starts_with ◌==◌ (drop c.args.place w) (codes "..") ≡ true =
    ap (λ xs. starts_with ◌==◌ xs (codes "..")) (sym (take_rest w c.args.place)) ∙ (sym c.starts_with.ensures.value ∙ c.if-not-starts_with.false) in
    let one : tree_fronts (drop (i + 2) w) ≡ c.in_ok-len.len ∷ [] = ap tree_fronts (sym (take_rest w (i + 2))) ∙ sym c.in_ok-len.ensures.value in
    let len : ℕ = c.in_ok-len.len in
    let k : ℕ = i + 2 + len - (i + 1) in
    let long : k ≡ suc len = omega arith in
    let dot = behind_dot w i starts in
    let turns : put_mid (i + 1) k w c.rotate_left.new.self ≡ turned w i len =
    turned_is w c.rotate_left.new.self i len k dot long (turned_part w c.rotate_left.new.self i len k dot long c.rotate_left.ensures.after) in
    c.number_of-found.ensures.value
    ∙ (ap (number_in names) turns
    ∙ sym (targets_one names w i len starts one))

pub returns-clause-same : goal.returns-clause-same
returns-clause-same c =
    let w : List ℕ = c.args.word.now in
    let i : ℕ = c.args.place in
    let starts : starts_with ◌==◌ (drop c.args.place w) (codes "..") ≡ true =
    ap (λ xs. starts_with ◌==◌ xs (codes "..")) (sym (take_rest w c.args.place)) ∙ (sym c.starts_with.ensures.value ∙ c.if-not-starts_with.false) in
    let len : ℕ = c.in_ok-len.len in
    let k : ℕ = i + 2 + len - (i + 1) in
    let long : k ≡ suc len = omega arith in
    let dot = behind_dot w i starts in
    let turns : put_mid (i + 1) k w c.rotate_left.new.self ≡ turned w i len =
    turned_is w c.rotate_left.new.self i len k dot long (turned_part w c.rotate_left.new.self i len k dot long c.rotate_left.ensures.after) in
    let rest = ap (λ xs. length xs) (take_rest w (i + 2)) in
    let few : len ≤ length (drop (i + 2) w) = omega (arith, rest, c.in_ok-len.ensures.within) in
    turned_back w (put_mid (i + 1) k w c.rotate_left.new.self) c.rotate_right.new.self i len k dot long (omega arith) few turns c.rotate_right.ensures.after
