use Rattle.std.proofs.Common.{◌≡◌, ◌≤◌, ◌<◌, ◌-◌, ◌∷◌, ℕ, List, length, map, take, refl, subst, sym, ap, ◌∙◌, arith}
use Rattle.std.specs.Prelude.{reverse}
use Rattle.std.proofs.lemmas.List.{append-nil, length-reverse, nil_from_length}
use Rattle.std.proofs.lemmas.Result.{err_from_is_err_and}
use Rattle.sgb_binary.specs.Private.Listing.{rows, dotted_rows, leaf_rows, rooms, budgets_of, letters_left, Listed}
use Rattle.sgb_binary.proofs.Rows.{rows_none, dotted_none, dotted_low, room_double, rooms_few}
use Rattle.sgb_binary.proofs.RowStacks.{RefusesList, refused_front, refused_back, refused_letter, listed_none, listed_letter, listed_both, lists_one, rooms_popped, length_popped, rows_popped, rows_none_left, rooms_two, letters_two, rows_two, cut_one, cut_two, put_back}
use Rattle.sgb_binary.proofs.lister.Lister.+rows.Goals as goal

pub list-returns-in_default : goal.list-returns-in_default
list-returns-in_default t c =
    let xs : List ℕ = c.args.self.now.budgets.items in
    let none : length xs ≡ 0 = sym c.args.self.now.budgets.ok.0 ∙ c.in_default.ensures.cases.0 in
    let enough : c.args.dots ≤ rooms (reverse xs) = omega arith in
    lists_one (record (c.args.self.now) { budgets = c.pop.new.self }) c.args.self.now c.keep.new.self (rows (letters_left c.args.dots (reverse xs)) (reverse xs)) c.keep.result c.keep.ensures
    (rows_none_left c.args.dots xs (nil_from_length xs none) enough)
    refl refl refl
    (sym (append-nil c.pop.new.self.items) ∙ sym c.in_default.ensures.items)

pub list-overflow_sub-others : goal.list-overflow_sub-others
list-overflow_sub-others t c =
    omega (arith, rooms_popped c.args.self.now.budgets.items c.pop.new.self.items c.in-Some.budget c.in-Some.ensures.items)

pub list-list_dotted-requires : goal.list-list_dotted-requires
list-list_dotted-requires t c =
    let rooms_are = rooms_popped c.args.self.now.budgets.items c.pop.new.self.items c.in-Some.budget c.in-Some.ensures.items in
    let letters = length_popped c.args.self.now.budgets.items c.pop.new.self.items c.in-Some.budget c.in-Some.ensures.items in
    let all = length-reverse c.args.self.now.budgets.items in
    let others = length-reverse c.pop.new.self.items in
    (omega (arith, letters, all, others, c.decreases), (omega (arith, letters), (omega (arith, rooms_are), (omega (arith, rooms_are), omega arith))))

pub list-returns-in_err-list_dotted : goal.list-returns-in_err-list_dotted
list-returns-in_err-list_dotted t c =
    let p = err_from_is_err_and c.from_residual.result c.from_residual.ensures.1 in
    let bs : List ℕ = reverse c.pop.new.self.items in
    let dotted : List (List ℕ) = dotted_rows (letters_left c.args.dots bs) c.in-Some.budget bs in
    let leaves : List (List ℕ) = leaf_rows (letters_left c.args.dots bs) bs in
    rw (p.1, p.2)
    (subst (λ ws. RefusesList c.args.self.now ws c.in_err-list_dotted.field-0.0)
    (sym (rows_popped c.args.dots c.args.self.now.budgets.items c.pop.new.self.items c.in-Some.budget c.in-Some.ensures.items))
    (refused_front c.args.self.now dotted leaves c.in_err-list_dotted.ensures))

pub list-list_leaf-requires : goal.list-list_leaf-requires
list-list_leaf-requires t c =
    let same = c.in_ok-list_dotted.ensures.budgets in
    let rooms_are = rooms_popped c.args.self.now.budgets.items c.pop.new.self.items c.in-Some.budget c.in-Some.ensures.items in
    let letters = length_popped c.args.self.now.budgets.items c.pop.new.self.items c.in-Some.budget c.in-Some.ensures.items in
    let all = length-reverse c.args.self.now.budgets.items in
    let others = length-reverse c.pop.new.self.items in
    let few = c.in_ok-list_dotted.ensures.few in
    (omega (arith, letters, all, others, ap (λ xs. length xs) same, c.decreases), (omega (arith, letters, ap (λ xs. length (reverse xs)) same), (omega (arith, rooms_are, ap (λ xs. rooms (reverse xs)) same), few)))

pub list-returns-in_err-list_leaf : goal.list-returns-in_err-list_leaf
list-returns-in_err-list_leaf t c =
    let p = err_from_is_err_and c.from_residual-in_err-list_leaf.result c.from_residual-in_err-list_leaf.ensures.1 in
    let bs : List ℕ = reverse c.pop.new.self.items in
    let leaves : List (List ℕ) = leaf_rows (letters_left c.args.dots bs) bs in
    let same = ap (λ xs. leaf_rows (letters_left c.args.dots (reverse xs)) (reverse xs)) c.in_ok-list_dotted.ensures.budgets in
    let refused : RefusesList c.list_dotted.new.self leaves c.in_err-list_leaf.field-0.0 =
    subst (λ ws. RefusesList c.list_dotted.new.self ws c.in_err-list_leaf.field-0.0) same c.in_err-list_leaf.ensures in
    rw (p.1, p.2)
    (subst (λ ws. RefusesList c.args.self.now ws c.in_err-list_leaf.field-0.0)
    (sym (rows_popped c.args.dots c.args.self.now.budgets.items c.pop.new.self.items c.in-Some.budget c.in-Some.ensures.items))
    (refused_back leaves c.in_ok-list_dotted.ensures refused))

pub list-returns : goal.list-returns
list-returns t c =
    let bs : List ℕ = reverse c.pop.new.self.items in
    let dotted : List (List ℕ) = dotted_rows (letters_left c.args.dots bs) c.in-Some.budget bs in
    let leaves : List (List ℕ) = leaf_rows (letters_left c.args.dots bs) bs in
    let same = ap (λ xs. leaf_rows (letters_left c.args.dots (reverse xs)) (reverse xs)) c.in_ok-list_dotted.ensures.budgets in
    let second : Listed c.list_dotted.new.self c.list_leaf.new.self leaves =
    subst (Listed c.list_dotted.new.self c.list_leaf.new.self) same c.in_ok-list_leaf.ensures in
    subst (Listed c.args.self.now _)
    (sym (rows_popped c.args.dots c.args.self.now.budgets.items c.pop.new.self.items c.in-Some.budget c.in-Some.ensures.items))
    (listed_both dotted leaves c.in_ok-list_dotted.ensures second refl refl refl refl refl refl
    (put_back c.args.self.now.budgets.items c.pop.new.self.items c.list_leaf.new.self.budgets.items c.push.new.self.items c.in-Some.budget c.in-Some.ensures.items
    (second.budgets ∙ c.in_ok-list_dotted.ensures.budgets) c.in_ok-push.ensures.items))

pub list_dotted-returns-then-dots-eq0 : goal.list_dotted-returns-then-dots-eq0
list_dotted-returns-then-dots-eq0 t c =
    let bs : List ℕ = budgets_of c.args.self.now in
    listed_none c.args.self.now (dotted_rows (letters_left c.args.dots bs) c.args.budget bs) c.requires.count
    (ap (λ d. dotted_rows (letters_left d bs) c.args.budget bs) c.if-dots-eq0.true ∙ dotted_none c.args.budget bs)

pub list_dotted-returns-then-budget-eq0 : goal.list_dotted-returns-then-budget-eq0
list_dotted-returns-then-budget-eq0 t c =
    let bs : List ℕ = budgets_of c.args.self.now in
    listed_none c.args.self.now (dotted_rows (letters_left c.args.dots bs) c.args.budget bs) c.requires.count
    (ap (λ b. dotted_rows (letters_left c.args.dots bs) b bs) c.if-budget-eq0.true ∙ dotted_low (letters_left c.args.dots bs) bs)

pub list_dotted-overflow_add-others : goal.list_dotted-overflow_add-others
list_dotted-overflow_add-others t c = omega (arith, rooms_few (budgets_of c.args.self.now))

pub list_dotted-list-requires : goal.list_dotted-list-requires
list_dotted-list-requires t c =
    let xs : List ℕ = c.args.self.now.budgets.items in
    let ys : List ℕ = c.push-2.new.self.items in
    let zs : List ℕ = c.push-3.new.self.items in
    let k : ℕ = c.args.budget - 1 in
    let dots : 0 < c.args.dots = omega arith in
    let some : 0 < c.args.budget = omega arith in
    let letters = letters_two c.args.dots xs ys zs k dots c.in_ok-push-2.ensures.items c.in_ok-push-3.ensures.items in
    let rooms_are = rooms_two xs ys zs k c.in_ok-push-2.ensures.items c.in_ok-push-3.ensures.items in
    let all = length-reverse xs in
    let more = length-reverse zs in
    (omega (arith, letters, all, more, c.decreases), (omega (arith, letters), (omega (arith, rooms_are, c.room.ensures.value), (omega (arith, room_double c.args.budget some, c.room.ensures.value), omega arith))))

pub list_dotted-returns-in_err-list : goal.list_dotted-returns-in_err-list
list_dotted-returns-in_err-list t c =
    let p = err_from_is_err_and c.from_residual-in_err-list.result c.from_residual-in_err-list.ensures.1 in
    let xs : List ℕ = c.args.self.now.budgets.items in
    let ys : List ℕ = c.push-2.new.self.items in
    let zs : List ℕ = c.push-3.new.self.items in
    let dots : 0 < c.args.dots = omega arith in
    let some : 0 < c.args.budget = omega arith in
    rw (p.1, p.2)
    (subst (λ ws. RefusesList c.args.self.now ws c.in_err-list.field-0.0)
    (sym (rows_two c.args.dots c.args.budget xs ys zs dots some c.in_ok-push-2.ensures.items c.in_ok-push-3.ensures.items))
    (refused_letter c.args.self.now 46 (rows (letters_left (c.args.dots - 1) (reverse zs)) (reverse zs)) c.in_err-list.ensures))

pub list_dotted-returns : goal.list_dotted-returns
list_dotted-returns t c =
    let xs : List ℕ = c.args.self.now.budgets.items in
    let ys : List ℕ = c.push-2.new.self.items in
    let zs : List ℕ = c.push-3.new.self.items in
    let dots : 0 < c.args.dots = omega arith in
    let some : 0 < c.args.budget = omega arith in
    subst (Listed c.args.self.now _)
    (sym (rows_two c.args.dots c.args.budget xs ys zs dots some c.in_ok-push-2.ensures.items c.in_ok-push-3.ensures.items))
    (listed_letter 46 (rows (letters_left (c.args.dots - 1) (reverse zs)) (reverse zs)) c.in_ok-list.ensures refl refl c.in_ok-push.ensures.items refl refl
    (cut_one c.args.self.now.word.items c.push.new.self.items c.truncate-2.new.self.items 46 c.len-letters.result c.in_ok-push.ensures.items
    (c.truncate-2.ensures.items ∙ ap (take c.len-letters.result) c.in_ok-list.ensures.word) (c.len-letters.ensures ∙ c.args.self.now.word.ok.0))
    (cut_two xs ys zs c.truncate.new.self.items (c.args.budget - 1) (c.args.budget - 1) c.len-waiting.result c.in_ok-push-2.ensures.items c.in_ok-push-3.ensures.items
    (c.truncate.ensures.items ∙ ap (take c.len-waiting.result) c.in_ok-list.ensures.budgets) (c.len-waiting.ensures ∙ c.args.self.now.budgets.ok.0)))

pub list_leaf-returns-then-dots-others : goal.list_leaf-returns-then-dots-others
list_leaf-returns-then-dots-others t c =
    let bs : List ℕ = budgets_of c.args.self.now in
    let little : rooms bs < c.args.dots = omega arith in
    let few : c.args.dots ≤ 127 = omega arith in
    listed_none c.args.self.now (leaf_rows (letters_left c.args.dots bs) bs) c.requires.count
    (ap (map (λ w. 120 ∷ w)) (rows_none c.args.dots bs little few))

pub list_leaf-returns : goal.list_leaf-returns
list_leaf-returns t c =
    let bs : List ℕ = budgets_of c.args.self.now in
    listed_letter 120 (rows (letters_left c.args.dots bs) bs) c.in_ok-list.ensures refl refl c.in_ok-push.ensures.items refl refl
    (cut_one c.args.self.now.word.items c.push.new.self.items c.truncate.new.self.items 120 c.len-letters.result c.in_ok-push.ensures.items
    (c.truncate.ensures.items ∙ ap (take c.len-letters.result) c.in_ok-list.ensures.word) (c.len-letters.ensures ∙ c.args.self.now.word.ok.0))
    c.in_ok-list.ensures.budgets
