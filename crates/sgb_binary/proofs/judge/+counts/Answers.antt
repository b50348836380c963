use Rattle.std.proofs.Common.{◌≡◌, ◌<◌, ◌+◌, ◌-◌, ◌∷◌, [], ℕ, List, length, get_or, set, map, take, ap, ◌∙◌, arith}
use Rattle.std.specs.Prelude.{reverse}
use Rattle.std.proofs.lemmas.List.{length-append, length-map, length-reverse, length-set, length-take-le}
use Rattle.sgb_binary.specs.Private.Listing.{rows, dotted_rows, leaf_rows, rooms, letters_left}
use Rattle.sgb_binary.proofs.Rows.{rows_none, dotted_none, dotted_low, room_double, rooms_few}
use Rattle.sgb_binary.proofs.RowStacks.{rooms_popped, rows_popped, rooms_two, rows_two}
use Rattle.sgb_binary.proofs.RowCounts.{leaves_alone, some_waiting, last_of_front, one_behind, two_behind, kept_before}
use Rattle.sgb_binary.proofs.judge.+counts.Goals as goal

pub count_dotted-returns-then-dots-eq0-clause-count : goal.count_dotted-returns-then-dots-eq0-clause-count
count_dotted-returns-then-dots-eq0-clause-count t c =
    let bs : List ℕ = reverse (take c.args.waiting c.args.budgets.now) in
    let none : dotted_rows (letters_left c.args.dots bs) c.args.budget bs ≡ [] =
    ap (λ d. dotted_rows (letters_left d bs) c.args.budget bs) c.if-dots-eq0.true ∙ dotted_none c.args.budget bs in
    omega (arith, ap (λ ws. length ws) none, c.requires.few)

pub count_dotted-returns-then-budget-eq0-clause-count : goal.count_dotted-returns-then-budget-eq0-clause-count
count_dotted-returns-then-budget-eq0-clause-count t c =
    let bs : List ℕ = reverse (take c.args.waiting c.args.budgets.now) in
    let none : dotted_rows (letters_left c.args.dots bs) c.args.budget bs ≡ [] =
    ap (λ b. dotted_rows (letters_left c.args.dots bs) b bs) c.if-budget-eq0.true ∙ dotted_low (letters_left c.args.dots bs) bs in
    omega (arith, ap (λ ws. length ws) none, c.requires.few)

pub count_dotted-overflow_add-total : goal.count_dotted-overflow_add-total
count_dotted-overflow_add-total t c =
    let front : List ℕ = take c.args.waiting c.args.budgets.now in
    omega (arith, rooms_few (reverse front), length-reverse front, length-take-le c.args.waiting c.args.budgets.now (omega arith), c.requires.small, c.requires.others)

pub count_dotted-count_rows-requires : goal.count_dotted-count_rows-requires
count_dotted-count_rows-requires t c =
    let bs : List ℕ = c.args.budgets.now in
    let w : ℕ = c.args.waiting in
    let k : ℕ = c.args.budget - 1 in
    let some : 0 < c.args.budget = omega arith in
    let less : w + 1 < length bs = omega arith in
    let long : length (set (set bs w k) (w + 1) k) ≡ length bs = length-set (set bs w k) (w + 1) k ∙ length-set bs w k in
    let rooms_are = rooms_two (take w bs) (take (w + 1) (set bs w k)) (take (w + 2) (set (set bs w k) (w + 1) k)) k (one_behind bs w k (omega (arith, less))) (two_behind bs w k less) in
    (omega (arith, c.decreases), (omega (arith, long), (omega (arith, long), (omega (arith, rooms_are, c.room.ensures.value), (omega (arith, room_double c.args.budget some, c.room.ensures.value), omega arith)))))

pub count_dotted-returns-clause-count : goal.count_dotted-returns-clause-count
count_dotted-returns-clause-count t c =
    let bs : List ℕ = c.args.budgets.now in
    let w : ℕ = c.args.waiting in
    let k : ℕ = c.args.budget - 1 in
    let dots : 0 < c.args.dots = omega arith in
    let some : 0 < c.args.budget = omega arith in
    let less : w + 1 < length bs = omega arith in
    let front : List ℕ = take (w + 2) (set (set bs w k) (w + 1) k) in
    let all : List (List ℕ) = rows (letters_left (c.args.dots - 1) (reverse front)) (reverse front) in
    let rows_are = rows_two c.args.dots c.args.budget (take w bs) (take (w + 1) (set bs w k)) front dots some (one_behind bs w k (omega (arith, less))) (two_behind bs w k less) in
    omega (arith, c.count_rows.ensures.count, ap (λ ws. length ws) rows_are, length-map all (λ word. 46 ∷ word))

pub count_dotted-returns-clause-kept : goal.count_dotted-returns-clause-kept
count_dotted-returns-clause-kept t c =
    kept_before c.args.budgets.now c.count_rows.new.budgets c.args.waiting (c.args.budget - 1) c.count_rows.ensures.kept

pub count_leaf-returns-then-dots-others-clause-count : goal.count_leaf-returns-then-dots-others-clause-count
count_leaf-returns-then-dots-others-clause-count t c =
    let bs : List ℕ = reverse (take c.args.waiting c.args.budgets.now) in
    let little : rooms bs < c.args.dots = omega arith in
    let none : leaf_rows (letters_left c.args.dots bs) bs ≡ [] = ap (map (λ w. 120 ∷ w)) (rows_none c.args.dots bs little (omega arith)) in
    omega (arith, ap (λ ws. length ws) none)

pub count_leaf-count_rows-requires : goal.count_leaf-count_rows-requires
count_leaf-count_rows-requires t c = (omega (arith, c.decreases), (omega arith, (c.requires.small, (c.requires.others, (omega arith, omega arith)))))

pub count_rows-returns-then-dots-eq0-clause-count : goal.count_rows-returns-then-dots-eq0-clause-count
count_rows-returns-then-dots-eq0-clause-count t c =
    let bs : List ℕ = reverse (take c.args.waiting c.args.budgets.now) in
    let none = ap (λ d. length (rows (letters_left d bs) bs)) c.if-dots-eq0.true in
    omega (arith, none, leaves_alone bs, c.requires.few)

pub count_rows-overflow_sub-behind : goal.count_rows-overflow_sub-behind
count_rows-overflow_sub-behind t c = some_waiting c.args.budgets.now c.args.waiting c.args.dots (omega arith) (omega arith)

pub count_rows-overflow_sub-others : goal.count_rows-overflow_sub-others
count_rows-overflow_sub-others t c =
    let bs : List ℕ = c.args.budgets.now in
    let w : ℕ = c.args.waiting in
    let some = some_waiting bs w c.args.dots (omega arith) (omega arith) in
    let last = last_of_front bs w some (omega arith) in
    omega (arith, rooms_popped (take w bs) (take (w - 1) bs) (get_or bs (w - 1) 0) last, c.requires.total, c.room.ensures.value)

pub count_rows-count_dotted-dotted-requires : goal.count_rows-count_dotted-dotted-requires
count_rows-count_dotted-dotted-requires t c =
    let bs : List ℕ = c.args.budgets.now in
    let w : ℕ = c.args.waiting in
    let some = some_waiting bs w c.args.dots (omega arith) (omega arith) in
    let last = last_of_front bs w some (omega arith) in
    let rooms_are = rooms_popped (take w bs) (take (w - 1) bs) (get_or bs (w - 1) 0) last in
    (omega (arith, some, c.decreases), (omega (arith, some), (c.requires.small, (omega (arith, rooms_are, c.requires.total, c.room.ensures.value), (omega (arith, rooms_are, c.requires.total, c.room.ensures.value), omega arith)))))

pub count_rows-count_leaf-count-requires : goal.count_rows-count_leaf-count-requires
count_rows-count_leaf-count-requires t c =
    let bs : List ℕ = c.args.budgets.now in
    let w : ℕ = c.args.waiting in
    let some = some_waiting bs w c.args.dots (omega arith) (omega arith) in
    let last = last_of_front bs w some (omega arith) in
    let rooms_are = rooms_popped (take w bs) (take (w - 1) bs) (get_or bs (w - 1) 0) last in
    let long = c.count_dotted-dotted.auto.budgets in
    let same = ap (λ xs. rooms (reverse xs)) c.count_dotted-dotted.ensures.kept in
    (omega (arith, some, c.decreases), (omega (arith, some, long), (omega (arith, long), (omega (arith, rooms_are, same, c.requires.total, c.room.ensures.value), omega (arith, c.count_dotted-dotted.ensures.count)))))

pub count_rows-returns-clause-count : goal.count_rows-returns-clause-count
count_rows-returns-clause-count t c =
    let bs : List ℕ = c.args.budgets.now in
    let w : ℕ = c.args.waiting in
    let d : ℕ = c.args.dots in
    let b : ℕ = get_or bs (w - 1) 0 in
    let behind : List ℕ = reverse (take (w - 1) bs) in
    let some = some_waiting bs w c.args.dots (omega arith) (omega arith) in
    let last = last_of_front bs w some (omega arith) in
    let both = rows_popped d (take w bs) (take (w - 1) bs) b last in
    let same = ap (λ xs. length (leaf_rows (letters_left d (reverse xs)) (reverse xs))) c.count_dotted-dotted.ensures.kept in
    let lengths = length-append (dotted_rows (letters_left d behind) b behind) (leaf_rows (letters_left d behind) behind) in
    omega (arith, c.count_dotted-dotted.ensures.count, c.count_leaf-count.ensures.count, same, ap (λ ws. length ws) both, lengths)
