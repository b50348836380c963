-- Lemmas on tables of links: what they hold, and how they are made side by side.
use Rattle.std.proofs.Common.{◌≡◌, ◌<◌, ◌≤◌, ◌+◌, ◌*◌, ◌==◌, ℕ, zero, suc, ℤ, pos, ◌*ℤ◌, List, [], ◌∷◌, length, get_or, map, drop, All, Option, Some, None, IfSome, inl, inr, refl, sym, ap, subst, ◌∙◌, arith}
use Rattle.std.specs.List.{flat_map}
use Rattle.std.specs.Option.{option_map}
use Rattle.std.proofs.lemmas.Bool.{cases_Bool, ne_eqb}
use Rattle.std.proofs.lemmas.Int.{ints}
use Rattle.std.proofs.lemmas.List.{get_or-map, get_or-replicate, length-map, length-replicate, length-drop, at_drop_more, drop_all}
use Rattle.std.proofs.lemmas.List.Elements.{All-nil, All-cons, All-map, All-replicate}
use Rattle.std.proofs.lemmas.List.FromFn.{get_or-range_with_len, length-range_with_len}
use Rattle.std.proofs.lemmas.Nat.{row_fits}
use Rattle.sgb_plan.proofs.Distincts.{All-flat_map}
use Rattle.sgb_make.specs.declared.side.Side.{Side}
use Rattle.sgb_make.specs.declared.side.Step.{Step}
use Rattle.sgb_make.specs.Ride.{along, moved, with_first, stop}
use Rattle.sgb_make.specs.Private.Link.{part_of, link_of, shifted, row_of, rows_of, links}
use Rattle.sgb_make.specs.Private.Rank.{cells, rank, IsOn, IsSmall}
use Rattle.sgb_make.proofs.Moves.{moved-below}
use Rattle.sgb_make.proofs.Ranks.{length-pieces, get_or-pieces, rank-below}

-- a row's links fit
pub row_is_few : (a : Side) (x n : ℕ) (z : ℤ) (o : Option ℕ) → x < a.size → a.size * n ≤ 65535 → o ≡ moved a x z → IfSome o (λ y. y * n + n ≤ 65535)
row_is_few a x n z None on few is = tt
row_is_few a x n z (Some y) on few is =
    let low : y < a.size = moved-below a x z y on (sym is) in
    omega (arith, row_fits y n a.size n low (omega arith))

-- and lie within those of the board
row_in : (a : Side) (x n : ℕ) (z : ℤ) (o : Option ℕ) → x < a.size → o ≡ moved a x z → IfSome o (λ y. y * n + n ≤ a.size * n)
row_in a x n z None on is = tt
row_in a x n z (Some y) on is = row_fits y n a.size n (moved-below a x z y on (sym is)) (omega arith)

length-row : (o : Option ℕ) (ts : List ℕ) → length (row_of o ts) ≡ length ts
unfolding row_of
length-row None ts = length-replicate (length ts) 0
length-row (Some y) ts = length-map ts (shifted (y * length ts))

pub length-rows : (a : Side) (z : ℤ) (ts : List ℕ) → length (rows_of a z ts) ≡ a.size * length ts
unfolding rows_of
length-rows a z ts =
    length-pieces (λ x. row_of (moved a x z) ts) (length ts) (along a) (λ x. length-row (moved a x z) ts)
    ∙ ap (λ k. k * length ts) (length-range_with_len 0 a.size)

pub length-links : (sides : List Side) (v : List ℤ) → length v ≡ length sides → length (links sides v) ≡ cells sides
unfolding links cells
length-links [] v same = refl
length-links (a ∷ sides) [] same = absurd (omega arith)
length-links (a ∷ sides) (z ∷ v) same =
    length-rows a z (links sides v) ∙ ap (λ k. a.size * k) (length-links sides v (omega arith))

-- ---- a link leads to a position of the board
shifted_low : (base t n : ℕ) → t ≤ n → shifted base t ≤ base + n
shifted_low base t n low =
    elim (cases_Bool (t == 0)) [
      | inl none ↦ rw none (omega arith)
      | inr some ↦ rw some (omega arith)
    ]

shifted-suc : (base t : ℕ) → shifted base (suc t) ≡ base + suc t
shifted-suc base t = rw (ne_eqb (suc t) 0 (omega arith)) refl

row_low : (o : Option ℕ) (ts : List ℕ) (n most : ℕ) → All (λ t. t ≤ n) ts → length ts ≡ n → IfSome o (λ y. y * n + n ≤ most) → All (λ t. t ≤ most) (row_of o ts)
unfolding row_of
row_low None ts n most low long few = All-replicate (λ t. t ≤ most) (length ts) 0 (omega arith)
row_low (Some y) ts n most low long few =
    All-map (λ t. t ≤ most) (shifted (y * length ts)) ts
    (λ k d below. omega (arith, shifted_low (y * length ts) (get_or ts k d) n (low k d below), ap (λ m. y * m) long))

rows_low : (a : Side) (z : ℤ) (ts : List ℕ) (n : ℕ) → All (λ t. t ≤ n) ts → length ts ≡ n → All (λ t. t ≤ a.size * n) (rows_of a z ts)
unfolding rows_of
rows_low a z ts n low long =
    All-flat_map (λ t. t ≤ a.size * n) (λ x. row_of (moved a x z) ts) (along a)
    (λ k d below.
    let on : k < a.size = omega (arith, length-range_with_len 0 a.size) in
    let here : get_or (along a) k d ≡ k = get_or-range_with_len 0 a.size k d on ∙ omega arith in
    row_low (moved a (get_or (along a) k d) z) ts n (a.size * n) low long
    (subst (λ x. IfSome (moved a x z) (λ y. y * n + n ≤ a.size * n)) (sym here) (row_in a k n z (moved a k z) on refl)))

pub links_low : (sides : List Side) (v : List ℤ) → length v ≡ length sides → All (λ t. t ≤ cells sides) (links sides v)
unfolding links cells
links_low [] v same = All-cons (λ t. t ≤ 1) 1 [] (omega arith) (All-nil (λ t. t ≤ 1))
links_low (a ∷ sides) [] same = absurd (omega arith)
links_low (a ∷ sides) (z ∷ v) same =
    rows_low a z (links sides v) (cells sides) (links_low sides v (omega arith)) (length-links sides v (omega arith))

-- ---- the link of a position is where one step leads from it
pub one_times : (z : ℤ) → pos 1 *ℤ z ≡ z
one_times z = omega (arith, ints)

row_at : (a : Side) (sides : List Side) (o : Option ℕ) (q : Option (List ℕ)) (ts : List ℕ) (r : ℕ) → r < length ts → length ts ≡ cells sides → get_or ts r 0 ≡ link_of (option_map (rank sides) q) → get_or (row_of o ts) r 0 ≡ link_of (option_map (rank (a ∷ sides)) (with_first o q))
unfolding row_of rank
row_at a sides None None ts r low long is = get_or-replicate (length ts) r 0 0 low
row_at a sides None (Some q) ts r low long is = get_or-replicate (length ts) r 0 0 low
row_at a sides (Some y) None ts r low long is =
    get_or-map (shifted (y * length ts)) ts r 0 0 low ∙ ap (shifted (y * length ts)) is
row_at a sides (Some y) (Some q) ts r low long is =
    get_or-map (shifted (y * length ts)) ts r 0 0 low ∙ (ap (shifted (y * length ts)) is ∙ (shifted-suc (y * length ts) (rank sides q) ∙ (ap (λ m. y * m + suc (rank sides q)) long ∙ omega arith)))

pub link_at : (sides : List Side) (v : List ℤ) (p : List ℕ) → length v ≡ length sides → IsOn sides p → get_or (links sides v) (rank sides p) 0 ≡ link_of (option_map (rank sides) (stop sides v p 1))
unfolding links rank stop rows_of
link_at [] v [] same on = refl
link_at [] v (x ∷ p) same on = absurd on
link_at (a ∷ sides) v [] same on = absurd on
link_at (a ∷ sides) [] (x ∷ p) same on = absurd (omega arith)
link_at (a ∷ sides) (z ∷ v) (x ∷ p) same on =
    let ts = links sides v in
    let long : length ts ≡ cells sides = length-links sides v (omega arith) in
    let low : rank sides p < length ts = omega (arith, rank-below sides p on.1, long) in
    ap (λ n. get_or (flat_map (λ y. row_of (moved a y z) ts) (along a)) (x * n + rank sides p) 0) (sym long)
    ∙ (get_or-pieces (λ y. row_of (moved a y z) ts) (length ts) a.size x (rank sides p) 0 (λ y. length-row (moved a y z) ts) on.0 low
    ∙ (row_at a sides (moved a x z) (stop sides v p 1) ts (rank sides p) low long (link_at sides v p (omega arith) on.1)
    ∙ ap (λ w. link_of (option_map (rank (a ∷ sides)) (with_first (moved a x w) (stop sides v p 1)))) (sym (one_times z))))

-- ---- the table is made from the last side on
-- the links of the sides from k on
abbrev pub links_from : List Side → List Step → ℕ → List ℕ
links_from sides steps k = links (drop k sides) (map part_of (drop k steps))

pub links_more : (sides : List Side) (steps : List Step) (k : ℕ) (d : Side) (e : Step) → k < length sides → length steps ≡ length sides → links_from sides steps k ≡ rows_of (get_or sides k d) (part_of (get_or steps k e)) (links_from sides steps (k + 1))
unfolding links
links_more sides steps k d e below same =
    at_drop_more (λ ss. links ss (map part_of (drop k steps))) sides k d below
    ∙ at_drop_more (λ ts. links (get_or sides k d ∷ drop (k + 1) sides) (map part_of ts)) steps k e (omega arith)

pub links_end : (sides : List Side) (steps : List Step) → links_from sides steps (length sides) ≡ 1 ∷ []
unfolding links
links_end sides steps = ap (λ ss. links ss (map part_of (drop (length sides) steps))) (drop_all (length sides) sides (omega arith))

long_from : (sides : List Side) (steps : List Step) (k : ℕ) → length steps ≡ length sides → length (map part_of (drop k steps)) ≡ length (drop k sides)
long_from sides steps k same = omega (arith, length-map (drop k steps) part_of, length-drop k steps, length-drop k sides)

pub length-links_from : (sides : List Side) (steps : List Step) (k : ℕ) → length steps ≡ length sides → length (links_from sides steps k) ≡ cells (drop k sides)
length-links_from sides steps k same = length-links (drop k sides) (map part_of (drop k steps)) (long_from sides steps k same)

pub table_low : (ts : List ℕ) (sides : List Side) (steps : List Step) (k : ℕ) → length steps ≡ length sides → ts ≡ links_from sides steps k → All (λ t. t ≤ length ts) ts
table_low ts sides steps k same is =
    let long : length ts ≡ cells (drop k sides) = ap length is ∙ length-links_from sides steps k same in
    subst (λ xs. All (λ t. t ≤ length ts) xs) (sym is)
    (subst (λ n. All (λ t. t ≤ n) (links_from sides steps k)) (sym long) (links_low (drop k sides) (map part_of (drop k steps)) (long_from sides steps k same)))

IsSmall-drop : (sides : List Side) (k : ℕ) → IsSmall sides → IsSmall (drop k sides)
IsSmall-drop sides zero small = small
IsSmall-drop [] (suc k) small = tt
IsSmall-drop (a ∷ sides) (suc k) small = IsSmall-drop sides k small.2

-- the rows of one side are few
pub table_few : (ts : List ℕ) (sides : List Side) (steps : List Step) (k : ℕ) (d : Side) → k < length sides → length steps ≡ length sides → IsSmall sides → ts ≡ links_from sides steps (k + 1) → (get_or sides k d).size * length ts ≤ 65535
unfolding cells
table_few ts sides steps k d below same small is =
    let long : length ts ≡ cells (drop (k + 1) sides) = ap length is ∙ length-links_from sides steps (k + 1) same in
    let here : IsSmall (get_or sides k d ∷ drop (k + 1) sides) = subst IsSmall (at_drop_more (λ (ss : List Side). ss) sides k d below) (IsSmall-drop sides k small) in
    subst (λ n. (get_or sides k d).size * n ≤ 65535) (sym long) here.1

pub few_cells : (sides : List Side) → IsSmall sides → cells sides ≤ 65535
unfolding cells
few_cells [] small = omega arith
few_cells (a ∷ sides) small = small.1
