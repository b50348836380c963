use Rattle.std.proofs.Common.{rules, ◌≡◌, ◌<◌, ◌≤◌, pos, int_lt, All, length, unsigned_abs, FitsSigned, Ok, Err, ◌⊎◌, inl, inr, sym, ap, ap₂, subst, ◌∙◌, arith}
use Rattle.std.specs.Int.{w64}
use Rattle.std.proofs.lemmas.Int.{to_z-of_z}
use Rattle.std.proofs.lemmas.List.{length-take}
use Rattle.std.proofs.lemmas.Result.{err_from_is_err_and}
use Rattle.sgb_graph.specs.declared.refusal.Refusal.{Refusal}
use Rattle.sgb_graph.specs.declared.refusal.Refusal.TheVariants.{NoRoom, TooLarge, BadSpecs}
use Rattle.sgb_plan.specs.Listing.{listed, count_of}
use Rattle.sgb_plan.specs.Plan.{Plan, IsMade}
use Rattle.sgb_plan.proofs.Plans.{refused_before}
use Rattle.sgb_make.specs.declared.spec.BoardSpec.{BoardSpec}
use Rattle.sgb_make.specs.Board.{sizes_asked, piece_of, most_of_piece, sides_of, board_id, board_plan, plan_of_board}
use Rattle.sgb_make.specs.Private.Rank.{volume, cells, IsSmall}
use Rattle.sgb_make.specs.Private.Ridden.{ridden_plan}
use Rattle.sgb_make.proofs.BoardPlans.{positive-listed, too_many_sizes, too_large_piece, planned, board_plan_is, too_many_positions, few_positions}
use Rattle.sgb_make.proofs.Volumes.{ArePositive, small_sizes, small-sides_of, cells-sides_of, length-sides_of}
use Rattle.sgb_make.proofs.boards.board.Goals as goal

-- want of memory, or no plan
no_plan : (s : BoardSpec) (e : Refusal) → (e ≡ NoRoom) ⊎ ((e ≡ BadSpecs) × (20 < count_of 0 (sizes_asked s))) → IsMade (plan_of_board s) (Err e)
no_plan s e (inl room) = inl room
no_plan s e (inr many) =
    subst (λ p. IsMade p (Err e)) (sym (too_many_sizes s many.1))
    (subst (λ r. IsMade (Err BadSpecs) (Err r)) (sym many.0) (refused_before BadSpecs))

pub returns-in_err-coordinates-clause-made : goal.returns-in_err-coordinates-clause-made
returns-in_err-coordinates-clause-made c =
    let p = err_from_is_err_and c.from_residual.result c.from_residual.ensures.1 in
    rw (p.1, p.2)
    (no_plan c.args.spec.now c.in_err-coordinates.field-0.0
    (inr (c.in_err-coordinates.ensures.err.0, omega (arith, c.in_err-coordinates.ensures.err.1, ap (count_of 0) c.sizes_asked-numbers.ensures))))

pub returns-then-unsigned_abs-most_of_piece-clause-made : goal.returns-then-unsigned_abs-most_of_piece-clause-made
returns-then-unsigned_abs-most_of_piece-clause-made c =
    let s = c.args.spec.now in
    let sizes = c.in_ok-coordinates.ensures.list ∙ ap (listed 0) c.sizes_asked-numbers.ensures in
    let long : c.in_ok-coordinates.coordinates ≡ length (listed 0 (sizes_asked s)) = omega (arith, ap length sizes, length-take c.in_ok-coordinates.coordinates c.list_within.new.places, c.list_within.auto.places, c.in_ok-coordinates.ensures.few) in
    let piece : c.unsigned_abs.result ≡ unsigned_abs (piece_of s) = c.unsigned_abs.ensures.value ∙ ap unsigned_abs (to_z-of_z w64 c.piece_of-piece.result (record { sfits = c.piece_of-piece.type_inv }) ∙ c.piece_of-piece.ensures) in
    let most : c.most_of_piece.result ≡ most_of_piece (length (listed 0 (sizes_asked s))) = c.most_of_piece.ensures ∙ ap most_of_piece long in
    subst (λ p. IsMade p (Err BadSpecs)) (sym (too_large_piece s (omega (arith, c.if-unsigned_abs-most_of_piece.true, most, piece)))) (refused_before BadSpecs)

pub count_of-requires : goal.count_of-requires
count_of-requires c =
    subst ArePositive (sym (c.in_ok-coordinates.ensures.list ∙ ap (listed 0) c.sizes_asked-numbers.ensures)) (positive-listed 0 (sizes_asked c.args.spec.now))

-- what is known once the sizes and the piece are accepted
pub returns-in_err-count-clause-made : goal.returns-in_err-count-clause-made
returns-in_err-count-clause-made c =
    let p = err_from_is_err_and c.from_residual-in_err-count.result c.from_residual-in_err-count.ensures.1 in
    let s = c.args.spec.now in
    let sizes = c.in_ok-coordinates.ensures.list ∙ ap (listed 0) c.sizes_asked-numbers.ensures in
    let long : c.in_ok-coordinates.coordinates ≡ length (listed 0 (sizes_asked s)) = omega (arith, ap length sizes, length-take c.in_ok-coordinates.coordinates c.list_within.new.places, c.list_within.auto.places, c.in_ok-coordinates.ensures.few) in
    let piece : c.unsigned_abs.result ≡ unsigned_abs (piece_of s) = c.unsigned_abs.ensures.value ∙ ap unsigned_abs (to_z-of_z w64 c.piece_of-piece.result (record { sfits = c.piece_of-piece.type_inv }) ∙ c.piece_of-piece.ensures) in
    let most : c.most_of_piece.result ≡ most_of_piece (length (listed 0 (sizes_asked s))) = c.most_of_piece.ensures ∙ ap most_of_piece long in
    let plan = planned s (omega (arith, c.in_ok-coordinates.ensures.few, long)) (omega (arith, c.if-unsigned_abs-most_of_piece.false, most, piece)) in
    let many : 65535 < volume (listed 0 (sizes_asked s)) = subst (λ ns. 65535 < volume ns) sizes c.in_err-count.ensures.err.1 in
    rw (p.1, p.2)
    (subst (λ q. IsMade q (Err c.in_err-count.field-0.0)) (sym plan) (too_many_positions s (listed 0 (sizes_asked s)) c.in_err-count.field-0.0 c.in_err-count.ensures.err.0 many))

pub sides_of-requires-clause-small : goal.sides_of-requires-clause-small
sides_of-requires-clause-small c =
    let s = c.args.spec.now in
    let sizes = c.in_ok-coordinates.ensures.list ∙ ap (listed 0) c.sizes_asked-numbers.ensures in
    let count = c.in_ok-count.ensures.ok.0 ∙ ap volume sizes in
    subst (λ ns. All (λ n. n ≤ 65535) ns) (sym sizes)
    (small_sizes (listed 0 (sizes_asked s)) (positive-listed 0 (sizes_asked s)) (omega (arith, count, c.in_ok-count.ensures.ok.1)))

pub build-requires-clause-few : goal.build-requires-clause-few
build-requires-clause-few c =
    let s = c.args.spec.now in
    let sizes = c.in_ok-coordinates.ensures.list ∙ ap (listed 0) c.sizes_asked-numbers.ensures in
    let wrap : FitsSigned w64 s.wrap = search rules in
    let sides = c.in_ok-sides_of.ensures ∙ ap₂ sides_of (to_z-of_z w64 s.wrap wrap) sizes in
    omega (arith, ap length sides, length-sides_of s.wrap (listed 0 (sizes_asked s)), c.in_ok-coordinates.ensures.few, length-take c.in_ok-coordinates.coordinates c.list_within.new.places, ap length sizes)

pub build-requires-clause-small : goal.build-requires-clause-small
build-requires-clause-small c =
    let s = c.args.spec.now in
    let sizes = c.in_ok-coordinates.ensures.list ∙ ap (listed 0) c.sizes_asked-numbers.ensures in
    let count = c.in_ok-count.ensures.ok.0 ∙ ap volume sizes in
    let wrap : FitsSigned w64 s.wrap = search rules in
    subst IsSmall (sym (c.in_ok-sides_of.ensures ∙ ap₂ sides_of (to_z-of_z w64 s.wrap wrap) sizes))
    (small-sides_of s.wrap (listed 0 (sizes_asked s)) (positive-listed 0 (sizes_asked s)) (omega (arith, count, c.in_ok-count.ensures.ok.1)))

pub build-requires-clause-count : goal.build-requires-clause-count
build-requires-clause-count c =
    let s = c.args.spec.now in
    let sizes = c.in_ok-coordinates.ensures.list ∙ ap (listed 0) c.sizes_asked-numbers.ensures in
    let count = c.in_ok-count.ensures.ok.0 ∙ ap volume sizes in
    let wrap : FitsSigned w64 s.wrap = search rules in
    let sides = c.in_ok-sides_of.ensures ∙ ap₂ sides_of (to_z-of_z w64 s.wrap wrap) sizes in
    count ∙ (sym (cells-sides_of s.wrap (listed 0 (sizes_asked s))) ∙ sym (ap cells sides))

pub returns-clause-made : goal.returns-clause-made
returns-clause-made c =
    let s = c.args.spec.now in
    let sizes = c.in_ok-coordinates.ensures.list ∙ ap (listed 0) c.sizes_asked-numbers.ensures in
    let wrap : FitsSigned w64 s.wrap = search rules in
    let sides = c.in_ok-sides_of.ensures ∙ ap₂ sides_of (to_z-of_z w64 s.wrap wrap) sizes in
    let long : c.in_ok-coordinates.coordinates ≡ length (listed 0 (sizes_asked s)) = omega (arith, ap length sizes, length-take c.in_ok-coordinates.coordinates c.list_within.new.places, c.list_within.auto.places, c.in_ok-coordinates.ensures.few) in
    let piece : c.unsigned_abs.result ≡ unsigned_abs (piece_of s) = c.unsigned_abs.ensures.value ∙ ap unsigned_abs (to_z-of_z w64 c.piece_of-piece.result (record { sfits = c.piece_of-piece.type_inv }) ∙ c.piece_of-piece.ensures) in
    let most : c.most_of_piece.result ≡ most_of_piece (length (listed 0 (sizes_asked s))) = c.most_of_piece.ensures ∙ ap most_of_piece long in
    let plan = planned s (omega (arith, c.in_ok-coordinates.ensures.few, long)) (omega (arith, c.if-unsigned_abs-most_of_piece.false, most, piece)) in
    let rides : c.is_rider.result ≡ int_lt (piece_of s) (pos 0) = c.is_rider.ensures ∙ ap (λ z. int_lt z (pos 0)) (to_z-of_z w64 c.piece_of-piece.result (record { sfits = c.piece_of-piece.type_inv }) ∙ c.piece_of-piece.ensures) in
    let same : ridden_plan c.in_ok-id.id c.in_ok-sides_of.field-0.items c.is_rider.result c.unsigned_abs-2.result s.directed ≡ board_plan s (sides_of s.wrap (listed 0 (sizes_asked s))) =
    ap (λ id. ridden_plan id c.in_ok-sides_of.field-0.items c.is_rider.result c.unsigned_abs-2.result s.directed) c.in_ok-id.ensures.value
    ∙ (ap (λ ss. ridden_plan (board_id s) ss c.is_rider.result c.unsigned_abs-2.result s.directed) sides
    ∙ (ap₂ (λ r n. ridden_plan (board_id s) (sides_of s.wrap (listed 0 (sizes_asked s))) r n s.directed) rides (c.unsigned_abs-2.ensures.value ∙ ap unsigned_abs (to_z-of_z w64 c.piece_of-piece.result (record { sfits = c.piece_of-piece.type_inv }) ∙ c.piece_of-piece.ensures))
    ∙ board_plan_is s (sides_of s.wrap (listed 0 (sizes_asked s))))) in
    subst (λ q. IsMade q c.build.result) (sym plan) (subst (λ (q : Plan). IsMade (Ok q) c.build.result) same c.build.ensures)

-- a refusal of the arguments is no want of memory
pub returns-in_err-coordinates-clause-room : goal.returns-in_err-coordinates-clause-room
returns-in_err-coordinates-clause-room c = λ is.
    let p = err_from_is_err_and c.from_residual.result c.from_residual.ensures.1 in
    let refused = sym (p.1 ∙ ap (λ e. Err e) p.2) ∙ is in
    let same : c.in_err-coordinates.field-0.0 ≡ NoRoom = cc in
    let wrong : BadSpecs ≡ NoRoom = sym c.in_err-coordinates.ensures.err.0 ∙ same in
    absurd cc

pub returns-in_err-count-clause-room : goal.returns-in_err-count-clause-room
returns-in_err-count-clause-room c = λ is.
    let p = err_from_is_err_and c.from_residual-in_err-count.result c.from_residual-in_err-count.ensures.1 in
    let refused = sym (p.1 ∙ ap (λ e. Err e) p.2) ∙ is in
    let same : c.in_err-count.field-0.0 ≡ NoRoom = cc in
    let wrong : TooLarge ≡ NoRoom = sym c.in_err-count.ensures.err.0 ∙ same in
    absurd cc

pub returns-in_err-sides_of-clause-room : goal.returns-in_err-sides_of-clause-room
returns-in_err-sides_of-clause-room c = λ is.
    let s = c.args.spec.now in
    let sizes = c.in_ok-coordinates.ensures.list ∙ ap (listed 0) c.sizes_asked-numbers.ensures in
    let long : c.in_ok-coordinates.coordinates ≡ length (listed 0 (sizes_asked s)) = omega (arith, ap length sizes, length-take c.in_ok-coordinates.coordinates c.list_within.new.places, c.list_within.auto.places, c.in_ok-coordinates.ensures.few) in
    let piece : c.unsigned_abs.result ≡ unsigned_abs (piece_of s) = c.unsigned_abs.ensures.value ∙ ap unsigned_abs (to_z-of_z w64 c.piece_of-piece.result (record { sfits = c.piece_of-piece.type_inv }) ∙ c.piece_of-piece.ensures) in
    let most : c.most_of_piece.result ≡ most_of_piece (length (listed 0 (sizes_asked s))) = c.most_of_piece.ensures ∙ ap most_of_piece long in
    let count = c.in_ok-count.ensures.ok.0 ∙ ap volume sizes in
    few_positions s (omega (arith, c.in_ok-coordinates.ensures.few, long)) (omega (arith, c.if-unsigned_abs-most_of_piece.false, most, piece)) (omega (arith, count, c.in_ok-count.ensures.ok.1))

pub returns-in_err-id-clause-room : goal.returns-in_err-id-clause-room
returns-in_err-id-clause-room c = λ is.
    let s = c.args.spec.now in
    let sizes = c.in_ok-coordinates.ensures.list ∙ ap (listed 0) c.sizes_asked-numbers.ensures in
    let long : c.in_ok-coordinates.coordinates ≡ length (listed 0 (sizes_asked s)) = omega (arith, ap length sizes, length-take c.in_ok-coordinates.coordinates c.list_within.new.places, c.list_within.auto.places, c.in_ok-coordinates.ensures.few) in
    let piece : c.unsigned_abs.result ≡ unsigned_abs (piece_of s) = c.unsigned_abs.ensures.value ∙ ap unsigned_abs (to_z-of_z w64 c.piece_of-piece.result (record { sfits = c.piece_of-piece.type_inv }) ∙ c.piece_of-piece.ensures) in
    let most : c.most_of_piece.result ≡ most_of_piece (length (listed 0 (sizes_asked s))) = c.most_of_piece.ensures ∙ ap most_of_piece long in
    let count = c.in_ok-count.ensures.ok.0 ∙ ap volume sizes in
    few_positions s (omega (arith, c.in_ok-coordinates.ensures.few, long)) (omega (arith, c.if-unsigned_abs-most_of_piece.false, most, piece)) (omega (arith, count, c.in_ok-count.ensures.ok.1))

pub returns-clause-room : goal.returns-clause-room
returns-clause-room c = λ is.
    let s = c.args.spec.now in
    let sizes = c.in_ok-coordinates.ensures.list ∙ ap (listed 0) c.sizes_asked-numbers.ensures in
    let long : c.in_ok-coordinates.coordinates ≡ length (listed 0 (sizes_asked s)) = omega (arith, ap length sizes, length-take c.in_ok-coordinates.coordinates c.list_within.new.places, c.list_within.auto.places, c.in_ok-coordinates.ensures.few) in
    let piece : c.unsigned_abs.result ≡ unsigned_abs (piece_of s) = c.unsigned_abs.ensures.value ∙ ap unsigned_abs (to_z-of_z w64 c.piece_of-piece.result (record { sfits = c.piece_of-piece.type_inv }) ∙ c.piece_of-piece.ensures) in
    let most : c.most_of_piece.result ≡ most_of_piece (length (listed 0 (sizes_asked s))) = c.most_of_piece.ensures ∙ ap most_of_piece long in
    let count = c.in_ok-count.ensures.ok.0 ∙ ap volume sizes in
    few_positions s (omega (arith, c.in_ok-coordinates.ensures.few, long)) (omega (arith, c.if-unsigned_abs-most_of_piece.false, most, piece)) (omega (arith, count, c.in_ok-count.ensures.ok.1))
