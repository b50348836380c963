use Rattle.std.proofs.Common.{◌≡◌, ◌∷◌, [], pos, nat_lt, true, false, ap, arith}
use Rattle.std.specs.List.{slice_index}
use Rattle.std.proofs.lemmas.Bool.{lt-ltb, le-ltb}
use Rattle.std.proofs.lemmas.List.{get_or_read}
use Rattle.sgb_graph.specs.Builder.{insertion}
use Rattle.sgb_simplex.specs.Points.{points}
use Rattle.sgb_simplex.specs.Moves.{move_from}
use Rattle.sgb_simplex.proofs.MoveInsertions.{none_inserted, some_inserted}
use Rattle.sgb_simplex.proofs.moves.insert_move.Goals as goal

pub returns-then-point-k : goal.returns-then-point-k
returns-then-point-k c =
    let list = c.args.list.now in
    let bound : c.index.result.now ≡ slice_index list.bounds.items c.args.k = get_or_read list.bounds.items c.args.k c.index.result.now c.requires.inside c.index.ensures 0 in
    let full : nat_lt (slice_index c.args.point.now c.args.k) (slice_index list.bounds.items c.args.k) ≡ false = le-ltb (slice_index c.args.point.now c.args.k) (slice_index list.bounds.items c.args.k) (omega (arith, bound)) in
    none_inserted c.args.builder.now (nat_lt (slice_index c.args.point.now c.args.k) (slice_index list.bounds.items c.args.k)) (move_from (points list.total list.bounds.items) c.args.v c.args.point.now c.args.j c.args.k ∷ []) full

pub returns : goal.returns
returns c =
    let list = c.args.list.now in
    let bound : c.index.result.now ≡ slice_index list.bounds.items c.args.k = get_or_read list.bounds.items c.args.k c.index.result.now c.requires.inside c.index.ensures 0 in
    let room : nat_lt (slice_index c.args.point.now c.args.k) (slice_index list.bounds.items c.args.k) ≡ true = lt-ltb (slice_index c.args.point.now c.args.k) (slice_index list.bounds.items c.args.k) (omega (arith, bound)) in
    some_inserted c.args.builder.now c.insert.new.self (nat_lt (slice_index c.args.point.now c.args.k) (slice_index list.bounds.items c.args.k)) (insertion c.number_of_moved-from.result c.args.v (pos 1) ∷ []) (move_from (points list.total list.bounds.items) c.args.v c.args.point.now c.args.j c.args.k ∷ []) c.insert.result room
    (ap (λ from. insertion from c.args.v (pos 1) ∷ []) c.number_of_moved-from.ensures.value) c.insert.ensures.value
