use Rattle.std.proofs.Common.{◌++◌, length, ap, ◌∙◌, arith}
use Rattle.std.specs.List.{flat_map, range_with_len}
use Rattle.sgb_make.specs.Ride.{moved}
use Rattle.sgb_make.specs.Private.Link.{part_of, row_of, rows_of}
use Rattle.sgb_make.proofs.Links.{row_is_few}
use Rattle.sgb_make.proofs.Rows.{joined_more}
use Rattle.sgb_make.proofs.link.append_rows.Goals as goal

pub append_row-requires-clause-few : goal.append_row-requires-clause-few
append_row-requires-clause-few c =
    row_is_few c.args.side c.loop-x.x (length c.args.behind.now) (part_of c.args.step) c.moved.result (omega arith) c.requires.few c.moved.ensures

pub loop-x-preserved : goal.loop-x-preserved
loop-x-preserved c =
    joined_more (λ x. row_of (moved c.args.side x (part_of c.args.step)) c.args.behind.now) c.args.table.now.items c.loop-x.table.items c.append_row.new.table.items c.loop-x.x c.loop-x.invariant
    (c.in_ok-append_row.ensures ∙ ap (λ o. c.loop-x.table.items ++ row_of o c.args.behind.now) c.moved.ensures)

pub returns : goal.returns
unfolding rows_of
returns c =
    c.loop-x.invariant
    ∙ ap (λ k. c.args.table.now.items ++ flat_map (λ x. row_of (moved c.args.side x (part_of c.args.step)) c.args.behind.now) (range_with_len 0 k)) (omega arith)
