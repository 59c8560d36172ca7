use Rattle.std.proofs.Common.{arith}
use Rattle.std.proofs.lemmas.List.{length-map}
use Rattle.std.specs.Arc.{arc_value}
use Rattle.parts.specs.RowsOfParts.{parts_of}
use Rattle.prepare.proofs.Grown.{so_far-row}
use Rattle.prepare_speed.proofs.rows.row_of.Goals as goal

pub returns : goal.returns
returns c =
    let long = length-map c.loop-j.row.items arc_value in
    let count = c.loop-j.invariant.count in
    so_far-row c.args.powers.now.ring c.args.degree 8 (parts_of c.loop-j.row.items) (omega arith)
    c.loop-j.invariant.parts
