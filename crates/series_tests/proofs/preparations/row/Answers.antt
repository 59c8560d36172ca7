use Rattle.std.proofs.Common.{◌-◌, length, arith}
use Rattle.std.proofs.lemmas.List.{length-map}
use Rattle.std.specs.Arc.{arc_value}
use Rattle.parts.specs.RowsOfParts.{parts_of}
use Rattle.prepare.proofs.Grown.{so_far-row}
use Rattle.series_tests.proofs.preparations.row.Goals as goal

pub returns-clause-row : goal.returns-clause-row
returns-clause-row c =
    let long = length-map c.loop-c.row.items arc_value in
    let count = c.loop-c.invariant.count in
    so_far-row c.args.ring c.args.part.now.degree (length c.loop-c.row.items - 1) (parts_of c.loop-c.row.items)
    (omega arith) c.loop-c.invariant.parts
