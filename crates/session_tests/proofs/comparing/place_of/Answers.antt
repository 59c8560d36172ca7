use Rattle.std.proofs.Common.{arith}
use Rattle.comparison.proofs.ReadPolynomials.{is_read}
use Rattle.session_tests.proofs.comparing.place_of.Goals as goal

pub first_difference-requires-clause-known : goal.first_difference-requires-clause-known
first_difference-requires-clause-known g c =
    let low = c.if-block-known.true in (c.in-Some.ensures c.in-Ok.block.precision).0 (omega arith)

pub first_difference-requires-clause-read : goal.first_difference-requires-clause-read
first_difference-requires-clause-read g c =
    let view = c.args.view.now in
    let block = c.in-Ok.block in
    is_read (g.V.BlockView.value view) (g.V.NameView.names view) c.ring.result c.args.roots.now c.has_lead.result
    c.args.text.now block.precision block.lead block.factors.items c.ring.ensures c.requires c.has_lead.ensures
    c.in-Ok.ensures.block
