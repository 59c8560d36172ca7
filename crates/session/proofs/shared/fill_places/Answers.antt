use Rattle.std.proofs.Common.{arith}
use Rattle.session.proofs.SharedRows.{moved_on}
use Rattle.session.proofs.shared.fill_places.Goals as goal

pub loop-reader-preserved : goal.loop-reader-preserved
loop-reader-preserved c = record {
  moved = moved_on _ _ _ _ _ _ c.loop-reader.invariant.moved c.in-Some.ensures.items c.push_reserved.ensures.items;
  room = omega (arith, c.in-Some.ensures.len);
}
