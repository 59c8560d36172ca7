use Rattle.std.proofs.Common.{◌≡◌, ◌+◌}
use Rattle.parts.specs.RowsOfParts.{parts_in}
use Rattle.prepare_speed.specs.Prepared.{IsPreparationOf}
use Rattle.prepare_speed.proofs.prepared.Given as goal

abbrev pub invariant-loop-r : goal.invariant-loop-r
invariant-loop-r l = record {
  tally : l.tally ≡ l.fn.tally + l.r;
  prep : IsPreparationOf l.fn.ring (parts_in l.fn.rows) l.r l.prep;
}
