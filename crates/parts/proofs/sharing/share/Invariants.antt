use Rattle.std.proofs.Common.{◌≡◌, take}
use Rattle.parts.specs.RowsOfParts.{parts_of}
use Rattle.parts.proofs.sharing.share.Given as goal

abbrev pub invariant-loop-part : goal.invariant-loop-part
invariant-loop-part l = parts_of l.same.items ≡ parts_of (take l.part-index l.row)
