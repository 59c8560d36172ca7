use Rattle.std.proofs.Common.{◌≡◌, ◌-◌, length}
use Rattle.rows.specs.Writers.{IsSameRow, published_of}
use Rattle.rows.proofs.shared.RowWriter.publish.Given as goal

abbrev pub invariant-loop-self : goal.invariant-loop-self
invariant-loop-self g l =
    IsSameRow l.initial.self l.self × (published_of l.self ≡ published_of l.initial.self)

abbrev pub decreases-loop-self : goal.decreases-loop-self
decreases-loop-self g l = length l.self.items.items - l.self.handed
