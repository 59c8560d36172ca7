use Rattle.std.proofs.Common.{ℕ, ◌<◌, map, None}
use Rattle.std.specs.Prelude.{◌≢◌}
use Rattle.session.specs.Shared.{place_of, reader_at}
use Rattle.session.proofs.shared.Session+RowWriter+StageItem.has_readers.Given as goal

abbrev pub invariant-loop-i : goal.invariant-loop-i
invariant-loop-i l = (j : ℕ) → j < l.i → reader_at (map place_of l.self.outer.items) j ≢ None
