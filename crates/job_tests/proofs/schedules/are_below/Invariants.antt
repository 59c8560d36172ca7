use Rattle.std.proofs.Common.{ℕ, ◌<◌, get_or}
use Rattle.job_tests.proofs.schedules.are_below.Given as goal

abbrev pub invariant-loop-event : goal.invariant-loop-event
invariant-loop-event l = (k d : ℕ) → k < l.event-index → get_or l.events k d < l.count
