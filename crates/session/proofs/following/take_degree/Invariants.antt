use Rattle.std.proofs.Common.{map}
use Rattle.pipe.specs.Pairs.{Pairwise}
use Rattle.session.specs.Seen.{KeepsSeen}
use Rattle.session.specs.SeenBy.{seen_by}
use Rattle.session.specs.Shared.{place_of, KeepsPlace}
use Rattle.session.proofs.SeenSteps.{IsPartly}
use Rattle.session.proofs.following.take_degree.Given as goal

abbrev pub invariant-loop-i : goal.invariant-loop-i
invariant-loop-i g l = record {
  kept : Pairwise KeepsPlace (map place_of l.initial.outer) (map place_of l.outer);
  same : KeepsSeen (seen_by l.initial.seen) (seen_by l.seen);
  partly : IsPartly l.r l.i (seen_by l.seen);
}
