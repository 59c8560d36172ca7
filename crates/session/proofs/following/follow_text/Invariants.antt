use Rattle.std.proofs.Common.{◌≡◌, map}
use Rattle.expr_reader.specs.NameLists.{as_names}
use Rattle.pipe.specs.Pairs.{Pairwise}
use Rattle.session.specs.Seen.{KeepsSeen, IsLevel}
use Rattle.session.specs.SeenBy.{seen_by}
use Rattle.session.specs.Shared.{place_of, KeepsPlace}
use Rattle.session.proofs.StreamTexts.{Leaves}
use Rattle.session.proofs.following.follow_text.Given as goal

abbrev pub invariant-loop-r : goal.invariant-loop-r
invariant-loop-r g l =
    let job = (seen_by l.fn.seen).job in record {
      kept : Pairwise KeepsPlace (map place_of l.initial.outer) (map place_of l.outer);
      same : KeepsSeen (seen_by l.initial.seen) (seen_by l.seen);
      level : IsLevel l.r (seen_by l.seen);
      left : Leaves (as_names job.names) job.job l.to (g.K.Sink.written l.fn.sink) (g.K.Sink.written l.sink) l.r;
      calm : g.K.Sink.faults l.sink ≡ g.K.Sink.faults l.fn.sink;
    }
