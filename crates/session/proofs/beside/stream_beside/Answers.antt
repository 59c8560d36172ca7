use Rattle.std.proofs.Common.{ap}
use Rattle.std.specs.Arc.{arc_value}
use Rattle.expr_reader.specs.NameLists.{as_names}
use Rattle.session.specs.SeenBy.{seen_by}
use Rattle.session.proofs.StreamTexts.{outcome_streams, same_stream}
use Rattle.session.proofs.beside.stream_beside.Goals as goal

pub returns-in-Some-clause-text : goal.returns-in-Some-clause-text
returns-in-Some-clause-text g c = outcome_streams (as_names c.args.seen.now.names)
    (arc_value c.args.seen.now.job) c.args.to c.in-Some.written c.both-raised.result.0 c.outcome.result
    (g.K.Sink.written c.args.sink.now) (g.K.Sink.written c.both-raised.new.sink) c.outcome.ensures
    (rw c.in-Some.is at c.both-raised.ensures.text)

-- nothing was written beside the raise
pub returns-clause-text : goal.returns-clause-text
returns-clause-text g c =
    let none = c.both-raised.ensures.none c.in-None.is in
    outcome_streams (as_names c.args.seen.now.names) (arc_value c.args.seen.now.job) c.args.to
    c.follow_stream-written.result c.both-raised.result.0 c.outcome-in-None.result (g.K.Sink.written c.args.sink.now)
    (g.K.Sink.written c.follow_stream-written.new.sink) c.outcome-in-None.ensures
    (same_stream c.args.to c.follow_stream-written.result (seen_by c.both-raised.new.seen) (seen_by c.args.seen.now)
    (g.K.Sink.written c.both-raised.new.sink) (g.K.Sink.written c.args.sink.now)
    (g.K.Sink.written c.follow_stream-written.new.sink) (ap seen_by none.1) (ap g.K.Sink.written none.2)
    c.follow_stream-written.ensures.text)
