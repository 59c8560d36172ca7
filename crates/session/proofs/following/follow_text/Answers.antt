use Rattle.std.proofs.Common.{map, sym, ◌∙◌, subst, arith, Result, Err, Ok}
use Rattle.std.specs.Arc.{arc_value}
use Rattle.expr_reader.specs.NameLists.{as_names}
use Rattle.intake.specs.Jobs.{JobValue}
use Rattle.session.specs.SeenBy.{seen_by}
use Rattle.session.specs.Shared.{place_of, ArePlacesOf}
use Rattle.session.specs.Streams.{WritesDegree}
use Rattle.session.specs.declared.stream_fault.StreamFault.{StreamFault}
use Rattle.session.proofs.SeenSteps.{seen_same, seen_twice, places_kept, places_twice}
use Rattle.session.proofs.SharedRows.{places_same}
use Rattle.session.proofs.StreamTexts.{first_begun, first_written, next_begun, next_written, end_begun, end_written}
use Rattle.session.proofs.following.follow_text.Goals as goal

pub returns-in_err-write_first_line-clause-text : goal.returns-in_err-write_first_line-clause-text
returns-in_err-write_first_line-clause-text g c = first_begun (as_names c.args.seen.now.names)
    (arc_value c.args.seen.now.job) c.args.to c.from_residual.result (g.K.Sink.written c.args.sink.now)
    (g.K.Sink.written c.write_first_line.new.sink) c.from_residual.ensures.0 c.in_err-write_first_line.ensures.err

pub loop-r-init : goal.loop-r-init
loop-r-init g c = record {
  kept = places_same (map place_of c.args.outer.now);
  same = seen_same (seen_by c.args.seen.now);
  level = c.requires.level;
  left = first_written (as_names c.args.seen.now.names) (arc_value c.args.seen.now.job) c.args.to
      (g.K.Sink.written c.args.sink.now) (g.K.Sink.written c.write_first_line.new.sink)
      c.in_ok-write_first_line.ensures.ok;
  calm = c.in_ok-write_first_line.ensures.no_fault;
}

pub follow_degree-requires-clause-readers : goal.follow_degree-requires-clause-readers
follow_degree-requires-clause-readers g c =
    subst (λ (j : JobValue). ArePlacesOf j.job (map place_of c.loop-r.outer)) (sym c.loop-r.invariant.same.job)
    (places_kept (arc_value c.args.seen.now.job) (map place_of c.args.outer.now) (map place_of c.loop-r.outer)
    c.loop-r.invariant.kept c.requires.readers)

pub returns-in_err-follow_degree-clause-kept : goal.returns-in_err-follow_degree-clause-kept
returns-in_err-follow_degree-clause-kept g c = places_twice (map place_of c.args.outer.now)
    (map place_of c.loop-r.outer) (map place_of c.follow_degree.new.outer) c.loop-r.invariant.kept
    c.follow_degree.ensures.kept

pub returns-in_err-follow_degree-clause-text : goal.returns-in_err-follow_degree-clause-text
returns-in_err-follow_degree-clause-text g c =
    let answer : Result (Unit {0}) StreamFault = Err c.in_err-follow_degree.field-0.0 in
    next_begun (as_names c.args.seen.now.names)
    (arc_value c.args.seen.now.job) c.args.to (g.K.Sink.written c.args.sink.now) (g.K.Sink.written c.loop-r.sink)
    (g.K.Sink.written c.follow_degree.new.sink) c.loop-r.r (let low = c.loop-r-test.true in omega arith)
    c.loop-r.invariant.left c.from_residual-in_err-follow_degree.result
    c.from_residual-in_err-follow_degree.ensures.0
    (subst (λ (j : JobValue). WritesDegree (as_names j.names) j.job c.loop-r.r answer (g.K.Sink.written c.loop-r.sink)
    (g.K.Sink.written c.follow_degree.new.sink)) c.loop-r.invariant.same.job c.in_err-follow_degree.ensures.text)

pub loop-r-preserved : goal.loop-r-preserved
loop-r-preserved g c =
    let answer : Result (Unit {0}) StreamFault = Ok c.in_ok-follow_degree.field-0 in
    record {
      kept = places_twice (map place_of c.args.outer.now) (map place_of c.loop-r.outer)
          (map place_of c.follow_degree.new.outer) c.loop-r.invariant.kept c.follow_degree.ensures.kept;
      same = seen_twice (seen_by c.args.seen.now) (seen_by c.loop-r.seen) (seen_by c.follow_degree.new.seen)
          c.loop-r.invariant.same c.follow_degree.ensures.same;
      level = c.in_ok-follow_degree.ensures.level;
      left = next_written (as_names c.args.seen.now.names) (arc_value c.args.seen.now.job) c.args.to
          (g.K.Sink.written c.args.sink.now) (g.K.Sink.written c.loop-r.sink) (g.K.Sink.written c.follow_degree.new.sink)
          c.loop-r.r (let low = c.loop-r-test.true in omega arith) c.loop-r.invariant.left
          (subst (λ (j : JobValue). WritesDegree (as_names j.names) j.job c.loop-r.r answer (g.K.Sink.written c.loop-r.sink)
          (g.K.Sink.written c.follow_degree.new.sink)) c.loop-r.invariant.same.job c.in_ok-follow_degree.ensures.text);
      calm = c.in_ok-follow_degree.ensures.faults.no_fault ∙ c.loop-r.invariant.calm;
    }

pub returns-in_err-put-clause-text : goal.returns-in_err-put-clause-text
returns-in_err-put-clause-text g c = end_begun (as_names c.args.seen.now.names) (arc_value c.args.seen.now.job)
    c.args.to (g.K.Sink.written c.args.sink.now) (g.K.Sink.written c.loop-r.sink) (g.K.Sink.written c.put.new.sink)
    c.loop-r.r (let past = c.loop-r-test.false in omega arith) c.loop-r.invariant.left
    c.from_residual-in_err-put.result c.from_residual-in_err-put.ensures.0 c.in_err-put.ensures.err

pub returns-clause-text : goal.returns-clause-text
returns-clause-text g c = end_written (as_names c.args.seen.now.names) (arc_value c.args.seen.now.job)
    c.args.to (g.K.Sink.written c.args.sink.now) (g.K.Sink.written c.loop-r.sink) (g.K.Sink.written c.put.new.sink)
    c.loop-r.r (let past = c.loop-r-test.false in omega arith) c.loop-r.invariant.left tt c.in_ok-put.ensures.ok
