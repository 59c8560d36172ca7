use Rattle.std.proofs.Common.{◌<◌, length, sym, subst, List, Result, Ok}
use Rattle.std.specs.Arc.{arc_value}
use Rattle.parts.specs.PartValue.{PartValue}
use Rattle.expr_reader.specs.NameLists.{as_names}
use Rattle.intake.specs.Jobs.{JobValue}
use Rattle.session.specs.SeenBy.{seen_by}
use Rattle.session.specs.Streams.{WritesDegree}
use Rattle.session.specs.declared.stream_fault.StreamFault.{StreamFault}
use Rattle.session.proofs.SeenSteps.{level_up_to}
use Rattle.session.proofs.StreamTexts.{degree_none, degree_begun, degree_written}
use Rattle.session.proofs.following.follow_degree.Goals as goal

pub returns-in_err-take_degree-clause-text : goal.returns-in_err-take_degree-clause-text
returns-in_err-take_degree-clause-text g c = degree_none (as_names c.args.seen.now.names)
    (arc_value c.args.seen.now.job) c.args.r c.from_residual.result (g.K.Sink.written c.args.sink.now)
    c.from_residual.ensures.0

pub write_degree-requires : goal.write_degree-requires
write_degree-requires g c = level_up_to (seen_by c.take_degree.new.seen) c.args.r c.take_degree.new.seen.holds
    c.take_degree.new.seen.fits c.in_ok-take_degree.ensures.level
    (subst (λ (l : List PartValue). c.args.r < length l) (sym c.take_degree.ensures.same.lead) c.requires.lead)

pub returns-in_err-write_degree-clause-text : goal.returns-in_err-write_degree-clause-text
returns-in_err-write_degree-clause-text g c =
    let s = seen_by c.take_degree.new.seen in
    subst (λ (j : JobValue). WritesDegree (as_names j.names) j.job c.args.r c.from_residual-in_err-write_degree.result
    (g.K.Sink.written c.args.sink.now) (g.K.Sink.written c.write_degree.new.sink))
    c.take_degree.ensures.same.job
    (degree_begun s c.take_degree.new.seen.holds c.take_degree.new.seen.fits c.args.r
    (level_up_to s c.args.r c.take_degree.new.seen.holds c.take_degree.new.seen.fits
    c.in_ok-take_degree.ensures.level
    (subst (λ (l : List PartValue). c.args.r < length l) (sym c.take_degree.ensures.same.lead) c.requires.lead))
    (as_names c.take_degree.new.seen.names) c.from_residual-in_err-write_degree.result c.in_err-write_degree.ensures
    c.from_residual-in_err-write_degree.ensures.0)

pub returns-clause-text : goal.returns-clause-text
returns-clause-text g c =
    let s = seen_by c.take_degree.new.seen in
    let done : Result (Unit {0}) StreamFault = Ok tt in
    subst (λ (j : JobValue). WritesDegree (as_names j.names) j.job c.args.r done
    (g.K.Sink.written c.args.sink.now) (g.K.Sink.written c.write_degree.new.sink))
    c.take_degree.ensures.same.job
    (degree_written s c.take_degree.new.seen.holds c.take_degree.new.seen.fits c.args.r
    (level_up_to s c.args.r c.take_degree.new.seen.holds c.take_degree.new.seen.fits
    c.in_ok-take_degree.ensures.level
    (subst (λ (l : List PartValue). c.args.r < length l) (sym c.take_degree.ensures.same.lead) c.requires.lead))
    (as_names c.take_degree.new.seen.names) tt c.in_ok-write_degree.ensures)
