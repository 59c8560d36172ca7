use Rattle.demo.proofs.RaisedNumbers.{job_accepted, job_named, may_raise, raised_job, raised_known, raised_more}
use Rattle.demo.proofs.RaisedNumbers.{raised_most, raised_steps}
use Rattle.demo.proofs.raising.raised.Goals as goal

pub open-requires-clause-accepted : goal.open-requires-clause-accepted
open-requires-clause-accepted c = job_accepted c.args.seed c.in_ok-job.job c.in_ok-job.ensures

pub open-requires-clause-names : goal.open-requires-clause-names
open-requires-clause-names c = job_named c.args.seed c.in_ok-job.job c.in_ok-job.ensures

pub raise-requires-clause-permitted : goal.raise-requires-clause-permitted
raise-requires-clause-permitted c = λ κs.
    may_raise c.args.seed c.in_ok-job.job c.in_ok-job.ensures _ c.in_ok-session.ensures

pub returns-in_err-raise-clause-more : goal.returns-in_err-raise-clause-more
returns-in_err-raise-clause-more c =
    raised_more c.args.seed c.in_ok-job.job c.in_ok-job.ensures _ c.in_ok-session.ensures
    c.in_ok-session.session.holds _ c.in_err-raise.ensures.kept _ _
    c.in_err-raise.ensures.ticks

pub returns-in_err-raise-clause-at_most : goal.returns-in_err-raise-clause-at_most
returns-in_err-raise-clause-at_most c =
    raised_most c.args.seed c.in_ok-job.job c.in_ok-job.ensures _ c.in_ok-session.ensures
    c.in_ok-session.session.holds _ c.in_err-raise.ensures.kept _ _
    c.in_err-raise.ensures.ticks c.in_err-raise.ensures.within

pub returns-clause-job : goal.returns-clause-job
returns-clause-job c = raised_job c.args.seed c.in_ok-job.job c.in_ok-job.ensures _ c.in_ok-session.ensures
    c.in_ok-session.session.holds _ c.in_ok-raise.ensures.kept

pub returns-clause-known : goal.returns-clause-known
returns-clause-known c = raised_known c.args.seed c.in_ok-job.job c.in_ok-job.ensures _ c.in_ok-session.ensures
    c.in_ok-session.session.holds _ c.in_ok-raise.ensures.kept
    c.raise.new.self.holds c.raise.new.self.fits c.in_ok-raise.ensures.ok

pub returns-clause-steps : goal.returns-clause-steps
returns-clause-steps c = raised_steps c.args.seed c.in_ok-job.job c.in_ok-job.ensures _ c.in_ok-session.ensures
    c.in_ok-session.session.holds _ c.in_ok-raise.ensures.kept _ _
    c.in_ok-raise.ensures.ticks c.raise.new.self.holds c.in_ok-raise.ensures.ok

pub returns-clause-more : goal.returns-clause-more
returns-clause-more c = raised_more c.args.seed c.in_ok-job.job c.in_ok-job.ensures _ c.in_ok-session.ensures
    c.in_ok-session.session.holds _ c.in_ok-raise.ensures.kept _ _
    c.in_ok-raise.ensures.ticks

pub returns-clause-at_most : goal.returns-clause-at_most
returns-clause-at_most c = raised_most c.args.seed c.in_ok-job.job c.in_ok-job.ensures _ c.in_ok-session.ensures
    c.in_ok-session.session.holds _ c.in_ok-raise.ensures.kept _ _
    c.in_ok-raise.ensures.ticks c.in_ok-raise.ensures.within
