use Rattle.std.proofs.Common.{◌∙◌, ap, sym, subst, arith, Err}
use Rattle.std.proofs.lemmas.Result.{err_from_is_err_and}
use Rattle.script.specs.Checking.{Reads}
use Rattle.commands.specs.Checks.{IsTold, Ends}
use Rattle.commands.specs.Telling.{Tells, check_status}
use Rattle.commands.proofs.BlockRaised.{block_permitted, raised_more, raised_most, raised_steps, raised_known}
use Rattle.commands.proofs.BlockRaised.{raised_read, raised_compared}
use Rattle.commands.proofs.CheckTold.{no_memory_told}
use Rattle.commands.proofs.BlockTold.{stopped_told, verdict_told}
use Rattle.commands.proofs.judging.compare.Goals as goal

pub returns-in_err-session : goal.returns-in_err-session
returns-in_err-session g c = λ text first next block.
    let p = err_from_is_err_and c.from_residual.result c.from_residual.ensures.1 in
    let written = g.K.Sink.written c.args.sink.now in
    let faults = g.K.Sink.faults c.args.sink.now in
    let told = IsTold (Reads c.args.job.names c.args.job.job first text) next Ends in
    subst (λ n. Tells told n written written faults faults c.args.tally.now c.args.tally.now)
    (sym (ap check_status (p.1 ∙ ap Err p.2))) (no_memory_told told written faults c.args.tally.now)

pub raise-requires-clause-permitted : goal.raise-requires-clause-permitted
raise-requires-clause-permitted g c κs = block_permitted c.args.job c.requires.accepted _ c.in_ok-session.ensures _
    c.requires.read.0 _ _ c.requires.read.1

pub returns-in_err-raise : goal.returns-in_err-raise
returns-in_err-raise g c = λ text first next block.
    let p = err_from_is_err_and c.from_residual-in_err-raise.result c.from_residual-in_err-raise.ensures.1 in
    let written = g.K.Sink.written c.args.sink.now in
    let faults = g.K.Sink.faults c.args.sink.now in
    let told = IsTold (Reads c.args.job.names c.args.job.job first text) next Ends in
    subst (λ n. Tells told n written written faults faults c.args.tally.now c.raise.new.tally)
    (sym (ap check_status (p.1 ∙ ap Err p.2)))
    (stopped_told c.args.job.names c.args.job.job c.requires.accepted c.requires.names block.0 block.1 block.2 first
    next
    text c.args.block.now.precision c.args.block.now.lead c.args.block.now.factors.items block.3 written faults
    c.args.tally.now c.raise.new.tally
    (raised_more c.args.job c.requires.accepted _ c.in_ok-session.ensures c.args.block.now.precision
    c.in_ok-session.session.holds _ c.in_err-raise.ensures.kept _ _ c.in_err-raise.ensures.ticks)
    (raised_most c.args.job c.requires.accepted _ c.in_ok-session.ensures c.args.block.now.precision
    c.in_ok-session.session.holds _ c.in_err-raise.ensures.kept _ _ c.in_err-raise.ensures.ticks
    c.in_err-raise.ensures.within))

pub first_difference-requires-clause-known : goal.first_difference-requires-clause-known
first_difference-requires-clause-known g c = raised_known c.args.job c.requires.accepted _ c.in_ok-session.ensures _
    c.in_ok-session.session.holds _ c.in_ok-raise.ensures.kept c.raise.new.self.holds c.raise.new.self.fits
    c.in_ok-raise.ensures.ok

pub first_difference-requires-clause-read : goal.first_difference-requires-clause-read
first_difference-requires-clause-read g c = raised_read c.args.job c.requires.accepted _ c.in_ok-session.ensures _
    c.in_ok-session.session.holds _ c.in_ok-raise.ensures.kept c.raise.new.self.holds c.raise.new.self.fits
    c.in_ok-raise.ensures.ok c.requires.read.0 _ _ c.requires.read.1

pub returns-in_err-place : goal.returns-in_err-place
returns-in_err-place g c = λ text first next block.
    let p = err_from_is_err_and c.from_residual-in_err-place.result c.from_residual-in_err-place.ensures.1 in
    let written = g.K.Sink.written c.args.sink.now in
    let faults = g.K.Sink.faults c.args.sink.now in
    let told = IsTold (Reads c.args.job.names c.args.job.job first text) next Ends in
    let spends = raised_steps c.args.job c.requires.accepted _ c.in_ok-session.ensures c.args.block.now.precision
    c.in_ok-session.session.holds _ c.in_ok-raise.ensures.kept c.args.tally.now c.raise.new.tally
    c.in_ok-raise.ensures.ticks c.raise.new.self.holds c.raise.new.self.fits c.in_ok-raise.ensures.ok in
    subst (λ n. Tells told n written written faults faults c.args.tally.now c.raise.new.tally)
    (sym (ap check_status (p.1 ∙ ap Err p.2)))
    (stopped_told c.args.job.names c.args.job.job c.requires.accepted c.requires.names block.0 block.1 block.2 first
    next
    text c.args.block.now.precision c.args.block.now.lead c.args.block.now.factors.items block.3 written faults
    c.args.tally.now c.raise.new.tally (omega (arith, spends)) (omega (arith, spends)))

pub returns : goal.returns
returns g c = λ text first next block.
    let spends = raised_steps c.args.job c.requires.accepted _ c.in_ok-session.ensures c.args.block.now.precision
    c.in_ok-session.session.holds _ c.in_ok-raise.ensures.kept c.args.tally.now c.raise.new.tally
    c.in_ok-raise.ensures.ticks c.raise.new.self.holds c.raise.new.self.fits c.in_ok-raise.ensures.ok in
    let compared = raised_compared c.args.job c.requires.accepted _ c.in_ok-session.ensures c.args.block.now.precision
    c.in_ok-session.session.holds _ c.in_ok-raise.ensures.kept c.raise.new.self.holds c.raise.new.self.fits
    c.in_ok-raise.ensures.ok text c.args.block.now.lead c.args.block.now.factors.items block c.in_ok-place.place
    c.in_ok-place.ensures in
    verdict_told c.args.job.names c.args.job.job c.requires.accepted c.requires.names compared.0 compared.1 compared.2
    first next text c.args.block.now.precision c.in_ok-place.place compared.3 c.args.tally.now c.raise.new.tally spends
    c.write_verdict.result _ _ _ _ c.write_verdict.ensures
