use Rattle.std.proofs.Common.{◌∙◌, ap, sym, subst, refl, Err, Ok}
use Rattle.std.proofs.lemmas.Result.{err_from_is_err_and}
use Rattle.script.specs.Script.{Has}
use Rattle.script.specs.declared.request.Request.{Request}
use Rattle.script.specs.declared.request.Request.TheVariants.{Show, Stream}
use Rattle.commands.specs.declared.command.ScriptCommand.TheVariants.{Factor}
use Rattle.commands.specs.declared.stop.Stop.TheVariants.{OutOfMemory, WriteFault}
use Rattle.commands.specs.Factorings.{AnswersFactors, factoring_of}
use Rattle.commands.specs.SharedStates.{state_of}
use Rattle.commands.proofs.FactoringSteps.{known, answers, factors_stopped, factors_answered, even_behind}
use Rattle.commands.proofs.PipelineSteps.{readers_kept, stream_stopped, stream_written}
use Rattle.commands.proofs.Replied.{answered, not_written, not_begun}
use Rattle.commands.proofs.pipeline.answer_request.Goals as goal

pub returns-in_err-raise_pipe-in-Show-clause-answers : goal.returns-in_err-raise_pipe-in-Show-clause-answers
returns-in_err-raise_pipe-in-Show-clause-answers g c =
    let old = state_of c.args.session.now in
    let new = state_of c.raise_pipe.new.self in
    let D = c.in-Show.precision in
    let raised = c.in_err-raise_pipe-in-Show.ensures in
    let p = err_from_is_err_and c.from_residual.result c.from_residual.ensures.1 in
    let is = p.1 ∙ ap Err p.2 in
    subst (λ (r : Request). AnswersFactors (factoring_of old) (factoring_of new) r c.from_residual.result
    (g.K.Sink.written c.args.sink.now) (g.K.Sink.written c.args.sink.now) (g.K.Sink.faults c.args.sink.now)
    (g.K.Sink.faults c.args.sink.now) c.args.tally.now c.raise_pipe.new.tally) (sym c.in-Show.is)
    (factors_stopped old new c.requires.even c.args.session.now.holds (Show D) D refl raised.kept _ _ raised.ticks
    raised.within c.from_residual.result OutOfMemory is _ _ _ _
    (not_begun Factor (Has old.job.names old.job.job) (Show D) _ _ c.from_residual.result is))

pub write_block-requires : goal.write_block-requires
write_block-requires g c =
    let old = state_of c.args.session.now in
    let new = state_of c.raise_pipe.new.self in
    let D = c.in-Show.precision in
    let raised = c.in_ok-raise_pipe-in-Show.ensures in
    known (factoring_of old) old new refl c.requires.even c.args.session.now.holds (Show D) D refl raised.kept
    c.raise_pipe.new.self.holds c.raise_pipe.new.self.fits raised.ok

pub returns-in_err-write_block-in-Show-clause-answers : goal.returns-in_err-write_block-in-Show-clause-answers
returns-in_err-write_block-in-Show-clause-answers g c =
    let old = state_of c.args.session.now in
    let new = state_of c.raise_pipe.new.self in
    let D = c.in-Show.precision in
    let raised = c.in_ok-raise_pipe-in-Show.ensures in
    let p = err_from_is_err_and c.from_residual-in_err-write_block-in-Show.result
    c.from_residual-in_err-write_block-in-Show.ensures.1 in
    let is = p.1 ∙ ap Err p.2 in
    let only = answers (factoring_of old) old new refl c.requires.even c.args.session.now.holds (Show D) D refl
    raised.kept c.raise_pipe.new.self.holds c.raise_pipe.new.self.fits raised.ok in
    subst (λ (r : Request). AnswersFactors (factoring_of old) (factoring_of new) r
    c.from_residual-in_err-write_block-in-Show.result
    (g.K.Sink.written c.args.sink.now) (g.K.Sink.written c.write_block.new.sink) (g.K.Sink.faults c.args.sink.now)
    (g.K.Sink.faults c.write_block.new.sink) c.args.tally.now c.raise_pipe.new.tally) (sym c.in-Show.is)
    (factors_stopped old new c.requires.even c.args.session.now.holds (Show D) D refl raised.kept _ _ raised.ticks
    raised.within c.from_residual-in_err-write_block-in-Show.result WriteFault is _ _ _ _
    (not_written Factor (Has old.job.names old.job.job) (Show D) _ c.from_residual-in_err-write_block-in-Show.result is
    only c.in_err-write_block-in-Show.ensures))

pub returns-in_ok-write_block-in-Show-clause-answers : goal.returns-in_ok-write_block-in-Show-clause-answers
returns-in_ok-write_block-in-Show-clause-answers g c =
    let old = state_of c.args.session.now in
    let new = state_of c.raise_pipe.new.self in
    let D = c.in-Show.precision in
    let raised = c.in_ok-raise_pipe-in-Show.ensures in
    let only = answers (factoring_of old) old new refl c.requires.even c.args.session.now.holds (Show D) D refl
    raised.kept c.raise_pipe.new.self.holds c.raise_pipe.new.self.fits raised.ok in
    subst (λ (r : Request). AnswersFactors (factoring_of old) (factoring_of new) r (Ok tt)
    (g.K.Sink.written c.args.sink.now) (g.K.Sink.written c.write_block.new.sink) (g.K.Sink.faults c.args.sink.now)
    (g.K.Sink.faults c.write_block.new.sink) c.args.tally.now c.raise_pipe.new.tally) (sym c.in-Show.is)
    (factors_answered old new c.requires.even c.args.session.now.holds (Show D) D refl raised.kept _ _ raised.ticks
    raised.within c.raise_pipe.new.self.holds c.raise_pipe.new.self.fits raised.ok tt _ _ _ _
    (answered Factor (Has old.job.names old.job.job) (Show D) _ tt only c.in_ok-write_block-in-Show.ensures))

pub returns-in_err-stream_pipe-in-Stream-clause-answers : goal.returns-in_err-stream_pipe-in-Stream-clause-answers
returns-in_err-stream_pipe-in-Stream-clause-answers g c =
    let old = state_of c.args.session.now in
    let new = state_of c.stream_pipe.new.self in
    let D = c.in-Stream.precision in
    let raised = c.in_err-stream_pipe-in-Stream.ensures in
    let p = err_from_is_err_and c.from_residual-in_err-stream_pipe-in-Stream.result
    c.from_residual-in_err-stream_pipe-in-Stream.ensures.1 in
    let is = p.1 ∙ ap Err p.2 in
    subst (λ (r : Request). AnswersFactors (factoring_of old) (factoring_of new) r
    c.from_residual-in_err-stream_pipe-in-Stream.result
    (g.K.Sink.written c.args.sink.now) (g.K.Sink.written c.stream_pipe.new.sink) (g.K.Sink.faults c.args.sink.now)
    (g.K.Sink.faults c.stream_pipe.new.sink) c.args.tally.now c.stream_pipe.new.tally) (sym c.in-Stream.is)
    (factors_stopped old new c.requires.even c.args.session.now.holds (Stream D) D refl raised.kept _ _ raised.ticks
    raised.within c.from_residual-in_err-stream_pipe-in-Stream.result _ is _ _ _ _
    (stream_stopped old c.args.session.now.holds D _ _ _ _ c.in_err-stream_pipe-in-Stream.field-0.0
    c.from_residual-in_err-stream_pipe-in-Stream.result is raised.text raised.faults))

pub returns-in_err-stream_pipe-in-Stream-clause-readers : goal.returns-in_err-stream_pipe-in-Stream-clause-readers
returns-in_err-stream_pipe-in-Stream-clause-readers g c = readers_kept _ _ _ c.in_err-stream_pipe-in-Stream.ensures.outer
    c.requires.readers

pub returns-in_ok-stream_pipe-in-Stream-clause-answers : goal.returns-in_ok-stream_pipe-in-Stream-clause-answers
returns-in_ok-stream_pipe-in-Stream-clause-answers g c =
    let old = state_of c.args.session.now in
    let new = state_of c.stream_pipe.new.self in
    let D = c.in-Stream.precision in
    let raised = c.in_ok-stream_pipe-in-Stream.ensures in
    let only = answers (factoring_of old) old new refl c.requires.even c.args.session.now.holds (Stream D) D refl
    raised.kept c.stream_pipe.new.self.holds c.stream_pipe.new.self.fits raised.ok in
    subst (λ (r : Request). AnswersFactors (factoring_of old) (factoring_of new) r (Ok tt)
    (g.K.Sink.written c.args.sink.now) (g.K.Sink.written c.stream_pipe.new.sink) (g.K.Sink.faults c.args.sink.now)
    (g.K.Sink.faults c.stream_pipe.new.sink) c.args.tally.now c.stream_pipe.new.tally) (sym c.in-Stream.is)
    (factors_answered old new c.requires.even c.args.session.now.holds (Stream D) D refl raised.kept _ _ raised.ticks
    raised.within c.stream_pipe.new.self.holds c.stream_pipe.new.self.fits raised.ok tt _ _ _ _
    (stream_written old c.args.session.now.holds D _ _ _ _ tt tt _ only raised.text raised.faults))

pub returns-in_ok-stream_pipe-in-Stream-clause-readers : goal.returns-in_ok-stream_pipe-in-Stream-clause-readers
returns-in_ok-stream_pipe-in-Stream-clause-readers g c = readers_kept _ _ _ c.in_ok-stream_pipe-in-Stream.ensures.outer
    c.requires.readers

pub returns-in_ok-write_block-in-Show-clause-even : goal.returns-in_ok-write_block-in-Show-clause-even
returns-in_ok-write_block-in-Show-clause-even g c =
    let raised = c.in_ok-raise_pipe-in-Show.ensures in
    even_behind (state_of c.args.session.now) (state_of c.raise_pipe.new.self) c.requires.even
    c.args.session.now.holds (Show c.in-Show.precision) c.in-Show.precision refl raised.kept _ _ raised.ticks
    raised.within c.raise_pipe.new.self.holds c.raise_pipe.new.self.fits raised.ok

pub returns-in_ok-stream_pipe-in-Stream-clause-even : goal.returns-in_ok-stream_pipe-in-Stream-clause-even
returns-in_ok-stream_pipe-in-Stream-clause-even g c =
    let raised = c.in_ok-stream_pipe-in-Stream.ensures in
    even_behind (state_of c.args.session.now) (state_of c.stream_pipe.new.self) c.requires.even
    c.args.session.now.holds (Stream c.in-Stream.precision) c.in-Stream.precision refl raised.kept _ _ raised.ticks
    raised.within c.stream_pipe.new.self.holds c.stream_pipe.new.self.fits raised.ok
