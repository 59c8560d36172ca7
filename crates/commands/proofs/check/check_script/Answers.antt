use Rattle.std.proofs.Common.{ℕ, ◌+◌, ◌∙◌, List, ◌∷◌, Option, Some, ap, sym, subst, refl, inr, inl, arith, Ok, Err}
use Rattle.std.proofs.lemmas.Result.{err_from_is_err_and}
use Rattle.script.specs.Answers.{Line}
use Rattle.commands.specs.Checks.{IsTold, Ends, IsTooLong, IsCheckedFrom}
use Rattle.commands.specs.CheckLines.{ChecksLine, state_in}
use Rattle.commands.specs.Runs.{Ran}
use Rattle.commands.specs.Statuses.{status_of}
use Rattle.commands.specs.Telling.{Tells, check_status}
use Rattle.commands.specs.Words.{Check}
use Rattle.commands.proofs.CheckRuns.{check_far_none, check_far_line, ready, ran_check_line, ran_check_too_long}
use Rattle.commands.proofs.CheckRuns.{ran_check_end, ran_check_failed}
use Rattle.commands.proofs.CheckRuns.{never_none, never_six, next_number, few_more}
use Rattle.commands.proofs.RunsEnded.{ran_first, rose_later}
use Rattle.commands.proofs.check.check_script.Goals as goal

pub returns-in_err-lines : goal.returns-in_err-lines
returns-in_err-lines g c =
    let p = err_from_is_err_and c.from_residual.result c.from_residual.ensures.1 in
    let left = g.S.Source.left c.args.source.now in
    let read = g.S.Source.faults c.args.source.now in
    let written = g.K.Sink.written c.args.sink.now in
    let wrote = g.K.Sink.faults c.args.sink.now in
    subst (λ n. Ran (Some Check) n left left read read written written wrote wrote c.args.tally.now c.args.tally.now)
    (sym (ap check_status (p.1 ∙ ap Err p.2)))
    (ran_first (Some Check) left written read wrote c.args.tally.now)

pub loop-checking-init : goal.loop-checking-init
loop-checking-init g c = record {
  far = check_far_none c.in_ok-lines.lines c.new-checking.result _ c.in_ok-lines.ensures.pulled
      c.in_ok-lines.ensures.place c.in_ok-lines.ensures.ended c.in_ok-lines.ensures.number c.new-checking.ensures.state
      c.new-checking.ensures.checking;
  read = omega arith;
  wrote = refl;
  written = refl;
  tally = refl;
}

pub line-requires : goal.line-requires
line-requires g c = c.loop-checking.invariant.far.good

pub returns-in_err-checking-in-Line : goal.returns-in_err-checking-in-Line
returns-in_err-checking-in-Line g c =
    let p = err_from_is_err_and c.from_residual-in_err-checking-in-Line.result
    c.from_residual-in_err-checking-in-Line.ensures.1 in
    let e = c.in_err-checking-in-Line.field-0.0 in
    let inv = c.loop-checking.invariant in
    let answers = subst (λ (x : List ℕ × ℕ × Option (List ℕ) × ℕ). ChecksLine c.loop-checking.checking x.0 x.1 (Err e)
    x.2 (g.K.Sink.written c.line.new.sink) x.3 (g.K.Sink.faults c.line.new.sink))
    (λ i. (c.text.ensures i, c.number.ensures i, inv.written i, inv.wrote i)) c.in_err-checking-in-Line.ensures in
    subst (λ n. Ran (Some Check) n (g.S.Source.left c.args.source.now) (g.S.Source.left c.next.new.source)
    (g.S.Source.faults c.args.source.now) (g.S.Source.faults c.next.new.source)
    (g.K.Sink.written c.args.sink.now) (g.K.Sink.written c.line.new.sink) (g.K.Sink.faults c.args.sink.now)
    (g.K.Sink.faults c.line.new.sink) c.args.tally.now c.loop-checking.tally)
    (sym (ap check_status (p.1 ∙ ap Err p.2)))
    (ran_check_line c.loop-checking.lines c.next.new.self c.loop-checking.checking _ _ _ inv.far c.loop-checking.source
    c.next.new.source c.in-Line.ensures.bytes c.in-Line.ensures.unmoved c.in-Line.ensures.room c.in-Line.ensures.ended
    c.in-Line.ensures.ended_stays (λ is. ap g.S.Source.left (c.in-Line.ensures.unmoved (inr is)).0)
    (status_of e) _ _ _ _ c.args.tally.now c.loop-checking.tally (g.S.Source.faults c.args.source.now)
    (g.S.Source.faults c.next.new.source) (g.K.Sink.faults c.args.sink.now)
    (omega (arith, inv.read, c.in-Line.ensures.faults)) (omega arith) (c.in-Line.ensures.line refl)
    c.next.new.self.number
    refl (λ b rest. subst (λ t. Tells (IsCheckedFrom b (state_in c.loop-checking.checking) c.next.new.self.number
    (Line c.next.new.self.text ∷ rest)) (status_of e) (g.K.Sink.written c.args.sink.now)
    (g.K.Sink.written c.line.new.sink) (g.K.Sink.faults c.args.sink.now) (g.K.Sink.faults c.line.new.sink) t
    c.loop-checking.tally) inv.tally (answers.err b rest c.loop-checking.tally)) (never_none e) (never_six e))

pub loop-checking-preserved : goal.loop-checking-preserved
loop-checking-preserved g c =
    let inv = c.loop-checking.invariant in
    let answers = subst (λ (x : List ℕ × ℕ). ChecksLine c.loop-checking.checking x.0 x.1
    (Ok c.in_ok-checking-in-Line.checking) (g.K.Sink.written c.loop-checking.sink)
    (g.K.Sink.written c.line.new.sink) (g.K.Sink.faults c.loop-checking.sink) (g.K.Sink.faults c.line.new.sink))
    (λ i. (c.text.ensures i, c.number.ensures i)) c.in_ok-checking-in-Line.ensures in
    record {
      far = check_far_line c.loop-checking.lines c.next.new.self c.loop-checking.checking _ _ _ inv.far
          c.loop-checking.source c.next.new.source c.in-Line.ensures.bytes c.in-Line.ensures.unmoved
          c.in-Line.ensures.room c.in-Line.ensures.ended c.in-Line.ensures.ended_stays
          (λ is. ap g.S.Source.left (c.in-Line.ensures.unmoved (inr is)).0)
          (c.in-Line.ensures.line refl) (c.in-Line.ensures.onward refl) c.in_ok-checking-in-Line.checking answers.ok.0
          answers.ok.1;
      read = omega (arith, inv.read, c.in-Line.ensures.faults);
      wrote = answers.kept.1 ∙ inv.wrote;
      written = answers.kept.0 ∙ inv.written;
      tally = inv.tally;
    }

pub too_long-requires : goal.too_long-requires
too_long-requires g c =
    ready c.loop-checking.lines c.next.new.self c.loop-checking.checking _ _ _ c.loop-checking.invariant.far
    c.loop-checking.source c.next.new.source c.in-InputTooLong.ensures.bytes c.in-InputTooLong.ensures.unmoved
    c.in-InputTooLong.ensures.room c.in-InputTooLong.ensures.ended c.in-InputTooLong.ensures.ended_stays
    (λ is. ap g.S.Source.left (c.in-InputTooLong.ensures.unmoved (inr is)).0) _
    (let keeps = c.in-InputTooLong.ensures.keeps (λ is. let no : ⊥ = cc in no) in
    next_number (c.number-in-InputTooLong.ensures ∙ keeps.number))

pub returns-in-InputTooLong : goal.returns-in-InputTooLong
returns-in-InputTooLong g c =
    let inv = c.loop-checking.invariant in
    let keeps = c.in-InputTooLong.ensures.keeps (λ is. let no : ⊥ = cc in no) in
    let tells = subst (λ (x : Option (List ℕ) × ℕ × ℕ). Tells (IsTold (state_in c.loop-checking.checking)
    (c.number-in-InputTooLong.result + 1) IsTooLong) (status_of c.too_long.result) x.0
    (g.K.Sink.written c.too_long.new.sink) x.1 (g.K.Sink.faults c.too_long.new.sink) x.2 c.loop-checking.tally)
    (λ i. (inv.written i, inv.wrote i, inv.tally i)) (c.too_long.ensures c.loop-checking.tally) in
    ran_check_too_long c.loop-checking.lines c.next.new.self c.loop-checking.checking _ _ _ inv.far
    c.loop-checking.source c.next.new.source c.in-InputTooLong.ensures.bytes c.in-InputTooLong.ensures.unmoved
    c.in-InputTooLong.ensures.room c.in-InputTooLong.ensures.ended c.in-InputTooLong.ensures.ended_stays
    (λ is. ap g.S.Source.left (c.in-InputTooLong.ensures.unmoved (inr is)).0)
    (status_of c.too_long.result) _ _ _ _ c.args.tally.now c.loop-checking.tally (g.S.Source.faults c.args.source.now)
    (g.S.Source.faults c.next.new.source) (g.K.Sink.faults c.args.sink.now)
    (omega (arith, inv.read, c.in-InputTooLong.ensures.faults)) (omega arith)
    (c.in-InputTooLong.ensures.too_long refl) keeps _
    (next_number (c.number-in-InputTooLong.ensures ∙ keeps.number)) tells (never_none c.too_long.result)
    (never_six c.too_long.result)

pub end-requires-clause-ready : goal.end-requires-clause-ready
end-requires-clause-ready g c =
    ready c.loop-checking.lines c.next.new.self c.loop-checking.checking _ _ _ c.loop-checking.invariant.far
    c.loop-checking.source c.next.new.source c.in-End.ensures.bytes c.in-End.ensures.unmoved
    c.in-End.ensures.room c.in-End.ensures.ended c.in-End.ensures.ended_stays
    (λ is. ap g.S.Source.left (c.in-End.ensures.unmoved (inr is)).0) _
    (let keeps = c.in-End.ensures.keeps (λ is. let no : ⊥ = cc in no) in
    next_number (c.number-in-End.ensures ∙ keeps.number))

pub end-requires-clause-tally : goal.end-requires-clause-tally
end-requires-clause-tally g c = few_more _ _ c.loop-checking.invariant.tally c.requires.room

pub returns-in-End : goal.returns-in-End
returns-in-End g c =
    let inv = c.loop-checking.invariant in
    let keeps = c.in-End.ensures.keeps (λ is. let no : ⊥ = cc in no) in
    let tells = subst (λ (x : Option (List ℕ) × ℕ × ℕ). Tells (IsTold (state_in c.loop-checking.checking)
    (c.number-in-End.result + 1) Ends) (check_status c.end.result) x.0 (g.K.Sink.written c.end.new.sink) x.1
    (g.K.Sink.faults c.end.new.sink) x.2 c.end.new.tally)
    (λ i. (inv.written i, inv.wrote i, inv.tally i)) c.end.ensures in
    ran_check_end c.loop-checking.lines c.next.new.self c.loop-checking.checking _ _ _ inv.far
    c.loop-checking.source c.next.new.source c.in-End.ensures.bytes c.in-End.ensures.unmoved
    c.in-End.ensures.room c.in-End.ensures.ended c.in-End.ensures.ended_stays
    (λ is. ap g.S.Source.left (c.in-End.ensures.unmoved (inr is)).0)
    (check_status c.end.result) _ _ _ _ c.args.tally.now c.end.new.tally (g.S.Source.faults c.args.source.now)
    (g.S.Source.faults c.next.new.source) (g.K.Sink.faults c.args.sink.now)
    (omega (arith, inv.read, c.in-End.ensures.faults)) (omega arith) (c.in-End.ensures.end refl) keeps _
    (next_number (c.number-in-End.ensures ∙ keeps.number)) tells

pub returns-in-Failed : goal.returns-in-Failed
returns-in-Failed g c =
    let inv = c.loop-checking.invariant in
    subst (λ (x : Option (List ℕ) × ℕ × ℕ). Ran (Some Check) 3 (g.S.Source.left c.args.source.now)
    (g.S.Source.left c.next.new.source) (g.S.Source.faults c.args.source.now) (g.S.Source.faults c.next.new.source)
    (g.K.Sink.written c.args.sink.now) x.0 (g.K.Sink.faults c.args.sink.now) x.1 c.args.tally.now x.2)
    (λ i. (sym inv.written i, sym inv.wrote i, sym inv.tally i))
    (ran_check_failed c.loop-checking.lines c.next.new.self c.loop-checking.checking _ _ _ inv.far
    c.loop-checking.source c.next.new.source c.in-Failed.ensures.bytes c.in-Failed.ensures.unmoved
    c.in-Failed.ensures.room c.in-Failed.ensures.ended c.in-Failed.ensures.ended_stays
    (λ is. ap g.S.Source.left (c.in-Failed.ensures.unmoved (inr is)).0)
    (c.in-Failed.ensures.going refl) (c.in-Failed.ensures.short refl)
    (λ full. elim (c.in-Failed.ensures.full full) [ inl is ↦ let no : ⊥ = cc in no | inr is ↦ let no : ⊥ = cc in no ])
    (c.in-Failed.ensures.keeps (λ is. let no : ⊥ = cc in no)) _ _ _ _ _ _
    (rose_later _ _ _ inv.read (c.in-Failed.ensures.failed refl))
    (omega (arith, inv.read, c.in-Failed.ensures.faults)) (omega arith))
