use Rattle.std.proofs.Common.{ℕ, ◌+◌, ◌∙◌, List, ap, sym, subst, refl, inl, inr, arith, Ok, Err}
use Rattle.std.proofs.lemmas.Result.{err_from_is_err_and}
use Rattle.script.specs.Refusals.{line_refused}
use Rattle.script.specs.Script as script
use Rattle.script.specs.declared.refusal.Refusal.TheVariants.{InputTooLong}
use Rattle.commands.specs.Lines.{AnswersLine, Refuses}
use Rattle.commands.specs.Progress.{Begins}
use Rattle.commands.specs.Readings.{Begun, reads}
use Rattle.commands.proofs.RunsDone.{so_far_none}
use Rattle.commands.proofs.RunsEnded.{ran_on, ran_line, ran_too_long, ran_end, ran_failed, rose_later}
use Rattle.commands.proofs.reading.read_job.Goals as goal

pub loop-header-init : goal.loop-header-init
loop-header-init g c = record {
  far = λ tally. so_far_none c.args.command c.args.lines.now (Begun c.new-header.result) _ _ tally c.requires.pulled
      c.requires.place c.requires.ended c.requires.number (ap script.Begun c.new-header.ensures) tt refl;
  read = omega arith;
  wrote = omega arith;
  few = (let none = c.requires.number in omega arith);
}

pub returns-in_err-longer-in-Line-clause-begins : goal.returns-in_err-longer-in-Line-clause-begins
returns-in_err-longer-in-Line-clause-begins g c = λ tally.
    let p = err_from_is_err_and c.from_residual.result c.from_residual.ensures.1 in
    let e = c.in_err-longer-in-Line.field-0.0 in
    let inv = c.loop-header.invariant in
    let answers = subst (λ (x : List ℕ × ℕ). AnswersLine c.args.command (Begun c.loop-header.header) x.0 x.1 (Err e)
    (g.K.Sink.written c.loop-header.sink) (g.K.Sink.written c.read_header.new.sink)
    (g.K.Sink.faults c.loop-header.sink) (g.K.Sink.faults c.read_header.new.sink) tally tally)
    (λ i. (c.text.ensures i, c.number.ensures i)) (c.in_err-longer-in-Line.ensures.answers c.args.command tally) in
    subst (λ x. Begins c.args.command c.next.new.self x
    (g.S.Source.left c.args.source.now) (g.S.Source.left c.next.new.source) (g.S.Source.faults c.args.source.now)
    (g.S.Source.faults c.next.new.source) (g.K.Sink.written c.args.sink.now)
    (g.K.Sink.written c.read_header.new.sink) (g.K.Sink.faults c.args.sink.now)
    (g.K.Sink.faults c.read_header.new.sink) tally) (sym (p.1 ∙ ap Err p.2))
    (ran_line c.args.command c.loop-header.lines c.next.new.self (Begun c.loop-header.header) _ (g.S.Source.left c.loop-header.source)
    (g.S.Source.left c.next.new.source) _ (g.K.Sink.written c.loop-header.sink) tally tally
    (inv.far tally) (g.S.Source.faults c.args.source.now) (g.S.Source.faults c.next.new.source) (g.K.Sink.faults c.args.sink.now)
    (g.K.Sink.faults c.loop-header.sink) (omega (arith, inv.read, c.in-Line.ensures.faults))
    inv.wrote c.loop-header.source c.next.new.source c.in-Line.ensures.bytes
    c.in-Line.ensures.unmoved c.in-Line.ensures.room c.in-Line.ensures.ended c.in-Line.ensures.ended_stays
    (λ is. ap g.S.Source.left (c.in-Line.ensures.unmoved (inr is)).0)
    (c.in-Line.ensures.line refl) e _ _ _ answers)

pub returns-in_err-longer-in-Line-clause-sink_faults : goal.returns-in_err-longer-in-Line-clause-sink_faults
returns-in_err-longer-in-Line-clause-sink_faults g c =
    let grow = (c.in_err-longer-in-Line.ensures.answers c.args.command 0).faults in
    let before = c.loop-header.invariant.wrote in omega (arith, grow, before)

pub loop-header-preserved : goal.loop-header-preserved
loop-header-preserved g c =
    let inv = c.loop-header.invariant in
    let grow = (c.in_ok-longer-in-Line.ensures.answers c.args.command 0).faults in
    record {
      far = λ tally.
          let answers = subst (λ (x : List ℕ × ℕ × _). AnswersLine c.args.command (Begun c.loop-header.header) x.0 x.1
          (reads c.args.command (Ok x.2))
          (g.K.Sink.written c.loop-header.sink) (g.K.Sink.written c.read_header.new.sink)
          (g.K.Sink.faults c.loop-header.sink) (g.K.Sink.faults c.read_header.new.sink) tally tally)
          (λ i. (c.text.ensures i, c.number.ensures i, c.in-Longer.is i))
          (c.in_ok-longer-in-Line.ensures.answers c.args.command tally) in
          ran_on c.args.command c.loop-header.lines c.next.new.self (Begun c.loop-header.header) _ (g.S.Source.left c.loop-header.source)
          (g.S.Source.left c.next.new.source) _ (g.K.Sink.written c.loop-header.sink) tally tally
          (inv.far tally) (g.S.Source.faults c.args.source.now) (g.S.Source.faults c.next.new.source) (g.K.Sink.faults c.args.sink.now)
          (g.K.Sink.faults c.loop-header.sink) (omega (arith, inv.read, c.in-Line.ensures.faults))
          inv.wrote c.loop-header.source c.next.new.source c.in-Line.ensures.bytes
          c.in-Line.ensures.unmoved c.in-Line.ensures.room c.in-Line.ensures.ended c.in-Line.ensures.ended_stays
          (λ is. ap g.S.Source.left (c.in-Line.ensures.unmoved (inr is)).0)
          (c.in-Line.ensures.line refl) (c.in-Line.ensures.onward refl) _ _ tally answers.ok;
      read = omega (arith, inv.read, c.in-Line.ensures.faults);
      wrote = omega (arith, inv.wrote, grow);
      few = (let more = c.in-Line.ensures.onward refl in let number = (c.in-Line.ensures.line refl).number in
          omega (arith, inv.few));
    }

pub returns-in-Makes-clause-begins : goal.returns-in-Makes-clause-begins
returns-in-Makes-clause-begins g c = λ tally.
    let inv = c.loop-header.invariant in
    let answers = subst (λ (x : List ℕ × ℕ × _). AnswersLine c.args.command (Begun c.loop-header.header) x.0 x.1
    (reads c.args.command (Ok x.2))
    (g.K.Sink.written c.loop-header.sink) (g.K.Sink.written c.read_header.new.sink)
    (g.K.Sink.faults c.loop-header.sink) (g.K.Sink.faults c.read_header.new.sink) tally tally)
    (λ i. (c.text.ensures i, c.number.ensures i, c.in-Makes.is i))
    (c.in_ok-longer-in-Line.ensures.answers c.args.command tally) in
    ran_on c.args.command c.loop-header.lines c.next.new.self (Begun c.loop-header.header) _ (g.S.Source.left c.loop-header.source)
    (g.S.Source.left c.next.new.source) _ (g.K.Sink.written c.loop-header.sink) tally tally
    (inv.far tally) (g.S.Source.faults c.args.source.now) (g.S.Source.faults c.next.new.source) (g.K.Sink.faults c.args.sink.now)
    (g.K.Sink.faults c.loop-header.sink) (omega (arith, inv.read, c.in-Line.ensures.faults))
    inv.wrote c.loop-header.source c.next.new.source c.in-Line.ensures.bytes
    c.in-Line.ensures.unmoved c.in-Line.ensures.room c.in-Line.ensures.ended c.in-Line.ensures.ended_stays
    (λ is. ap g.S.Source.left (c.in-Line.ensures.unmoved (inr is)).0)
    (c.in-Line.ensures.line refl) (c.in-Line.ensures.onward refl) _ _ tally answers.ok

pub returns-in-Makes-clause-sink_faults : goal.returns-in-Makes-clause-sink_faults
returns-in-Makes-clause-sink_faults g c =
    let grow = (c.in_ok-longer-in-Line.ensures.answers c.args.command 0).faults in
    let before = c.loop-header.invariant.wrote in omega (arith, grow, before)

pub returns-in-InputTooLong-clause-begins : goal.returns-in-InputTooLong-clause-begins
returns-in-InputTooLong-clause-begins g c = λ tally.
    let inv = c.loop-header.invariant in
    let told = subst (λ k. Refuses c.refuse_line.result (g.K.Sink.written c.loop-header.sink)
    (g.K.Sink.written c.refuse_line.new.sink) (g.K.Sink.faults c.loop-header.sink)
    (g.K.Sink.faults c.refuse_line.new.sink) (line_refused (k + 1) InputTooLong))
    c.number-in-InputTooLong.ensures c.refuse_line.ensures in
    ran_too_long c.args.command c.loop-header.lines c.next.new.self (Begun c.loop-header.header) _ (g.S.Source.left c.loop-header.source)
    (g.S.Source.left c.next.new.source) _ (g.K.Sink.written c.loop-header.sink) tally tally
    (inv.far tally) (g.S.Source.faults c.args.source.now) (g.S.Source.faults c.next.new.source) (g.K.Sink.faults c.args.sink.now)
    (g.K.Sink.faults c.loop-header.sink) (omega (arith, inv.read, c.in-InputTooLong.ensures.faults))
    inv.wrote c.loop-header.source c.next.new.source c.in-InputTooLong.ensures.bytes
    c.in-InputTooLong.ensures.unmoved c.in-InputTooLong.ensures.room c.in-InputTooLong.ensures.ended c.in-InputTooLong.ensures.ended_stays
    (λ is. ap g.S.Source.left (c.in-InputTooLong.ensures.unmoved (inr is)).0)
    (c.in-InputTooLong.ensures.too_long refl) (c.in-InputTooLong.ensures.keeps (λ is. let no : ⊥ = cc in no))
    c.refuse_line.result _ _ told

pub returns-in-End-clause-begins : goal.returns-in-End-clause-begins
returns-in-End-clause-begins g c = λ tally.
    let inv = c.loop-header.invariant in
    ran_end c.args.command c.loop-header.lines c.next.new.self (Begun c.loop-header.header) _ (g.S.Source.left c.loop-header.source)
    (g.S.Source.left c.next.new.source) _ (g.K.Sink.written c.loop-header.sink) tally tally
    (inv.far tally) (g.S.Source.faults c.args.source.now) (g.S.Source.faults c.next.new.source) (g.K.Sink.faults c.args.sink.now)
    (g.K.Sink.faults c.loop-header.sink) (omega (arith, inv.read, c.in-End.ensures.faults))
    inv.wrote c.loop-header.source c.next.new.source c.in-End.ensures.bytes
    c.in-End.ensures.unmoved c.in-End.ensures.room c.in-End.ensures.ended c.in-End.ensures.ended_stays
    (λ is. ap g.S.Source.left (c.in-End.ensures.unmoved (inr is)).0)
    (c.in-End.ensures.end refl) (c.in-End.ensures.keeps (λ is. let no : ⊥ = cc in no)) {A = Unit {0}} (Err c.refuse_end.result) _ _ (record {
      ok = tt;
      err = (_, c.due.ensures.missing, c.refuse_end.ensures);
      faults = c.refuse_end.ensures.faults;
    })

pub returns-in-Failed-clause-begins : goal.returns-in-Failed-clause-begins
returns-in-Failed-clause-begins g c = λ tally.
    let inv = c.loop-header.invariant in
    ran_failed c.args.command c.loop-header.lines c.next.new.self (Begun c.loop-header.header) _ (g.S.Source.left c.loop-header.source)
    (g.S.Source.left c.next.new.source) _ (g.K.Sink.written c.loop-header.sink) tally tally
    (inv.far tally) (g.S.Source.faults c.args.source.now) (g.S.Source.faults c.next.new.source) (g.K.Sink.faults c.args.sink.now)
    (g.K.Sink.faults c.loop-header.sink) (omega (arith, inv.read, c.in-Failed.ensures.faults))
    inv.wrote c.loop-header.source c.next.new.source c.in-Failed.ensures.bytes
    c.in-Failed.ensures.unmoved c.in-Failed.ensures.room c.in-Failed.ensures.ended c.in-Failed.ensures.ended_stays
    (λ is. ap g.S.Source.left (c.in-Failed.ensures.unmoved (inr is)).0)
    (c.in-Failed.ensures.going refl) (c.in-Failed.ensures.short refl)
    (λ full. elim (c.in-Failed.ensures.full full) [ inl is ↦ let no : ⊥ = cc in no | inr is ↦ let no : ⊥ = cc in no ])
    (c.in-Failed.ensures.keeps (λ is. let no : ⊥ = cc in no))
    (rose_later _ _ _ inv.read (c.in-Failed.ensures.failed refl))
