use Rattle.std.proofs.Common.{ℕ, ◌+◌, ◌∙◌, List, Option, ap, sym, refl, subst, inl, inr, arith, Ok, Err}
use Rattle.std.proofs.lemmas.Result.{err_from_is_err_and}
use Rattle.script.specs.Refusals.{line_refused}
use Rattle.script.specs.declared.refusal.Refusal.TheVariants.{InputTooLong}
use Rattle.script.specs.declared.request.Request.{Request}
use Rattle.commands.specs.Lines.{Refuses}
use Rattle.commands.specs.Progress.{AsksLine, IsNext}
use Rattle.commands.proofs.LinesDone.{refused_line}
use Rattle.commands.proofs.RequestsDone.{nothing_missing}
use Rattle.commands.proofs.RunsEnded.{ran_asked, ran_skipped, ran_line, ran_too_long, ran_end, ran_failed, rose_later}
use Rattle.commands.proofs.reading.next_request.Goals as goal

pub returns-in_err-request-in-Line-clause-next : goal.returns-in_err-request-in-Line-clause-next
returns-in_err-request-in-Line-clause-next g c =
    let p = err_from_is_err_and c.from_residual.result c.from_residual.ensures.1 in
    let e = c.in_err-request-in-Line.field-0.0 in
    let inv = c.loop-lines.invariant in
    let told = subst (λ (x : List ℕ × ℕ). AsksLine c.args.command c.args.ring x.0 x.1 (Err e)
    (g.K.Sink.written c.loop-lines.sink) (g.K.Sink.written c.read_request.new.sink)
    (g.K.Sink.faults c.loop-lines.sink) (g.K.Sink.faults c.read_request.new.sink))
    (λ i. (c.text.ensures i, c.number.ensures i)) c.in_err-request-in-Line.ensures in
    subst (λ x. IsNext c.args.command c.args.ring c.args.lines.now c.next.new.self x
    (g.S.Source.left c.args.source.now) (g.S.Source.left c.next.new.source) (g.S.Source.faults c.args.source.now)
    (g.S.Source.faults c.next.new.source) (g.K.Sink.written c.args.sink.now)
    (g.K.Sink.written c.read_request.new.sink) (g.K.Sink.faults c.args.sink.now)
    (g.K.Sink.faults c.read_request.new.sink)) (sym (p.1 ∙ ap Err p.2)) (record {
      follows = λ r left written read wrote tally tally' of le le' far.
          let why = told.err r of (inv.far r left written tally tally' of far).done.reads in
          ran_line c.args.command c.loop-lines.lines c.next.new.self r left (g.S.Source.left c.loop-lines.source)
          (g.S.Source.left c.next.new.source) written (g.K.Sink.written c.loop-lines.sink) tally tally'
          (inv.far r left written tally tally' of far) read (g.S.Source.faults c.next.new.source) wrote
          (g.K.Sink.faults c.loop-lines.sink) (omega (arith, le, inv.read, c.in-Line.ensures.faults))
          (omega (arith, le', inv.wrote)) c.loop-lines.source c.next.new.source c.in-Line.ensures.bytes
          c.in-Line.ensures.unmoved c.in-Line.ensures.room c.in-Line.ensures.ended c.in-Line.ensures.ended_stays
          (λ is. ap g.S.Source.left (c.in-Line.ensures.unmoved (inr is)).0)
          (c.in-Line.ensures.line refl) e _ _ _
          (refused_line c.args.command r c.next.new.self.text c.next.new.self.number _ _ tally' why.0 e _ _ why.1 why.2);
      source_faults = omega (arith, inv.read, c.in-Line.ensures.faults);
      sink_faults = omega (arith, inv.wrote, told.faults);
    })

pub returns-in-Some-clause-next : goal.returns-in-Some-clause-next
returns-in-Some-clause-next g c =
    let inv = c.loop-lines.invariant in
    let told = subst (λ (x : List ℕ × ℕ × Option Request). AsksLine c.args.command c.args.ring x.0 x.1 (Ok x.2)
    (g.K.Sink.written c.loop-lines.sink) (g.K.Sink.written c.read_request.new.sink)
    (g.K.Sink.faults c.loop-lines.sink) (g.K.Sink.faults c.read_request.new.sink))
    (λ i. (c.text.ensures i, c.number.ensures i, c.in-Some.is i)) c.in_ok-request-in-Line.ensures in
    record {
      follows = λ r left written read wrote tally tally' of le le' far.
          let does = told.ok r of (inv.far r left written tally tally' of far).done.reads in
          ran_asked c.args.command c.loop-lines.lines c.next.new.self r left (g.S.Source.left c.loop-lines.source)
          (g.S.Source.left c.next.new.source) written (g.K.Sink.written c.loop-lines.sink) tally tally'
          (inv.far r left written tally tally' of far) read (g.S.Source.faults c.next.new.source) wrote
          (g.K.Sink.faults c.loop-lines.sink) (omega (arith, le, inv.read, c.in-Line.ensures.faults))
          (omega (arith, le', inv.wrote)) c.loop-lines.source c.next.new.source c.in-Line.ensures.bytes
          c.in-Line.ensures.unmoved c.in-Line.ensures.room c.in-Line.ensures.ended c.in-Line.ensures.ended_stays
          (λ is. ap g.S.Source.left (c.in-Line.ensures.unmoved (inr is)).0)
          (c.in-Line.ensures.line refl) (c.in-Line.ensures.onward refl) c.in-Some.request does.0 does.1 _ does.2;
      source_faults = omega (arith, inv.read, c.in-Line.ensures.faults);
      sink_faults = omega (arith, inv.wrote, told.faults);
    }

pub loop-lines-preserved : goal.loop-lines-preserved
loop-lines-preserved g c =
    let inv = c.loop-lines.invariant in
    let told = subst (λ (x : List ℕ × ℕ × Option Request). AsksLine c.args.command c.args.ring x.0 x.1 (Ok x.2)
    (g.K.Sink.written c.loop-lines.sink) (g.K.Sink.written c.read_request.new.sink)
    (g.K.Sink.faults c.loop-lines.sink) (g.K.Sink.faults c.read_request.new.sink))
    (λ i. (c.text.ensures i, c.number.ensures i, c.in-None.is i)) c.in_ok-request-in-Line.ensures in
    record {
      far = λ r left written tally tally' of far.
          let does = told.ok r of (inv.far r left written tally tally' of far).done.reads in
          ran_skipped c.args.command c.loop-lines.lines c.next.new.self r left (g.S.Source.left c.loop-lines.source)
          (g.S.Source.left c.next.new.source) written (g.K.Sink.written c.loop-lines.sink) tally tally'
          (inv.far r left written tally tally' of far) (g.S.Source.faults c.args.source.now)
          (g.S.Source.faults c.next.new.source) (g.K.Sink.faults c.loop-lines.sink)
          (g.K.Sink.faults c.loop-lines.sink) (omega (arith, inv.read, c.in-Line.ensures.faults)) (omega arith)
          c.loop-lines.source c.next.new.source c.in-Line.ensures.bytes c.in-Line.ensures.unmoved
          c.in-Line.ensures.room c.in-Line.ensures.ended c.in-Line.ensures.ended_stays
          (λ is. ap g.S.Source.left (c.in-Line.ensures.unmoved (inr is)).0)
          (c.in-Line.ensures.line refl) (c.in-Line.ensures.onward refl) does.0 _ does.2;
      read = omega (arith, inv.read, c.in-Line.ensures.faults);
      wrote = omega (arith, inv.wrote, told.faults);
      place = (let more = c.in-Line.ensures.onward refl in omega (arith, inv.place));
      few = (let more = c.in-Line.ensures.onward refl in let number = (c.in-Line.ensures.line refl).number in
          omega (arith, inv.few));
    }

pub returns-in-InputTooLong-clause-next : goal.returns-in-InputTooLong-clause-next
returns-in-InputTooLong-clause-next g c =
    let inv = c.loop-lines.invariant in
    let told = subst (λ k. Refuses c.refuse_line.result (g.K.Sink.written c.loop-lines.sink)
    (g.K.Sink.written c.refuse_line.new.sink) (g.K.Sink.faults c.loop-lines.sink)
    (g.K.Sink.faults c.refuse_line.new.sink) (line_refused (k + 1) InputTooLong))
    c.number-in-InputTooLong.ensures c.refuse_line.ensures in
    record {
      follows = λ r left written read wrote tally tally' of le le' far.
          ran_too_long c.args.command c.loop-lines.lines c.next.new.self r left (g.S.Source.left c.loop-lines.source)
          (g.S.Source.left c.next.new.source) written (g.K.Sink.written c.loop-lines.sink) tally tally'
          (inv.far r left written tally tally' of far) read (g.S.Source.faults c.next.new.source) wrote
          (g.K.Sink.faults c.loop-lines.sink) (omega (arith, le, inv.read, c.in-InputTooLong.ensures.faults))
          (omega (arith, le', inv.wrote)) c.loop-lines.source c.next.new.source c.in-InputTooLong.ensures.bytes
          c.in-InputTooLong.ensures.unmoved c.in-InputTooLong.ensures.room c.in-InputTooLong.ensures.ended c.in-InputTooLong.ensures.ended_stays
          (λ is. ap g.S.Source.left (c.in-InputTooLong.ensures.unmoved (inr is)).0)
          (c.in-InputTooLong.ensures.too_long refl) (c.in-InputTooLong.ensures.keeps (λ is. let no : ⊥ = cc in no))
          c.refuse_line.result _ _ told;
      source_faults = omega (arith, inv.read, c.in-InputTooLong.ensures.faults);
      sink_faults = omega (arith, inv.wrote, told.faults);
    }

pub returns-in-End-clause-next : goal.returns-in-End-clause-next
returns-in-End-clause-next g c =
    let inv = c.loop-lines.invariant in
    record {
      follows = λ r left written read wrote tally tally' of le le' far.
          ran_end c.args.command c.loop-lines.lines c.next.new.self r left (g.S.Source.left c.loop-lines.source)
          (g.S.Source.left c.next.new.source) written (g.K.Sink.written c.loop-lines.sink) tally tally'
          (inv.far r left written tally tally' of far) read (g.S.Source.faults c.next.new.source) wrote
          (g.K.Sink.faults c.loop-lines.sink) (omega (arith, le, inv.read, c.in-End.ensures.faults))
          (omega (arith, le', inv.wrote)) c.loop-lines.source c.next.new.source c.in-End.ensures.bytes
          c.in-End.ensures.unmoved c.in-End.ensures.room c.in-End.ensures.ended c.in-End.ensures.ended_stays
          (λ is. ap g.S.Source.left (c.in-End.ensures.unmoved (inr is)).0)
          (c.in-End.ensures.end refl) (c.in-End.ensures.keeps (λ is. let no : ⊥ = cc in no)) {A = Unit {0}} (Ok tt) _ _
          (nothing_missing c.args.ring r (g.K.Sink.written c.loop-lines.sink) (g.K.Sink.faults c.loop-lines.sink) of);
      source_faults = omega (arith, inv.read, c.in-End.ensures.faults);
      sink_faults = inv.wrote;
    }

pub returns-in-Failed-clause-next : goal.returns-in-Failed-clause-next
returns-in-Failed-clause-next g c =
    let inv = c.loop-lines.invariant in
    record {
      follows = λ r left written read wrote tally tally' of le le' far.
          ran_failed c.args.command c.loop-lines.lines c.next.new.self r left (g.S.Source.left c.loop-lines.source)
          (g.S.Source.left c.next.new.source) written (g.K.Sink.written c.loop-lines.sink) tally tally'
          (inv.far r left written tally tally' of far) read (g.S.Source.faults c.next.new.source) wrote
          (g.K.Sink.faults c.loop-lines.sink) (omega (arith, le, inv.read, c.in-Failed.ensures.faults))
          (omega (arith, le', inv.wrote)) c.loop-lines.source c.next.new.source c.in-Failed.ensures.bytes
          c.in-Failed.ensures.unmoved c.in-Failed.ensures.room c.in-Failed.ensures.ended c.in-Failed.ensures.ended_stays
          (λ is. ap g.S.Source.left (c.in-Failed.ensures.unmoved (inr is)).0)
          (c.in-Failed.ensures.going refl) (c.in-Failed.ensures.short refl)
          (λ full. elim (c.in-Failed.ensures.full full) [ inl is ↦ let no : ⊥ = cc in no | inr is ↦ let no : ⊥ = cc in no ])
          (c.in-Failed.ensures.keeps (λ is. let no : ⊥ = cc in no))
          (rose_later _ _ _ (omega (arith, le, inv.read)) (c.in-Failed.ensures.failed refl));
      source_faults = omega (arith, inv.read, c.in-Failed.ensures.faults);
      sink_faults = inv.wrote;
    }
