use Rattle.std.proofs.Common.{◌≡◌, ℕ, ◌+◌, ◌≤◌, List, sym, ◌∙◌, subst, arith}
use Rattle.std.proofs.lemmas.Option.{same_Some, get_or_from_slice_get}
use Rattle.std.specs.Prelude.{Ok}
use Rattle.ports.specs.declared.writing.WriteFault.{WriteFault}
use Rattle.ps_model.specs.declared.job.Root.{Root}
use Rattle.ps_model.specs.StreamText.{lines_of}
use Rattle.parts.specs.Series.{series}
use Rattle.printer.specs.Texts.{factor_to}
use Rattle.printer.specs.Buffered.{Buffered}
use Rattle.printer.proofs.Pieces.{start, regroup, step, fault, done}
use Rattle.printer.proofs.StreamTexts.{below, below_is, below_none, lines_left}
use Rattle.printer.proofs.degree.write_factor_lines.Goals as goal

pub returns-in_err-write_power_line : goal.returns-in_err-write_power_line
returns-in_err-write_power_line g c = λ root at.
    let value = g.V.BlockView.value c.args.view.now in
    let names : List (List ℕ) = g.V.NameView.names c.args.view.now in
    let i = c.args.i in
    let r = c.args.r in
    let j = c.loop-power.power in
    let f = factor_to value r i in
    let same : c.root-times.result ≡ root = same_Some c.root-times.result root (sym c.root-times.ensures ∙ at) in
    subst (λ (x : Root). Buffered c.from_residual.result (g.K.Sink.written c.args.sink.now)
    (g.K.Sink.written c.write_power_line.new.sink) c.args.buffer.now c.write_power_line.new.buffer
    (g.K.Sink.faults c.args.sink.now) (g.K.Sink.faults c.write_power_line.new.sink)
    (lines_of (series value.ring) names r (i + 1) f x.times)) same
    (fault (below (series value.ring) names r (i + 1) f j) c.from_residual.result c.in_err-write_power_line.ensures
    (regroup c.loop-power.invariant (lines_left (series value.ring) names r (i + 1) f j)) c.from_residual.ensures.0)

pub loop-power-preserved : goal.loop-power-preserved
loop-power-preserved g c =
    let value = g.V.BlockView.value c.args.view.now in
    let names : List (List ℕ) = g.V.NameView.names c.args.view.now in
    let i = c.args.i in
    let r = c.args.r in
    let j = c.loop-power.power in
    let f = factor_to value r i in
    regroup (step (below (series value.ring) names r (i + 1) f j) c.in_ok-write_power_line.ensures
    (regroup c.loop-power.invariant (lines_left (series value.ring) names r (i + 1) f j)))
    (below_is (series value.ring) names r (i + 1) f j _ (omega arith))

pub loop-power-init : goal.loop-power-init
loop-power-init g c = start _ _ _

pub write_power_line-requires-clause-power : goal.write_power_line-requires-clause-power
write_power_line-requires-clause-power g c = λ root.
    let value = g.V.BlockView.value c.args.view.now in
    let le : c.loop-power.power ≤ c.root-times.result.times = omega arith in
    subst (λ (x : Root). c.loop-power.power ≤ x.times)
    (sym (get_or_from_slice_get value.roots c.args.i c.root-times.result root c.root-times.ensures)) le

pub returns-in_ok-write_power_line : goal.returns-in_ok-write_power_line
returns-in_ok-write_power_line g c = λ root at.
    let value = g.V.BlockView.value c.args.view.now in
    let names : List (List ℕ) = g.V.NameView.names c.args.view.now in
    let i = c.args.i in
    let r = c.args.r in
    let j = c.loop-power.power in
    let f = factor_to value r i in
    let same : c.root-times.result ≡ root = same_Some c.root-times.result root (sym c.root-times.ensures ∙ at) in
    let left = step (below (series value.ring) names r (i + 1) f j) c.in_ok-write_power_line.ensures
    (regroup c.loop-power.invariant (lines_left (series value.ring) names r (i + 1) f j)) in
    subst (λ (x : Root). Buffered {A = Unit {0}} {E = WriteFault} (Ok tt) (g.K.Sink.written c.args.sink.now)
    (g.K.Sink.written c.write_power_line.new.sink) c.args.buffer.now c.write_power_line.new.buffer
    (g.K.Sink.faults c.args.sink.now) (g.K.Sink.faults c.write_power_line.new.sink)
    (lines_of (series value.ring) names r (i + 1) f x.times)) same
    (done tt (regroup left (below_none (series value.ring) names r (i + 1) f j (omega arith))))
