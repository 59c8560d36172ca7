use Rattle.std.proofs.Common.{◌∙◌, ◌+◌, map, ap, sym, arith, refl}
use Rattle.std.proofs.lemmas.Bool.{eqb-true}
use Rattle.ps_model.specs.Plain.{entry_of}
use Rattle.printer.specs.ReadBlock.{variable_names}
use Rattle.printer.proofs.ReadFactorLines.{factors_step, factors_stop, factors_end, mapped_push, no_bytes}
use Rattle.printer.proofs.read_factors.read_factors.Goals as goal

pub returns-in-Err-clause-stopped : goal.returns-in-Err-clause-stopped
returns-in-Err-clause-stopped g c = factors_stop c.args.ring
    (variable_names c.args.ring (g.N.NameView.names c.args.names.now)) c.args.d c.args.roots.now c.args.text.now
    _ c.loop-i.i c.loop-i.lines c.loop-i.rest.now c.loop-i.invariant (record { value = 0; times = 0 })
    c.in-Err.before _ (omega arith) c.loop-i-test.true (rw c.in-Err.is at c.in_ok-behind.ensures.stopped)

pub loop-i-preserved : goal.loop-i-preserved
loop-i-preserved g c = factors_step c.args.ring
    (variable_names c.args.ring (g.N.NameView.names c.args.names.now)) c.args.d c.args.roots.now c.args.text.now
    _ c.loop-i.i c.loop-i.lines c.loop-i.rest.now c.loop-i.invariant (record { value = 0; times = 0 })
    c.in-Ok.behind.now (map entry_of c.read_factor.new.terms.items) _ _ (c.loop-i.i + 1) _
    (map entry_of c.new-terms.result.items) (omega arith) (omega arith)
    (ap (map entry_of) c.new-terms.ensures.items) c.loop-i-test.true
    (mapped_push _ c.loop-i.factors.items c.push.new.self.items c.read_factor.new.terms c.in_ok-push.ensures.items)
    (rw c.in-Ok.is at c.in_ok-behind.ensures.long) refl
    (rw c.in-Ok.is at c.in_ok-behind.ensures.read)

pub returns-clause-read : goal.returns-clause-read
returns-clause-read g c = factors_end c.args.ring
    (variable_names c.args.ring (g.N.NameView.names c.args.names.now)) c.args.d c.args.roots.now c.args.text.now
    _ c.loop-i.i c.loop-i.lines c.loop-i.rest.now c.loop-i.invariant
    (λ lt. omega (arith, lt, c.loop-i-test.false))
    (no_bytes _ (eqb-true _ _ (sym c.is_empty.ensures ∙ c.if-not-is_empty.false)))
