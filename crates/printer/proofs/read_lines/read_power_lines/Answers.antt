use Rattle.std.proofs.Common.{map, arith}
use Rattle.ps_model.specs.Plain.{entry_of}
use Rattle.printer.specs.ReadBlock.{variable_names}
use Rattle.printer.proofs.ReadPowerLines.{powers_next, powers_stop, powers_shorter}
use Rattle.printer.proofs.read_lines.read_power_lines.Goals as goal

pub returns-in_default-clause-stopped : goal.returns-in_default-clause-stopped
returns-in_default-clause-stopped g c = powers_stop c.args.ring
    (variable_names c.args.ring (g.N.NameView.names c.args.names.now)) c.args.d c.args.times c.args.text.now
    (map entry_of c.args.terms.now.items) (map entry_of c.lines.terms.items) c.lines.power
    c.lines.rest.now c.lines.invariant (rw c.in_default.is at c.in_ok-behind.ensures.none)

pub lines-preserved : goal.lines-preserved
lines-preserved g c = powers_next c.args.ring
    (variable_names c.args.ring (g.N.NameView.names c.args.names.now)) c.args.d c.args.times c.args.text.now
    (map entry_of c.args.terms.now.items) (map entry_of c.lines.terms.items) c.lines.power _
    c.lines.rest.now c.in-Some.behind.now _ (omega arith) c.lines.invariant
    (rw c.in-Some.is at c.in_ok-behind.ensures.some)

pub returns-then-power-eq0-clause-long : goal.returns-then-power-eq0-clause-long
returns-then-power-eq0-clause-long g c = powers_shorter c.args.ring
    (variable_names c.args.ring (g.N.NameView.names c.args.names.now)) c.args.d c.args.times c.args.text.now
    (map entry_of c.args.terms.now.items) (map entry_of c.lines.terms.items) c.lines.power c.lines.rest.now
    c.in-Some.behind.now _ (omega arith) c.lines.invariant (rw c.in-Some.is at c.in_ok-behind.ensures.some)
