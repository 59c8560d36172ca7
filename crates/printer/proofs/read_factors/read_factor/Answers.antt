use Rattle.std.proofs.Common.{map}
use Rattle.ps_model.specs.Plain.{entry_of}
use Rattle.printer.specs.ReadBlock.{variable_names, head_text, power_forms}
use Rattle.printer.proofs.ReadFactorLines.{stops_first, stops_later, factor_read}
use Rattle.printer.proofs.read_factors.read_factor.Goals as goal

pub returns-in_default-clause-stopped : goal.returns-in_default-clause-stopped
returns-in_default-clause-stopped g c = stops_first c.args.ring
    (variable_names c.args.ring (g.N.NameView.names c.args.names.now)) c.args.d
    (head_text c.args.number c.args.root) c.args.text.now (power_forms c.args.root.times) c.in_default.ensures.stripped

pub returns-in-Ok-clause-read : goal.returns-in-Ok-clause-read
returns-in-Ok-clause-read g c = factor_read c.args.ring
    (variable_names c.args.ring (g.N.NameView.names c.args.names.now)) c.args.d c.args.number c.args.root
    c.args.text.now c.in-Some.behind.now (map entry_of c.args.terms.now.items)
    (map entry_of c.read_power_lines.new.terms.items) c.in-Ok.rest.now c.in-Some.ensures.stripped
    (rw c.in-Ok.is at c.in_ok-rest.ensures.read)

pub returns-in-Err-clause-stopped : goal.returns-in-Err-clause-stopped
returns-in-Err-clause-stopped g c = stops_later c.args.ring
    (variable_names c.args.ring (g.N.NameView.names c.args.names.now)) c.args.d
    (head_text c.args.number c.args.root) c.args.text.now c.in-Some.behind.now (power_forms c.args.root.times)
    c.in-Err.before c.in-Some.ensures.stripped (rw c.in-Err.is at c.in_ok-rest.ensures.stopped)
