use Rattle.std.proofs.Common.{map, ap, ◌+◌, arith}
use Rattle.std.proofs.lemmas.Bool.{iff_false}
use Rattle.ps_model.specs.Plain.{entry_of}
use Rattle.printer.specs.ReadBlock.{variable_names, factor_forms}
use Rattle.printer.proofs.ReadWholes.{stopped_first, stopped_precision, stopped_unended, stopped_line, told_none}
use Rattle.printer.proofs.ReadWholes.{lead_from, lead_pass, precision_known, then_first, else_first, rest_short}
use Rattle.printer.proofs.ReadWholes.{first_low}
use Rattle.printer.proofs.read_whole.read_block_lines.Goals as goal
use Rattle.printer.proofs.read_whole.read_block_lines.Goals.{then-lead, else-lead}

pub returns-in_default-clause-refused : goal.returns-in_default-clause-refused
returns-in_default-clause-refused g c = stopped_first c.args.ring
    (variable_names c.args.ring (g.N.NameView.names c.args.names.now)) c.args.roots.now
    c.args.lead c.args.text.now (told_none _ c.in_default.ensures)

pub returns-then-not-permitted-clause-refused : goal.returns-then-not-permitted-clause-refused
returns-then-not-permitted-clause-refused g c = stopped_precision c.args.ring
    (variable_names c.args.ring (g.N.NameView.names c.args.names.now))
    c.args.roots.now c.args.lead c.args.text.now c.in-Some.precision c.in-Some.rest.now c.in-Some.ensures c.min.result
    (iff_false c.permitted.ensures c.if-not-permitted.true) c.min.ensures

pub returns-in_default-strip-clause-refused : goal.returns-in_default-strip-clause-refused
returns-in_default-strip-clause-refused g c = stopped_unended c.args.ring
    (variable_names c.args.ring (g.N.NameView.names c.args.names.now))
    c.args.roots.now c.args.lead c.args.text.now c.in-Some.precision c.in-Some.rest.now c.in-Some.ensures
    (c.permitted.ensures.0 c.if-not-permitted.false) c.in_default-strip.ensures

pub returns-in_default-2-clause-refused : goal.returns-in_default-2-clause-refused
returns-in_default-2-clause-refused g c = stopped_line c.args.ring
    (variable_names c.args.ring (g.N.NameView.names c.args.names.now))
    c.args.roots.now c.args.lead c.args.text.now c.in-Some.precision c.in-Some.rest.now c.in-Some.ensures
    (c.permitted.ensures.0 c.if-not-permitted.false) c.in-Some-strip.behind.now 2 c.in-Some-strip.ensures
    ((rw c.in_default-2.is at c.in_ok-rest.ensures.none) (factor_forms 1 c.args.roots.now) 2)

pub read_factors-requires-clause-short : goal.read_factors-requires-clause-short
read_factors-requires-clause-short g c = rest_short c.args.ring
    (variable_names c.args.ring (g.N.NameView.names c.args.names.now))
    c.in-Some.precision c.args.lead c.args.text.now c.in-Some-strip.behind.now
    (map entry_of c.new-lead_terms.result.items) (map entry_of c.read_lead.new.terms.items) c.in-Some-2.rest.now
    1048577 c.requires.short
    (precision_known c.args.text.now c.in-Some.precision c.in-Some.rest.now c.in-Some-strip.behind.now
    (c.permitted.ensures.0 c.if-not-permitted.false).0 c.in-Some.ensures c.in-Some-strip.ensures)
    (rw c.in-Some-2.is at c.in_ok-rest.ensures.read)

pub overflow_add-result : goal.overflow_add-result
overflow_add-result g c =
    let short = rest_short c.args.ring (variable_names c.args.ring (g.N.NameView.names c.args.names.now))
    c.in-Some.precision c.args.lead c.args.text.now c.in-Some-strip.behind.now
    (map entry_of c.new-lead_terms.result.items) (map entry_of c.read_lead.new.terms.items) c.in-Some-2.rest.now
    1048577 c.requires.short
    (precision_known c.args.text.now c.in-Some.precision c.in-Some.rest.now c.in-Some-strip.behind.now
    (c.permitted.ensures.0 c.if-not-permitted.false).0 c.in-Some.ensures c.in-Some-strip.ensures)
    (rw c.in-Some-2.is at c.in_ok-rest.ensures.read) in
    let few = rw c.in-Err.is at c.in_ok-factors.ensures.few in
    let first = first_low c.args.lead c.if-lead.first (elim c.if-lead.branch [
      | then-lead w ↦ then_first c.args.lead c.if-lead.first w.if-lead.true w.first-is
      | else-lead w ↦ else_first c.args.lead c.if-lead.first w.if-lead.false w.first-is
    ]) in
    omega (arith, short, few, first)

pub returns-in-Ok-clause-read : goal.returns-in-Ok-clause-read
returns-in-Ok-clause-read g c =
    let permitted = c.permitted.ensures.0 c.if-not-permitted.false in
    record {
      behind = c.in-Some-strip.behind.now;
      rest = c.in-Some-2.rest.now;
      permitted = permitted;
      text_is = precision_known c.args.text.now c.in-Some.precision c.in-Some.rest.now c.in-Some-strip.behind.now
          permitted.0 c.in-Some.ensures c.in-Some-strip.ensures;
      lead_is = lead_from c.args.ring (variable_names c.args.ring (g.N.NameView.names c.args.names.now))
          c.in-Some.precision c.args.lead c.in-Some-strip.behind.now (map entry_of c.new-lead_terms.result.items)
          (map entry_of c.read_lead.new.terms.items) c.in-Some-2.rest.now
          (ap (map entry_of) c.new-lead_terms.ensures.items)
          (rw c.in-Some-2.is at c.in_ok-rest.ensures.read);
      factors = rw c.in-Ok.is at c.in_ok-factors.ensures.read;
    }

pub returns-in-Err-clause-refused : goal.returns-in-Err-clause-refused
returns-in-Err-clause-refused g c = stopped_line c.args.ring
    (variable_names c.args.ring (g.N.NameView.names c.args.names.now))
    c.args.roots.now c.args.lead c.args.text.now c.in-Some.precision c.in-Some.rest.now c.in-Some.ensures
    (c.permitted.ensures.0 c.if-not-permitted.false) c.in-Some-strip.behind.now (c.if-lead.first + c.in-Err.before)
    c.in-Some-strip.ensures
    (lead_pass c.args.ring (variable_names c.args.ring (g.N.NameView.names c.args.names.now))
    c.in-Some.precision c.args.lead (factor_forms 1 c.args.roots.now) c.in-Some-strip.behind.now
    (map entry_of c.new-lead_terms.result.items) (map entry_of c.read_lead.new.terms.items) c.in-Some-2.rest.now
    2 c.if-lead.first (c.if-lead.first + c.in-Err.before) (rw c.in-Some-2.is at c.in_ok-rest.ensures.read)
    (elim c.if-lead.branch [
      | then-lead w ↦ then_first c.args.lead c.if-lead.first w.if-lead.true w.first-is
      | else-lead w ↦ else_first c.args.lead c.if-lead.first w.if-lead.false w.first-is
    ])
    ((rw c.in-Err.is at c.in_ok-factors.ensures.stopped) c.if-lead.first))
