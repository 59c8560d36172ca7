-- proofs/plain/PlainPoly/terms/Answers.antt
use Rattle.std.proofs.Common.{◌∙◌, map, sym, ap}
use Rattle.std.specs.FinMap.{entries}
use Rattle.ps_model.specs.Plain.{entry_of}
use Rattle.ps_model.proofs.PlainTerms.{listed}
use Rattle.ps_model.proofs.plain.PlainPoly.terms.Goals as goal

pub returns-clause-listed : goal.returns-clause-listed
returns-clause-listed c =
    ap (map entry_of) c.as_slice.ensures.value ∙ sym (listed c.self.inside.terms.items c.self.invariant.0)
    ∙ ap entries c.self.view_is
