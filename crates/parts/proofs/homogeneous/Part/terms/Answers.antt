use Rattle.std.proofs.Common.{◌∙◌, ap, sym, map}
use Rattle.std.specs.FinMap.{entries}
use Rattle.ps_model.specs.Keys.{key_compare}
use Rattle.ps_model.specs.KeyLaws.{key_compare_total, key_compare-IsAntisymmetric}
use Rattle.ps_model.proofs.Maps.{entries-from_entries}
use Rattle.parts.specs.Terms.{entry_of}
use Rattle.parts.proofs.homogeneous.Part.terms.Goals as goal

pub returns-clause-entries : goal.returns-clause-entries
returns-clause-entries c =
    ap (map entry_of) c.deref.ensures.value ∙
    sym (entries-from_entries (key_compare 8) (key_compare_total 8) (key_compare-IsAntisymmetric 8)
    (map entry_of c.self.inside.terms.items) c.self.invariant.0) ∙ ap (λ p. entries p.map) c.self.view_is
