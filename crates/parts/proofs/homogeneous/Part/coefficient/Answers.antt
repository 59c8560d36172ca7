use Rattle.std.proofs.Common.{◌∙◌, ap, sym, map}
use Rattle.std.specs.Option.{unwrap_or}
use Rattle.std.specs.FinMap.{find, get-from_entries}
use Rattle.ps_model.specs.Keys.{key_compare}
use Rattle.ps_model.specs.KeyLaws.{key_compare_total}
use Rattle.ps_model.specs.FiniteMaps.{value_at}
use Rattle.parts.specs.Terms.{entry_of, key_of}
use Rattle.parts.proofs.homogeneous.Part.coefficient.Goals as goal

pub returns : goal.returns
returns c = c.find_coefficient.ensures
    ∙ ap (λ ts. unwrap_or (find (key_compare 8) (key_of c.args.at.now) (map entry_of ts)) 0) c.deref.ensures.value
    ∙ ap (λ o. unwrap_or o 0)
    (sym (get-from_entries (key_compare_total 8) (map entry_of c.self.inside.terms.items) (key_of c.args.at.now)))
    ∙ ap (λ p. value_at (key_compare 8) p.map (key_of c.args.at.now)) c.self.view_is
