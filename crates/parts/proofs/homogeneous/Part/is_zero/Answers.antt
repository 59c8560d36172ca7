use Rattle.std.proofs.Common.{◌≡◌, ◌∙◌, ap, sym, refl, List, [], ◌∷◌, length, map, arith, vec_len}
use Rattle.std.specs.FinMap.{entries, from_entries}
use Rattle.std.proofs.lemmas.Bool.{eqb-true, eq-eqb}
use Rattle.std.proofs.lemmas.List.{length-map}
use Rattle.ps_model.specs.Keys.{key_compare}
use Rattle.ps_model.specs.KeyLaws.{key_compare_total, key_compare-IsAntisymmetric}
use Rattle.ps_model.proofs.Maps.{entries-from_entries}
use Rattle.parts.specs.Terms.{entry_of}
use Rattle.parts.specs.declared.terms.Term.{Term}
use Rattle.parts.proofs.Gained.{none_listed}
use Rattle.parts.proofs.homogeneous.Part.is_zero.Goals as goal

nothing : (ts : List Term) → length ts ≡ 0 → ts ≡ []
nothing [] e = refl
nothing (t ∷ ts) e = absurd (omega arith)

pub returns : goal.returns
returns c = (
  λ yes. ap (λ p. p.map) (sym c.self.view_is) ∙
      ap (λ ts. from_entries (map entry_of ts))
      (nothing c.self.inside.terms.items (sym c.self.inside.terms.ok.0 ∙
      eqb-true (vec_len c.self.inside.terms) 0 (sym c.is_empty.ensures ∙ yes))),
  λ none. c.is_empty.ensures ∙
      eq-eqb (vec_len c.self.inside.terms) 0 (c.self.inside.terms.ok.0 ∙ sym length_kept ∙
      ap length (listed ∙ ap (λ p. entries p.map) c.self.view_is ∙ ap entries none ∙ none_listed)),
)
  where
    listed : map entry_of c.self.inside.terms.items ≡
        entries (from_entries {R = key_compare 8} (map entry_of c.self.inside.terms.items))
    listed = sym (entries-from_entries (key_compare 8) (key_compare_total 8) (key_compare-IsAntisymmetric 8)
        (map entry_of c.self.inside.terms.items) c.self.invariant.0)

    length_kept : length (map entry_of c.self.inside.terms.items) ≡ length c.self.inside.terms.items
    length_kept = rw length-map
