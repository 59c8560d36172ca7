use Rattle.std.proofs.Common.{[], ◌∷◌}
use Rattle.std.proofs.lemmas.List.Elements.{All-cons, All-nil}
use Rattle.ps_model.specs.PlainPolynomial.{small_key, HasResiduesBelow, HasKeysWithin}
use Rattle.ps_model.proofs.PlainBounds.{all_in_range, residues_from, small_thrice}
use Rattle.model_tests.proofs.plain_functions.are_factors.Goals as goal

pub plain_is_factors-requires-clause-input_residues : goal.plain_is_factors-requires-clause-input_residues
plain_is_factors-requires-clause-input_residues c = residues_from 101 c.in_ok-input.input c.in_ok-input.ensures.residues

pub plain_is_factors-requires-clause-residues : goal.plain_is_factors-requires-clause-residues
plain_is_factors-requires-clause-residues c = All-cons (HasResiduesBelow 101) c.in_ok-f.f (c.in_ok-g.g ∷ [])
    (residues_from 101 c.in_ok-f.f c.in_ok-f.ensures.residues)
    (All-cons (HasResiduesBelow 101) c.in_ok-g.g [] (residues_from 101 c.in_ok-g.g c.in_ok-g.ensures.residues)
    (All-nil (HasResiduesBelow 101)))

pub plain_is_factors-requires-clause-in_range : goal.plain_is_factors-requires-clause-in_range
plain_is_factors-requires-clause-in_range c =
    all_in_range small_key (c.in_ok-input.input ∷ c.in_ok-f.f ∷ c.in_ok-g.g ∷ [])
    (All-cons (HasKeysWithin small_key) c.in_ok-input.input
    (c.in_ok-f.f ∷ c.in_ok-g.g ∷ []) c.in_ok-input.ensures.within
    (All-cons (HasKeysWithin small_key) c.in_ok-f.f (c.in_ok-g.g ∷ []) c.in_ok-f.ensures.within
    (All-cons (HasKeysWithin small_key) c.in_ok-g.g [] c.in_ok-g.ensures.within (All-nil (HasKeysWithin small_key)))))
    small_thrice
