use Rattle.std.proofs.Common.{List, [], ◌∷◌}
use Rattle.std.specs.Prelude.{All}
use Rattle.std.proofs.lemmas.List.Elements.{All-cons, All-nil}
use Rattle.ps_model.specs.PlainPolynomial.{small_key, HasResiduesBelow, HasKeysWithin}
use Rattle.ps_model.proofs.PlainBounds.{all_in_range, residues_from, small_four_times}
use Rattle.model_tests.proofs.plain_functions.are_three_factors.Goals as goal

three : {A : Type 0} (P : A → Type 0) (a b c : A) → P a → P b → P c → All P (a ∷ b ∷ c ∷ [])
three P a b c p q r = All-cons P a (b ∷ c ∷ []) p (All-cons P b (c ∷ []) q (All-cons P c [] r (All-nil P)))

pub plain_is_factors-requires-clause-input_residues : goal.plain_is_factors-requires-clause-input_residues
plain_is_factors-requires-clause-input_residues c = residues_from 101 c.in_ok-input.input c.in_ok-input.ensures.residues

pub plain_is_factors-requires-clause-residues : goal.plain_is_factors-requires-clause-residues
plain_is_factors-requires-clause-residues c = three (HasResiduesBelow 101) c.in_ok-f.f c.in_ok-g.g c.in_ok-h.h
    (residues_from 101 c.in_ok-f.f c.in_ok-f.ensures.residues)
    (residues_from 101 c.in_ok-g.g c.in_ok-g.ensures.residues)
    (residues_from 101 c.in_ok-h.h c.in_ok-h.ensures.residues)

pub plain_is_factors-requires-clause-in_range : goal.plain_is_factors-requires-clause-in_range
plain_is_factors-requires-clause-in_range c =
    all_in_range small_key (c.in_ok-input.input ∷ c.in_ok-f.f ∷ c.in_ok-g.g ∷ c.in_ok-h.h ∷ [])
    (All-cons (HasKeysWithin small_key) c.in_ok-input.input (c.in_ok-f.f ∷ c.in_ok-g.g ∷ c.in_ok-h.h ∷ [])
    c.in_ok-input.ensures.within
    (three (HasKeysWithin small_key) c.in_ok-f.f c.in_ok-g.g c.in_ok-h.h c.in_ok-f.ensures.within
    c.in_ok-g.ensures.within c.in_ok-h.ensures.within))
    small_four_times
