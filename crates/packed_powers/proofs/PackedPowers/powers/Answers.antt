use Rattle.std.proofs.Common.{◌∙◌, sym, arith}
use Rattle.std.proofs.lemmas.List.{ext_get_or}
use Rattle.packed_powers.proofs.PackedPowers.powers.Goals as goal

pub returns : goal.returns
returns c = ext_get_or 0 _ _ (c.loop-i.invariant.eight ∙ sym c.are_powers.ensures.eight)
    (λ k lt. c.loop-i.invariant.filled k (omega (arith, c.loop-i.invariant.eight)))
