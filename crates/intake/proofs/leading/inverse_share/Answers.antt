-- A divisor within it is no unit, it has an inverse itself, or it has none.
use Rattle.std.proofs.Common.{sym, ◌∙◌}
use Rattle.intake.proofs.InverseShares.{no_divisors, no_inverse, with_inverse}
use Rattle.intake.proofs.NearPairs.{no_unit}
use Rattle.intake.proofs.leading.inverse_share.Goals as goal

pub returns-in_default-clause-share : goal.returns-in_default-clause-share
returns-in_default-clause-share c = λ ws l. no_divisors c.args.modulus.value c.args.modulus.low ws c.args.divisor.now
    c.requires _ _ _ l c.in_default.ensures.stopped

pub returns-in-Ok-inverse-clause-share : goal.returns-in-Ok-inverse-clause-share
returns-in-Ok-inverse-clause-share c = λ ws l. with_inverse c.args.modulus.value c.args.modulus.low ws
    c.args.divisor.now c.requires c.in-Ok.origin.value c.in-Ok.ensures.value c.in-Ok-inverse.inverse l
    (sym c.is_number.ensures ∙ c.if-not-is_number.false) c.in-Ok-inverse.ensures.inverse.residue
    c.in-Ok-inverse.ensures.inverse.product

pub returns-in-Err-clause-share : goal.returns-in-Err-clause-share
returns-in-Err-clause-share c = λ ws l. no_inverse c.args.modulus.value c.args.modulus.low ws c.args.divisor.now
    c.requires c.in-Ok.origin.value c.in-Ok.ensures.value l
    (no_unit c.args.modulus.value c.in-Ok.origin.value c.in-Err.field-0.gcd c.in-Err.ensures.common
    c.in-Err.ensures.divisor)
