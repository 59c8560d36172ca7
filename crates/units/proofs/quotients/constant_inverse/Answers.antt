use Rattle.std.proofs.Common.{◌≡◌, ◌*◌, ◌%◌, sym, ◌∙◌, ap, subst}
use Rattle.std.specs.Int.{IsGcd}
use Rattle.ps_model.specs.FiniteMaps.{value_at}
use Rattle.ps_model.specs.Keys.{key_compare}
use Rattle.parts.specs.Keys.{key_from}
use Rattle.parts.specs.Rings.{modulus_of}
use Rattle.parts.specs.Series.{constant_of}
use Rattle.parts.proofs.Polynomials.{constant_is}
use Rattle.units.proofs.Constants.{no_unit}
use Rattle.units.proofs.quotients.constant_inverse.Goals as goal
use Rattle.units.proofs.quotients.constant_inverse.Goals.{After-inverse}

constant : (c : After-inverse) → c.reduce-constant.result ≡ constant_of c.args.ring c.args.part.now
constant c = c.reduce-constant.ensures ∙ ap (λ n. c.coefficient.result % n) c.modulus.ensures
    ∙ ap (λ n. n % modulus_of c.args.ring) (c.coefficient.ensures
    ∙ ap (λ xs. value_at (key_compare 8) c.args.part.now.map (key_from xs)) c.of-origin.ensures)
    ∙ sym (constant_is c.args.ring c.args.part.now)

pub unreachable-requires : goal.unreachable-requires
unreachable-requires c = no_unit (modulus_of c.args.ring) (constant_of c.args.ring c.args.part.now)
    c.in-Err.field-0.gcd c.in-Err.ensures.common
    (subst (λ n. IsGcd n (modulus_of c.args.ring) c.in-Err.field-0.gcd)
    (constant (goal.at.unreachable-requires c).After-inverse)
    (subst (λ m. IsGcd c.reduce-constant.result m c.in-Err.field-0.gcd) c.modulus-2.ensures c.in-Err.ensures.divisor))
    c.requires.unit

pub returns-clause-inverts : goal.returns-clause-inverts
returns-clause-inverts c =
    ap (λ n. (n * c.in-Ok.inverse) % modulus_of c.args.ring)
    (sym (constant (goal.at.returns-clause-inverts c).After-inverse))
    ∙ ap (λ m. (c.reduce-constant.result * c.in-Ok.inverse) % m) (sym c.modulus-2.ensures)
    ∙ c.in-Ok.ensures.inverse.product
