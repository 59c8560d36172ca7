use Rattle.std.proofs.Common.{◌≡◌, ◌*◌, ◌%◌, ◌<◌, sym, ◌∙◌, ap, subst}
use Rattle.ps_model.specs.FiniteMaps.{value_at}
use Rattle.ps_model.specs.Keys.{key_compare}
use Rattle.parts.specs.Keys.{key_from}
use Rattle.parts.specs.PartValue.{PartValue}
use Rattle.parts.specs.Rings.{modulus_of}
use Rattle.parts.specs.RowsOfParts.{part_in}
use Rattle.parts.specs.Series.{constant_of}
use Rattle.parts.proofs.Polynomials.{constant_is}
use Rattle.series_tests.proofs.known_parts.need_unit.Goals as goal
use Rattle.series_tests.proofs.known_parts.need_unit.Goals.{After-inverse}

constant : (c : After-inverse) → c.reduce-constant.result ≡ constant_of c.args.ring (part_in c.args.b.now 0)
constant c = c.reduce-constant.ensures ∙ ap (λ n. c.coefficient.result % n) c.modulus.ensures
    ∙ ap (λ n. n % modulus_of c.args.ring) (c.coefficient.ensures
    ∙ ap (λ xs. value_at (key_compare 8) c.deref.result.now.map (key_from xs)) c.of-origin.ensures)
    ∙ sym (constant_is c.args.ring c.deref.result.now)
    ∙ ap (λ (p : PartValue). constant_of c.args.ring p) (c.deref.ensures ∙ c.part.ensures)

pub returns-in-Ok : goal.returns-in-Ok
returns-in-Ok c = record {
  inverse = c.in-Ok.field-0;
  is_residue = subst (λ m. c.in-Ok.field-0 < m) c.modulus-2.ensures c.in-Ok.ensures.inverse.residue;
  inverts = ap (λ n. (n * c.in-Ok.field-0) % modulus_of c.args.ring)
      (sym (constant (goal.at.returns-in-Ok c).After-inverse))
      ∙ ap (λ m. (c.reduce-constant.result * c.in-Ok.field-0) % m) (sym c.modulus-2.ensures)
      ∙ c.in-Ok.ensures.inverse.product;
}
