use Rattle.std.proofs.Common.{◌≡◌, ◌≢◌, ℕ, ◌%◌, ◌*◌, ◌<◌, Err, sym, ◌∙◌, ap, subst, rules}
use Rattle.std.specs.Int.{IsGcd}
use Rattle.ps_model.specs.Bounds.{IsUnit}
use Rattle.parts.specs.Rings.{modulus_of}
use Rattle.residue.specs.Residues.{number_of}
use Rattle.series_graph.specs.Formula.{place_of}
use Rattle.series_graph.specs.GraphValue.{GraphValue, constant_at}
use Rattle.series_graph.specs.declared.error.GraphError.TheVariants.{NotAUnit}
use Rattle.series_graph.proofs.GraphConstants.{divided, unit_by, not_without, same_gcd}
use Rattle.series_graph.proofs.graph.Graph.quotient.Goals as goal
use Rattle.series_graph.proofs.graph.Graph.quotient.Goals.{After-constant-value, In-Ok}

modulus : (c : After-constant-value) → number_of c.modulus-modulus.result ≡ modulus_of c.args.self.now.ring
modulus c = c.modulus-modulus.ensures ∙ ap (λ (g : GraphValue). modulus_of g.ring) c.self.view_is

unit : (c : In-Ok) → number_of c.modulus-modulus.result ≡ modulus_of c.args.self.now.ring
    → IsUnit (modulus_of c.args.self.now.ring) (constant_at c.args.self.now (place_of c.args.b))
unit c same = subst (IsUnit (modulus_of c.args.self.now.ring)) c.constant-value.ensures.value
    (unit_by (modulus_of c.args.self.now.ring) (number_of c.modulus-modulus.result) c.constant-value.result
    c.in-Ok.inverse same c.in-Ok.ensures.inverse.residue c.in-Ok.ensures.inverse.product)

pub add-requires-clause-constant : goal.add-requires-clause-constant
add-requires-clause-constant c =
    let same = modulus (goal.at.add-requires-clause-constant c).After-constant-value in
    divided (modulus_of c.args.self.now.ring) (number_of c.modulus-modulus.result)
    (constant_at c.args.self.now (place_of c.args.a)) (constant_at c.args.self.now (place_of c.args.b))
    c.in-Ok.inverse c.mul-constant.result same c.args.self.now.ring.modulus.low
    (subst (λ n. n < modulus_of c.args.self.now.ring) c.constant.ensures.value c.constant.ensures.residue)
    (ap (λ n. (n * c.in-Ok.inverse) % number_of c.modulus-modulus.result) (sym c.constant-value.ensures.value)
    ∙ c.in-Ok.ensures.inverse.product)
    (c.mul-constant.ensures ∙ ap (λ n. (n * c.in-Ok.inverse) % number_of c.modulus-modulus.result)
    c.constant.ensures.value)

pub returns-in_err-add-in-Ok-clause-not_a_unit : goal.returns-in_err-add-in-Ok-clause-not_a_unit
returns-in_err-add-in-Ok-clause-not_a_unit c =
    let at = goal.at.returns-in_err-add-in-Ok-clause-not_a_unit c in
    let other : (value gcd : ℕ) → c.from_residual-in_err-add-in-Ok.result ≢ Err (NotAUnit value gcd) = search rules in
    λ value gcd. (
      λ e. absurd (other value gcd e),
      λ without. absurd (not_without c.args.self.now c.args.b value gcd without
          (unit at.In-Ok (modulus at.After-constant-value))),
    )

pub returns-in_ok-add-in-Ok-clause-not_a_unit : goal.returns-in_ok-add-in-Ok-clause-not_a_unit
returns-in_ok-add-in-Ok-clause-not_a_unit c =
    let at = goal.at.returns-in_ok-add-in-Ok-clause-not_a_unit c in
    λ value gcd. (
      λ e. cc,
      λ without. absurd (not_without c.args.self.now c.args.b value gcd without
          (unit at.In-Ok (modulus at.After-constant-value))),
    )

pub returns-in-Err-clause-not_a_unit : goal.returns-in-Err-clause-not_a_unit
returns-in-Err-clause-not_a_unit c =
    let same = modulus (goal.at.returns-in-Err-clause-not_a_unit c).After-constant-value in
    λ value gcd. (
      λ e.
          let told : c.constant-value.result ≡ value = cc in
          let common : c.in-Err.field-0.gcd ≡ gcd = cc in
          record {
            room = c.in_ok-test_room.ensures.ok;
            value_is = sym told ∙ c.constant-value.ensures.value;
            above = subst (λ g. 1 < g) common c.in-Err.ensures.common;
            divisor = subst (λ v. IsGcd v (modulus_of c.args.self.now.ring) gcd) told
                (subst (λ g. IsGcd c.constant-value.result (modulus_of c.args.self.now.ring) g) common
                (subst (λ m. IsGcd c.constant-value.result m c.in-Err.field-0.gcd) same c.in-Err.ensures.divisor));
          },
      λ without. λ i. Err (NotAUnit
          ((c.constant-value.ensures.value ∙ sym without.value_is) i)
          (same_gcd c.args.self.now c.args.b value gcd without (number_of c.modulus-modulus.result)
          c.constant-value.result c.in-Err.field-0.gcd same c.constant-value.ensures.value c.in-Err.ensures.divisor i)),
    )

pub returns-in-Err-clause-divisor : goal.returns-in-Err-clause-divisor
returns-in-Err-clause-divisor c = λ value gcd D e.
    let one = c.constant-value.ensures.meaning D in
    let told : value ≡ c.constant-value.result = cc in
    (one.one_value, one.meets, told ∙ c.constant-value.ensures.term D one.one_value one.meets)
