use Rattle.std.proofs.Common.{◌≡◌, ◌+◌, ◌%◌, refl, sym, ◌∙◌, ap}
use Rattle.std.proofs.Math.Nat.{mod-mod}
use Rattle.residue.specs.Products.{reversed_dot}
use Rattle.residue.specs.ProductSums.{ProductSumValue, exact_of, with_products}
use Rattle.residue.proofs.Arithmetic.{plus}
use Rattle.residue.proofs.product_sum.ProductSum.add.Goals as goal

pub returns : goal.returns
returns c =
    (λ i. record { modulus = c.self.inside.modulus.value; residue = value i }) ∙
    ap (λ (s : ProductSumValue). with_products s c.args.a.now c.args.w.now) c.self.view_is
  where
    value : exact_of c.added-room.result.sum % c.self.inside.modulus.value ≡
        (exact_of c.self.inside.sum % c.self.inside.modulus.value + reversed_dot c.args.a.now c.args.w.now)
        % c.self.inside.modulus.value
    value = c.added-room.ensures.residue ∙
        sym (plus c.self.inside.modulus.value (exact_of c.self.inside.sum % c.self.inside.modulus.value)
        (exact_of c.self.inside.sum) (reversed_dot c.args.a.now c.args.w.now)
        (reversed_dot c.args.a.now c.args.w.now) (mod-mod (exact_of c.self.inside.sum) c.self.inside.modulus.value)
        refl)
