use Rattle.std.proofs.Common.{◌∙◌, ap}
use Rattle.std.specs.Prelude.{false}
use Rattle.parts.specs.AccumulatorValue.{with_product}
use Rattle.parts.proofs.Gained.{product_alone}
use Rattle.parts.proofs.Again.{renamed}
use Rattle.parts.proofs.arithmetic.product.Goals as goal

pub returns-clause-map : goal.returns-clause-map
returns-clause-map c = renamed c.finish.result _ _ (ap (λ s. s.map) c.in_ok-add_product.ensures.ok ∙
    (λ i. with_product (c.new-sum.ensures i).ring.modulus.value false (c.new-sum.ensures i).map c.args.a.now.map
    c.args.b.now.map) ∙ product_alone c.args.ring.modulus.value c.args.a.now.map c.args.b.now.map)
    c.finish.ensures.map
