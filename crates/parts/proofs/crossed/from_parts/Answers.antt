use Rattle.std.proofs.Common.{◌≡◌, ◌-◌, Result, Ok, Err, length, sym, ◌∙◌, subst, arith}
use Rattle.std.specs.FinMap.{empty}
use Rattle.std.specs.Result.{IfOk}
use Rattle.ps_model.specs.FiniteMaps.{scale_map}
use Rattle.ps_model.specs.Keys.{key_compare}
use Rattle.ps_model.specs.Notation.{sum_between}
use Rattle.parts.specs.PartValue.{PartValue, IsPartOf}
use Rattle.parts.specs.Rings.{modulus_of}
use Rattle.parts.specs.SeriesParts.{SubtractsFrom, crossed_part, parts_at}
use Rattle.parts.proofs.CrossedParts.{subtracts-none, subtracts-more, from_parts-done}
use Rattle.parts.proofs.crossed.from_parts.Goals as goal

-- three facts of one answer
all_three : {E : Type 0} (P Q R S : PartValue → Type 0) (r : Result PartValue E) →
    ((p : PartValue) → P p → Q p → R p → S p) → IfOk r P → IfOk r Q → IfOk r R → IfOk r S
all_three P Q R S (Ok p) f x y z = f p x y z
all_three P Q R S (Err e) f x y z = x

pub loop-h-init : goal.loop-h-init
loop-h-init c = subtracts-none c.add_scaled.new.self (λ h. crossed_part c.add_scaled.new.self.ring c.args.start.now.degree
    (parts_at c.args.crossed.now.left.now h) (parts_at c.args.crossed.now.right.now (c.args.crossed.now.power - h)))

pub loop-h-preserved : goal.loop-h-preserved
loop-h-preserved c =
    subtracts-more (λ ring h. crossed_part ring c.args.start.now.degree (parts_at c.args.crossed.now.left.now h)
    (parts_at c.args.crossed.now.right.now (c.args.crossed.now.power - h)))
    c.add_scaled.new.self c.loop-h.sum c.subtract_product.new.sum c.loop-h.h c.loop-h.invariant
    (subst (λ n. SubtractsFrom c.loop-h.sum c.subtract_product.new.sum (crossed_part c.loop-h.sum.ring n
    (parts_at c.args.crossed.now.left.now c.loop-h.h)
    (parts_at c.args.crossed.now.right.now (c.args.crossed.now.power - c.loop-h.h)))) c.degree-in-loop-h.ensures
    c.in_ok-subtract_product.ensures)

pub returns : goal.returns
returns c =
    let end : c.loop-h.h ≡ length c.args.crossed.now.left.now = omega arith in
    all_three (λ p. p.degree ≡ c.in_ok-finish.field-0.degree)
    (λ p. p.map ≡ scale_map (key_compare 8) (modulus_of c.args.ring) c.args.factor c.in_ok-finish.field-0.map)
    (IsPartOf c.args.ring) _ c.scaled-2.result
    (λ p degree map part. from_parts-done c.args.ring c.args.start.now c.in_ok-finish.field-0 p c.new-sum.result
    c.add_scaled.new.self c.loop-h.sum c.args.crossed.now.left.now c.args.crossed.now.right.now
    c.args.crossed.now.power c.args.factor
    (c.new-sum.ensures ∙ (λ i. record { ring = c.args.ring; degree = c.degree.ensures i; map = empty }))
    c.in_ok-add_scaled.ensures.ok
    (subst (λ n. SubtractsFrom c.add_scaled.new.self c.loop-h.sum (sum_between 0 n (λ h. crossed_part
    c.add_scaled.new.self.ring c.args.start.now.degree (parts_at c.args.crossed.now.left.now h)
    (parts_at c.args.crossed.now.right.now (c.args.crossed.now.power - h))))) end c.loop-h.invariant)
    c.in_ok-finish.ensures.degree c.in_ok-finish.ensures.map degree map part)
    c.scaled-2.ensures.degree c.scaled-2.ensures.map c.scaled-2.ensures.part
