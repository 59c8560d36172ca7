use Rattle.std.proofs.Common.{◌≡◌, ◌++◌, ◌∷◌, [], replicate, ◌∙◌, ap, arith}
use Rattle.std.proofs.lemmas.Grind.{common_steps}
use Rattle.std.proofs.lemmas.List.{map-append}
use Rattle.std.specs.Arc.{arc_value}
use Rattle.parts.specs.RowsOfParts.{parts_of, nothing}
use Rattle.prepare.proofs.Begun.{power_is}
use Rattle.prepare.proofs.first.power_of_y.Goals as goal

pub returns : goal.returns
returns c =
    let items : c.push-2.new.self.items ≡ c.loop.row.items ++ c.in_ok-new-2.field-0 ∷ [] =
    grind (arith, common_steps) in
    let value : arc_value c.in_ok-new-2.field-0 ≡ c.in_ok-constant.field-0 = c.in_ok-new-2.ensures.ok in
    let n : c.loop.counter ≡ c.args.k = omega (arith, c.loop.auto.counter-end) in
    power_is c.args.ring c.args.k c.in_ok-constant.field-0 _ c.in_ok-constant.ensures.degree
    c.in_ok-constant.ensures.map c.in_ok-constant.ensures.part
    (ap parts_of items ∙ map-append arc_value c.loop.row.items (c.in_ok-new-2.field-0 ∷ [])
    ∙ ap (λ xs. xs ++ arc_value c.in_ok-new-2.field-0 ∷ []) c.loop.invariant
    ∙ ap (λ m. replicate m nothing ++ arc_value c.in_ok-new-2.field-0 ∷ []) n
    ∙ ap (λ p. replicate c.args.k nothing ++ p ∷ []) value)
