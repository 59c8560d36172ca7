use Rattle.std.proofs.Common.{◌≡◌, ℕ, ◌+◌, ◌-◌, List, length, sym, ◌∙◌, ap, subst, arith}
use Rattle.std.proofs.lemmas.List.{length-map, length_push}
use Rattle.std.specs.Arc.{arc_value}
use Rattle.parts.specs.PartValue.{PartValue}
use Rattle.parts.specs.RowsOfParts.{parts_of, IsRowOfParts}
use Rattle.parts.specs.declared.rings.Ring.{Ring}
use Rattle.prepare.specs.PrepValue.{PrepValue, degrees_of}
use Rattle.series_tests.proofs.preparations.prepare_twice.Goals as goal

renamed : (ring other : Ring) (K L r s : ℕ) (row seen : List PartValue) → IsRowOfParts ring K r row → other ≡ ring
    → L ≡ K → s ≡ r → seen ≡ row → IsRowOfParts other L s seen
renamed ring other K L r s row seen is ring_is K_is r_is row_is =
    subst (λ (R : Ring). IsRowOfParts R L s seen) (sym ring_is)
    (subst (λ n. IsRowOfParts ring n s seen) (sym K_is)
    (subst (λ n. IsRowOfParts ring K n seen) (sym r_is)
    (subst (IsRowOfParts ring K r) (sym row_is) is)))

pub step-requires-2-clause-row : goal.step-requires-2-clause-row
step-requires-2-clause-row c =
    let begun = c.in_ok-prep.ensures.ok in
    let added = c.in_ok-step.ensures.ok in
    let first = length-map c.deref.result.now arc_value in
    let first_is = ap length c.deref.ensures.value in
    let first_count = c.in_ok-row_0.ensures.length in
    let last_count = c.in_ok-row_2.ensures.length in
    let powers = ap (λ (t : PrepValue). t.k + t.q) added.new_is in
    let degrees = ap degrees_of added.new_is in
    let one_more = length_push c.in_ok-prep.prep.rows_p added.row_p in
    let before = begun.degrees in
    let whole = begun.q_is in
    let square = c.in_ok-square.ensures.degree in
    let x = c.in_ok-x.ensures.degree in
    renamed c.args.ring c.step.new.self.ring (length c.in_ok-row_2.row_2.items - 1)
    (c.step.new.self.k + c.step.new.self.q) c.in_ok-square.square.degree (degrees_of c.step.new.self)
    (parts_of c.in_ok-row_2.row_2.items) (parts_of c.deref-3.result.now) c.in_ok-row_2.ensures.row
    (ap (λ (t : PrepValue). t.ring) added.new_is ∙ begun.ring_is) (omega arith) (omega arith)
    (ap parts_of c.deref-3.ensures.value)
