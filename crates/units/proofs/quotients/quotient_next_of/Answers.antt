use Rattle.std.proofs.Common.{◌++◌, ◌∷◌, [], List, length, sym, ◌∙◌, ap, subst, arith}
use Rattle.ps_model.specs.Bounds.{IsUnit}
use Rattle.ps_model.specs.Notation.{homogeneous_part}
use Rattle.parts.specs.PartValue.{PartValue}
use Rattle.parts.specs.Rings.{modulus_of}
use Rattle.parts.specs.RowsOfParts.{parts_of, part_in}
use Rattle.parts.specs.Series.{polynomial_in, constant_of}
use Rattle.units.specs.SeriesParts.{IsPartAt, AreSeriesParts, series_of, AreQuotientParts}
use Rattle.units.specs.Links.{AreLinks}
use Rattle.units.proofs.Parts.{series_part}
use Rattle.units.proofs.PartsRead.{parts_count}
use Rattle.units.proofs.quotients.quotient_next_of.Goals as goal

pub next_of-requires-clause-permitted : goal.next_of-requires-clause-permitted
next_of-requires-clause-permitted c =
    let count = parts_count c.parts-2.result.now in
    let same = ap length c.parts-2.ensures in
    let permitted = c.requires.permitted in
    omega arith

pub next_of-requires-clause-unit : goal.next_of-requires-clause-unit
next_of-requires-clause-unit c = subst (λ (ps : List PartValue). IsUnit (modulus_of c.args.ring)
    (constant_of c.args.ring (part_in ps 0))) (sym c.parts.ensures) c.requires.unit

pub next_of-requires-clause-enough : goal.next_of-requires-clause-enough
next_of-requires-clause-enough c =
    let count = parts_count c.parts-2.result.now in
    let same = ap length c.parts-2.ensures in
    let divisor_count = parts_count c.parts.result.now in
    let divisor_same = ap length c.parts.ensures in
    let enough = c.requires.b_enough in
    omega arith

pub next_of-requires-clause-numerator : goal.next_of-requires-clause-numerator
next_of-requires-clause-numerator c =
    let same = c.deref.ensures ∙ c.part-numerator.ensures ∙ ap (part_in c.args.a.now) c.len.ensures in
    subst (λ n. IsPartAt c.args.ring n c.deref.result.now)
    (sym (ap length c.parts-2.ensures) ∙ parts_count c.parts-2.result.now)
    (subst (IsPartAt c.args.ring (length c.args.own.now)) (sym same)
    (c.requires.a_parts (length c.args.own.now) c.requires.a_enough))

pub next_of-requires-clause-b_parts : goal.next_of-requires-clause-b_parts
next_of-requires-clause-b_parts c = subst (AreSeriesParts c.args.ring) (sym c.parts.ensures) c.requires.b_parts

pub next_of-requires-clause-links : goal.next_of-requires-clause-links
next_of-requires-clause-links c = subst (λ (ps : List PartValue). AreLinks ps c.links.result.now) (sym c.parts.ensures)
    c.links.ensures

pub next_of-requires-clause-own_parts : goal.next_of-requires-clause-own_parts
next_of-requires-clause-own_parts c = subst (AreSeriesParts c.args.ring) (sym c.parts-2.ensures) c.requires.own_parts

pub returns-clause-degree : goal.returns-clause-degree
returns-clause-degree c = c.in_ok-next_of.ensures.part.0 ∙ sym (parts_count c.parts-2.result.now)
    ∙ ap length c.parts-2.ensures

pub returns-clause-first : goal.returns-clause-first
returns-clause-first c =
    let same = c.deref.ensures ∙ c.part-numerator.ensures ∙ ap (part_in c.args.a.now) c.len.ensures in
    let top = series_part c.args.ring c.args.a.now c.requires.a_parts (length c.args.own.now)
    ∙ ap (λ (p : PartValue). polynomial_in c.args.ring p.map) (sym same) in
    subst (λ (ps : List PartValue). AreQuotientParts c.args.ring (series_of c.args.ring c.args.a.now)
    (series_of c.args.ring c.args.b.now) (ps ++ c.in_ok-next_of.field-0 ∷ [])) c.parts-2.ensures
    (subst (λ (ps : List PartValue). AreQuotientParts c.args.ring (series_of c.args.ring c.args.a.now)
    (series_of c.args.ring ps) (parts_of c.parts-2.result.now ++ c.in_ok-next_of.field-0 ∷ [])) c.parts.ensures
    (c.in_ok-next_of.ensures.next (series_of c.args.ring c.args.a.now)
    (ap (λ n. homogeneous_part n (series_of c.args.ring c.args.a.now))
    (sym (parts_count c.parts-2.result.now) ∙ ap length c.parts-2.ensures) ∙ top)
    (subst (λ (ps : List PartValue). AreQuotientParts c.args.ring (series_of c.args.ring c.args.a.now)
    (series_of c.args.ring ps) (parts_of c.parts-2.result.now)) (sym c.parts.ensures)
    (subst (AreQuotientParts c.args.ring (series_of c.args.ring c.args.a.now) (series_of c.args.ring c.args.b.now))
    (sym c.parts-2.ensures) c.requires.own_first))))
