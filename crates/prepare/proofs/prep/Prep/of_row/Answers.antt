use Rattle.std.proofs.Common.{◌≡◌, ◌-◌, List, ◌∷◌, [], length, drop, sym, ◌∙◌, ap, subst, arith}
use Rattle.std.proofs.lemmas.Grind.{common_steps}
use Rattle.std.proofs.lemmas.List.{length-map, length-drop, drop-map, take_all}
use Rattle.std.specs.Arc.{arc_value}
use Rattle.parts.specs.PartValue.{PartValue}
use Rattle.parts.specs.RowsOfParts.{parts_of, parts_in, AreParts, IsRowOfParts}
use Rattle.prepare.specs.Columns.{AreColumns, HasSeries}
use Rattle.prepare.proofs.Begun.{IsBegun, begun_with, series_with, rest_parts}
use Rattle.prepare.proofs.prep.Prep.of_row.Goals as goal
use Rattle.prepare.proofs.prep.Prep.of_row.Goals.{After-push-2}

-- what both pushes leave
begun : (c : After-push-2) → c.push.new.self.items ≡ c.in_ok-row_p.row_p ∷ []
    → c.push-2.new.self.items ≡ c.in_ok-row_u.row_u ∷ []
    → IsBegun c.args.ring c.args.k (length c.args.row0.now - 1 - c.args.k) c.args.inverse (parts_of c.args.row0.now)
    (parts_in c.push.new.self.items) (parts_in c.push-2.new.self.items)
begun c p_items u_items =
    let long = length-map c.args.row0.now arc_value in
    begun_with c.args.ring c.args.k (length c.args.row0.now - 1 - c.args.k) c.args.inverse (parts_of c.args.row0.now)
    (parts_of c.in_ok-row_p.row_p.items) c.requires.some (omega (arith, long, c.requires.within))
    (omega (arith, long, c.requires.few))
    (subst (λ n. IsRowOfParts c.args.ring (n - 1) 0 (parts_of c.args.row0.now)) (sym long) c.requires.row)
    c.requires.none c.requires.residue c.requires.inverts
    c.in_ok-row_p.ensures _ _ (ap parts_in p_items) (ap parts_in u_items
    ∙ ap (λ r. r ∷ []) (c.in_ok-row_u.ensures
    ∙ ap parts_of (take_all _ _ (omega (arith, length-drop c.args.k c.args.row0.now))) ∙
    sym (drop-map arc_value c.args.k c.args.row0.now)))

-- and the series of one part each
series : (c : After-push-2) → c.push.new.self.items ≡ c.in_ok-row_p.row_p ∷ []
    → c.push-2.new.self.items ≡ c.in_ok-row_u.row_u ∷ []
    → HasSeries (record {
      ring = c.args.ring;
      k = c.args.k;
      q = length c.args.row0.now - 1 - c.args.k;
      rows_p = parts_in c.push.new.self.items;
      rows_u = parts_in c.push-2.new.self.items;
    }) c.in_ok-series_p.series_p.items c.in_ok-series_u.series_u.items
series c p_items u_items =
    let rest : parts_of c.in_ok-row_u.row_u.items ≡ drop c.args.k (parts_of c.args.row0.now) =
    c.in_ok-row_u.ensures ∙ ap parts_of (take_all _ _ (omega (arith, length-drop c.args.k c.args.row0.now)))
    ∙ sym (drop-map arc_value c.args.k c.args.row0.now) in
    let count : c.len.result ≡ length (drop c.args.k (parts_of c.args.row0.now)) =
    omega (
      arith,
      c.len.ensures,
      c.in_ok-row_u.row_u.ok.0,
      length-map c.in_ok-row_u.row_u.items arc_value,
      ap (length {A = PartValue}) rest,
    ) in
    series_with c.args.ring c.args.k (length c.args.row0.now - 1 - c.args.k) (parts_of c.args.row0.now)
    (parts_of c.in_ok-row_p.row_p.items) (omega (arith, length-map c.args.row0.now arc_value, c.requires.within))
    c.in_ok-row_p.ensures (parts_in c.push.new.self.items) (parts_in c.push-2.new.self.items)
    c.in_ok-series_p.series_p.items c.in_ok-series_u.series_u.items c.len.result (ap parts_in p_items)
    (ap parts_in u_items ∙ ap (λ (r : List PartValue). r ∷ []) rest) count
    (subst (λ (r : List PartValue). AreColumns c.args.ring c.args.k (r ∷ []) c.in_ok-series_p.series_p.items)
    (ap parts_of c.deref.ensures.value) c.in_ok-series_p.ensures)
    (subst (λ (r : List PartValue). AreColumns c.args.ring c.len.result (r ∷ []) c.in_ok-series_u.series_u.items)
    (ap parts_of c.deref-2.ensures.value ∙ rest) c.in_ok-series_u.ensures)

pub begun-requires-2-clause-parts : goal.begun-requires-2-clause-parts
begun-requires-2-clause-parts c =
    let rest : parts_of c.in_ok-row_u.row_u.items ≡ drop c.args.k (parts_of c.args.row0.now) =
    c.in_ok-row_u.ensures ∙ ap parts_of (take_all _ _ (omega (arith, length-drop c.args.k c.args.row0.now)))
    ∙ sym (drop-map arc_value c.args.k c.args.row0.now) in
    subst (AreParts c.args.ring 0) (sym (ap parts_of c.deref-2.ensures.value ∙ rest))
    (rest_parts c.args.ring (length c.args.row0.now - 1) c.args.k (parts_of c.args.row0.now) c.requires.row)

pub invariant_of-result : goal.invariant_of-result
invariant_of-result c = (
  (begun (goal.at.invariant_of-result c).After-push-2 (grind (arith, common_steps)) (grind (
    arith,
    common_steps,
  ))).is_prep,
  series (goal.at.invariant_of-result c).After-push-2 (grind (arith, common_steps)) (grind (arith, common_steps)),
)

pub returns : goal.returns
returns c = (begun (goal.at.returns c).After-push-2 (grind (arith, common_steps)) (grind (arith, common_steps))).begins
