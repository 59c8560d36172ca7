use Rattle.std.proofs.Common.{◌≡◌, ◌+◌, ◌++◌, ◌∷◌, [], length, take, sym, ◌∙◌, ap, subst, arith}
use Rattle.std.proofs.Math.ListN.{set}
use Rattle.std.proofs.lemmas.Grind.{common_steps}
use Rattle.std.proofs.lemmas.List.{map_push}
use Rattle.std.specs.Arc.{arc_value}
use Rattle.parts.specs.PartValue.{PartValue}
use Rattle.parts.specs.RowsOfParts.{parts_of, parts_in, part_in}
use Rattle.prepare.specs.Recurrence.{next_p}
use Rattle.prepare.proofs.Columns.{IsGrowing, growing_length, growing_kept, growing_more, growing_begun, growing_done}
use Rattle.prepare.proofs.Grown.{so_far-more, next_p-same, early}
use Rattle.prepare.proofs.NextParts.{made_p}
use Rattle.prepare.proofs.NextRows.{next_p-done}
use Rattle.prepare.proofs.Places.{IsPartAt, rows_count, row_part}
use Rattle.prepare.proofs.recurrence.next_of_p.Goals as goal
use Rattle.prepare.proofs.recurrence.next_of_p.Goals.{After-deref, After-index_mut, In_ok-push}

-- the part of the input
given : (c : After-deref) → IsPartAt c.args.given.now.ring (length c.args.p.now.rows.items) c.deref.result.now ×
    (c.deref.result.now ≡ part_in (parts_of c.args.row.now) c.loop-i.i)
given c = row_part c.args.given.now.ring (c.args.given.now.k + c.args.given.now.q)
    (length c.args.p.now.rows.items) c.args.row.now c.loop-i.i c.index-row-i.result
    c.deref.result.now c.requires.row (omega arith) c.index-row-i.is c.deref.ensures

-- how many parts the series has that gets one
many : (c : After-index_mut) → length c.index_mut.result.now.parts ≡ length c.args.p.now.rows.items
many c = growing_length c.args.given.now.ring c.args.given.now.k (parts_in c.args.p.now.rows.items)
    (parts_of c.loop-i.last.items) c.loop-i.i c.loop-i.p.series.items c.loop-i.invariant.growing
    c.index_mut.result.now c.loop-i-test.true c.index_mut.ensures.value ∙ rows_count c.args.p.now.rows.items

-- the series with the part
more : (c : In_ok-push) → IsGrowing c.args.given.now.ring c.args.given.now.k (parts_in c.args.p.now.rows.items)
    (parts_of c.loop-i.last.items ++ arc_value c.in_ok-part.part ∷ []) (c.loop-i.i + 1)
    (set c.loop-i.p.series.items c.loop-i.i c.push.new.self)
more c = growing_more c.args.given.now.ring c.args.given.now.k (parts_in c.args.p.now.rows.items)
    (parts_of c.loop-i.last.items) c.loop-i.i c.loop-i.p.series.items c.loop-i.invariant.growing
    c.index_mut.result.now c.push.new.self (arc_value c.in_ok-part.part) c.loop-i-test.true
    c.loop-i.invariant.so_far.places c.index_mut.ensures.value c.in_ok-push.ensures.ok

pub next_part-requires-clause-start : goal.next_part-requires-clause-start
next_part-requires-clause-start c = (given (goal.at.next_part-requires-clause-start c).After-deref).0.1

pub next_part-requires-clause-permitted : goal.next_part-requires-clause-permitted
next_part-requires-clause-permitted c =
    let at = given (goal.at.next_part-requires-clause-permitted c).After-deref in
    let permitted = c.requires.permitted in omega (arith, at.0.0)

pub returns-in_err-part-clause-begin : goal.returns-in_err-part-clause-begin
returns-in_err-part-clause-begin c = growing_begun c.args.given.now.ring c.args.given.now.k
    (parts_in c.args.p.now.rows.items) (parts_of c.loop-i.last.items) c.loop-i.i c.loop-i.p.series.items
    c.loop-i.invariant.growing (omega arith)

pub push-requires-clause-degree : goal.push-requires-clause-degree
push-requires-clause-degree c =
    c.in_ok-part.ensures.degree ∙ (given (goal.at.push-requires-clause-degree c).After-deref).0.0 ∙
    sym (many (goal.at.push-requires-clause-degree c).After-index_mut)

pub push-requires-clause-permitted : goal.push-requires-clause-permitted
push-requires-clause-permitted c =
    let long = many (goal.at.push-requires-clause-permitted c).After-index_mut in
    let permitted = c.requires.permitted in omega (arith, long)

pub returns-in_err-push-clause-begin : goal.returns-in_err-push-clause-begin
returns-in_err-push-clause-begin c = growing_begun c.args.given.now.ring c.args.given.now.k
    (parts_in c.args.p.now.rows.items) (parts_of c.loop-i.last.items) c.loop-i.i
    (set c.loop-i.p.series.items c.loop-i.i c.push.new.self)
    (growing_kept c.args.given.now.ring c.args.given.now.k (parts_in c.args.p.now.rows.items)
    (parts_of c.loop-i.last.items) c.loop-i.i c.loop-i.p.series.items c.loop-i.invariant.growing
    c.index_mut.result.now c.push.new.self c.loop-i-test.true c.index_mut.ensures.value c.in_err-push.ensures.err)
    (omega arith)

pub returns-in_err-push-2-clause-begin : goal.returns-in_err-push-2-clause-begin
returns-in_err-push-2-clause-begin c = growing_begun c.args.given.now.ring c.args.given.now.k
    (parts_in c.args.p.now.rows.items) (parts_of c.loop-i.last.items ++ arc_value c.in_ok-part.part ∷ [])
    (c.loop-i.i + 1) (set c.loop-i.p.series.items c.loop-i.i c.push.new.self)
    (more (goal.at.returns-in_err-push-2-clause-begin c).In_ok-push) (omega arith)

pub returns-in_err-new-clause-begin : goal.returns-in_err-new-clause-begin
returns-in_err-new-clause-begin c = growing_begun c.args.given.now.ring c.args.given.now.k
    (parts_in c.args.p.now.rows.items) (parts_of c.loop-i.last.items) c.loop-i.i c.loop-i.p.series.items
    c.loop-i.invariant.growing (omega arith)

pub loop-i-preserved : goal.loop-i-preserved
loop-i-preserved c =
    let items : c.push-in-loop-i.new.self.items ≡ c.loop-i.last.items ++ c.in_ok-part.part ∷ [] =
    grind (arith, common_steps) in
    let pushed : parts_of c.push-in-loop-i.new.self.items ≡
    parts_of c.loop-i.last.items ++ arc_value c.in_ok-part.part ∷ [] =
    ap parts_of items ∙ map_push arc_value c.loop-i.last.items c.in_ok-part.part in
    let part = made_p c.args.given.now.ring c.args.given.now.k c.args.given.now.q c.args.given.now.inverse c.loop-i.i
    (length c.args.p.now.rows.items) (parts_in c.args.p.now.rows.items) (parts_in c.args.u.now.rows.items)
    (parts_of c.args.row.now) (parts_of c.loop-i.last.items) c.loop-i.p.series.items c.args.u.now.series.items
    _ _ c.deref.result.now (arc_value c.in_ok-part.part) (rows_count c.args.p.now.rows.items) c.requires.begun
    c.loop-i-test.true c.requires.none c.requires.u_rows c.requires.u_series c.loop-i.invariant.growing
    (ap (take (c.loop-i.i + 1)) c.deref-in-loop-i.ensures.value) c.deref-in-loop-i-2.ensures.value
    (given (goal.at.loop-i-preserved c).After-deref) c.in_ok-part.ensures in
    record {
      rows = c.loop-i.invariant.rows;
      so_far = so_far-more c.args.given.now.ring (length c.args.p.now.rows.items)
          (next_p c.args.given.now.ring c.args.given.now.inverse (length c.args.p.now.rows.items)
          (parts_in c.args.p.now.rows.items) (parts_in c.args.u.now.rows.items) (parts_of c.args.row.now))
          (parts_of c.loop-i.last.items) (parts_of c.push-in-loop-i.new.self.items) (arc_value c.in_ok-part.part)
          c.loop-i.i c.loop-i.invariant.so_far pushed part.0 part.1
          (λ j le. next_p-same c.args.given.now.ring c.args.given.now.inverse (length c.args.p.now.rows.items)
          (parts_in c.args.p.now.rows.items) (parts_in c.args.u.now.rows.items) (parts_of c.args.row.now)
          (parts_of c.loop-i.last.items) (arc_value c.in_ok-part.part) j (rows_count c.args.p.now.rows.items)
          (let long = c.loop-i.invariant.so_far.places in omega arith));
      growing = subst (λ t. IsGrowing c.args.given.now.ring c.args.given.now.k (parts_in c.args.p.now.rows.items) t
          (c.loop-i.i + 1) (set c.loop-i.p.series.items c.loop-i.i c.push.new.self)) (sym pushed)
          (more (goal.at.loop-i-preserved c).In_ok-push);
    }

pub returns-clause-next : goal.returns-clause-next
returns-clause-next c =
    let items : c.push-2.new.self.items ≡ c.loop-i.last.items ++ c.in_ok-new.field-0 ∷ [] =
    grind (arith, common_steps) in
    let value : arc_value c.in_ok-new.field-0 ≡ c.zero.result = c.in_ok-new.ensures.ok in
    let end : c.loop-i.i ≡ c.args.given.now.k = omega arith in
    next_p-done c.args.given.now.ring c.args.given.now.k c.args.given.now.inverse (length c.args.p.now.rows.items)
    (parts_in c.args.p.now.rows.items) (parts_in c.args.u.now.rows.items) (parts_of c.args.row.now)
    (parts_of c.loop-i.last.items) (parts_of c.push-2.new.self.items) c.zero.result c.loop-i.i
    (rows_count c.args.p.now.rows.items) end c.loop-i.invariant.so_far
    (ap parts_of items ∙ map_push arc_value c.loop-i.last.items c.in_ok-new.field-0
    ∙ ap (λ (p : PartValue). parts_of c.loop-i.last.items ++ p ∷ []) value)
    (omega (arith, c.zero.ensures.degree, c.len-degree.ensures, c.args.p.now.rows.ok.0)) c.zero.ensures.map

pub returns-clause-series : goal.returns-clause-series
returns-clause-series c =
    let items : c.push-2.new.self.items ≡ c.loop-i.last.items ++ c.in_ok-new.field-0 ∷ [] =
    grind (arith, common_steps) in
    let end : c.loop-i.i ≡ c.args.given.now.k = omega arith in
    growing_done c.args.given.now.ring c.args.given.now.k (parts_in c.args.p.now.rows.items)
    (parts_of c.loop-i.last.items) c.loop-i.i c.loop-i.p.series.items c.loop-i.invariant.growing
    (parts_of c.push-2.new.self.items) end
    (λ h lt. ap (λ t. part_in t h) (ap parts_of items ∙ map_push arc_value c.loop-i.last.items c.in_ok-new.field-0) ∙
    early (parts_of c.loop-i.last.items) (arc_value c.in_ok-new.field-0) h
    (let long = c.loop-i.invariant.so_far.places in omega arith))
