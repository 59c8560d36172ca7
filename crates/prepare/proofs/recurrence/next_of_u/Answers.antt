use Rattle.std.proofs.Common.{◌≡◌, suc, ◌+◌, ◌++◌, ◌∷◌, [], length, refl, sym, ◌∙◌, ap, subst, arith}
use Rattle.std.proofs.Math.ListN.{set}
use Rattle.std.proofs.lemmas.Grind.{common_steps}
use Rattle.std.proofs.lemmas.List.{map_push}
use Rattle.std.specs.Arc.{arc_value}
use Rattle.parts.specs.RowsOfParts.{parts_of, parts_in, part_in}
use Rattle.prepare.specs.Recurrence.{next_u}
use Rattle.prepare.proofs.Columns.{IsGrowing, growing_length, growing_kept, growing_more, growing_begun}
use Rattle.prepare.proofs.Grown.{so_far-more}
use Rattle.prepare.proofs.NextParts.{made_u}
use Rattle.prepare.proofs.NextRows.{next_u-done}
use Rattle.prepare.proofs.Places.{IsPartAt, rows_count, row_part}
use Rattle.prepare.proofs.recurrence.next_of_u.Goals as goal
use Rattle.prepare.proofs.recurrence.next_of_u.Goals.{After-deref, After-index_mut, In_ok-push}

-- the part of the input
given : (c : After-deref) → IsPartAt c.args.given.now.ring (length c.args.p.now.rows.items) c.deref.result.now ×
    (c.deref.result.now ≡ part_in (parts_of c.args.row.now) (c.args.given.now.k + c.loop-j.j))
given c = row_part c.args.given.now.ring (c.args.given.now.k + c.args.given.now.q)
    (length c.args.p.now.rows.items) c.args.row.now (c.args.given.now.k + c.loop-j.j) c.index-row-given.result
    c.deref.result.now c.requires.row (omega arith) c.index-row-given.is c.deref.ensures

-- how many parts the series has that gets one
many : (c : After-index_mut) → length c.index_mut.result.now.parts ≡ length c.args.p.now.rows.items
many c = growing_length c.args.given.now.ring (suc c.args.given.now.q) (parts_in c.args.u.now.rows.items)
    (parts_of c.loop-j.next.items) c.loop-j.j c.loop-j.u.series.items c.loop-j.invariant.growing
    c.index_mut.result.now (omega arith) c.index_mut.ensures.value ∙ rows_count c.args.u.now.rows.items ∙
    c.requires.same

-- the series with the part
more : (c : In_ok-push) → IsGrowing c.args.given.now.ring (suc c.args.given.now.q)
    (parts_in c.args.u.now.rows.items) (parts_of c.loop-j.next.items ++ arc_value c.in_ok-part.part ∷ [])
    (c.loop-j.j + 1) (set c.loop-j.u.series.items c.loop-j.j c.push.new.self)
more c = growing_more c.args.given.now.ring (suc c.args.given.now.q) (parts_in c.args.u.now.rows.items)
    (parts_of c.loop-j.next.items) c.loop-j.j c.loop-j.u.series.items c.loop-j.invariant.growing
    c.index_mut.result.now c.push.new.self (arc_value c.in_ok-part.part) (omega arith)
    c.loop-j.invariant.so_far.places c.index_mut.ensures.value c.in_ok-push.ensures.ok

pub next_part-requires-clause-start : goal.next_part-requires-clause-start
next_part-requires-clause-start c = (given (goal.at.next_part-requires-clause-start c).After-deref).0.1

pub next_part-requires-clause-permitted : goal.next_part-requires-clause-permitted
next_part-requires-clause-permitted c =
    let at = given (goal.at.next_part-requires-clause-permitted c).After-deref in
    let permitted = c.requires.permitted in omega (arith, at.0.0)

pub returns-in_err-part-clause-begin : goal.returns-in_err-part-clause-begin
returns-in_err-part-clause-begin c = growing_begun c.args.given.now.ring (suc c.args.given.now.q)
    (parts_in c.args.u.now.rows.items) (parts_of c.loop-j.next.items) c.loop-j.j c.loop-j.u.series.items
    c.loop-j.invariant.growing (omega arith)

pub push-requires-clause-degree : goal.push-requires-clause-degree
push-requires-clause-degree c =
    c.in_ok-part.ensures.degree ∙ (given (goal.at.push-requires-clause-degree c).After-deref).0.0 ∙
    sym (many (goal.at.push-requires-clause-degree c).After-index_mut)

pub push-requires-clause-permitted : goal.push-requires-clause-permitted
push-requires-clause-permitted c =
    let long = many (goal.at.push-requires-clause-permitted c).After-index_mut in
    let permitted = c.requires.permitted in omega (arith, long)

pub returns-in_err-push-clause-begin : goal.returns-in_err-push-clause-begin
returns-in_err-push-clause-begin c = growing_begun c.args.given.now.ring (suc c.args.given.now.q)
    (parts_in c.args.u.now.rows.items) (parts_of c.loop-j.next.items) c.loop-j.j
    (set c.loop-j.u.series.items c.loop-j.j c.push.new.self)
    (growing_kept c.args.given.now.ring (suc c.args.given.now.q) (parts_in c.args.u.now.rows.items)
    (parts_of c.loop-j.next.items) c.loop-j.j c.loop-j.u.series.items c.loop-j.invariant.growing
    c.index_mut.result.now c.push.new.self (omega arith) c.index_mut.ensures.value c.in_err-push.ensures.err)
    (omega arith)

pub returns-in_err-push-2-clause-begin : goal.returns-in_err-push-2-clause-begin
returns-in_err-push-2-clause-begin c = growing_begun c.args.given.now.ring (suc c.args.given.now.q)
    (parts_in c.args.u.now.rows.items) (parts_of c.loop-j.next.items ++ arc_value c.in_ok-part.part ∷ [])
    (c.loop-j.j + 1) (set c.loop-j.u.series.items c.loop-j.j c.push.new.self)
    (more (goal.at.returns-in_err-push-2-clause-begin c).In_ok-push) (omega arith)

pub loop-j-preserved : goal.loop-j-preserved
loop-j-preserved c =
    let items : c.push-in-loop-j.new.self.items ≡ c.loop-j.next.items ++ c.in_ok-part.part ∷ [] =
    grind (arith, common_steps) in
    let pushed : parts_of c.push-in-loop-j.new.self.items ≡
    parts_of c.loop-j.next.items ++ arc_value c.in_ok-part.part ∷ [] =
    ap parts_of items ∙ map_push arc_value c.loop-j.next.items c.in_ok-part.part in
    let part = made_u c.args.given.now.ring c.args.given.now.k c.args.given.now.q c.loop-j.j
    (length c.args.p.now.rows.items) (parts_in c.args.p.now.rows.items) (parts_in c.args.u.now.rows.items)
    (parts_of c.args.row.now) (parts_of c.args.last.now) (parts_of c.loop-j.next.items) c.loop-j.u.series.items
    c.args.p.now.series.items _ _ c.deref.result.now (arc_value c.in_ok-part.part)
    (rows_count c.args.p.now.rows.items) c.requires.begun c.requires.none c.requires.u_rows c.requires.p_series
    c.loop-j.invariant.growing c.deref-in-loop-j.ensures.value c.deref-in-loop-j-2.ensures.value
    (given (goal.at.loop-j-preserved c).After-deref) c.in_ok-part.ensures in
    record {
      rows = c.loop-j.invariant.rows;
      so_far = so_far-more c.args.given.now.ring (length c.args.p.now.rows.items)
          (λ _. next_u c.args.given.now.ring c.args.given.now.k (length c.args.p.now.rows.items)
          (parts_in c.args.p.now.rows.items) (parts_in c.args.u.now.rows.items) (parts_of c.args.row.now)
          (parts_of c.args.last.now))
          (parts_of c.loop-j.next.items) (parts_of c.push-in-loop-j.new.self.items) (arc_value c.in_ok-part.part)
          c.loop-j.j c.loop-j.invariant.so_far pushed part.0 part.1 (λ _ _. refl);
      growing = subst (λ t. IsGrowing c.args.given.now.ring (suc c.args.given.now.q)
          (parts_in c.args.u.now.rows.items) t (c.loop-j.j + 1)
          (set c.loop-j.u.series.items c.loop-j.j c.push.new.self)) (sym pushed)
          (more (goal.at.loop-j-preserved c).In_ok-push);
    }

pub returns-clause-next : goal.returns-clause-next
returns-clause-next c =
    let end : c.loop-j.j ≡ c.args.given.now.q + 1 = omega arith in
    next_u-done c.args.given.now.ring c.args.given.now.k c.args.given.now.q (length c.args.p.now.rows.items)
    (parts_in c.args.p.now.rows.items) (parts_in c.args.u.now.rows.items) (parts_of c.args.row.now)
    (parts_of c.args.last.now) (parts_of c.loop-j.next.items) c.loop-j.j (rows_count c.args.p.now.rows.items)
    end c.loop-j.invariant.so_far
