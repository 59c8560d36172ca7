use Rattle.std.proofs.Common.{◌+◌, length, sym, ◌∙◌, ap, subst, arith}
use Rattle.parts.specs.RowsOfParts.{parts_of}
use Rattle.rows.specs.Fits.{values}
use Rattle.stages.specs.States.{StageState}
use Rattle.stages.proofs.LineTitles.{seen}
use Rattle.session.specs.SeenBy.{seen_by}
use Rattle.session.specs.Views.{no_stage}
use Rattle.session.proofs.Known.{IsLeast, least_more, known_less}
use Rattle.session.proofs.RowsSeen.{row_count, row_at_place}
use Rattle.session.proofs.seen_rows.SeenRows.known_to.Goals as goal

pub loop-i-preserved : goal.loop-i-preserved
loop-i-preserved c =
    let states = (seen_by c.args.self.now).stages in
    subst (IsLeast (length (parts_of c.args.self.now.lead.now.items)) states (c.loop-i.i + 1))
    (sym c.min-least.ensures)
    (least_more (length (parts_of c.args.self.now.lead.now.items)) states c.loop-i.i c.loop-i.least c.len.result
    c.loop-i.invariant
    (λ d. c.len.ensures ∙ sym (ap (λ (s : StageState). length s.items)
    (row_at_place c.args.self.now.rows.items (λ row. row.title) (λ row. row.capacity) (λ row. values row.items.items)
    c.args.self.now.ring c.loop-i.i c.index.result.now d c.index.ensures
    (seen _ c.args.self.now.rows.items c.loop-i.i (omega arith)))))
    (no_stage (seen_by c.args.self.now) c.args.self.now.holds c.args.self.now.fits))

pub returns : goal.returns
returns c =
    known_less (seen_by c.args.self.now) c.args.self.now.holds c.args.self.now.fits c.loop-i.least
    (record {
      below = c.loop-i.invariant.below;
      each = λ s d lt. c.loop-i.invariant.each s d
          (let count = row_count c.args.self.now.rows.items (λ row. row.title) (λ row. row.capacity)
          (λ row. values row.items.items) c.args.self.now.ring in
          let end = c.loop-i-test.false in omega arith);
      greatest = λ k le each. c.loop-i.invariant.greatest k le (λ s d lt. each s d
          (let count = row_count c.args.self.now.rows.items (λ row. row.title) (λ row. row.capacity)
          (λ row. values row.items.items) c.args.self.now.ring in
          let end = c.loop-i.auto.i-end in omega arith));
    })
    c.checked_sub.result c.checked_sub.ensures
