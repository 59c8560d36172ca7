use Rattle.std.proofs.Common.{◌+◌, length, map, sym, subst, arith}
use Rattle.parts.specs.RowsOfParts.{parts_of}
use Rattle.stages.specs.States.{state_by}
use Rattle.stages.specs.declared.stage.Stage.{Stage}
use Rattle.session.specs.Views.{no_stage}
use Rattle.session.proofs.Known.{IsLeast, least_more, known_less}
use Rattle.session.proofs.sessions.Session.known.Goals as goal

pub loop-stage-preserved : goal.loop-stage-preserved
loop-stage-preserved g c =
    let states = map (λ (t : Stage g.row.R.Denot g.R.RowOut).
    state_by g.R.RowOut.capacity g.R.RowOut.name g.R.RowOut.items t.splitter t.row) c.args.self.now.line.stages.items in
    subst (IsLeast (length (parts_of c.args.self.now.lead.items)) states (c.loop-stage.stage + 1))
    (sym c.min-least.ensures)
    (least_more (length (parts_of c.args.self.now.lead.items)) states c.loop-stage.stage c.loop-stage.least c.len.result
    c.loop-stage.invariant c.len.ensures (no_stage _ c.args.self.now.holds c.args.self.now.fits))

pub returns : goal.returns
returns g c =
    let states = map (λ (t : Stage g.row.R.Denot g.R.RowOut).
    state_by g.R.RowOut.capacity g.R.RowOut.name g.R.RowOut.items t.splitter t.row) c.args.self.now.line.stages.items in
    known_less _ c.args.self.now.holds c.args.self.now.fits c.loop-stage.least
    (record {
      below = c.loop-stage.invariant.below;
      each = λ s d lt. c.loop-stage.invariant.each s d
          (let end = c.loop-stage-test.false in let count = c.stages-stage-end.ensures.count in omega arith);
      greatest = λ k le each. c.loop-stage.invariant.greatest k le (λ s d lt. each s d
          (let end = c.loop-stage.auto.stage-end in let count = c.stages-stage-end.ensures.count in omega arith));
    })
    c.checked_sub.result c.checked_sub.ensures
