use Rattle.std.proofs.Common.{◌≡◌, ◌++◌, ◌∷◌, [], ◌∙◌, arith}
use Rattle.std.proofs.lemmas.Grind.{common_steps}
use Rattle.std.specs.Arc.{arc_value}
use Rattle.rows.specs.Fits.{values}
use Rattle.stages.proofs.EmptyRows.{each_pushed, same_pushed}
use Rattle.stages.proofs.own_rows.empty_rows.Goals as goal

pub loop-stage-preserved : goal.loop-stage-preserved
loop-stage-preserved c =
    let items : c.push.new.self.items ≡ c.loop-stage.rows.items ++ c.in_ok-new.field-0 ∷ [] = grind (
      arith,
      common_steps,
    ) in
    record {
      count = grind (arith, common_steps);
      empty = each_pushed (λ s row. values row.items.items ≡ []) c.loop-stage.rows.items c.push.new.self.items
          c.in_ok-new.field-0 c.loop-stage.stage c.loop-stage.invariant.count items c.loop-stage.invariant.empty
          c.in_ok-new.ensures.empty;
      titles = each_pushed (λ s row. row.title ≡ record { job = arc_value c.args.job.now; stage = s })
          c.loop-stage.rows.items c.push.new.self.items c.in_ok-new.field-0 c.loop-stage.stage
          c.loop-stage.invariant.count items c.loop-stage.invariant.titles
          (c.in_ok-new.ensures.title ∙ λ i. record { job = c.in_ok-try_clone.ensures i; stage = c.loop-stage.stage });
      capacities = same_pushed (λ row. row.capacity) c.loop-stage.rows.items c.push.new.self.items c.in_ok-new.field-0
          c.loop-stage.stage c.args.capacity items c.loop-stage.invariant.capacities
          c.in_ok-new.ensures.capacity;
    }
