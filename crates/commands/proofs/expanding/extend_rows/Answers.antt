use Rattle.std.proofs.Common.{◌≡◌, ◌∷◌, [], ◌++◌, length, take, sym, ◌∙◌, ap, subst, arith}
use Rattle.std.proofs.lemmas.List.{length_push}
use Rattle.ps_model.specs.declared.job.JobData.{JobData}
use Rattle.parts.specs.JobRows.{IsPermitted}
use Rattle.parts.specs.RowsOfParts.{parts_of}
use Rattle.stages.proofs.Permits.{permitted_lower}
use Rattle.intake.specs.Jobs.{IsValueRowOf}
use Rattle.commands.proofs.RowsExtended.{row_more}
use Rattle.commands.proofs.expanding.extend_rows.Goals as goal

pub input_row-requires : goal.input_row-requires
input_row-requires c = subst (λ (j : JobData). IsPermitted (take j.n j.weights) c.loop-r.r)
    (sym c.loop-r.invariant.input)
    (permitted_lower (take c.args.input.now.n c.args.input.now.weights) c.loop-r.r c.args.to
    (let low = c.loop-r-test.true in omega arith) c.requires.permitted)

pub loop-r-preserved : goal.loop-r-preserved
loop-r-preserved c =
    let items : c.push.new.self.items ≡ c.loop-r.rows.items ++ c.in_ok-row.row ∷ [] = c.in_ok-push.ensures.items in
    let one = ap length items ∙ length_push c.loop-r.rows.items c.in_ok-row.row in
    record {
      at = let before = c.loop-r.invariant.at in omega arith;
      input = c.in_ok-row.ensures.same ∙ c.loop-r.invariant.input;
      rows = row_more c.args.input.now c.loop-r.rows.items c.push.new.self.items c.in_ok-row.row c.loop-r.r items
          c.loop-r.invariant.at c.loop-r.invariant.rows
          (subst (λ (j : JobData). IsValueRowOf j c.loop-r.r (parts_of c.in_ok-row.row.items))
          c.loop-r.invariant.input c.in_ok-row.ensures.row);
      few = let low = c.loop-r-test.true in let before = c.loop-r.invariant.at in
          let small = c.requires.permitted.0 in omega arith;
    }
