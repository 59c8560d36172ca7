use Rattle.std.proofs.Common.{◌≡◌, ◌+◌, ◌∷◌, [], ◌++◌, length, take, sym, ◌∙◌, ap, subst, arith}
use Rattle.std.proofs.lemmas.List.{length_push}
use Rattle.std.specs.Arc.{arc_value}
use Rattle.ps_model.specs.declared.job.JobData.{JobData}
use Rattle.parts.specs.JobRows.{IsPermitted}
use Rattle.parts.specs.RowsOfParts.{parts_of}
use Rattle.stages.proofs.Permits.{permitted_lower}
use Rattle.intake.specs.Jobs.{IsLeadPartOf}
use Rattle.session.proofs.LeadParts.{lead_more, extends_more}
use Rattle.session.proofs.lead.extend_lead.Goals as goal

pub lead_part-requires : goal.lead_part-requires
lead_part-requires c = subst (λ (j : JobData). IsPermitted (take j.n j.weights) c.loop-r.r)
    (sym c.loop-r.invariant.input)
    (permitted_lower (take c.args.input.now.n c.args.input.now.weights) c.loop-r.r c.args.to
    (let low = c.loop-r-test.true in omega arith) c.requires.permitted)

pub loop-r-preserved : goal.loop-r-preserved
loop-r-preserved c =
    let items : c.push_reserved.new.self.items ≡ c.loop-r.lead.items ++ c.in_ok-part.part ∷ [] =
    c.push_reserved.ensures.items in
    record {
      at =
          let one = ap length items ∙ length_push c.loop-r.lead.items c.in_ok-part.part in
          let before = c.loop-r.invariant.at in
          omega arith;
      input = c.in_ok-part.ensures.same ∙ c.loop-r.invariant.input;
      parts = lead_more c.loop-r.lead.items c.push_reserved.new.self.items c.in_ok-part.part items c.args.input.now
          c.loop-r.r c.loop-r.invariant.at c.loop-r.invariant.parts
          (subst (λ (j : JobData). IsLeadPartOf j c.loop-r.r (arc_value c.in_ok-part.part))
          c.loop-r.invariant.input c.in_ok-part.ensures.part);
      extends = extends_more c.loop-r.lead.items c.push_reserved.new.self.items c.in_ok-part.part items
          (c.args.to + 1) (parts_of c.args.lead.now.items)
          (let low = c.loop-r-test.true in let before = c.loop-r.invariant.at in omega arith)
          c.loop-r.invariant.extends;
      capacity = c.push_reserved.ensures.capacity ∙ c.loop-r.invariant.capacity;
    }
