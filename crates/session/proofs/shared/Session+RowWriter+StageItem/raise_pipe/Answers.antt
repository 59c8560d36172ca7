use Rattle.std.proofs.Common.{◌≡◌, ◌+◌, ◌<◌, ◌≤◌, length, get_or, map, take, refl, sym, ap, ◌∙◌, subst, arith}
use Rattle.ps_model.specs.declared.job.JobData.{JobData}
use Rattle.parts.specs.JobRows.{IsPermitted}
use Rattle.parts.specs.RowsOfParts.{parts_of}
use Rattle.rows.specs.Fits.{AllFit}
use Rattle.stages.specs.Items.{IsItem}
use Rattle.rows.specs.Writers.{writer_items}
use Rattle.stages.specs.States.{prepared_of}
use Rattle.stages.proofs.LineTitles.{each_there}
use Rattle.session.specs.Extended.{stage_in}
use Rattle.session.specs.Leads.{AreLeadParts}
use Rattle.session.specs.Views.{stages_fit}
use Rattle.std.proofs.lemmas.List.{with_items_is}
use Rattle.pipe.specs.Looks.{state_of, title_of_reader, KeepsReader}
use Rattle.session.proofs.SharedRows.{read_after, places_same, pairs_as, shared_rows, cons_not_nil}
use Rattle.session.proofs.Steps.{holds_after, fits_after, within_after, kept_same, none_exceeds_same, reach_within}
use Rattle.session.proofs.shared.Session+RowWriter+StageItem.raise_pipe.Goals as goal

pub invariant_of-self : goal.invariant_of-self
invariant_of-self g c =
    let same : c.extend_lead.new.input ≡ c.args.self.now.job.job =
    c.extend_lead.ensures.input ∙ c.input-rows.ensures.value in
    record {
      same_job = c.args.self.now.same_job ∙ sym same;
      holds = holds_after _ c.extend_lead.new.input _ (parts_of c.extend_lead.new.lead.items) c.args.to same
          c.args.self.now.holds (kept_same _)
          (subst (λ (j : JobData). AreLeadParts j (parts_of c.extend_lead.new.lead.items)) c.input-rows.ensures.value
          c.extend_lead.ensures.parts) c.extend_lead.ensures.extends c.requires.permitted.0;
      fits = fits_after _ c.extend_lead.new.input _ (parts_of c.extend_lead.new.lead.items) same refl
          c.args.self.now.fits;
      reserved = λ d also. subst (λ n. d < n) (sym c.extend_lead.ensures.capacity) (c.args.self.now.reserved d
          (subst (λ (j : JobData). IsPermitted (take j.n j.weights) d) same also));
      read = c.args.self.now.read;
    }

pub returns-in_err-extend_lead-clause-within : goal.returns-in_err-extend_lead-clause-within
returns-in_err-extend_lead-clause-within g c =
    within_after _ c.extend_lead.new.input _ (parts_of c.extend_lead.new.lead.items) (c.args.to + 1)
    c.in_err-extend_lead.ensures.extends (kept_same _) (none_exceeds_same _ _)
    (each_there (λ _ s. length s.items ≤ prepared_of s) _ c.args.self.now.line.stages.items
    (λ k d lt. (get_or c.args.self.now.line.stages.items k d).behind))

pub invariant_of-self-2 : goal.invariant_of-self-2
invariant_of-self-2 g c =
    let same : c.extend_line.new.input ≡ c.args.self.now.job.job =
    c.extend_line.ensures.source ∙ c.extend_lead.ensures.input ∙ c.input-rows.ensures.value in
    let holds = holds_after _ c.extend_line.new.input (map stage_in c.extend_line.new.line.stages.items)
    (parts_of c.extend_lead.new.lead.items) c.args.to same c.args.self.now.holds c.extend_line.ensures.kept
    (subst (λ (j : JobData). AreLeadParts j (parts_of c.extend_lead.new.lead.items)) c.input-rows.ensures.value
    c.extend_lead.ensures.parts) c.extend_lead.ensures.extends c.requires.permitted.0 in
    record {
      same_job = c.extend_line.ensures.job ∙ c.args.self.now.same_job ∙ sym same;
      holds = holds;
      fits = record {
        each = stages_fit stage_in c.extend_line.new.line.stages.items c.extend_line.new.input holds.of_job
            (λ t. subst (λ title. AllFit (IsItem title) (writer_items t.row)) t.same_title t.row.fit);
      };
      reserved = λ d also. subst (λ n. d < n) (sym c.extend_lead.ensures.capacity) (c.args.self.now.reserved d
          (subst (λ (j : JobData). IsPermitted (take j.n j.weights) d) same also));
      read = read_after _ _ c.extend_line.ensures.kept _ _ _ _
          (pairs_as KeepsReader state_of c.args.self.now.inner.items c.as_mut_slice.result.now c.extend_line.new.inner _
          c.as_mut_slice.ensures.value (with_items_is c.args.self.now.inner c.extend_line.new.inner
          (let a = c.extend_line.auto.inner in let b = ap length c.as_mut_slice.ensures.value in
          let v = c.args.self.now.inner.ok.0 in omega arith)) c.extend_line.ensures.readers) (places_same _)
          c.args.self.now.read;
    }

pub returns-in_err-extend_line-clause-within : goal.returns-in_err-extend_line-clause-within
returns-in_err-extend_line-clause-within g c =
    within_after _ c.extend_line.new.input _ (parts_of c.extend_lead.new.lead.items) (c.args.to + 1)
    c.extend_lead.ensures.extends c.in_err-extend_line.ensures.kept c.in_err-extend_line.ensures.err
    (each_there (λ _ s. length s.items ≤ prepared_of s) _ c.extend_line.new.line.stages.items
    (λ k d lt. (get_or c.extend_line.new.line.stages.items k d).behind))

pub returns-clause-within : goal.returns-clause-within
returns-clause-within g c =
    within_after _ c.extend_line.new.input _ (parts_of c.extend_lead.new.lead.items) (c.args.to + 1)
    c.extend_lead.ensures.extends c.in_ok-extend_line.ensures.kept (reach_within _ _ _ c.in_ok-extend_line.ensures.ok)
    (each_there (λ _ s. length s.items ≤ prepared_of s) _ c.extend_line.new.line.stages.items
    (λ k d lt. (get_or c.extend_line.new.line.stages.items k d).behind))

pub extend_line-requires-clause-readers : goal.extend_line-requires-clause-readers
extend_line-requires-clause-readers g c κs within =
    ap (λ l. map title_of_reader (map state_of l)) c.as_mut_slice.ensures.value
    ∙ (c.args.self.now.read
    (shared_rows stage_in c.args.self.now.line.stages.items (λ t. cons_not_nil _ _))).inner.same_titles
