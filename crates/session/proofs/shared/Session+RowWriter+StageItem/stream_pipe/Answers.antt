use Rattle.std.proofs.Common.{◌≡◌, IsTrue, ◌↔◌, ◌+◌, ◌<◌, ◌≤◌, length, get_or, map, take, refl, sym, ap, ◌∙◌, subst, arith}
use Rattle.ps_model.specs.declared.job.JobData.{JobData}
use Rattle.parts.specs.JobRows.{IsPermitted}
use Rattle.parts.specs.RowsOfParts.{parts_of}
use Rattle.rows.specs.Fits.{AllFit}
use Rattle.stages.specs.Items.{IsItem}
use Rattle.rows.specs.Writers.{writer_items}
use Rattle.stages.specs.Lines.{AreStagesOf}
use Rattle.stages.specs.States.{prepared_of}
use Rattle.stages.proofs.LineTitles.{each_there}
use Rattle.session.specs.Extended.{stage_in}
use Rattle.session.specs.Leads.{AreLeadParts}
use Rattle.session.specs.Views.{stages_fit}
use Rattle.std.proofs.lemmas.List.{with_items_is, length-map}
use Rattle.std.specs.Arc.{arc_value}
use Rattle.pipe.specs.Looks.{state_of, KeepsReader}
use Rattle.ps_model.specs.Job.{job_ring}
use Rattle.ps_model.specs.Lead.{IsLeadShown}
use Rattle.expr_reader.specs.NameLists.{as_names}
use Rattle.intake.specs.Jobs.{JobValue}
use Rattle.pipe.specs.Extends.{AreSeen}
use Rattle.pipe.specs.SharedLines.{AreReadersOf}
use Rattle.session.specs.SeenBy.{seen_by}
use Rattle.session.specs.Shared.{place_of, KeepsPlace, ArePlacesOf}
use Rattle.session.specs.Streams.{StreamsJob}
use Rattle.session.proofs.SharedRows.{read_after, pairs_as, shared_rows, cons_not_nil, places_there, on_ok_by}
use Rattle.session.proofs.StreamTexts.{stream_none}
use Rattle.session.proofs.Steps.{holds_after, fits_after, within_after, kept_same, none_exceeds_same, lead_raised}
use Rattle.session.proofs.shared.Session+RowWriter+StageItem.stream_pipe.Goals as goal

pub invariant_of-self : goal.invariant_of-self
invariant_of-self g c =
    let same : c.extend_lead.new.input ≡ c.args.self.now.job.job =
    c.extend_lead.ensures.input ∙ c.input-rows.ensures.value in
    record {
      same_job = c.args.self.now.same_job ∙ sym same;
      holds = holds_after _ c.extend_lead.new.input _ (parts_of c.extend_lead.new.lead.items) c.args.to same
          c.args.self.now.holds (kept_same _)
          (subst (λ (j : JobData). AreLeadParts j (parts_of c.extend_lead.new.lead.items)) c.input-rows.ensures.value
          c.extend_lead.ensures.parts) c.extend_lead.ensures.extends c.requires.permitted.0;
      fits = fits_after _ c.extend_lead.new.input _ (parts_of c.extend_lead.new.lead.items) same refl
          c.args.self.now.fits;
      reserved = λ d also. subst (λ n. d < n) (sym c.extend_lead.ensures.capacity) (c.args.self.now.reserved d
          (subst (λ (j : JobData). IsPermitted (take j.n j.weights) d) same also));
      read = c.args.self.now.read;
    }

pub returns-in_err-extend_lead-clause-within : goal.returns-in_err-extend_lead-clause-within
returns-in_err-extend_lead-clause-within g c =
    within_after _ c.extend_lead.new.input _ (parts_of c.extend_lead.new.lead.items) (c.args.to + 1)
    c.in_err-extend_lead.ensures.extends (kept_same _) (none_exceeds_same _ _)
    (each_there (λ _ s. length s.items ≤ prepared_of s) _ c.args.self.now.line.stages.items
    (λ k d lt. (get_or c.args.self.now.line.stages.items k d).behind))

pub returns-in_err-extend_lead-clause-text : goal.returns-in_err-extend_lead-clause-text
returns-in_err-extend_lead-clause-text g c = stream_none (as_names c.args.self.now.job.names) c.args.self.now.job.job
    c.args.to c.from_residual.result (g.K.Sink.written c.args.sink.now) c.from_residual.ensures.0

pub rows_to_see-requires-clause-shown : goal.rows_to_see-requires-clause-shown
rows_to_see-requires-clause-shown g c =
    let same : c.extend_lead.new.input ≡ c.args.self.now.job.job =
    c.extend_lead.ensures.input ∙ c.input-rows.ensures.value in
    subst (λ (j : JobData). IsTrue c.args.self.now.shows_lead ↔ IsLeadShown (job_ring j) j.expr) (sym same)
    c.args.self.now.holds.shown

pub invariant_of-self-in_err-seen : goal.invariant_of-self-in_err-seen
invariant_of-self-in_err-seen g c =
    let same : c.extend_lead.new.input ≡ c.args.self.now.job.job =
    c.extend_lead.ensures.input ∙ c.input-rows.ensures.value in
    record {
      same_job = c.args.self.now.same_job ∙ sym same;
      holds = holds_after _ c.extend_lead.new.input _ (parts_of c.extend_lead.new.lead.items) c.args.to same
          c.args.self.now.holds (kept_same _)
          (subst (λ (j : JobData). AreLeadParts j (parts_of c.extend_lead.new.lead.items)) c.input-rows.ensures.value
          c.extend_lead.ensures.parts) c.extend_lead.ensures.extends c.requires.permitted.0;
      fits = fits_after _ c.extend_lead.new.input _ (parts_of c.extend_lead.new.lead.items) same refl
          c.args.self.now.fits;
      reserved = λ d also. subst (λ n. d < n) (sym c.extend_lead.ensures.capacity) (c.args.self.now.reserved d
          (subst (λ (j : JobData). IsPermitted (take j.n j.weights) d) same also));
      read = c.args.self.now.read;
    }

pub returns-in_err-seen-clause-within : goal.returns-in_err-seen-clause-within
returns-in_err-seen-clause-within g c =
    within_after _ c.extend_lead.new.input _ (parts_of c.extend_lead.new.lead.items) (c.args.to + 1)
    c.extend_lead.ensures.extends (kept_same _) (none_exceeds_same _ _)
    (each_there (λ _ s. length s.items ≤ prepared_of s) _ c.args.self.now.line.stages.items
    (λ k d lt. (get_or c.args.self.now.line.stages.items k d).behind))

pub returns-in_err-seen-clause-text : goal.returns-in_err-seen-clause-text
returns-in_err-seen-clause-text g c = stream_none (as_names c.args.self.now.job.names) c.args.self.now.job.job
    c.args.to c.from_residual-in_err-seen.result (g.K.Sink.written c.args.sink.now) c.from_residual-in_err-seen.ensures.0

pub stream_beside-requires-clause-raise : goal.stream_beside-requires-clause-raise
stream_beside-requires-clause-raise g c κs within =
    let same : c.extend_lead.new.input ≡ c.args.self.now.job.job =
    c.extend_lead.ensures.input ∙ c.input-rows.ensures.value in
    record {
      stages = subst (λ (j : JobData). AreStagesOf j (map stage_in c.args.self.now.line.stages.items))
          (sym c.args.self.now.same_job) c.args.self.now.holds.of_job;
      of_rows = subst (λ l. AreReadersOf (map stage_in c.args.self.now.line.stages.items) (map state_of l))
          (sym c.as_mut_slice.ensures.value) (c.args.self.now.read
          (shared_rows stage_in c.args.self.now.line.stages.items (λ t. cons_not_nil _ _))).inner;
      room = c.args.self.now.holds.room c.args.to c.requires.permitted;
      permitted = subst (λ (j : JobData). IsPermitted (take j.n j.weights) c.args.to) (sym c.args.self.now.same_job)
          c.requires.permitted;
      source = c.input-rows-2.ensures.value ∙ same ∙ sym c.args.self.now.same_job;
      some_workers = c.requires.some_workers;
      few_workers = c.requires.few_workers;
      tally = c.requires.tally;
    }

pub stream_beside-requires-clause-follow : goal.stream_beside-requires-clause-follow
stream_beside-requires-clause-follow g c κs within =
    let same : c.extend_lead.new.input ≡ c.args.self.now.job.job =
    c.extend_lead.ensures.input ∙ c.input-rows.ensures.value in
    let job : (seen_by c.in_ok-seen.seen).job.job ≡ c.args.self.now.job.job =
    ap (λ (j : JobValue). j.job) c.in_ok-seen.ensures.job ∙ same in
    record {
      readers = subst (λ l. ArePlacesOf (seen_by c.in_ok-seen.seen).job.job (map place_of l))
          (sym c.as_mut_slice-2.ensures.value)
          (subst (λ (j : JobData). ArePlacesOf j (map place_of c.args.self.now.outer.items)) (sym job)
          (places_there c.args.self.now.job.job (map stage_in c.args.self.now.line.stages.items)
          (map state_of c.args.self.now.inner.items) (map place_of c.args.self.now.outer.items)
          c.args.self.now.holds.of_job (c.args.self.now.read
          (shared_rows stage_in c.args.self.now.line.stages.items (λ t. cons_not_nil _ _))) c.requires.readers
          c.args.self.now.ring));
      level = c.in_ok-seen.ensures.level;
      room = c.in_ok-seen.seen.holds.room c.args.to
          (subst (λ (j : JobData). IsPermitted (take j.n j.weights) c.args.to) (sym job) c.requires.permitted);
      lead = (let long = ap length c.in_ok-seen.ensures.lead in
          let same = length-map c.extend_lead.new.lead.items arc_value in
          let far = c.in_ok-extend_lead.ensures.ok in omega arith);
      low = c.requires.permitted.0;
    }

pub invariant_of-self-2 : goal.invariant_of-self-2
invariant_of-self-2 g c =
    let same : c.stream_beside.new.input ≡ c.args.self.now.job.job =
    c.stream_beside.ensures.source ∙ c.input-rows-2.ensures.value ∙ c.extend_lead.ensures.input
    ∙ c.input-rows.ensures.value in
    let was : c.extend_lead.new.input ≡ c.args.self.now.job.job =
    c.extend_lead.ensures.input ∙ c.input-rows.ensures.value in
    let kept = c.stream_beside.ensures.extends.kept in
    let holds = holds_after _ c.stream_beside.new.input (map stage_in c.stream_beside.new.line.stages.items)
    (parts_of c.extend_lead.new.lead.items) c.args.to same c.args.self.now.holds kept
    (subst (λ (j : JobData). AreLeadParts j (parts_of c.extend_lead.new.lead.items)) c.input-rows.ensures.value
    c.extend_lead.ensures.parts) c.extend_lead.ensures.extends c.requires.permitted.0 in
    record {
      same_job = c.stream_beside.ensures.job ∙ c.args.self.now.same_job ∙ sym same;
      holds = holds;
      fits = record {
        each = stages_fit stage_in c.stream_beside.new.line.stages.items c.stream_beside.new.input holds.of_job
            (λ t. subst (λ title. AllFit (IsItem title) (writer_items t.row)) t.same_title t.row.fit);
      };
      reserved = λ d also. subst (λ n. d < n) (sym c.extend_lead.ensures.capacity) (c.args.self.now.reserved d
          (subst (λ (j : JobData). IsPermitted (take j.n j.weights) d) same also));
      read = read_after _ _ kept _ _ _ _
          (pairs_as KeepsReader state_of c.args.self.now.inner.items c.as_mut_slice.result.now c.stream_beside.new.inner _
          c.as_mut_slice.ensures.value (with_items_is c.args.self.now.inner c.stream_beside.new.inner
          (let a = c.stream_beside.auto.inner in let b = ap length c.as_mut_slice.ensures.value in
          let v = c.args.self.now.inner.ok.0 in omega arith)) c.stream_beside.ensures.extends.read)
          (pairs_as KeepsPlace place_of c.args.self.now.outer.items c.as_mut_slice-2.result.now
          c.stream_beside.new.outer _ c.as_mut_slice-2.ensures.value
          (with_items_is c.args.self.now.outer c.stream_beside.new.outer
          (let a = c.stream_beside.auto.outer in let b = ap length c.as_mut_slice-2.ensures.value in
          let v = c.args.self.now.outer.ok.0 in omega arith)) c.stream_beside.ensures.outer)
          c.args.self.now.read;
    }

pub returns-clause-ok : goal.returns-clause-ok
returns-clause-ok g c = on_ok_by c.stream_beside.result
    (λ h. record {
      stages = h.reach;
      lead = lead_raised c.args.to _ (parts_of c.extend_lead.new.lead.items) c.extend_lead.ensures.extends
          (let same = length-map c.extend_lead.new.lead.items arc_value in
          let far = c.in_ok-extend_lead.ensures.ok in omega arith);
    }) c.stream_beside.ensures.raises

pub returns-clause-within : goal.returns-clause-within
returns-clause-within g c =
    within_after _ c.stream_beside.new.input _ (parts_of c.extend_lead.new.lead.items) (c.args.to + 1)
    c.extend_lead.ensures.extends c.stream_beside.ensures.extends.kept c.stream_beside.ensures.extends.within
    (each_there (λ _ s. length s.items ≤ prepared_of s) _ c.stream_beside.new.line.stages.items
    (λ k d lt. (get_or c.stream_beside.new.line.stages.items k d).behind))

pub returns-clause-seen : goal.returns-clause-seen
returns-clause-seen g c = on_ok_by c.stream_beside.result
    (λ h. subst (λ l. AreSeen (c.args.to + 1) (map stage_in c.args.self.now.line.stages.items)
    (map stage_in c.stream_beside.new.line.stages.items) (map state_of l))
    (sym (with_items_is c.args.self.now.inner c.stream_beside.new.inner
    (let a = c.stream_beside.auto.inner in let b = ap length c.as_mut_slice.ensures.value in
    let v = c.args.self.now.inner.ok.0 in omega arith))) h.seen) c.stream_beside.ensures.raises

pub returns-clause-inner : goal.returns-clause-inner
returns-clause-inner g c = pairs_as KeepsReader state_of c.args.self.now.inner.items c.as_mut_slice.result.now
    c.stream_beside.new.inner _ c.as_mut_slice.ensures.value
    (with_items_is c.args.self.now.inner c.stream_beside.new.inner
    (let a = c.stream_beside.auto.inner in let b = ap length c.as_mut_slice.ensures.value in
    let v = c.args.self.now.inner.ok.0 in omega arith)) c.stream_beside.ensures.extends.read

pub returns-clause-outer : goal.returns-clause-outer
returns-clause-outer g c = pairs_as KeepsPlace place_of c.args.self.now.outer.items c.as_mut_slice-2.result.now
    c.stream_beside.new.outer _ c.as_mut_slice-2.ensures.value
    (with_items_is c.args.self.now.outer c.stream_beside.new.outer
    (let a = c.stream_beside.auto.outer in let b = ap length c.as_mut_slice-2.ensures.value in
    let v = c.args.self.now.outer.ok.0 in omega arith)) c.stream_beside.ensures.outer

pub returns-clause-text : goal.returns-clause-text
returns-clause-text g c =
    let same : c.extend_lead.new.input ≡ c.args.self.now.job.job =
    c.extend_lead.ensures.input ∙ c.input-rows.ensures.value in
    subst (λ (j : JobValue). StreamsJob (as_names j.names) j.job c.args.to c.stream_beside.result
    (g.K.Sink.written c.args.sink.now) (g.K.Sink.written c.stream_beside.new.sink))
    (c.in_ok-seen.ensures.job ∙ (λ i. record { names = c.args.self.now.job.names; job = same i }))
    c.stream_beside.ensures.text
