use Rattle.std.proofs.Common.{◌≡◌, ◌+◌, ◌<◌, ◌≤◌, length, get_or, map, take, refl, sym, ◌∙◌, subst}
use Rattle.ps_model.specs.declared.job.JobData.{JobData}
use Rattle.parts.specs.JobRows.{IsPermitted}
use Rattle.parts.specs.RowsOfParts.{parts_of}
use Rattle.rows.specs.Fits.{AllFit}
use Rattle.stages.specs.Items.{IsItem}
use Rattle.stages.specs.States.{StageState, prepared_of, state_by}
use Rattle.stages.specs.declared.stage.Stage.{Stage}
use Rattle.stages.proofs.LineTitles.{each_there}
use Rattle.session.specs.Leads.{AreLeadParts}
use Rattle.session.specs.Views.{stages_fit}
use Rattle.session.proofs.SharedRows.{read_after, readers_same, places_same}
use Rattle.session.proofs.Steps.{holds_after, fits_after, within_after, kept_same, none_exceeds_same, reach_within}
use Rattle.session.proofs.sessions.Session.raise_rounds.Goals as goal

pub invariant_of-self : goal.invariant_of-self
invariant_of-self g c =
    let same : c.extend_lead.new.input ≡ c.args.self.now.job.job =
    c.extend_lead.ensures.input ∙ c.input-rows.ensures.value in
    record {
      same_job = c.args.self.now.same_job ∙ sym same;
      holds = holds_after _ c.extend_lead.new.input _ (parts_of c.extend_lead.new.lead.items) c.args.to same
          c.args.self.now.holds (kept_same _)
          (subst (λ (j : JobData). AreLeadParts j (parts_of c.extend_lead.new.lead.items)) c.input-rows.ensures.value
          c.extend_lead.ensures.parts) c.extend_lead.ensures.extends c.requires.permitted.0;
      fits = fits_after _ c.extend_lead.new.input _ (parts_of c.extend_lead.new.lead.items) same refl
          c.args.self.now.fits;
      reserved = λ d also. subst (λ n. d < n) (sym c.extend_lead.ensures.capacity) (c.args.self.now.reserved d
          (subst (λ (j : JobData). IsPermitted (take j.n j.weights) d) same also));
      read = c.args.self.now.read;
    }

pub returns-in_err-extend_lead-clause-within : goal.returns-in_err-extend_lead-clause-within
returns-in_err-extend_lead-clause-within g c =
    within_after _ c.extend_lead.new.input _ (parts_of c.extend_lead.new.lead.items) (c.args.to + 1)
    c.in_err-extend_lead.ensures.extends (kept_same _) (none_exceeds_same _ _)
    (each_there (λ _ s. length s.items ≤ prepared_of s) _ c.args.self.now.line.stages.items
    (λ k d lt. (get_or c.args.self.now.line.stages.items k d).behind))

pub invariant_of-self-2 : goal.invariant_of-self-2
invariant_of-self-2 g c =
    let see : Stage g.row.R.Denot g.R.RowOut → StageState = λ t.
    state_by g.R.RowOut.capacity g.R.RowOut.name g.R.RowOut.items t.splitter t.row in
    let same : c.raise_rounds.new.input ≡ c.args.self.now.job.job =
    c.raise_rounds.ensures.source ∙ c.extend_lead.ensures.input ∙ c.input-rows.ensures.value in
    let holds = holds_after _ c.raise_rounds.new.input (map see c.raise_rounds.new.self.stages.items)
    (parts_of c.extend_lead.new.lead.items) c.args.to same c.args.self.now.holds c.raise_rounds.ensures.kept
    (subst (λ (j : JobData). AreLeadParts j (parts_of c.extend_lead.new.lead.items)) c.input-rows.ensures.value
    c.extend_lead.ensures.parts) c.extend_lead.ensures.extends c.requires.permitted.0 in
    record {
      same_job = c.raise_rounds.ensures.job ∙ c.args.self.now.same_job ∙ sym same;
      holds = holds;
      fits = record {
        each = stages_fit see c.raise_rounds.new.self.stages.items c.raise_rounds.new.input holds.of_job
            (λ t. subst (λ title. AllFit (IsItem title) (g.R.RowOut.items t.row)) t.same_title
            ((g.met.R.RowOut g.world.𝓛 g.world.𝓜 g.world.𝓡 (λ s a. a, λ p. p, λ p. p, λ c. c)).all_fit t.row));
      };
      reserved = λ d also. subst (λ n. d < n) (sym c.extend_lead.ensures.capacity) (c.args.self.now.reserved d
          (subst (λ (j : JobData). IsPermitted (take j.n j.weights) d) same also));
      read = read_after _ _ c.raise_rounds.ensures.kept _ _ _ _ (readers_same _) (places_same _) c.args.self.now.read;
    }

pub returns-in_err-raise_rounds-clause-within : goal.returns-in_err-raise_rounds-clause-within
returns-in_err-raise_rounds-clause-within g c =
    within_after _ c.raise_rounds.new.input _ (parts_of c.extend_lead.new.lead.items) (c.args.to + 1)
    c.extend_lead.ensures.extends c.in_err-raise_rounds.ensures.kept c.in_err-raise_rounds.ensures.err
    (each_there (λ _ s. length s.items ≤ prepared_of s) _ c.raise_rounds.new.self.stages.items
    (λ k d lt. (get_or c.raise_rounds.new.self.stages.items k d).behind))

pub returns-clause-within : goal.returns-clause-within
returns-clause-within g c =
    within_after _ c.raise_rounds.new.input _ (parts_of c.extend_lead.new.lead.items) (c.args.to + 1)
    c.extend_lead.ensures.extends c.in_ok-raise_rounds.ensures.kept (reach_within _ _ _ c.in_ok-raise_rounds.ensures.ok)
    (each_there (λ _ s. length s.items ≤ prepared_of s) _ c.raise_rounds.new.self.stages.items
    (λ k d lt. (get_or c.raise_rounds.new.self.stages.items k d).behind))
