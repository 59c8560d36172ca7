-- Sessions whose lead is extended, and whose line is raised.
use Rattle.std.proofs.Common.{◌≡◌, ℕ, ◌+◌, ◌<◌, ◌≤◌, List, [], length, get_or, refl}
use Rattle.std.proofs.Common.{sym, ◌∙◌, ap, subst}
use Rattle.std.proofs.Common.{arith, max}
use Rattle.std.proofs.lemmas.List.{append-nil, length-append}
use Rattle.ps_model.specs.declared.job.JobData.{JobData}
use Rattle.parts.specs.PartValue.{PartValue}
use Rattle.stages.specs.Lines.{AreKept, AllReach, NoneExceeds}
use Rattle.stages.specs.States.{StageState, prepared_of}
use Rattle.session.specs.Calls.{IsWithin}
use Rattle.session.specs.Leads.{AreLeadParts, ExtendsLead}
use Rattle.session.specs.Sessions.{SessionState, IsSession, HasItems}

-- the stages that are raised, and the lead that is extended, of a job that stays
module _ (s : SessionState) (input : JobData) (stages : List StageState) (lead : List PartValue) where
  abbrev pub after : SessionState
  after = record {
    job = record { names = s.job.names; job = input };
    ring = s.ring;
    shows_lead = s.shows_lead;
    stages = stages;
    lead = lead;
  }

  pub holds_after : (to : ℕ) → input ≡ s.job.job → IsSession s → AreKept s.stages stages → AreLeadParts s.job.job lead
      → ExtendsLead (to + 1) s.lead lead → to ≤ 4095 → IsSession after
  holds_after to same holds kept are extends low =
      subst (λ (j : JobData). IsSession (record {
        job = record { names = s.job.names; job = j };
        ring = s.ring;
        shows_lead = s.shows_lead;
        stages = stages;
        lead = lead;
      })) (sym same) (record {
        ring_is = holds.ring_is;
        named = holds.named;
        shown = holds.shown;
        of_job = record {
          accepted = holds.of_job.accepted;
          count = kept.count ∙ holds.of_job.count;
          title = λ i d lt. let there : i < length s.stages = (let count = kept.count in omega arith) in
              (kept.each i d there).title ∙ holds.of_job.title i d there;
        };
        room = λ d is i x lt.
            let there : i < length s.stages = (let count = kept.count in omega arith) in
            let more = holds.room d is i x there in
            let still = (kept.each i x there).capacity in
            omega arith;
        lead = are;
        few = let count = extends.count in let few = holds.few in omega arith;
      })

  pub fits_after : input ≡ s.job.job → stages ≡ s.stages → HasItems s → HasItems after
  fits_after same still fits = subst (λ (t : SessionState). HasItems t) (λ k. record {
    job = record { names = s.job.names; job = sym same k };
    ring = s.ring;
    shows_lead = s.shows_lead;
    stages = sym still k;
    lead = lead;
  }) (record { each = fits.each })

  pub within_after : (n : ℕ) → ExtendsLead n s.lead lead → AreKept s.stages stages → NoneExceeds n s.stages stages
      → ((i : ℕ) (d : StageState) → i < length stages → length (get_or stages i d).items
      ≤ prepared_of (get_or stages i d)) → IsWithin n s after
  within_after n extends kept none behind = record {
    stages = none;
    items = λ i d lt.
        let low = none i d lt in
        let less = behind i d (let count = kept.count in omega arith) in
        omega arith;
    lead = extends.count;
  }

-- stages that stay as they are
pub kept_same : (xs : List StageState) → AreKept xs xs
kept_same xs = record {
  count = refl;
  each = λ s d lt. record {
    title = refl;
    ring = refl;
    capacity = refl;
    name = refl;
    more = [];
    items = sym (append-nil _);
    prepared = omega arith;
  };
}

pub none_exceeds_same : (n : ℕ) (xs : List StageState) → NoneExceeds n xs xs
none_exceeds_same n xs s d lt = omega arith

pub reach_within : (n : ℕ) (xs ys : List StageState) → AllReach n xs ys → NoneExceeds n xs ys
reach_within n xs ys reach s d lt = let both = (reach s d lt).1 in omega arith

-- a lead that has the degree has the greater of what was asked for and what it had
pub lead_raised : (to : ℕ) (old new : List PartValue) → ExtendsLead (to + 1) old new → to < length new
    → length new ≡ max (to + 1) (length old)
lead_raised to old new extends far =
    let most = extends.count in
    let more = ap length extends.begins in
    let long = length-append old extends.more in
    omega arith
