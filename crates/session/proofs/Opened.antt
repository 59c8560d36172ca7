-- Sessions that are opened.
use Rattle.std.proofs.Common.{◌≡◌, ℕ, zero, suc, ◌+◌, ◌<◌, ◌↔◌, Bool, IsTrue, List, [], ◌∷◌, length, map, get_or}
use Rattle.std.proofs.Common.{replicate, take, refl, sym, ◌∙◌, ap, subst, arith, None}
use Rattle.std.specs.Prelude.{slice_index}
use Rattle.std.proofs.lemmas.List.{get_or-map}
use Rattle.std.proofs.lemmas.Option.{slice_get_within}
use Rattle.ps_model.specs.AcceptedJob.{IsAccepted}
use Rattle.ps_model.specs.Job.{job_ring}
use Rattle.ps_model.specs.Lead.{IsLeadShown}
use Rattle.ps_model.specs.declared.job.JobData.{JobData}
use Rattle.parts.specs.JobRows.{IsRingOf, IsPermitted}
use Rattle.parts.specs.PartValue.{PartValue}
use Rattle.parts.specs.Rings.{weights_of}
use Rattle.parts.specs.declared.rings.Ring.{Ring}
use Rattle.rows.specs.Fits.{AllFit}
use Rattle.stages.specs.Items.{StageItemValue, IsItem}
use Rattle.stages.specs.Lines.{AreFresh, HaveRoom}
use Rattle.stages.specs.States.{StageState}
use Rattle.expr_reader.specs.NameLists.{AreVariables}
use Rattle.expr_reader.proofs.AsNames.{names_as_names}
use Rattle.intake.specs.Jobs.{JobValue}
use Rattle.session.specs.Precisions.{weights_in, IsGreatestPermitted}
use Rattle.session.specs.Sessions.{SessionState, IsSession}

-- the ring's weights are the job's
pub same_weights : (ring : Ring) (job : JobData) → IsRingOf ring job → weights_of ring ≡ weights_in job
same_weights ring job is = λ i. take (is.1 i) (is.2 i)

-- there is one greatest degree
greatest_once : (ws : List ℕ) (d e : ℕ) → IsGreatestPermitted ws d → IsGreatestPermitted ws e → d ≡ e
greatest_once ws d e is also =
    let low = is.greatest e also.permitted in
    let high = also.greatest d is.permitted in
    omega arith

replicate-at : (t n s : ℕ) → s < t → get_or (replicate t n) s 0 ≡ n
replicate-at zero n s lt = absurd (omega arith)
replicate-at (suc t) n zero lt = refl
replicate-at (suc t) n (suc s) lt = replicate-at t n s (omega arith)

-- the name of a row of one's own
abbrev pub nameless : {T : Type 0} → T → List ℕ
nameless x = []

pub without_names : {T : Type 0} (xs : List T) (s : ℕ) → get_or (map nameless xs) s [] ≡ []
without_names [] s = refl
without_names (x ∷ xs) zero = refl
without_names (x ∷ xs) (suc s) = without_names xs s

module _ (job : JobData) (ring : Ring) (capacities : List ℕ) (names : List (List ℕ)) (states : List StageState)
    (capacity : ℕ) (fresh : AreFresh job ring capacities names states)
    (same : capacities ≡ replicate (length job.roots) capacity) where
  pub fresh_stages : ((s : ℕ) → get_or names s [] ≡ []) → AreFresh job ring (replicate (length job.roots) capacity) [] states
  fresh_stages none = record {
    count = fresh.count;
    each = λ s d lt. fresh.each s d lt ∙ (λ i. record {
      title = record { job = job; stage = s };
      ring = ring;
      capacity = slice_index (same i) s;
      name = none s i;
      items = [];
      preparation = None;
    });
  }

  pub fresh_room : (d : ℕ) → d < capacity → HaveRoom d states
  fresh_room d low s x lt =
      let here = ap (λ (t : StageState). t.capacity) (fresh.each s x lt)
      ∙ ap (λ l. get_or l s 0) same
      ∙ replicate-at (length job.roots) capacity s (let count = fresh.count in omega arith) in
      omega arith

-- named as they are
pub fresh_by_own : (job : JobData) (ring : Ring) (capacities : List ℕ) (names : List (List ℕ)) (states : List StageState)
    → AreFresh job ring capacities names states → AreFresh job ring capacities (map (λ (t : StageState). t.name) states) states
fresh_by_own job ring capacities names states fresh = record {
  count = fresh.count;
  each = λ s d lt. fresh.each s d lt ∙ (λ i. record {
    title = record { job = job; stage = s };
    ring = ring;
    capacity = slice_index capacities s;
    name = (sym (ap (λ (t : StageState). t.name) (fresh.each s d lt))
        ∙ sym (get_or-map (λ (t : StageState). t.name) states s d [] lt)) i;
    items = [];
    preparation = None;
  });
}

-- the same of the job that the stages were made for
pub fresh_of : (job other : JobData) (ring : Ring) (capacities : List ℕ) (names : List (List ℕ))
    (states : List StageState)
    (capacity : ℕ) → other ≡ job → AreFresh other ring capacities names states
    → capacities ≡ replicate (length job.roots) capacity → ((s : ℕ) → get_or names s [] ≡ [])
    → AreFresh job ring (replicate (length job.roots) capacity) [] states
fresh_of job other ring capacities names states capacity is fresh same none =
    fresh_stages job ring capacities names states capacity
    (subst (λ (j : JobData). AreFresh j ring capacities names states) is fresh) same none

-- the same of rows with names
pub fresh_named : (job other : JobData) (ring : Ring) (capacity : ℕ) (names : List (List ℕ)) (states line : List StageState)
    → other ≡ job → line ≡ states → AreFresh other ring (replicate (length other.roots) capacity) names states
    → AreFresh job ring (replicate (length job.roots) capacity) names line
fresh_named job other ring capacity names states line is same fresh =
    subst (AreFresh job ring (replicate (length job.roots) capacity) names) (sym same)
    (subst (λ (j : JobData). AreFresh j ring (replicate (length j.roots) capacity) names states) is fresh)

module _ (job : JobValue) (ring : Ring) (shows_lead : Bool) (states : List StageState) (lead : List PartValue)
    (greatest : ℕ) (is_ring : IsRingOf ring job.job)
    (is : IsGreatestPermitted (weights_of ring) greatest) (ok : IsAccepted job.job) (empty : lead ≡ [])
    {names : List (List ℕ)} (fresh : AreFresh job.job ring (replicate (length job.job.roots) (greatest + 1)) names states)
  where
    abbrev state : SessionState
    state = record { job = job; ring = ring; shows_lead = shows_lead; stages = states; lead = lead }

    none_here : {T : Type 0} (r : ℕ) → r < length lead → T
    none_here r lt = let count = ap length empty in absurd (omega arith)

    pub permitted_low : (d : ℕ) → IsPermitted (weights_in job.job) d → d < greatest + 1
    permitted_low d also = let low = is.greatest d (subst (λ ws. IsPermitted ws d)
        (sym (same_weights ring job.job is_ring)) also) in omega arith

    pub opened : AreVariables job.names → length job.names ≡ job.job.n
        → IsTrue shows_lead ↔ IsLeadShown (job_ring job.job) job.job.expr → IsSession state
    opened variables count shown = record {
      ring_is = is_ring;
      named = let long = ap length (names_as_names job.names variables.valid) in omega arith;
      shown = shown;
      of_job = record {
        accepted = ok;
        count = fresh.count;
        title = λ s d lt. ap (λ (t : StageState). t.title) (fresh.each s d lt);
      };
      room = λ d also. fresh_room job.job ring _ names states (greatest + 1) fresh refl d (permitted_low d also);
      lead = λ r lt. none_here r lt;
      few = let count = ap length empty in omega arith;
    }

    pub opened_stages : (d : ℕ) → IsGreatestPermitted (weights_in job.job) d
        → AreFresh job.job ring (replicate (length job.job.roots) (d + 1)) names states
    opened_stages d also = subst (λ k. AreFresh job.job ring (replicate (length job.job.roots) (k + 1)) names states)
        (greatest_once (weights_in job.job) greatest d
        (subst (λ ws. IsGreatestPermitted ws greatest) (same_weights ring job.job is_ring) is) also) fresh

-- no item doesn't fit
fit_none : (P : ℕ → StageItemValue → Type 0) (xs : List StageItemValue) → xs ≡ [] → AllFit P xs
fit_none P xs none r x at =
    let low = slice_get_within xs r x at in let count = ap length none in absurd (omega arith)

pub opened_fits : (job : JobData) (ring : Ring) (capacities : List ℕ) (names : List (List ℕ)) (states : List StageState)
    → AreFresh job ring capacities names states → (i : ℕ) (d : StageState) → i < length states
    → AllFit (IsItem (record { job = job; stage = i })) (get_or states i d).items
opened_fits job ring capacities names states fresh i d lt =
    fit_none (IsItem (record { job = job; stage = i })) (get_or states i d).items
    (ap (λ (t : StageState). t.items) (fresh.each i d lt))
