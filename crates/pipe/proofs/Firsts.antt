-- Rounds of a first stage and others.
use Rattle.std.proofs.Common.{◌≡◌, ℕ, ◌+◌, ◌≤◌, List, take, refl, sym, ◌∙◌, ap, subst, arith}
use Rattle.ps_model.specs.AcceptedJob.{IsAccepted}
use Rattle.ps_model.specs.declared.job.JobData.{JobData}
use Rattle.parts.specs.JobRows.{IsPermitted}
use Rattle.stages.proofs.Permits.{permitted_lower}
use Rattle.pipe.specs.Looks.{ReaderState}
use Rattle.pipe.specs.Works.{WorkState, Works, IsShown, prepared_in}
use Rattle.pipe.specs.Runs.{CanRun, CanRunFirst, Runs, RunsFirst, IsRaised, IsRaisedFirst}
use Rattle.pipe.proofs.Growth.{works_same, works_twice}
use Rattle.pipe.proofs.Raises.{raised_none, works_on, readers_on, raised_on, sum_low}
use Rattle.pipe.proofs.Rounds.{runs_same}

-- a step of the first stage, and then a round of the others
pub first_and_rest : (n : ℕ) (w w' : WorkState) (ws ws' : List WorkState) (rs rs' : List ReaderState) (t u v : ℕ)
    → Works n w w' → u + prepared_in w ≡ t + prepared_in w' → Runs n ws ws' rs rs' u v
    → RunsFirst n w w' ws ws' rs rs' t v
first_and_rest n w w' ws ws' rs rs' t u v step ticks runs = record {
  first = step;
  works = runs.works;
  readers = runs.readers;
  ticks = let e = runs.ticks in omega arith;
}

-- the first stage and the others have r items
pub record AreRaisedFirst (r : ℕ) (w w' : WorkState) (ws ws' : List WorkState) (rs rs' : List ReaderState) (t t' : ℕ)
    : Type 0 where
  pub runs : RunsFirst r w w' ws ws' rs rs' t t'
  pub first : IsRaisedFirst r w'
  pub raised : IsRaised r ws ws' rs'

pub first_none : (to : ℕ) (job : JobData) (w : WorkState) (ws : List WorkState) (rs : List ReaderState) (t : ℕ)
    → CanRunFirst to job w → CanRun to ws rs t → AreRaisedFirst 0 w w ws ws rs rs t t
first_none to job w ws rs t can_first can =
    let none = raised_none to ws rs t can in
    record {
      runs = first_and_rest 0 w w ws ws rs rs t t t (works_same 0 w) refl none.runs;
      first = record { have = omega arith; shown = can_first.shown };
      raised = none.raised;
    }

pub first_twice : (n m : ℕ) → n ≤ m → (w v x : WorkState) (ws vs us : List WorkState) (rs ss qs : List ReaderState) (t u k : ℕ)
    → RunsFirst n w v ws vs rs ss t u → RunsFirst m v x vs us ss qs u k → RunsFirst m w x ws us rs qs t k
first_twice n m le w v x ws vs us rs ss qs t u k f g = record {
  first = works_twice n m le w v x f.first g.first;
  works = works_on n m le ws vs us f.works g.works;
  readers = readers_on rs ss qs f.readers g.readers;
  ticks = let e = f.ticks in let h = g.ticks in omega arith;
}

pub first_weaker : (n m : ℕ) → n ≤ m → (w v : WorkState) (ws vs : List WorkState) (rs ss : List ReaderState) (t u : ℕ)
    → RunsFirst n w v ws vs rs ss t u → RunsFirst m w v ws vs rs ss t u
first_weaker n m le w v ws vs rs ss t u f = record {
  first = works_twice n m le w v v f.first (works_same m v);
  works = works_on n m le ws vs vs f.works (runs_same m vs ss u).works;
  readers = f.readers;
  ticks = f.ticks;
}

pub first_more : (r : ℕ) (w v x : WorkState) (ws vs us : List WorkState) (rs ss qs : List ReaderState) (t u k : ℕ)
    → AreRaisedFirst r w v ws vs rs ss t u → RunsFirst (r + 1) v x vs us ss qs u k → IsRaisedFirst (r + 1) x
    → IsRaised (r + 1) vs us qs → AreRaisedFirst (r + 1) w x ws us rs qs t k
first_more r w v x ws vs us rs ss qs t u k so_far runs first raised = record {
  runs = first_twice r (r + 1) (omega arith) w v x ws vs us rs ss qs t u k so_far.runs runs;
  first = first;
  raised = raised_on r ws vs us qs so_far.runs.works raised;
}

-- they can go on
pub first_goes_on : (n r to : ℕ) (job now : JobData) (w v : WorkState) → CanRunFirst to job w → Works n w v → IsShown v
    → r ≤ to → n ≤ 4097 → now ≡ job → CanRunFirst r now v
first_goes_on n r to job now w v can works shown le low same = record {
  title = works.kept.title ∙ can.title ∙ ap (λ j. record { job = j; stage = 0 }) (sym same);
  accepted = subst IsAccepted (sym same) can.accepted;
  permitted = subst (λ j. IsPermitted (take j.n j.weights) r) (sym same)
      (permitted_lower (take job.n job.weights) r to le can.permitted);
  room = let e = works.kept.capacity in let k = can.room in omega arith;
  shown = shown;
  small = let p = works.prepared in let s = can.small in omega arith;
}

pub first_tally : (n to : ℕ) (job : JobData) (w v : WorkState) (ws vs : List WorkState) (rs ss : List ReaderState) (t u : ℕ)
    → CanRunFirst to job w → CanRun to ws rs t → RunsFirst n w v ws vs rs ss t u → n ≤ 4097 → u ≤ t + 135201
first_tally n to job w v ws vs rs ss t u can_first can runs low =
    let e = runs.ticks in
    let p = runs.first.prepared in
    let s = can_first.small in
    let sums = sum_low n to ws vs rs t can runs.works low in
    omega arith
