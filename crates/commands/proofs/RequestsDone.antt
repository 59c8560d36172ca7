-- Requests that are answered, in a run.
use Rattle.std.proofs.Common.{◌≡◌, ◌∙◌, arith, sym, ap, refl, subst, ℕ, ◌≤◌, List, Option, Some, None, Ok, Err}
use Rattle.std.specs.Prelude.{Result}
use Rattle.ports.specs.Reading as lines
use Rattle.parts.specs.declared.rings.Ring.{Ring}
use Rattle.script.specs.Requests.{precision_of}
use Rattle.script.specs.Script.{Has}
use Rattle.script.specs.declared.request.Request.{Request}
use Rattle.script.specs.declared.request.Request.TheVariants.{Show}
use Rattle.commands.specs.declared.stop.Stop.{Stop}
use Rattle.commands.specs.declared.command.ScriptCommand.{ScriptCommand}
use Rattle.commands.specs.declared.command.ScriptCommand.TheVariants.{Factor, Expand}
use Rattle.commands.specs.Answering.{Answered, FactoringValue, ExpandingValue}
use Rattle.commands.specs.Factorings.{AnswersFactors}
use Rattle.commands.specs.Lines.{EndsReading}
use Rattle.commands.specs.Progress.{SoFar, IsAsked, IsNext, Comes}
use Rattle.commands.specs.Readings.{Reading, Begun, Factors, Inputs, HasRing}
use Rattle.commands.specs.Runs.{Ran, status_in}
use Rattle.commands.specs.Statuses.{status_of}
use Rattle.commands.specs.Words.{Work, Script}
use Rattle.commands.proofs.LinesDone.{factor_answered, factor_stopped, expand_answered, expand_stopped}
use Rattle.commands.proofs.RunsEnded.{asked_answered, asked_stopped}

-- behind a header nothing is missing where the input ends
pub nothing_missing : (ring : Ring) (r : Reading) (written : Option (List ℕ)) (wrote : ℕ) → HasRing ring r
    → EndsReading r {A = Unit {0}} (Ok tt) written written wrote wrote
nothing_missing ring (Begun h) written wrote of = absurd of
nothing_missing ring (Factors f) written wrote of = record { ok = (refl, refl); err = tt; faults = omega arith }
nothing_missing ring (Inputs e) written wrote of = record { ok = (refl, refl); err = tt; faults = omega arith }

none_is : {X : Type 0} (o : Option X) → ((x : X) → o ≡ Some x → ⊥) → o ≡ None
none_is None not = refl
none_is (Some x) not = absurd (not x refl)

-- what follows wherever a run has come to
module _ {c : ScriptCommand} {ring : Ring} {old new : lines.Reading} {o : Option Request} {mid left' : Option (List ℕ)}
    {mid_read read' : ℕ} {mid_written written' : Option (List ℕ)} {mid_wrote wrote' : ℕ}
    (next : IsNext c ring old new (Ok o) mid left' mid_read read' mid_written written' mid_wrote wrote')
    (r : Reading) (of : HasRing ring r) {left written : Option (List ℕ)} (read wrote : ℕ) {tally tally' : ℕ}
    (source_faults : read ≤ mid_read) (sink_faults : wrote ≤ mid_wrote)
    (far : SoFar c old r left mid written mid_written tally tally') where
  abbrev comes : Comes c new r (Ok o) left left' read read' written written' wrote wrote' tally tally'
  comes = next.follows r left written read wrote tally tally' of source_faults sink_faults far

  -- a request
  pub next_asked : (q : Request) → o ≡ Some q → IsAsked c new r left left' written written' tally tally' q
  next_asked q is =
      subst (λ o. Comes c new r (Ok o) left left' read read' written written' wrote wrote' tally tally') is comes

  -- the end
  pub next_ended : ((q : Request) → o ≡ Some q → ⊥)
      → Ran (Some (Script c)) 0 left left' read read' written written' wrote wrote' tally tally'
  next_ended not =
      subst (λ o. Comes c new r (Ok o) left left' read read' written written' wrote wrote' tally tally') (none_is o not)
      comes

-- a run that ends with this error
pub ended_by : {A : Type 0} {work : Option Work} {left left' : Option (List ℕ)} {read read' : ℕ}
    {written written' : Option (List ℕ)} {wrote wrote' tally tally' : ℕ} (x : Result A Stop) (e : Stop) → x ≡ Err e
    → Ran work (status_of e) left left' read read' written written' wrote wrote' tally tally'
    → Ran work (status_in x) left left' read read' written written' wrote wrote' tally tally'
ended_by {A = A} {work = work} {left = left} {left' = left'} {read = read} {read' = read'} {written = written}
    {written' = written'} {wrote = wrote} {wrote' = wrote'} {tally = tally} {tally' = tally'} x e is ran =
    subst (λ n. Ran work n left left' read read' written written' wrote wrote' tally tally')
    (sym (ap (status_in {A = A}) is)) ran

-- what is known of a reading is known of one that is equal
pub far_of : {c : ScriptCommand} {l : lines.Reading} {left left' written written' : Option (List ℕ)} {tally tally' : ℕ}
    (r r' : Reading) → r' ≡ r → SoFar c l r left left' written written' tally tally'
    → SoFar c l r' left left' written written' tally tally'
far_of {c = c} {l = l} {left = left} {left' = left'} {written = written} {written' = written'} {tally = tally}
    {tally' = tally'} r r' is far =
    subst (λ r. SoFar c l r left left' written written' tally tally') (sym is) far

-- a request of `factor`
module _ (l : lines.Reading) (f : FactoringValue) (q : Request) (left left' written mid_written : Option (List ℕ))
    (tally mid_tally : ℕ) (asks : IsAsked Factor l (Factors f) left left' written mid_written tally mid_tally q)
    (f' : FactoringValue) (new_written : Option (List ℕ)) (mid_wrote wrote' tally' : ℕ) where
  pub factor_on : {A : Type 0} (x : A)
      → AnswersFactors f f' q {A = A} (Ok x) mid_written new_written mid_wrote wrote' mid_tally tally'
      → SoFar Factor l (Factors f') left left' written new_written tally tally'
  factor_on x is = subst (λ v. SoFar Factor l (Factors v) left left' written new_written tally tally') (sym is.next)
      (asked_answered Factor l (Factors f) q left left' written mid_written tally mid_tally asks _ new_written tally'
      (factor_answered f q l.text l.number asks.does mid_written new_written mid_wrote wrote' mid_tally tally' is.more
      is.answered.faults asks.done.reads asks.allowed.0 is.answered.ok.0 is.answered.ok.1 is.answered.ok.2 is.spent).ok)

  pub factor_stop : {A : Type 0} (e : Stop)
      → AnswersFactors f f' q {A = A} (Err e) mid_written new_written mid_wrote wrote' mid_tally tally'
      → (read read' wrote : ℕ) → read ≤ read' → wrote ≤ mid_wrote
      → Ran (Some (Script Factor)) (status_of e) left left' read read' written new_written wrote wrote' tally tally'
  factor_stop e is read read' wrote source_faults sink_faults =
      asked_stopped Factor l (Factors f) q left left' written mid_written tally mid_tally asks read read' wrote mid_wrote
      source_faults sink_faults e new_written wrote' tally'
      (factor_stopped f q l.text l.number asks.does mid_written new_written mid_wrote wrote' mid_tally tally' is.more
      is.answered.faults e is.answered.stop is.answered.err is.at_most)

-- a request of `expand`
module _ (l : lines.Reading) (e : ExpandingValue) (q : Request) (left left' written mid_written : Option (List ℕ))
    (tally : ℕ) (asks : IsAsked Expand l (Inputs e) left left' written mid_written tally tally q) (d : ℕ)
    (is_d : d ≡ precision_of q) (new_written : Option (List ℕ)) (mid_wrote wrote' : ℕ) where
  shows : IsAsked Expand l (Inputs e) left left' written mid_written tally tally (Show d)
  shows = subst (IsAsked Expand l (Inputs e) left left' written mid_written tally tally)
      (asks.allowed.1 ∙ ap Show (sym is_d)) asks

  pub expand_on : {A : Type 0} (x : A)
      → Answered Expand (Has e.names e.job) (Show d) {A = A} (Ok x) mid_written new_written mid_wrote wrote'
      → SoFar Expand l (Inputs e) left left' written new_written tally tally
  expand_on x is = asked_answered Expand l (Inputs e) (Show d) left left' written mid_written tally tally shows _
      new_written tally
      (expand_answered e (Show d) l.text l.number shows.does mid_written new_written mid_wrote wrote' tally is.faults
      is.ok.0 is.ok.1 is.ok.2).ok

  pub expand_stop : {A : Type 0} (x : Stop)
      → Answered Expand (Has e.names e.job) (Show d) {A = A} (Err x) mid_written new_written mid_wrote wrote'
      → (read read' wrote : ℕ) → read ≤ read' → wrote ≤ mid_wrote
      → Ran (Some (Script Expand)) (status_of x) left left' read read' written new_written wrote wrote' tally tally
  expand_stop x is read read' wrote source_faults sink_faults =
      asked_stopped Expand l (Inputs e) (Show d) left left' written mid_written tally tally shows read read' wrote
      mid_wrote source_faults sink_faults x new_written wrote' tally
      (expand_stopped e (Show d) l.text l.number shows.does mid_written new_written mid_wrote wrote' tally is.faults x
      is.stop is.err)
