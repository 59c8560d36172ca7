-- A job whose factors are raised for a request: what a view of it answers, and the steps.
use Rattle.std.proofs.Common.{◌≡◌, ℕ, suc, ◌+◌, ◌*◌, ◌≤◌, List, Option, Ok, Err, length, max, refl, sym, ◌∙◌, ap, subst}
use Rattle.std.proofs.Common.{arith}
use Rattle.std.specs.Prelude.{Result}
use Rattle.expr_reader.specs.NameLists.{as_names}
use Rattle.printer.specs.View.{HasUpTo}
use Rattle.script.specs.Requests.{precision_of}
use Rattle.script.specs.Script.{Has}
use Rattle.script.specs.declared.request.Request.{Request}
use Rattle.session.specs.Calls.{KeepsSession, IsRaised, IsWithin, prepared_degrees}
use Rattle.session.specs.Sessions.{SessionState, value_of, IsSession, HasItems}
use Rattle.commands.specs.declared.stop.Stop.{Stop}
use Rattle.commands.specs.Answering.{Answered, AnswersOnly, FactoringValue}
use Rattle.commands.specs.Factorings.{AnswersFactors, factoring_of, IsFactoring}
use Rattle.commands.specs.Streams.{view_answer}
use Rattle.commands.specs.declared.command.ScriptCommand.TheVariants.{Factor}
use Rattle.commands.proofs.Counted.{ticked_more, ticked_most, ticked, even_again, even_at, next_is}
use Rattle.commands.proofs.FactorTexts.{names_named, even_up_to, view_answers}

module _ (v : FactoringValue) (old new : SessionState) (seen : factoring_of old ≡ v) (even : IsFactoring old)
    (holds : IsSession old) (r : Request) (to : ℕ) (is_to : to ≡ precision_of r) (keeps : KeepsSession old new) where
  wanted : to + 1 ≡ suc (precision_of r)
  wanted = let same = is_to in omega arith

  -- the tally
  module _ (t t' : ℕ) (ticks : t' + prepared_degrees old ≡ t + prepared_degrees new) where
    pub steps_more : t ≤ t'
    steps_more = ticked_more (to + 1) old new holds even keeps t t' ticks

    pub steps_most : IsWithin (to + 1) old new
        → t' + length v.job.roots * v.degrees ≤ t + length v.job.roots * max (suc (precision_of r)) v.degrees
    steps_most within = subst (λ (u : FactoringValue). t' + length u.job.roots * u.degrees
        ≤ t + length u.job.roots * max (suc (precision_of r)) u.degrees) seen
        (subst (λ k. t' + length old.job.job.roots * length old.lead
        ≤ t + length old.job.job.roots * max k (length old.lead)) wanted
        (ticked_most (to + 1) old new holds even keeps t t' ticks within))

  module _ (holds' : IsSession new) (fits : HasItems new) (raised : IsRaised (to + 1) old new) where
    pub known : HasUpTo (value_of new) (precision_of r)
    known = even_up_to (max (to + 1) (length old.lead)) (precision_of r) new holds' fits
        (even_at (to + 1) old new holds even keeps raised) (let same = is_to in omega arith)

    -- the names and the job stay
    stays : record { names = new.job.names; job = new.job.job; degrees = length old.lead } ≡ v
    stays = (λ i. record { names = (keeps.job i).names; job = (keeps.job i).job; degrees = length old.lead }) ∙ seen

    pub answers : AnswersOnly Factor (Has v.names v.job) r (view_answer (as_names new.job.names) (value_of new) r)
    answers = subst (λ (u : FactoringValue).
        AnswersOnly Factor (Has u.names u.job) r (view_answer (as_names new.job.names) (value_of new) r)) stays
        (subst (λ (names : List (List ℕ)). AnswersOnly Factor (Has new.job.names new.job.job) r
        (view_answer names (value_of new) r)) (sym (names_named new holds'))
        (view_answers new holds' fits new.job.names r known))

    pub next : factoring_of new ≡ record v { degrees = max (suc (precision_of r)) v.degrees }
    next = next_is (to + 1) old new holds even keeps raised
        ∙ (λ i. record (seen i) { degrees = max (wanted i) (seen i).degrees })

    pub steps : (t t' : ℕ) → t' + prepared_degrees old ≡ t + prepared_degrees new
        → t' + length v.job.roots * v.degrees ≡ t + length v.job.roots * length new.lead
    steps t t' ticks =
        subst (λ (u : FactoringValue). t' + length u.job.roots * u.degrees ≡ t + length u.job.roots * length new.lead)
        seen
        (ticked (to + 1) old new holds even keeps raised holds' t t' ticks
        ∙ ap (λ k. t + length old.job.job.roots * k) (sym raised.lead))

-- a request, by what was raised for it
module _ (old new : SessionState) (even : IsFactoring old) (holds : IsSession old) (r : Request) (to : ℕ)
    (is_to : to ≡ precision_of r) (keeps : KeepsSession old new) (t t' : ℕ)
    (ticks : t' + prepared_degrees old ≡ t + prepared_degrees new) (within : IsWithin (to + 1) old new) where
  abbrev f : FactoringValue
  f = factoring_of old

  more : t ≤ t'
  more = steps_more f old new refl even holds r to is_to keeps t t' ticks

  most : t' + length f.job.roots * f.degrees ≤ t + length f.job.roots * max (suc (precision_of r)) f.degrees
  most = steps_most f old new refl even holds r to is_to keeps t t' ticks within

  -- it isn't answered
  pub factors_stopped : {A : Type 0} (x : Result A Stop) (e : Stop) → x ≡ Err e → (old_written new_written : Option (List ℕ))
      (before now : ℕ) → Answered Factor (Has f.names f.job) r x old_written new_written before now
      → AnswersFactors f (factoring_of new) r x old_written new_written before now t t'
  factors_stopped {A = A} x e is old_written new_written before now answered =
      subst (λ (x : Result A Stop). AnswersFactors f (factoring_of new) r x old_written new_written before now t t') (sym is) (record {
        next = tt;
        answered = subst (λ (x : Result A Stop). Answered Factor (Has f.names f.job) r x old_written new_written before now) is answered;
        spent = tt;
        more = more;
        at_most = most;
      })

  -- it is
  module _ (holds' : IsSession new) (fits : HasItems new) (raised : IsRaised (to + 1) old new) where
    pub even_behind : IsFactoring new
    even_behind = even_again (to + 1) old new holds even keeps raised

    pub factors_answered : {A : Type 0} (x : A) (old_written new_written : Option (List ℕ)) (before now : ℕ)
        → Answered Factor (Has f.names f.job) r {A = A} (Ok x) old_written new_written before now
        → AnswersFactors f (factoring_of new) r {A = A} (Ok x) old_written new_written before now t t'
    factors_answered x old_written new_written before now answered = record {
      next = is_next;
      answered = answered;
      spent = steps f old new refl even holds r to is_to keeps holds' fits raised t t' ticks
          ∙ ap (λ (v : FactoringValue). t + length f.job.roots * v.degrees) is_next;
      more = more;
      at_most = most;
    }
      where
        is_next : factoring_of new ≡ record f { degrees = max (suc (precision_of r)) f.degrees }
        is_next = next f old new refl even holds r to is_to keeps holds' fits raised
