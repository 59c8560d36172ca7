-- How a run ends.
use Rattle.std.proofs.Common.{◌≡◌, ◌∙◌, sym, ap, refl, subst, ℕ, ◌+◌, ◌^◌, ◌<◌, ◌≤◌, ◌⊎◌, inl, inr, List, [], ◌∷◌}
use Rattle.std.proofs.Common.{◌++◌, length}
use Rattle.std.proofs.Common.{arith, Bool, true, false, Option, Some, None, Ok, Err}
use Rattle.std.specs.Prelude.{Result}
use Rattle.ports.specs.Bytes.{AllTaken, WritesAll}
use Rattle.ports.specs.Faults.{Rose}
use Rattle.ports.specs.Reading as lines
use Rattle.script.specs.Answers.{Item, Line, TooLong, Skips, Asks, items_of}
use Rattle.script.specs.Refusals.{line_refused, end_refused}
use Rattle.script.specs.Script.{State}
use Rattle.script.specs.declared.refusal.Refusal.TheVariants as refusal
use Rattle.script.specs.declared.request.Request.{Request}
use Rattle.script.proofs.Items.{CanFollow, next_line, next_too_long, consumed_end, consumed_failed, consumed_line}
use Rattle.commands.specs.declared.stop.Stop.{Stop}
use Rattle.commands.specs.declared.stop.Stop.TheVariants as stop
use Rattle.commands.specs.declared.command.ScriptCommand.{ScriptCommand}
use Rattle.commands.specs.Answering.{AreOnly, MayBe, DoesOnly}
use Rattle.commands.specs.Calls.{WritesBeginning, StopsWithin}
use Rattle.std.proofs.lemmas.List.{append_assoc, length_push}
use Rattle.std.proofs.lemmas.Nat.{mul-le}
use Rattle.commands.specs.Progress.{Done, SoFar, IsAsked}
use Rattle.commands.specs.Readings.{Reading, Begun, Factors, Inputs, state_in, spent_of, IsReading, IsAllowed}
use Rattle.commands.specs.Lines.{HasCause, AnswersLine, EndsReading, Refuses, Steps}
use Rattle.commands.specs.Output.{Asked, steps_of}
use Rattle.commands.specs.Runs.{FinishesRequests, Finishes, Ran, status_in}
use Rattle.commands.specs.Statuses.{status_of}
use Rattle.commands.specs.Words.{Work, Script}
use Rattle.commands.proofs.RunsDone.{pulled_more, stops_here, stops_first, finishes_refused, stops_within, finishes_well, finishes_missing}
use Rattle.commands.proofs.RunsDone.{stops_missing, answers_lines, so_far_line}
use Rattle.commands.proofs.LinesDone.{skipped_line}
use Rattle.commands.proofs.StepCounts.{spent_is, steps_grow}

-- a count that rose in a later call rose in all
pub rose_later : (a b d : ℕ) → a ≤ b → Rose b d → Rose a d
rose_later a b d le rose = omega (arith, rose)

rose_before : (a b d : ℕ) → b ≤ d → Rose a b → Rose a d
rose_before a b d le rose = omega (arith, rose)

-- no memory for the words, or for the lines
pub ran_first : (work : Option Work) (left written : Option (List ℕ)) (read wrote tally : ℕ)
    → Ran work 5 left left read read written written wrote wrote tally tally
ran_first work left written read wrote tally = record {
  whole = λ low. absurd (elim low [ inl two ↦ omega arith | inr six ↦ omega arith ]);
  end = λ is reads. absurd (elim is [ inl none ↦ omega arith | inr six ↦ omega arith ]);
  read_fault = λ is. absurd (omega arith);
  write_fault = λ is. absurd (omega arith);
  answers = λ is. absurd (omega arith);
  part = λ is. stops_first work left written tally;
  low = omega arith;
  source_faults = omega arith;
  sink_faults = omega arith;
}

module _ (c : ScriptCommand) where
  -- what is written for requests, as the output of the command
  finished : (left written written' : Option (List ℕ)) (tally tally' status : ℕ)
      → FinishesRequests c left written written' tally tally' status
      → Finishes (Some (Script c)) left written written' tally tally' status
  finished left written written' tally tally' status done = record {
    input = done.input;
    is_left = done.is_left;
    text = done.text;
    steps = steps_of c done.asked;
    output = (done.asked, done.output.is, refl);
    only = λ t s n (asked, whole, steps).
        let same = done.output.only t s asked whole in (same.0, same.1, steps ∙ ap (steps_of c) same.2);
    writes = done.writes;
    spends = done.spends;
  }

  module _ (left left' written new_written : Option (List ℕ)) (read read' wrote wrote' tally tally' : ℕ)
      (source_faults : read ≤ read') (sink_faults : wrote ≤ wrote') where
    -- a run that stops for this
    ran_stopped : (e : Stop) → (e ≡ stop.ReadFault → ⊥) → (e ≡ stop.WriteFault → Rose wrote wrote')
        → (e ≡ stop.Refused → FinishesRequests c left written new_written tally tally' 1)
        → ((e ≡ stop.Refused → ⊥) → StopsWithin (Some (Script c)) left left' written new_written tally tally')
        → Ran (Some (Script c)) (status_of e) left left' read read' written new_written wrote wrote' tally tally'
    ran_stopped stop.Refused not_read rose finishes stops = record {
      whole = λ low. finished left written new_written tally tally' 1 (finishes refl);
      end = λ is reads. absurd (elim is [ inl none ↦ omega arith | inr six ↦ omega arith ]);
      read_fault = λ is. absurd (omega arith);
      write_fault = λ is. absurd (omega arith);
      answers = λ is. absurd (omega arith);
      part = λ is. absurd (elim is [ inl four ↦ omega arith | inr five ↦ omega arith ]);
      low = omega arith;
      source_faults = source_faults;
      sink_faults = sink_faults;
    }
    ran_stopped stop.ReadFault not_read rose finishes stops = absurd (not_read refl)
    ran_stopped stop.WriteFault not_read rose finishes stops = record {
      whole = λ low. absurd (elim low [ inl two ↦ omega arith | inr six ↦ omega arith ]);
      end = λ is reads. absurd (elim is [ inl none ↦ omega arith | inr six ↦ omega arith ]);
      read_fault = λ is. absurd (omega arith);
      write_fault = λ is. rose refl;
      answers = λ is. absurd (omega arith);
      part = λ is. stops (λ e. let no : ⊥ = cc in no);
      low = omega arith;
      source_faults = source_faults;
      sink_faults = sink_faults;
    }
    ran_stopped stop.OutOfMemory not_read rose finishes stops = record {
      whole = λ low. absurd (elim low [ inl two ↦ omega arith | inr six ↦ omega arith ]);
      end = λ is reads. absurd (elim is [ inl none ↦ omega arith | inr six ↦ omega arith ]);
      read_fault = λ is. absurd (omega arith);
      write_fault = λ is. absurd (omega arith);
      answers = λ is. absurd (omega arith);
      part = λ is. stops (λ e. let no : ⊥ = cc in no);
      low = omega arith;
      source_faults = source_faults;
      sink_faults = sink_faults;
    }

  -- the line behind the items isn't answered
  module _ (new : lines.Reading) (r : Reading) (left left' written mid_written : Option (List ℕ)) (tally mid_tally : ℕ)
      (items : List Item) (far : Done c new r left left' written mid_written tally mid_tally items)
      (read read' wrote mid_wrote : ℕ) (source_faults : read ≤ read') (sink_faults : wrote ≤ mid_wrote) where
    ran_at : ((end : Bool) (more : List ℕ) → CanFollow new end more
        → (rest : List Item) × (items_of end (new.pulled ++ more) ≡ items ++ Line new.text ∷ rest))
        → new.number ≡ 1 + length items → (e : Stop) (new_written : Option (List ℕ)) (wrote' tally' : ℕ)
        → AnswersLine c r new.text new.number (Err e) mid_written new_written mid_wrote wrote' mid_tally tally'
        → Ran (Some (Script c)) (status_of e) left left' read read' written new_written wrote wrote' tally tally'
    ran_at next counted e new_written wrote' tally' answers =
        ran_stopped left left' written new_written read read' wrote wrote' tally tally' source_faults
        (let grow = answers.faults in omega arith) e not_read
        (λ is. rose_later wrote mid_wrote wrote' sink_faults (cause_rose e is answers.cause))
        (λ is. let told = answers.refused (ap (λ x. Err x) is) in
        finishes_refused c new r left left' written mid_written tally mid_tally items far
        (Line new.text) next told.0 (at_number told.0 told.1) new_written told.2 tally' told.3)
        (λ other. stops_within c new r left left' written mid_written tally mid_tally items far
        (Line new.text) next new_written tally' (λ t after a h. answers.part t after a (may t after a h)) answers.more
        (λ t after a h. answers.at_most t after a (may t after a h) far.asked far.accounts))
      where
        at_number : (t : List ℕ) → AreOnly c (state_in r) new.number (Line new.text ∷ []) t None []
            → AreOnly c (state_in r) (1 + length items) (Line new.text ∷ []) t None []
        at_number t h = subst (λ k. AreOnly c (state_in r) k (Line new.text ∷ []) t None []) counted h

        may : (t : List ℕ) (after : Option State) (a : Asked)
            → MayBe c (state_in r) (1 + length items) (Line new.text ∷ []) t after a
            → MayBe c (state_in r) new.number (Line new.text ∷ []) t after a
        may t after a h = subst (λ k. MayBe c (state_in r) k (Line new.text ∷ []) t after a) (sym counted) h

        not_read : e ≡ stop.ReadFault → ⊥
        not_read is = subst (λ e. HasCause e mid_wrote wrote') is answers.cause

        cause_rose : (e : Stop) → e ≡ stop.WriteFault → HasCause e mid_wrote wrote' → Rose mid_wrote wrote'
        cause_rose e is h = subst (λ e. HasCause e mid_wrote wrote') is h

  -- a request is answered, or why it isn't
  module _ (l : lines.Reading) (r : Reading) (q : Request) (left left' written mid_written : Option (List ℕ))
      (tally mid_tally : ℕ) (asks : IsAsked c l r left left' written mid_written tally mid_tally q) where
    pub asked_answered : (next : Reading) (new_written : Option (List ℕ)) (tally' : ℕ)
        → Steps c r l.text l.number next mid_written new_written mid_tally tally'
        → SoFar c l next left left' written new_written tally tally'
    asked_answered next new_written tally' step =
        so_far_line c l r left left' written mid_written tally mid_tally asks.items asks.done next new_written tally'
        asks.consumed asks.few step

    pub asked_stopped : (read read' wrote mid_wrote : ℕ) → read ≤ read' → wrote ≤ mid_wrote
        → (e : Stop) (new_written : Option (List ℕ)) (wrote' tally' : ℕ)
        → AnswersLine c r l.text l.number (Err e) mid_written new_written mid_wrote wrote' mid_tally tally'
        → Ran (Some (Script c)) (status_of e) left left' read read' written new_written wrote wrote' tally tally'
    asked_stopped read read' wrote mid_wrote source_faults sink_faults e new_written wrote' tally' answers =
        ran_at l r left left' written mid_written tally mid_tally asks.items asks.done read read' wrote mid_wrote
        source_faults sink_faults next counted e new_written wrote' tally' answers
      where
        next : (end : Bool) (more : List ℕ) → CanFollow l end more
            → (rest : List Item) × (items_of end (l.pulled ++ more) ≡ asks.items ++ Line l.text ∷ rest)
        next end more follows =
            (_, asks.consumed.same end more follows ∙ append_assoc asks.items (Line l.text ∷ []) _)

        counted : l.number ≡ 1 + length asks.items
        counted = let is = asks.consumed.counted in let one = length_push asks.items (Line l.text) in omega arith

  -- there is no memory, and no line is taken
  pub ran_here : (l : lines.Reading) (r : Reading) (left left' written written' : Option (List ℕ)) (tally tally' : ℕ)
      → SoFar c l r left left' written written' tally tally' → (read read' wrote wrote' : ℕ) → read ≤ read' → wrote ≤ wrote'
      → Ran (Some (Script c)) 5 left left' read read' written written' wrote wrote' tally tally'
  ran_here l r left left' written written' tally tally' far read read' wrote wrote' source_faults sink_faults =
      ran_stopped left left' written written' read read' wrote wrote' tally tally' source_faults sink_faults
      stop.OutOfMemory (λ e. let no : ⊥ = cc in no) (λ e. absurd (let no : ⊥ = cc in no))
      (λ e. absurd (let no : ⊥ = cc in no))
      (λ other. stops_here c l r left left' written written' tally tally' far.items far.done far.consumed)

  module _ (old new : lines.Reading) (r : Reading) (left mid left' written mid_written : Option (List ℕ))
      (tally mid_tally : ℕ) (far : SoFar c old r left mid written mid_written tally mid_tally)
      (read read' wrote mid_wrote : ℕ) (source_faults : read ≤ read') (sink_faults : wrote ≤ mid_wrote)
      {X : Type 0} (source source' : X)
      (bytes : lines.PullsMore old new mid left')
      (unmoved : lines.HoldsLine old ⊎ (old.ended ≡ true) → (source' ≡ source) × (new.pulled ≡ old.pulled))
      (room : (length new.pulled ≤ 1048577) × (new.place ≤ length new.pulled))
      (ended : new.ended ≡ true → (old.ended ≡ true) ⊎ AllTaken left')
      (ended_stays : old.ended ≡ true → new.ended ≡ true)
      (still : old.ended ≡ true → left' ≡ mid) where
    now : Done c new r left left' written mid_written tally mid_tally far.items
    now = pulled_more c old new r left mid left' written mid_written tally mid_tally far bytes ended still

    -- the next line is answered, and the run goes on
    pub ran_on : lines.TakesLine old new → old.place < new.place → (next : Reading) (new_written : Option (List ℕ)) (tally' : ℕ)
        → Steps c r new.text new.number next mid_written new_written mid_tally tally'
        → SoFar c new next left left' written new_written tally tally'
    ran_on takes onward next new_written tally' step =
        so_far_line c new r left left' written mid_written tally mid_tally far.items now next new_written
        tally' (consumed_line old new mid left' source source' bytes unmoved room ended_stays far.items far.consumed takes)
        (let number = takes.number in let few = far.few in omega arith) step

    -- the next line asks for this
    pub ran_asked : lines.TakesLine old new → old.place < new.place → (q : Request) → DoesOnly c (state_in r) new.text (Asks q)
        → IsAllowed q r → (new_written : Option (List ℕ)) → new_written ≡ mid_written
        → IsAsked c new r left left' written new_written tally mid_tally q
    ran_asked takes onward q does allowed new_written same =
        subst (λ w. IsAsked c new r left left' written w tally mid_tally q) (sym same) (record {
          items = far.items;
          done = now;
          consumed = consumed_line old new mid left' source source' bytes unmoved room ended_stays far.items far.consumed
              takes;
          few = (let number = takes.number in let few = far.few in omega arith);
          does = does;
          allowed = allowed;
        })

    -- the next line says nothing
    pub ran_skipped : lines.TakesLine old new → old.place < new.place → DoesOnly c (state_in r) new.text Skips
        → (new_written : Option (List ℕ)) → new_written ≡ mid_written
        → SoFar c new r left left' written new_written tally mid_tally
    ran_skipped takes onward does new_written same =
        subst (λ w. SoFar c new r left left' written w tally mid_tally) (sym same)
        (ran_on takes onward r mid_written mid_tally
        (skipped_line c r new.text new.number mid_written mid_wrote mid_tally far.done.reads does).ok)

    -- the next line isn't
    pub ran_line : lines.TakesLine old new → (e : Stop) (new_written : Option (List ℕ)) (wrote' tally' : ℕ)
        → AnswersLine c r new.text new.number (Err e) mid_written new_written mid_wrote wrote' mid_tally tally'
        → Ran (Some (Script c)) (status_of e) left left' read read' written new_written wrote wrote' tally tally'
    ran_line takes e new_written wrote' tally' answers =
        ran_at new r left left' written mid_written tally mid_tally far.items now read read' wrote mid_wrote source_faults
        sink_faults (next_line old new mid left' source source' bytes unmoved room ended_stays far.items far.consumed takes)
        (let is = far.consumed.counted in let number = takes.number in omega arith) e new_written wrote' tally' answers

    -- a line needs the byte behind the last that an input may have
    pub ran_too_long : lines.NeedsLastByte new → lines.KeepsLine old new → (e : Stop) (new_written : Option (List ℕ))
        (wrote' : ℕ) → Refuses e mid_written new_written mid_wrote wrote' (line_refused (new.number + 1) refusal.InputTooLong)
        → Ran (Some (Script c)) (status_of e) left left' read read' written new_written wrote wrote' tally mid_tally
    ran_too_long needs keeps e new_written wrote' told =
        ran_stopped left left' written new_written read read' wrote wrote' tally mid_tally source_faults
        (let grow = told.faults in omega arith) e not_read
        (λ is. rose_later wrote mid_wrote wrote' sink_faults (subst (λ e. HasCause e mid_wrote wrote') is told.cause))
        (λ is. finishes_refused c new r left left' written mid_written tally mid_tally far.items now
        TooLong next text (refl, refl, refl) new_written
        (subst (WritesAll mid_written new_written) text_is (told.refused is)) mid_tally refl)
        (λ other. stops_within c new r left left' written mid_written tally mid_tally far.items now
        TooLong next new_written mid_tally
        (λ t after a h. subst (WritesBeginning mid_written new_written) (text_is ∙ sym h.0) told.part) (omega arith)
        (λ t after a h. let is = spent_is c r now.asked now.accounts in let grow = steps_grow c now.asked a in
        omega arith))
      where
        next : (end : Bool) (more : List ℕ) → CanFollow new end more
            → (rest : List Item) × (items_of end (new.pulled ++ more) ≡ far.items ++ TooLong ∷ rest)
        next = next_too_long old new mid left' source source' bytes unmoved room ended_stays far.items far.consumed needs
            keeps

        text : List ℕ
        text = line_refused (1 + length far.items) refusal.InputTooLong

        counted : new.number + 1 ≡ 1 + length far.items
        counted = let is = far.consumed.counted in let number = keeps.number in omega arith

        text_is : line_refused (new.number + 1) refusal.InputTooLong ≡ text
        text_is = ap (λ k. line_refused k refusal.InputTooLong) counted

        not_read : e ≡ stop.ReadFault → ⊥
        not_read is = subst (λ e. HasCause e mid_wrote wrote') is told.cause

    -- the input ends
    pub ran_end : (new.ended ≡ true) × (lines.rest_of new ≡ []) → lines.KeepsLine old new → {A : Type 0}
        (result : Result A Stop) (new_written : Option (List ℕ)) (wrote' : ℕ)
        → EndsReading r result mid_written new_written mid_wrote wrote'
        → Ran (Some (Script c)) (status_in result) left left' read read' written new_written wrote wrote' tally mid_tally
    ran_end at keeps (Ok x) new_written wrote' ends = record {
      whole = λ low. finished left written new_written tally mid_tally 0
          (subst (λ w. FinishesRequests c left written w tally mid_tally 0) (sym ends.ok.1) (finishes_well c new r left left' written mid_written tally mid_tally far.items now here over
          ends.ok.0));
      end = λ is reads. over;
      read_fault = λ is. absurd (omega arith);
      write_fault = λ is. absurd (omega arith);
      answers = λ is. absurd (omega arith);
      part = λ is. absurd (elim is [ inl four ↦ omega arith | inr five ↦ omega arith ]);
      low = omega arith;
      source_faults = source_faults;
      sink_faults = (let grow = ends.faults in omega arith);
    }
      where
        here : items_of true new.pulled ≡ far.items
        here = consumed_end old new mid left' source source' bytes unmoved room ended_stays far.items far.consumed at keeps

        over : AllTaken left'
        over = elim (ended at.0) [
          | inl before ↦ subst AllTaken (sym (still before)) (far.done.ended before)
          | inr all ↦ all
        ]
    ran_end at keeps (Err e) new_written wrote' ends =
        ran_stopped left left' written new_written read read' wrote wrote' tally mid_tally source_faults
        (let grow = ends.faults in omega arith) e not_read
        (λ is. rose_later wrote mid_wrote wrote' sink_faults (subst (λ e. HasCause e mid_wrote wrote') is told.cause))
        (λ is. finishes_missing c new r left left' written mid_written tally mid_tally far.items now here
        over ends.err.0 ends.err.1 new_written (told.refused is))
        (λ other. stops_missing c new r left left' written mid_written tally mid_tally far.items now here
        over ends.err.0 ends.err.1 new_written told.part)
      where
        told : Refuses e mid_written new_written mid_wrote wrote' (end_refused ends.err.0)
        told = ends.err.2

        here : items_of true new.pulled ≡ far.items
        here = consumed_end old new mid left' source source' bytes unmoved room ended_stays far.items far.consumed at keeps

        over : AllTaken left'
        over = elim (ended at.0) [
          | inl before ↦ subst AllTaken (sym (still before)) (far.done.ended before)
          | inr all ↦ all
        ]

        not_read : e ≡ stop.ReadFault → ⊥
        not_read is = subst (λ e. HasCause e mid_wrote wrote') is told.cause

    -- the source failed
    pub ran_failed : new.ended ≡ false → lines.HasNoNewline (lines.rest_of new) → (length new.pulled ≡ 1048577 → ⊥)
        → lines.KeepsLine old new → Rose read read'
        → Ran (Some (Script c)) 3 left left' read read' written mid_written wrote mid_wrote tally mid_tally
    ran_failed going none full keeps rose = record {
      whole = λ low. absurd (elim low [ inl two ↦ omega arith | inr six ↦ omega arith ]);
      end = λ is reads. absurd (elim is [ inl none ↦ omega arith | inr six ↦ omega arith ]);
      read_fault = λ is. rose;
      write_fault = λ is. absurd (omega arith);
      answers = λ is. answers_lines c new r left left' written mid_written tally mid_tally far.items now
          (consumed_failed old new mid left' source source' bytes unmoved room ended_stays far.items far.consumed going none
          (omega (arith, room.0, full)) keeps);
      part = λ is. absurd (elim is [ inl four ↦ omega arith | inr five ↦ omega arith ]);
      low = omega arith;
      source_faults = source_faults;
      sink_faults = sink_faults;
    }

-- the steps so far leave room for more
pub few_steps : (c : ScriptCommand) (r : Reading) (tally tally' : ℕ) → tally ≤ 2 ^ 60 → IsReading c r
    → tally' ≡ tally + spent_of r → tally' ≤ 2 ^ 61
few_steps c (Begun h) tally tally' room reads spends = omega arith
few_steps c (Factors f) tally tally' room reads spends =
    let few = mul-le (length f.job.roots) f.degrees 32 4096 reads.1 reads.2 in omega arith
few_steps c (Inputs e) tally tally' room reads spends = omega arith
