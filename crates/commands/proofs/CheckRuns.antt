-- A run of `check`, as far as it has come, and when it ends.
use Rattle.std.proofs.Common.{◌≡◌, ◌≢◌, ◌∙◌, sym, ap, refl, subst, ℕ, suc, ◌+◌, ◌-◌, ◌^◌, ◌<◌, ◌≤◌, ◌⊎◌, inl, inr}
use Rattle.std.proofs.Common.{arith}
use Rattle.std.proofs.Common.{Bool, true, false, List, [], ◌∷◌, ◌++◌, length, drop, length-append, length-drop}
use Rattle.std.proofs.Common.{Option, Some, None, Ok}
use Rattle.std.proofs.lemmas.List.{append-nil}
use Rattle.ports.specs.Bytes.{TakesBytes, AllTaken}
use Rattle.ports.specs.Faults.{Rose}
use Rattle.ports.specs.Reading as lines
use Rattle.script.specs.Answers.{Item, Line, TooLong, items_of}
use Rattle.script.specs.Checking.{State, Has, Reads, Does, CaseDoes, ContentDoes, header_outcome, block_outcome}
use Rattle.script.specs.Checking as checking
use Rattle.script.specs.Header.{Empty}
use Rattle.script.proofs.Items.{Consumed, CanFollow, consumed_none, consumed_line, next_line, next_too_long}
use Rattle.script.proofs.Items.{consumed_end, consumed_failed}
use Rattle.commands.specs.Calls.{IsMark, IsLeft, StopsWithin}
use Rattle.commands.specs.CheckLines.{state_in, IsGood, IsShort, IsReady}
use Rattle.commands.specs.Checks.{IsTold, Ends, IsTooLong, IsCheckedFrom, IsChecked, Leads}
use Rattle.commands.specs.Runs.{Finishes, Ran}
use Rattle.commands.specs.Statuses.{status_of}
use Rattle.commands.specs.Telling.{IsAnswer, Tells}
use Rattle.commands.specs.Words.{Check}
use Rattle.commands.specs.declared.checking.Checking.{Checking}
use Rattle.commands.specs.declared.stop.Stop.{Stop}
use Rattle.commands.specs.declared.stop.Stop.TheVariants as stop
use Rattle.commands.proofs.LinesDone.{writes_nothing}
use Rattle.commands.proofs.RunsDone.{IsInputOf, input_of, mark, mark_is, mark_ended, takes_none, taken_more}
use Rattle.commands.proofs.CheckPaths.{behind_lines, before_lines, leads_more, short_more, short_within, shorter}

-- how far a run has come: what is known before the next line is taken
pub record CheckFar (l : lines.Reading) (c : Checking) (left left' : Option (List ℕ)) : Type 0 where
  pub done : List Item
  pub leads : Leads (checking.Begun Empty) 1 done (state_in c)
  pub consumed : Consumed l done
  pub few : l.number ≤ l.place
  pub good : IsGood (state_in c)
  pub short : IsShort (state_in c) (suc l.number) l.place
      ⊎ ((l.ended ≡ true) × (lines.rest_of l ≡ []) × IsShort (state_in c) (suc l.number) (l.place + 1))
  pub taken : TakesBytes left left' l.pulled
  pub ended : l.ended ≡ true → AllTaken left'

-- before the first line
pub check_far_none : (l : lines.Reading) (c : Checking) (left : Option (List ℕ)) → l.pulled ≡ [] → l.place ≡ 0
    → l.ended ≡ false → l.number ≡ 0 → state_in c ≡ checking.Begun Empty → IsGood (state_in c)
    → CheckFar l c left left
check_far_none l c left pulled place running none begun good = record {
  done = [];
  leads = begun;
  consumed = consumed_none l pulled place running none;
  few = omega (arith, none);
  good = good;
  short = inl (subst (λ s. IsShort s (suc l.number) l.place) (sym begun) tt);
  taken = subst (TakesBytes left left) (sym pulled) (takes_none left);
  ended = λ is. absurd (let no = running in cc);
}

-- a line of an input is no longer than what is behind it
module _ (old new : lines.Reading) (takes : lines.TakesLine old new) (inside : old.place ≤ length new.pulled)
    (within : new.place ≤ length new.pulled) where
  before : length (drop old.place new.pulled) ≡ length new.pulled - old.place
  before = length-drop old.place new.pulled

  behind : length (lines.rest_of new) ≡ length new.pulled - new.place
  behind = length-drop new.place new.pulled

  no_longer : length new.text ≤ length takes.line
  no_longer = subst (λ (t : List ℕ). length t ≤ length takes.line) (sym takes.text) (shorter takes.line)

  line_fits : (old.place + length new.text + 1 ≤ new.place)
      ⊎ ((new.ended ≡ true) × (lines.rest_of new ≡ []) × (old.place + length new.text ≤ new.place))
  line_fits = elim takes.is_line.1 [
    | inl e ↦ inl (let size = ap length e ∙ length-append takes.line (10 ∷ lines.rest_of new) in
        omega (arith, size, before, behind, no_longer, inside, within))
    | inr e ↦ inr (
      e.0,
      e.3,
      (let size = ap length e.2 in let none = ap length e.3 in
          omega (arith, size, none, before, behind, no_longer, inside, within)),
    )
  ]

-- behind the end there is no line
no_line : (old new : lines.Reading) → lines.TakesLine old new → drop old.place new.pulled ≡ [] → ⊥
no_line old new takes none = elim takes.is_line.1 [
  | inl e ↦ (let size = ap length (sym none ∙ e) ∙ length-append takes.line (10 ∷ lines.rest_of new) in omega arith)
  | inr e ↦ e.1 (sym e.2 ∙ none)
]

module _ (old new : lines.Reading) (c : Checking) (left mid left' : Option (List ℕ)) (far : CheckFar old c left mid)
    {X : Type 0} (source source' : X) (bytes : lines.PullsMore old new mid left')
    (unmoved : lines.HoldsLine old ⊎ (old.ended ≡ true) → (source' ≡ source) × (new.pulled ≡ old.pulled))
    (room : (length new.pulled ≤ 1048577) × (new.place ≤ length new.pulled))
    (ended : new.ended ≡ true → (old.ended ≡ true) ⊎ AllTaken left')
    (ended_stays : old.ended ≡ true → new.ended ≡ true)
    (still : old.ended ≡ true → left' ≡ mid) where
  now_taken : TakesBytes left left' new.pulled
  now_taken = subst (TakesBytes left left') (sym bytes.1) (taken_more left mid left' old.pulled bytes.0 far.taken
      bytes.2)

  now_ended : new.ended ≡ true → AllTaken left'
  now_ended is = elim (ended is) [
    | inl before ↦ subst AllTaken (sym (still before)) (far.ended before)
    | inr all ↦ all
  ]

  grown : length new.pulled ≡ length old.pulled + length bytes.0
  grown = ap length bytes.1 ∙ length-append old.pulled bytes.0

  -- all that is read is short enough to be judged
  all_short : IsShort (state_in c) (suc old.number) 1048577
  all_short = elim far.short [
    | inl short ↦ short_within (state_in c) (suc old.number) old.place 1048577
        (omega (arith, far.consumed.within)) short
    | inr over ↦ short_within (state_in c) (suc old.number) (old.place + 1) 1048577
        (omega (arith, far.consumed.within)) over.2
  ]

  -- the next number
  pub ready : (next : ℕ) → next ≡ suc old.number → IsReady c next
  ready next is = record {
    good = far.good;
    short = subst (λ n. IsShort (state_in c) n 1048577) (sym is) all_short;
  }

  -- the next line is taken, and the run goes on
  module _ (takes : lines.TakesLine old new) (onward : old.place < new.place) (next : Checking)
      (does : Does (state_in c) new.number new.text (Ok (state_in next))) (good : IsGood (state_in next)) where
    counted : new.number ≡ 1 + length far.done
    counted = let is = far.consumed.counted in let number = takes.number in omega arith

    number_is : suc old.number ≡ new.number
    number_is = let number = takes.number in omega arith

    fits : (old.place + length new.text + 1 ≤ new.place)
        ⊎ ((new.ended ≡ true) × (lines.rest_of new ≡ []) × (old.place + length new.text ≤ new.place))
    fits = line_fits old new takes (omega (arith, grown, far.consumed.inside)) room.1

    still_more : IsShort (state_in c) (suc old.number) old.place
        → IsShort (state_in next) (suc new.number) (old.place + length new.text + 1)
    still_more short = short_more new.number old.place new.text (state_in next) (state_in c)
        (subst (λ n. IsShort (state_in c) n old.place) number_is short) does

    shorts : IsShort (state_in c) (suc old.number) old.place
        → IsShort (state_in next) (suc new.number) new.place
        ⊎ ((new.ended ≡ true) × (lines.rest_of new ≡ []) × IsShort (state_in next) (suc new.number) (new.place + 1))
    shorts short = elim fits [
      | inl low ↦ inl (short_within (state_in next) (suc new.number) (old.place + length new.text + 1) new.place low
          (still_more short))
      | inr last ↦ inr (
        last.0,
        last.1,
        short_within (state_in next) (suc new.number) (old.place + length new.text + 1) (new.place + 1)
            (let low = last.2 in omega arith) (still_more short),
      )
    ]

    no_more : old.ended ≡ true → lines.rest_of old ≡ [] → ⊥
    no_more over none = no_line old new takes (ap (drop old.place) (unmoved (inr over)).1 ∙ none)

    pub check_far_line : CheckFar new next left left'
    check_far_line = record {
      done = far.done ++ Line new.text ∷ [];
      leads = leads_more (checking.Begun Empty) 1 far.done (state_in c) far.leads new.text (state_in next)
          (subst (λ n. Does (state_in c) n new.text (Ok (state_in next))) counted does);
      consumed = consumed_line old new mid left' source source' bytes unmoved room ended_stays far.done far.consumed
          takes;
      few = (let few = far.few in let number = takes.number in omega arith);
      good = good;
      short = elim far.short [
        | inl short ↦ shorts short
        | inr over ↦ absurd (no_more over.0 over.1)
      ];
      taken = now_taken;
      ended = now_ended;
    }

  -- the run ends with what is told of the items from here on
  module _ (status : ℕ) (written new_written : Option (List ℕ)) (wrote wrote' tally tally' : ℕ) where
    abbrev TellsOf : Bool → List Item → Type 0
    TellsOf e ys = Tells (IsCheckedFrom e (state_in c) (1 + length far.done) ys) status written new_written wrote wrote'
        tally tally'

    whole_told : (more : List ℕ) → IsLeft left (new.pulled ++ more) → (ys : List Item)
        → items_of true (new.pulled ++ more) ≡ far.done ++ ys → TellsOf true ys → IsAnswer status
        → Finishes (Some Check) left written new_written tally tally' status
    whole_told more is_left ys are tells answer =
        let all = tells.all answer in
        record {
          input = new.pulled ++ more;
          is_left = is_left;
          text = all.text;
          steps = all.steps;
          output = subst (λ items. IsCheckedFrom true (checking.Begun Empty) 1 items all.text status all.steps) (sym
              are)
              (before_lines true (checking.Begun Empty) 1 far.done (state_in c) far.leads ys all.text status all.steps
              all.is);
          only = λ t s n h. all.only t s n (behind_lines true (checking.Begun Empty) 1 far.done (state_in c)
              far.leads ys
              t s n (subst (λ items. IsCheckedFrom true (checking.Begun Empty) 1 items t s n) are h));
          writes = all.writes;
          spends = all.spends;
        }

    part_told : (e : Bool) → IsMark left' e → (ys : List Item) → items_of e new.pulled ≡ far.done ++ ys → TellsOf e ys
        → (status ≡ 4) ⊎ (status ≡ 5) → StopsWithin (Some Check) left left' written new_written tally tally'
    part_told e marks ys are tells stops =
        let part = tells.part stops in
        record {
          bytes = new.pulled;
          taken = now_taken;
          ended = e;
          mark = marks;
          writes = λ text steps (s, h). part.writes text s steps (from_here text s steps h);
          more = part.more;
          at_most = λ text steps (s, h). part.at_most text s steps (from_here text s steps h);
        }
      where
        from_here : (t : List ℕ) (s n : ℕ) → IsChecked e new.pulled t s n
            → IsCheckedFrom e (state_in c) (1 + length far.done) ys t s n
        from_here t s n h = behind_lines e (checking.Begun Empty) 1 far.done (state_in c) far.leads ys t s n
            (subst (λ items. IsCheckedFrom e (checking.Begun Empty) 1 items t s n) are h)

    ran_told : (read read' : ℕ) → read ≤ read' → (wrote₀ : ℕ) → wrote₀ ≤ wrote
        → (IsAnswer status → Finishes (Some Check) left written new_written tally tally' status)
        → ((status ≡ 4) ⊎ (status ≡ 5) → StopsWithin (Some Check) left left' written new_written tally tally')
        → ((status ≡ 0) ⊎ (status ≡ 6) → AllTaken left') → (status ≡ 4 → Rose wrote wrote') → status ≢ 3 → status ≤ 6
        → wrote ≤ wrote'
        → Ran (Some Check) status left left' read read' written new_written wrote₀ wrote' tally tally'
    ran_told read read' source_faults wrote₀ sink_faults whole part over cause no_read low faults = record {
      whole = whole;
      end = λ is reads. over is;
      read_fault = λ is. absurd (no_read is);
      write_fault = λ is. let rose = cause is in omega (arith, rose, sink_faults);
      answers = λ is. absurd (no_read is);
      part = part;
      low = low;
      source_faults = source_faults;
      sink_faults = omega (arith, sink_faults, faults);
    }

    module _ (read read' wrote₀ : ℕ) (source_faults : read ≤ read') (sink_faults : wrote₀ ≤ wrote) where
      from : IsInputOf left left' new.pulled
      from = input_of left left' new.pulled now_taken

      can_follow : CanFollow new true from.more
      can_follow is = (refl, from.all (now_ended is))

      -- in an item
      ran_item : (x : Item) → ((e : Bool) (more : List ℕ) → CanFollow new e more
          → (rest : List Item) × (items_of e (new.pulled ++ more) ≡ far.done ++ x ∷ rest))
          → ((e : Bool) (rest : List Item) → TellsOf e (x ∷ rest)) → (status ≡ 0 → ⊥) → (status ≡ 6 → ⊥)
          → Ran (Some Check) status left left' read read' written new_written wrote₀ wrote' tally tally'
      ran_item x next tells none six =
          let whole = next true from.more can_follow in
          let e : Bool = mark left' new.ended in
          let part = next e [] (λ is. (mark_ended left' new.ended now_ended is, refl)) in
          let known = tells true whole.0 in
          ran_told read read' source_faults wrote₀ sink_faults
          (whole_told from.more from.is_left (x ∷ whole.0) whole.1 known)
          (part_told e (mark_is left' new.ended) (x ∷ part.0)
          (ap (items_of e) (sym (append-nil new.pulled)) ∙ part.1) (tells e part.0))
          (λ is. absurd (elim is [ inl e ↦ none e | inr e ↦ six e ]))
          known.cause known.no_read known.low known.faults

      -- the next line is refused, or can't be kept
      pub ran_check_line : lines.TakesLine old new → (n : ℕ) → n ≡ new.number
          → ((e : Bool) (rest : List Item)
          → Tells (IsCheckedFrom e (state_in c) n (Line new.text ∷ rest)) status written new_written wrote wrote'
          tally tally') → (status ≡ 0 → ⊥) → (status ≡ 6 → ⊥)
          → Ran (Some Check) status left left' read read' written new_written wrote₀ wrote' tally tally'
      ran_check_line takes n is tells none six = ran_item (Line new.text)
          (next_line old new mid left' source source' bytes unmoved room ended_stays far.done far.consumed takes)
          (λ e rest. subst (λ k. Tells (IsCheckedFrom e (state_in c) k (Line new.text ∷ rest)) status written
          new_written
          wrote wrote' tally tally') (is ∙ counted_by takes) (tells e rest)) none six
        where
          counted_by : lines.TakesLine old new → new.number ≡ 1 + length far.done
          counted_by takes = let is = far.consumed.counted in let number = takes.number in omega arith

      -- a line needs the byte behind the last that an input may have
      pub ran_check_too_long : lines.NeedsLastByte new → lines.KeepsLine old new → (n : ℕ) → n ≡ suc old.number
          → Tells (IsTold (state_in c) n IsTooLong) status written new_written wrote wrote' tally tally'
          → (status ≡ 0 → ⊥) → (status ≡ 6 → ⊥)
          → Ran (Some Check) status left left' read read' written new_written wrote₀ wrote' tally tally'
      ran_check_too_long needs keeps n is tells none six = ran_item TooLong
          (next_too_long old new mid left' source source' bytes unmoved room ended_stays far.done far.consumed needs
          keeps)
          (λ e rest. subst (λ k. Tells (IsTold (state_in c) k IsTooLong) status written new_written wrote wrote' tally
          tally') (is ∙ (let count = far.consumed.counted in omega arith)) tells) none six

      -- the input ends
      pub ran_check_end : (new.ended ≡ true) × (lines.rest_of new ≡ []) → lines.KeepsLine old new → (n : ℕ)
          → n ≡ suc old.number
          → Tells (IsTold (state_in c) n Ends) status written new_written wrote wrote' tally tally'
          → Ran (Some Check) status left left' read read' written new_written wrote₀ wrote' tally tally'
      ran_check_end at keeps n is tells =
          let here : TellsOf true [] = subst (λ k. Tells (IsTold (state_in c) k Ends) status written new_written wrote
          wrote' tally tally') (is ∙ (let count = far.consumed.counted in omega arith)) tells in
          let over = now_ended at.0 in
          let done = consumed_end old new mid left' source source' bytes unmoved room ended_stays far.done far.consumed
          at keeps in
          ran_told read read' source_faults wrote₀ sink_faults
          (whole_told from.more from.is_left []
          (ap (λ l. items_of true (new.pulled ++ l)) (from.all over) ∙ ap (items_of true) (append-nil new.pulled)
          ∙ done ∙ sym (append-nil far.done)) here)
          (part_told true (marks left' over) [] (done ∙ sym (append-nil far.done)) here)
          (λ is. over) here.cause here.no_read here.low here.faults
        where
          marks : (left : Option (List ℕ)) → AllTaken left → IsMark left true
          marks None all = tt
          marks (Some []) all = refl
          marks (Some (b ∷ bytes)) all = absurd (let no : ⊥ = cc in no)

  -- the source failed
  pub ran_check_failed : new.ended ≡ false → lines.HasNoNewline (lines.rest_of new)
      → (length new.pulled ≡ 1048577 → ⊥) → lines.KeepsLine old new → (written : Option (List ℕ))
      (read read' wrote wrote' tally : ℕ) → Rose read read' → read ≤ read' → wrote ≤ wrote'
      → Ran (Some Check) 3 left left' read read' written written wrote wrote' tally tally
  ran_check_failed going none full keeps written read read' wrote wrote' tally rose source_faults sink_faults = record {
    whole = λ low. absurd (elim low [ inl two ↦ omega arith | inr six ↦ omega arith ]);
    end = λ is reads. absurd (elim is [ inl none ↦ omega arith | inr six ↦ omega arith ]);
    read_fault = λ is. rose;
    write_fault = λ is. absurd (omega arith);
    answers = λ is. record {
      bytes = new.pulled;
      taken = now_taken;
      state = state_in c;
      leads = subst (λ items. Leads (checking.Begun Empty) 1 items (state_in c))
          (sym (consumed_failed old new mid left' source source' bytes unmoved room ended_stays far.done far.consumed
          going none (omega (arith, room.0, full)) keeps)) far.leads;
      writes = writes_nothing written;
      spends = refl;
    };
    part = λ is. absurd (elim is [ inl four ↦ omega arith | inr five ↦ omega arith ]);
    low = omega arith;
    source_faults = source_faults;
    sink_faults = sink_faults;
  }

-- a run that stops isn't one that was answered
pub never_none : (e : Stop) → status_of e ≡ 0 → ⊥
never_none stop.Refused is = omega arith
never_none stop.ReadFault is = omega arith
never_none stop.WriteFault is = omega arith
never_none stop.OutOfMemory is = omega arith

pub never_six : (e : Stop) → status_of e ≡ 6 → ⊥
never_six stop.Refused is = omega arith
never_six stop.ReadFault is = omega arith
never_six stop.WriteFault is = omega arith
never_six stop.OutOfMemory is = omega arith

pub next_number : {n m : ℕ} → n ≡ m → n + 1 ≡ suc m
next_number {n} {m} is = omega arith

-- the steps so far leave room for those of a block
pub few_more : (tally tally' : ℕ) → tally ≡ tally' → tally' ≤ 2 ^ 60 → tally ≤ 2 ^ 61
few_more tally tally' is room = omega (arith, is, room)
