-- What is written in a run, as far as it has come, and when it ends.
use Rattle.std.proofs.Common.{◌≡◌, ◌∙◌, sym, ap, refl, subst, ℕ, ◌+◌, ◌≤◌, ◌⊎◌, inl, inr, List, [], ◌∷◌, ◌++◌}
use Rattle.std.proofs.Common.{length, take, arith, Bool, true, false, Option, Some, None, append_assoc}
use Rattle.std.proofs.lemmas.Bool.Decides.{leb_tells}
use Rattle.std.proofs.lemmas.List.{append-nil, length_push, take-append-le, take_all}
use Rattle.std.proofs.lemmas.Option.{none-some, same_Some}
use Rattle.std.proofs.Math.Seq.{take-append-add}
use Rattle.ports.specs.Bytes.{WritesAll, TakesBytes, AllTaken}
use Rattle.ports.specs.Reading as lines
use Rattle.script.specs.Answers.{Item, Line, Outcome, items_of}
use Rattle.script.specs.Header.{Empty}
use Rattle.script.specs.Refusals.{end_refused}
use Rattle.script.specs.Script.{State, Does, missing}
use Rattle.script.specs.Script as script
use Rattle.script.proofs.Items.{Consumed, CanFollow, consumed_none}
use Rattle.script.proofs.Paths.{path_append, path_refused, path_plain, path_once, path_cut, path_head}
use Rattle.script.specs.declared.refusal.Refusal.{Refusal}
use Rattle.script.specs.declared.request.Request.{Request}
use Rattle.commands.specs.declared.command.ScriptCommand.{ScriptCommand}
use Rattle.commands.specs.declared.command.ScriptCommand.TheVariants.{Factor, Expand}
use Rattle.commands.specs.Answering.{AreOnly, MayBe, DoesOnly, AnswersOnly}
use Rattle.commands.specs.Calls.{WritesBeginning, IsLeft, IsMark, IsPart, StopsWithin, AnswersRequests}
use Rattle.commands.specs.Progress.{Done, SoFar}
use Rattle.commands.specs.Readings.{Reading, state_in, spent_of, IsReading}
use Rattle.commands.specs.Lines.{Accounts, Steps}
use Rattle.commands.specs.Output.{Asked, AreAnswers, IsEnd, IsMissing, steps_of}
use Rattle.commands.specs.Replies.{Answers}
use Rattle.commands.specs.Runs.{IsWholeAlone, FinishesRequests}
use Rattle.commands.specs.Words.{Work, Script, takes_streams}
use Rattle.commands.proofs.StepCounts.{steps_grow, spent_is}
use Rattle.commands.proofs.LinesDone.{writes_nothing, nothing_written}

-- a text behind another
pub writes_more : (old mid new : Option (List ℕ)) (first more : List ℕ) → WritesAll old mid first
    → WritesAll mid new more → WritesAll old new (first ++ more)
writes_more None None new first more one two = two
writes_more None (Some b) new first more one two = absurd (none-some b (sym one))
writes_more (Some a) None new first more one two = absurd (none-some (a ++ first) one)
writes_more (Some a) (Some b) new first more one two = two
    ∙ ap (λ (l : List ℕ). Some (l ++ more)) (same_Some b (a ++ first) one)
    ∙ ap (λ (l : List ℕ). Some l) (append_assoc a first more)

-- a beginning of a text behind another
pub begins_more : (old mid new : Option (List ℕ)) (first more : List ℕ) → WritesAll old mid first
    → WritesBeginning mid new more → WritesBeginning old new (first ++ more)
begins_more None None new first more one two = two
begins_more None (Some b) new first more one two = absurd (none-some b (sym one))
begins_more (Some a) None new first more one two = absurd (none-some (a ++ first) one)
begins_more (Some a) (Some b) new first more one two = (
  length first + two.0,
  two.1 ∙ ap (λ (l : List ℕ). Some (l ++ take two.0 more)) (same_Some b (a ++ first) one)
      ∙ ap (λ (l : List ℕ). Some l) (append_assoc a first (take two.0 more)
      ∙ ap (λ (l : List ℕ). a ++ l) (sym (take-append-add first more two.0))),
)

-- a beginning of a text is one of any that goes on behind it
pub begins_longer : (old new : Option (List ℕ)) (text more : List ℕ) → WritesBeginning old new text
    → WritesBeginning old new (text ++ more)
begins_longer None new text more h = h
begins_longer (Some bytes) new text more (n, is) = elim (leb_tells n (length text)) [
  | inl low ↦ (n, is ∙ ap (λ (l : List ℕ). Some (bytes ++ l)) (sym (take-append-le n text more low.1)))
  | inr high ↦ (
    length text,
    is ∙ ap (λ (l : List ℕ). Some (bytes ++ l)) (take_all n text (let above = high.1 in omega arith)
        ∙ sym (take-append-le (length text) text more (omega arith) ∙ take_all (length text) text (omega arith))),
  )
]

-- the input of which these bytes were taken, and what is left of it
pub record IsInputOf (left left' : Option (List ℕ)) (bytes : List ℕ) : Type 0 where
  pub more : List ℕ
  pub is_left : IsLeft left (bytes ++ more)
  pub all : AllTaken left' → more ≡ []

pub input_of : (left left' : Option (List ℕ)) (bytes : List ℕ) → TakesBytes left left' bytes → IsInputOf left left' bytes
input_of None left' bytes taken = record { more = []; is_left = tt; all = λ h. refl }
input_of (Some input) None bytes taken = absurd (none-some taken.0 taken.1)
input_of (Some input) (Some rest) bytes taken = record {
  more = taken.0;
  is_left = taken.2;
  all = λ h. sym (same_Some rest taken.0 taken.1) ∙ h;
}

-- whether the input ends behind the bytes that were taken
abbrev pub mark : Option (List ℕ) → Bool → Bool
mark None ended = ended
mark (Some []) ended = true
mark (Some (b ∷ bytes)) ended = false

pub mark_is : (left : Option (List ℕ)) (ended : Bool) → IsMark left (mark left ended)
mark_is None ended = tt
mark_is (Some []) ended = refl
mark_is (Some (b ∷ bytes)) ended = refl

pub mark_ended : (left : Option (List ℕ)) (ended : Bool) → (ended ≡ true → AllTaken left) → ended ≡ true
    → mark left ended ≡ true
mark_ended None ended all is = is
mark_ended (Some []) ended all is = refl
mark_ended (Some (b ∷ bytes)) ended all is = absurd (let none = all is in cc)

-- nothing is taken
pub takes_none : (left : Option (List ℕ)) → TakesBytes left left []
takes_none None = refl
takes_none (Some bytes) = (bytes, refl, refl)

-- bytes behind others
pub taken_more : (a b d : Option (List ℕ)) (first more : List ℕ) → TakesBytes a b first → TakesBytes b d more
    → TakesBytes a d (first ++ more)
taken_more None None d first more h k = k
taken_more None (Some x) d first more h k = absurd (none-some x (sym h))
taken_more (Some x) None d first more h k = absurd (none-some h.0 h.1)
taken_more (Some x) (Some y) d first more h k = (
  k.0,
  k.1,
  h.2 ∙ ap (λ l. first ++ l) (sym (same_Some y h.0 h.1) ∙ k.2) ∙ sym (append_assoc first more k.0),
)

-- out of memory before the first line
pub stops_first : (work : Option Work) (left written : Option (List ℕ)) (tally : ℕ)
    → StopsWithin work left left written written tally tally
stops_first work left written tally = record {
  bytes = [];
  taken = takes_none left;
  ended = mark left false;
  mark = mark_is left false;
  writes = λ text steps part. nothing_written written text;
  more = omega arith;
  at_most = λ text steps part. omega arith;
}

module _ (c : ScriptCommand) where
  abbrev DoesSo : State → List ℕ → Outcome State Request → Type 0
  DoesSo = Does (takes_streams c)

  no_steps : steps_of c [] ≡ 0
  no_steps = elim c as (λ x. steps_of x [] ≡ 0) [ Factor ↦ refl | Expand ↦ refl ]

  -- before the first line
  pub so_far_none : (l : lines.Reading) (r : Reading) (left written : Option (List ℕ)) (tally : ℕ) → l.pulled ≡ []
      → l.place ≡ 0 → l.ended ≡ false → l.number ≡ 0 → state_in r ≡ script.Begun Empty → IsReading c r
      → Accounts c r [] → SoFar c l r left left written written tally tally
  so_far_none l r left written tally pulled place running none begun reads accounts = record {
    items = [];
    done = record {
      text = [];
      asked = [];
      path = (refl, ap (λ s. Some s) begun, refl);
      writes = writes_nothing written;
      reads = reads;
      accounts = accounts;
      spends = (let is = spent_is c r [] accounts in let zero = no_steps in omega arith);
      taken = subst (TakesBytes left left) (sym pulled) (takes_none left);
      ended = λ is. absurd (let no = running in cc);
    };
    consumed = consumed_none l pulled place running none;
    few = (let is = none in omega arith);
  }

  -- what is done stays done when more is pulled
  pub pulled_more : (old new : lines.Reading) (r : Reading) (left mid left' written mid_written : Option (List ℕ))
      (tally mid_tally : ℕ) (far : SoFar c old r left mid written mid_written tally mid_tally)
      → lines.PullsMore old new mid left' → (new.ended ≡ true → (old.ended ≡ true) ⊎ AllTaken left')
      → (old.ended ≡ true → left' ≡ mid)
      → Done c new r left left' written mid_written tally mid_tally far.items
  pulled_more old new r left mid left' written mid_written tally mid_tally far bytes ended still = record {
    text = far.done.text;
    asked = far.done.asked;
    path = far.done.path;
    writes = far.done.writes;
    reads = far.done.reads;
    accounts = far.done.accounts;
    spends = far.done.spends;
    taken = subst (TakesBytes left left') (sym bytes.1)
        (taken_more left mid left' old.pulled bytes.0 far.done.taken bytes.2);
    ended = λ is. elim (ended is) [
      | inl before ↦ subst AllTaken (sym (still before)) (far.done.ended before)
      | inr all ↦ all
    ];
  }

  -- where the items are done, and no more than a line behind them was taken
  module _ (new : lines.Reading) (r : Reading) (left left' written mid_written : Option (List ℕ)) (tally mid_tally : ℕ)
      (items : List Item) (far : Done c new r left left' written mid_written tally mid_tally items) where
    can_follow : (more : List ℕ) → (AllTaken left' → more ≡ []) → CanFollow new true more
    can_follow more none is = (refl, none (far.ended is))

    -- whatever comes of the items that are left, the whole text is one
    whole_alone : (input : List ℕ) (rest : List Item) → items_of true input ≡ items ++ rest
        → (more : List ℕ) (after : Option State) (later : Asked) (end : List ℕ) (status : ℕ)
        → AreOnly c (state_in r) (1 + length items) rest more after later → IsEnd after end status
        → ((t : List ℕ) (u : ℕ) → IsEnd after t u → (t ≡ end) × (u ≡ status))
        → IsWholeAlone c input ((far.text ++ more) ++ end) status (far.asked ++ later)
    whole_alone input rest are more after later end status path is_end one_end = record {
      is = record {
        lines = far.text ++ more;
        end = end;
        after = after;
        of_lines = path_plain DoesSo (Answers c) (script.Begun Empty) 1 (items_of true input) (far.text ++ more) after
            (far.asked ++ later) whole_path;
        of_end = is_end;
        text_is = refl;
      };
      only = λ t s a is.
          let same = path_once DoesSo (Answers c) (script.Begun Empty) 1 (items_of true input) (far.text ++ more) after
          (far.asked ++ later) is.lines is.after a whole_path is.of_lines in
          let ends = one_end is.end s (subst (λ x. IsEnd x is.end s) same.1 is.of_end) in
          (is.text_is ∙ (λ i. same.0 i ++ ends.0 i), ends.1, same.2);
    }
      where
        whole_path : AreOnly c (script.Begun Empty) 1 (items_of true input) (far.text ++ more) after (far.asked ++ later)
        whole_path = subst (λ l. AreOnly c (script.Begun Empty) 1 l (far.text ++ more) after (far.asked ++ later)) (sym are)
            (path_append (DoesOnly c) (AnswersOnly c) (script.Begun Empty) 1 items far.text (state_in r) far.asked rest
            more after later far.path path)

    -- an item is refused, and the line that tells it is written
    pub finishes_refused : (x : Item) → ((end : Bool) (more : List ℕ) → CanFollow new end more
        → (rest : List Item) × (items_of end (new.pulled ++ more) ≡ items ++ x ∷ rest))
        → (t : List ℕ) → AreOnly c (state_in r) (1 + length items) (x ∷ []) t None []
        → (new_written : Option (List ℕ)) → WritesAll mid_written new_written t
        → (tally' : ℕ) → tally' ≡ mid_tally → FinishesRequests c left written new_written tally tally' 1
    finishes_refused x next t path new_written writes tally' same = record {
      input = new.pulled ++ from.more;
      is_left = from.is_left;
      text = (far.text ++ t) ++ [];
      asked = far.asked ++ [];
      output = whole_alone (new.pulled ++ from.more) (x ∷ is.0) is.1 t None [] [] 1
          (path_refused (DoesOnly c) (AnswersOnly c) (state_in r) (1 + length items) (x ∷ []) t [] path is.0)
          (refl, refl) (λ t u h. h);
      writes = subst (WritesAll written new_written) (sym (append-nil (far.text ++ t)))
          (writes_more written mid_written new_written far.text t far.writes writes);
      spends = (let is = spent_is c r far.asked far.accounts in let spends = far.spends in
          let asked = ap (steps_of c) (append-nil far.asked) in omega arith);
    }
      where
        from : IsInputOf left left' new.pulled
        from = input_of left left' new.pulled far.taken

        is : (rest : List Item) × (items_of true (new.pulled ++ from.more) ≡ items ++ x ∷ rest)
        is = next true from.more (can_follow from.more from.all)

    -- the run stops within what is written for an item
    pub stops_within : (x : Item) → ((end : Bool) (more : List ℕ) → CanFollow new end more
        → (rest : List Item) × (items_of end (new.pulled ++ more) ≡ items ++ x ∷ rest))
        → (new_written : Option (List ℕ)) (tally' : ℕ)
        → ((t : List ℕ) (after : Option State) (a : Asked) → MayBe c (state_in r) (1 + length items) (x ∷ []) t after a
        → WritesBeginning mid_written new_written t)
        → mid_tally ≤ tally'
        → ((t : List ℕ) (after : Option State) (a : Asked) → MayBe c (state_in r) (1 + length items) (x ∷ []) t after a
        → tally' + spent_of r ≤ mid_tally + steps_of c (far.asked ++ a))
        → StopsWithin (Some (Script c)) left left' written new_written tally tally'
    stops_within x next new_written tally' writes more at_most = record {
      bytes = new.pulled;
      taken = far.taken;
      ended = end;
      mark = mark_is left' new.ended;
      writes = λ text steps part. (both end refl text steps part).0;
      more = (let spends = far.spends in omega arith);
      at_most = λ text steps part. (both end refl text steps part).1;
    }
      where
        end : Bool
        end = mark left' new.ended

        follows : CanFollow new end []
        follows is = (mark_ended left' new.ended far.ended is, refl)

        are : (rest : List Item) × (items_of end new.pulled ≡ items ++ x ∷ rest)
        are = let found = next end [] follows in
            (found.0, ap (items_of end) (sym (append-nil new.pulled)) ∙ found.1)

        of_lines : (lines : List ℕ) (after : Option State) (asked : Asked)
            → AreAnswers c (items_of end new.pulled) lines after asked
            → WritesBeginning written new_written lines × (tally' ≤ tally + steps_of c asked)
        of_lines lines after asked answers =
            let cut = path_cut DoesSo (Answers c) (script.Begun Empty) 1 items far.text (state_in r) far.asked
            (x ∷ are.0) lines after asked far.path
            (subst (λ l. AreAnswers c l lines after asked) are.1 answers) in
            let head = path_head DoesSo (Answers c) (state_in r) (1 + length items) x are.0 cut.0 after cut.1 cut.2 in (
              subst (WritesBeginning written new_written) (sym (cut.3 ∙ ap (λ l. far.text ++ l) head.4.1))
                  (begins_more written mid_written new_written far.text (head.0 ++ head.4.0) far.writes
                  (begins_longer mid_written new_written head.0 head.4.0 (writes head.0 head.1 head.2 head.3))),
              (let some = at_most head.0 head.1 head.2 head.3 in let spends = far.spends in
                  let grow = steps_grow c (far.asked ++ head.2) head.5.0 in
                  let is : steps_of c ((far.asked ++ head.2) ++ head.5.0) ≡ steps_of c asked =
                  ap (steps_of c) (append_assoc far.asked head.2 head.5.0 ∙ ap (λ l. far.asked ++ l) (sym head.5.1)
                  ∙ sym cut.4) in omega arith),
            )

        both : (b : Bool) → end ≡ b → (text : List ℕ) (steps : ℕ) → IsPart (Some (Script c)) b new.pulled text steps
            → WritesBeginning written new_written text × (tally' ≤ tally + steps)
        both true is text steps (status, asked, whole, steps_are) =
            let answers = of_lines whole.lines whole.after asked
            (subst (λ b. AreAnswers c (items_of b new.pulled) whole.lines whole.after asked) (sym is) whole.of_lines) in (
              subst (WritesBeginning written new_written) (sym whole.text_is)
                  (begins_longer written new_written whole.lines whole.end answers.0),
              (let most = answers.1 in let are = steps_are in omega arith),
            )
        both false is text steps (after, asked, answers, steps_are) =
            let known = of_lines text after asked
            (subst (λ b. AreAnswers c (items_of b new.pulled) text after asked) (sym is) answers) in
            (known.0, (let most = known.1 in let are = steps_are in omega arith))

    -- the input ends, and no line is left
    module _ (here : items_of true new.pulled ≡ items) (over : AllTaken left') where
      from_end : IsInputOf left left' new.pulled
      from_end = input_of left left' new.pulled far.taken

      are_done : items_of true (new.pulled ++ from_end.more) ≡ items ++ []
      are_done = ap (λ l. items_of true (new.pulled ++ l)) (from_end.all over) ∙ ap (items_of true) (append-nil new.pulled)
          ∙ here ∙ sym (append-nil items)

      nothing_more : AreOnly c (state_in r) (1 + length items) [] [] (Some (state_in r)) []
      nothing_more = (refl, refl, refl)

      one_end : (e : List ℕ) (n : ℕ) → IsEnd (Some (state_in r)) e n → (t : List ℕ) (u : ℕ) → IsEnd (Some (state_in r)) t u
          → (t ≡ e) × (u ≡ n)
      one_end e n a t u b = by (missing (state_in r)) a b
        where
          by : (o : Option Refusal) → IsMissing o e n → IsMissing o t u → (t ≡ e) × (u ≡ n)
          by None a b = (b.0 ∙ sym a.0, b.1 ∙ sym a.1)
          by (Some f) a b = (b.0 ∙ sym a.0, b.1 ∙ sym a.1)

      finishes_end : (e : List ℕ) (n : ℕ) → IsEnd (Some (state_in r)) e n → (new_written : Option (List ℕ))
          → WritesAll mid_written new_written e → FinishesRequests c left written new_written tally mid_tally n
      finishes_end e n is new_written writes = record {
        input = new.pulled ++ from_end.more;
        is_left = from_end.is_left;
        text = (far.text ++ []) ++ e;
        asked = far.asked ++ [];
        output = whole_alone (new.pulled ++ from_end.more) [] are_done [] (Some (state_in r)) [] e n nothing_more is
            (one_end e n is);
        writes = subst (λ l. WritesAll written new_written (l ++ e)) (sym (append-nil far.text))
            (writes_more written mid_written new_written far.text e far.writes writes);
        spends = (let is = spent_is c r far.asked far.accounts in let spends = far.spends in
            let asked = ap (steps_of c) (append-nil far.asked) in omega arith);
      }

      -- nothing is missing
      pub finishes_well : missing (state_in r) ≡ None → FinishesRequests c left written mid_written tally mid_tally 0
      finishes_well whole = finishes_end [] 0 (subst (λ o. IsMissing o [] 0) (sym whole) (refl, refl)) mid_written
          (writes_nothing mid_written)

      -- something is, and the line that tells it is written
      pub finishes_missing : (f : Refusal) → missing (state_in r) ≡ Some f → (new_written : Option (List ℕ))
          → WritesAll mid_written new_written (end_refused f) → FinishesRequests c left written new_written tally
          mid_tally 1
      finishes_missing f is new_written writes =
          finishes_end (end_refused f) 1 (subst (λ o. IsMissing o (end_refused f) 1) (sym is) (refl, refl)) new_written
          writes

      -- or a beginning of it
      pub stops_missing : (f : Refusal) → missing (state_in r) ≡ Some f → (new_written : Option (List ℕ))
          → WritesBeginning mid_written new_written (end_refused f)
          → StopsWithin (Some (Script c)) left left' written new_written tally mid_tally
      stops_missing f is new_written writes = record {
        bytes = new.pulled;
        taken = far.taken;
        ended = true;
        mark = marks left' over;
        writes = λ text steps part. subst (WritesBeginning written new_written) (sym (whole_text text steps part).0)
            (begins_more written mid_written new_written far.text (end_refused f) far.writes writes);
        more = (let spends = far.spends in omega arith);
        at_most = λ text steps part. (let is = (whole_text text steps part).1 in
            let spent = spent_is c r far.asked far.accounts in let spends = far.spends in omega arith);
      }
        where
          marks : (left : Option (List ℕ)) → AllTaken left → IsMark left true
          marks None all = tt
          marks (Some []) all = refl
          marks (Some (b ∷ bytes)) all = absurd (let no : ⊥ = cc in no)

          whole_text : (text : List ℕ) (steps : ℕ) → IsPart (Some (Script c)) true new.pulled text steps
              → (text ≡ far.text ++ end_refused f) × (steps ≡ steps_of c far.asked)
          whole_text text steps (status, asked, whole, steps_are) =
              let same = path_once DoesSo (Answers c) (script.Begun Empty) 1 items far.text (Some (state_in r)) far.asked
              whole.lines whole.after asked far.path
              (subst (λ l. AreAnswers c l whole.lines whole.after asked) here whole.of_lines) in
              let end = subst (λ o. IsMissing o whole.end status) is (subst (λ x. IsEnd x whole.end status) same.1 whole.of_end) in
              (whole.text_is ∙ (λ i. same.0 i ++ end.0 i), steps_are ∙ ap (steps_of c) same.2)

    -- the source failed
    pub answers_lines : items_of false new.pulled ≡ items
        → AnswersRequests c left left' written mid_written tally mid_tally
    answers_lines here = record {
      bytes = new.pulled;
      taken = far.taken;
      text = far.text;
      state = state_in r;
      asked = far.asked;
      answers = subst (λ l. AreAnswers c l far.text (Some (state_in r)) far.asked) (sym here)
          (path_plain DoesSo (Answers c) (script.Begun Empty) 1 items far.text (Some (state_in r)) far.asked far.path);
      writes = far.writes;
      spends = (let is = spent_is c r far.asked far.accounts in let spends = far.spends in omega arith);
    }

    -- nothing more is written, whatever is left
    pub stops_here : Consumed new items → StopsWithin (Some (Script c)) left left' written mid_written tally mid_tally
    stops_here consumed = record {
      bytes = new.pulled;
      taken = far.taken;
      ended = end;
      mark = mark_is left' new.ended;
      writes = λ text steps part. (both end refl text steps part).0;
      more = (let spends = far.spends in omega arith);
      at_most = λ text steps part. (both end refl text steps part).1;
    }
      where
        end : Bool
        end = mark left' new.ended

        follows : CanFollow new end []
        follows is = (mark_ended left' new.ended far.ended is, refl)

        are : (rest : List Item) × (items_of end new.pulled ≡ items ++ rest)
        are = (_, ap (items_of end) (sym (append-nil new.pulled)) ∙ consumed.same end [] follows)

        of_lines : (lines : List ℕ) (after : Option State) (asked : Asked)
            → AreAnswers c (items_of end new.pulled) lines after asked
            → WritesBeginning written mid_written lines × (mid_tally ≤ tally + steps_of c asked)
        of_lines lines after asked answers =
            let cut = path_cut DoesSo (Answers c) (script.Begun Empty) 1 items far.text (state_in r) far.asked
            are.0 lines after asked far.path
            (subst (λ l. AreAnswers c l lines after asked) are.1 answers) in (
              subst (WritesBeginning written mid_written) (sym cut.3)
                  (begins_more written mid_written mid_written far.text cut.0 far.writes
                  (nothing_written mid_written cut.0)),
              (let spends = far.spends in let is = spent_is c r far.asked far.accounts in
                  let grow = steps_grow c far.asked cut.1 in
                  let same : steps_of c (far.asked ++ cut.1) ≡ steps_of c asked = ap (steps_of c) (sym cut.4) in
                  omega arith),
            )

        both : (b : Bool) → end ≡ b → (text : List ℕ) (steps : ℕ) → IsPart (Some (Script c)) b new.pulled text steps
            → WritesBeginning written mid_written text × (mid_tally ≤ tally + steps)
        both true is text steps (status, asked, whole, steps_are) =
            let answers = of_lines whole.lines whole.after asked
            (subst (λ b. AreAnswers c (items_of b new.pulled) whole.lines whole.after asked) (sym is) whole.of_lines) in (
              subst (WritesBeginning written mid_written) (sym whole.text_is)
                  (begins_longer written mid_written whole.lines whole.end answers.0),
              (let most = answers.1 in let are = steps_are in omega arith),
            )
        both false is text steps (after, asked, answers, steps_are) =
            let known = of_lines text after asked
            (subst (λ b. AreAnswers c (items_of b new.pulled) text after asked) (sym is) answers) in
            (known.0, (let most = known.1 in let are = steps_are in omega arith))

    -- the line behind the items is answered
    pub so_far_line : (next : Reading) (new_written : Option (List ℕ)) (tally' : ℕ)
        → Consumed new (items ++ Line new.text ∷ []) → new.number ≤ new.place
        → Steps c r new.text new.number next mid_written new_written mid_tally tally'
        → SoFar c new next left left' written new_written tally tally'
    so_far_line next new_written tally' consumed few step = record {
      items = items ++ Line new.text ∷ [];
      done = record {
        text = far.text ++ step.text;
        asked = far.asked ++ step.asked;
        path = path_append (DoesOnly c) (AnswersOnly c) (script.Begun Empty) 1 items far.text (state_in r) far.asked
            (Line new.text ∷ []) step.text (Some (state_in next)) step.asked far.path
            (subst (λ k. AreOnly c (state_in r) k (Line new.text ∷ []) step.text (Some (state_in next)) step.asked)
            counted step.path);
        writes = writes_more written mid_written new_written far.text step.text far.writes step.writes;
        reads = step.reads;
        accounts = step.accounts far.asked far.accounts;
        spends = (let one = far.spends in let more = step.spends in omega arith);
        taken = far.taken;
        ended = far.ended;
      };
      consumed = consumed;
      few = few;
    }
      where
        counted : new.number ≡ 1 + length items
        counted = let is = consumed.counted in let one = length_push items (Line new.text) in omega arith
