-- What a line does, and what is written for it.
use Rattle.std.proofs.Common.{◌≡◌, ◌∙◌, sym, ap, refl, subst, ℕ, suc, ◌+◌, ◌*◌, ◌<◌, ◌≤◌, max, List, [], ◌∷◌, ◌++◌}
use Rattle.std.proofs.Common.{length, arith, inl, inr, Bool, true, false, Option, Some, None, Ok, Err}
use Rattle.std.proofs.lemmas.Bool.{lt-ltb}
use Rattle.std.proofs.lemmas.Bool.Decides.{leb_tells}
use Rattle.std.proofs.lemmas.List.{append-nil}
use Rattle.std.proofs.lemmas.List.Elements.{All-append, All-cons, All-nil}
use Rattle.std.specs.Prelude.{nat_lt, Result}
use Rattle.ports.specs.Bytes.{WritesAll}
use Rattle.ps_model.specs.declared.job.JobData.{JobData}
use Rattle.script.specs.Answers.{Line, Outcome, Skips, Becomes, Asks, Refuses, IsFollowed, IsWritten}
use Rattle.script.specs.Header.{Header}
use Rattle.script.specs.Refusals.{line_refused}
use Rattle.script.specs.Requests.{precision_of}
use Rattle.script.specs.Script.{State, Has, CaseDoes, ContentDoes, Does}
use Rattle.script.specs.Script as script
use Rattle.script.specs.Words.{is_skipped}
use Rattle.script.specs.declared.refusal.Refusal.{Refusal}
use Rattle.script.specs.declared.refusal.Refusal.TheVariants as refusal
use Rattle.script.specs.declared.request.Request.{Request}
use Rattle.script.proofs.Paths.{path_once}
use Rattle.commands.specs.declared.stop.Stop.{Stop}
use Rattle.commands.specs.declared.stop.Stop.TheVariants as stop
use Rattle.commands.specs.declared.command.ScriptCommand.{ScriptCommand}
use Rattle.commands.specs.declared.command.ScriptCommand.TheVariants.{Factor, Expand}
use Rattle.commands.specs.Answering.{AnswersOnly, DoesOnly, AreOnly, MayBe, HasStopped, FactoringValue, ExpandingValue}
use Rattle.commands.specs.Calls.{WritesBeginning}
use Rattle.commands.specs.Readings.{Reading, Begun, Factors, Inputs, opened, state_in, spent_of, IsReading}
use Rattle.commands.specs.Lines.{Accounts, HasCause, AnswersLine}
use Rattle.commands.specs.Lines as lines
use Rattle.commands.specs.Output.{Asked, degrees_of, steps_of}
use Rattle.commands.specs.Replies.{Answers}
use Rattle.commands.specs.Words.{takes_streams}
use Rattle.commands.proofs.StepCounts.{degrees_append, steps_grow, spent_is}

-- nothing is a beginning of every text
pub nothing_written : (old : Option (List ℕ)) (text : List ℕ) → WritesBeginning old old text
nothing_written None text = refl
nothing_written (Some bytes) text = (0, ap (λ l. Some l) (sym (append-nil bytes)))

pub writes_nothing : (old : Option (List ℕ)) → WritesAll old old []
writes_nothing None = refl
writes_nothing (Some bytes) = ap (λ l. Some l) (sym (append-nil bytes))

pub other_stop : stop.WriteFault ≡ stop.Refused → ⊥
other_stop e = cc

-- the error of an answer, and the request of an outcome
abbrev error_or : {A : Type 0} → Stop → Result A Stop → Stop
error_or e (Ok x) = e
error_or e (Err f) = f

abbrev request_or : Request → Outcome State Request → Request
request_or q Skips = q
request_or q (Becomes t) = q
request_or q (Asks r) = r
request_or q (Refuses f) = q

-- a job of which nothing was asked for
pub opened_state : (c : ScriptCommand) (names : List (List ℕ)) (job : JobData) → state_in (opened c names job) ≡ Has names job
opened_state Factor names job = refl
opened_state Expand names job = refl

opened_reads : (c : ScriptCommand) (names : List (List ℕ)) (job : JobData) → length job.roots ≤ 32
    → IsReading c (opened c names job)
opened_reads Factor names job few = (refl, few, omega arith)
opened_reads Expand names job few = refl

opened_accounts : (c : ScriptCommand) (names : List (List ℕ)) (job : JobData) → Accounts c (opened c names job) []
opened_accounts Factor names job = (refl, refl, All-nil _)
opened_accounts Expand names job = refl

opened_spent : (c : ScriptCommand) (names : List (List ℕ)) (job : JobData) → spent_of (opened c names job) ≡ 0
opened_spent Factor names job = times_zero (length job.roots)
  where
    times_zero : (k : ℕ) → k * 0 ≡ 0
    times_zero k = omega arith
opened_spent Expand names job = refl

module _ (c : ScriptCommand) where
  abbrev streams : Bool
  streams = takes_streams c

  pub does_long : (s : State) (line : List ℕ) → 65536 < length line → DoesOnly c s line (Refuses refusal.LineTooLong)
  does_long s line long =
      let is : nat_lt 65536 (length line) ≡ true = lt-ltb 65536 (length line) long in (
        subst (λ b. CaseDoes b (is_skipped line) streams s line (Refuses refusal.LineTooLong)) (sym is) refl,
        λ other h. subst (λ b. CaseDoes b (is_skipped line) streams s line other) is h,
      )

  not_long : (line : List ℕ) → length line ≤ 65536 → nat_lt 65536 (length line) ≡ false
  not_long line short = elim (leb_tells (suc 65536) (length line)) [
    | inl long ↦ absurd (let too = long.1 in omega arith)
    | inr is ↦ is.0
  ]

  pub does_skip : (s : State) (line : List ℕ) → length line ≤ 65536 → is_skipped line ≡ true → DoesOnly c s line Skips
  does_skip s line short skipped =
      let cases : (nat_lt 65536 (length line), is_skipped line) ≡ (false, true) =
      λ i. (not_long line short i, skipped i) in (
        subst (λ (b : Bool × Bool). CaseDoes b.0 b.1 streams s line Skips) (sym cases) refl,
        λ other h. subst (λ (b : Bool × Bool). CaseDoes b.0 b.1 streams s line other) cases h,
      )

  pub does_content : (s : State) (line : List ℕ) (o : Outcome State Request) → length line ≤ 65536
      → is_skipped line ≡ false → ContentDoes streams s line o
      → ((other : Outcome State Request) → ContentDoes streams s line other → other ≡ o) → DoesOnly c s line o
  does_content s line o short read does only =
      let cases : (nat_lt 65536 (length line), is_skipped line) ≡ (false, false) =
      λ i. (not_long line short i, read i) in (
        subst (λ (b : Bool × Bool). CaseDoes b.0 b.1 streams s line o) (sym cases) does,
        λ other h. only other (subst (λ (b : Bool × Bool). CaseDoes b.0 b.1 streams s line other) cases h),
      )

  module _ (r : Reading) (line : List ℕ) (n : ℕ) (old : Option (List ℕ)) (count tally : ℕ) where
    -- the steps so far are no more than those with a further request
    within : (asked earlier : Asked) → Accounts c r earlier → tally + spent_of r ≤ tally + steps_of c (earlier ++ asked)
    within asked earlier account =
        let is = spent_is c r earlier account in let grow = steps_grow c earlier asked in omega arith

    -- a line that says nothing
    pub skipped_line : IsReading c r → DoesOnly c (state_in r) line Skips
        → AnswersLine c r line n (Ok r) old old count count tally tally
    skipped_line reads does = record {
      ok = record {
        text = [];
        asked = [];
        path = (Skips, does, (refl, refl, refl));
        writes = writes_nothing old;
        reads = reads;
        accounts = λ earlier account. subst (Accounts c r) (sym (append-nil earlier)) account;
        spends = refl;
      };
      refused = λ e. absurd (let no : ⊥ = cc in no);
      part = tt;
      more = omega arith;
      at_most = tt;
      cause = tt;
      faults = omega arith;
    }

    -- a line that is refused
    pub refused_line : (f : Refusal) (e : Stop) (new : Option (List ℕ)) (now : ℕ) → DoesOnly c (state_in r) line (Refuses f)
        → lines.Refuses e old new count now (line_refused n f)
        → AnswersLine c r line n (Err e) old new count now tally tally
    refused_line f e new now does told = record {
      ok = tt;
      refused = λ is. (line_refused n f, path, told.refused (ap (error_or stop.Refused) is), refl);
      part = λ text after asked h. subst (WritesBeginning old new) (sym (once text after asked h).0) told.part;
      more = omega arith;
      at_most = λ text after asked h earlier account. within asked earlier account;
      cause = told.cause;
      faults = told.faults;
    }
      where
        path : AreOnly c (state_in r) n (Line line ∷ []) (line_refused n f) None []
        path = (Refuses f, does, (refl, refl, refl))

        once : (text : List ℕ) (after : Option State) (asked : Asked)
            → MayBe c (state_in r) n (Line line ∷ []) text after asked
            → (text ≡ line_refused n f) × (after ≡ None) × (asked ≡ [])
        once text after asked h = path_once (Does streams) (Answers c) (state_in r) n (Line line ∷ [])
            (line_refused n f) None [] text after asked path h

    -- no memory, before anything is written
    pub no_memory : AnswersLine c r line n (Err stop.OutOfMemory) old old count count tally tally
    no_memory = record {
      ok = tt;
      refused = λ e. absurd (let no : ⊥ = cc in no);
      part = λ text after asked h. nothing_written old text;
      more = omega arith;
      at_most = λ text after asked h earlier account. within asked earlier account;
      cause = tt;
      faults = omega arith;
    }

  -- a line of the header
  pub longer_line : (h h' : Header) (line : List ℕ) (n : ℕ) (old : Option (List ℕ)) (count tally : ℕ)
      → DoesOnly c (script.Begun h) line (Becomes (script.Begun h'))
      → AnswersLine c (Begun h) line n (Ok (Begun h')) old old count count tally tally
  longer_line h h' line n old count tally does = record {
    ok = record {
      text = [];
      asked = [];
      path = (Becomes (script.Begun h'), does, (refl, refl, refl));
      writes = writes_nothing old;
      reads = tt;
      accounts = λ earlier account. append-nil earlier ∙ account;
      spends = refl;
    };
    refused = λ e. absurd (let no : ⊥ = cc in no);
    part = tt;
    more = omega arith;
    at_most = tt;
    cause = tt;
    faults = omega arith;
  }

  -- the last one
  pub opened_line : (h : Header) (names : List (List ℕ)) (job : JobData) (line : List ℕ) (n : ℕ) (old : Option (List ℕ))
      (count tally : ℕ) → length job.roots ≤ 32 → DoesOnly c (script.Begun h) line (Becomes (Has names job))
      → AnswersLine c (Begun h) line n (Ok (opened c names job)) old old count count tally tally
  opened_line h names job line n old count tally few does = record {
    ok = record {
      text = [];
      asked = [];
      path = (Becomes (Has names job), does, (refl, ap (λ s. Some s) (opened_state c names job), refl));
      writes = writes_nothing old;
      reads = opened_reads c names job few;
      accounts = λ earlier account. subst (Accounts c (opened c names job)) (sym (append-nil earlier ∙ account))
          (opened_accounts c names job);
      spends = ap (λ k. tally + k) (sym (opened_spent c names job));
    };
    refused = λ e. absurd (let no : ⊥ = cc in no);
    part = tt;
    more = omega arith;
    at_most = tt;
    cause = tt;
    faults = omega arith;
  }

-- a line that asks for this, alone
record IsAskedAlone (c : ScriptCommand) (s : State) (q : Request) (text : List ℕ) (asked : Asked) : Type 0 where
  answer : List ℕ
  answers : Answers c s q answer
  is : text ≡ answer
  one : asked ≡ (s, q) ∷ []

asked_alone : (c : ScriptCommand) (s : State) (q : Request) (line : List ℕ) (n : ℕ) → DoesOnly c s line (Asks q)
    → (text : List ℕ) (after : Option State) (asked : Asked) → MayBe c s n (Line line ∷ []) text after asked
    → IsAskedAlone c s q text asked
asked_alone c s q line n does text after asked (o, is, h) = by o (does.1 o is) h
  where
    by : (o : Outcome State Request) → o ≡ Asks q
        → IsFollowed (Does (takes_streams c)) (Answers c)
        (λ t. IsWritten (Does (takes_streams c)) (Answers c) t (suc n) []) s n o text after asked
        → IsAskedAlone c s q text asked
    by Skips e k = absurd (let no : ⊥ = cc in no)
    by (Becomes t) e k = absurd (let no : ⊥ = cc in no)
    by (Refuses f) e k = absurd (let no : ⊥ = cc in no)
    by (Asks r) e (answer, more, later, answers, rest, text_is, asked_is) = record {
      answer = answer;
      answers = subst (λ x. Answers c s x answer) (ap (request_or q) e) answers;
      is = text_is ∙ ap (λ l. answer ++ l) rest.0 ∙ append-nil answer;
      one = asked_is ∙ (λ i. (s, ap (request_or q) e i) ∷ rest.2 i);
    }

not_refused : (e : Stop) (before now : ℕ) → HasStopped e before now → e ≡ stop.Refused → ⊥
not_refused stop.Refused before now h is = h
not_refused stop.ReadFault before now h is = h
not_refused stop.WriteFault before now h is = cc
not_refused stop.OutOfMemory before now h is = cc

cause_of : (e : Stop) (before now : ℕ) → HasStopped e before now → HasCause e before now
cause_of stop.Refused before now h = tt
cause_of stop.ReadFault before now h = h
cause_of stop.WriteFault before now h = h
cause_of stop.OutOfMemory before now h = tt

-- a request of `factor`
module _ (f : FactoringValue) (q : Request) (line : List ℕ) (n : ℕ)
    (does : DoesOnly Factor (Has f.names f.job) line (Asks q)) (old new : Option (List ℕ)) (before now tally tally' : ℕ)
    (more : tally ≤ tally') (faults : before ≤ now) where
  abbrev s : State
  s = Has f.names f.job

  abbrev degrees' : ℕ
  degrees' = max (suc (precision_of q)) f.degrees

  abbrev raised : FactoringValue
  raised = record { names = f.names; job = f.job; degrees = degrees' }

  swap : (a b c : ℕ) → max a b ≡ max b (max a 0)
  swap a b c = omega arith

  accounts : (earlier : Asked) → Accounts Factor (Factors f) earlier
      → Accounts Factor (Factors raised) (earlier ++ (s, q) ∷ [])
  accounts earlier (of, degrees, all) = (
    refl,
    ap (max (suc (precision_of q))) degrees ∙ swap (suc (precision_of q)) (degrees_of earlier) 0
        ∙ sym (degrees_append earlier ((s, q) ∷ [])),
    All-append (λ p. p.0 ≡ s) earlier ((s, q) ∷ []) all (All-cons (λ p. p.0 ≡ s) (s, q) [] refl (All-nil (λ p. p.0 ≡ s))),
  )

  pub factor_answered : IsReading Factor (Factors f) → precision_of q ≤ 4095 → (text : List ℕ)
      → AnswersOnly Factor s q text → WritesAll old new text
      → tally' + length f.job.roots * f.degrees ≡ tally + length f.job.roots * degrees'
      → AnswersLine Factor (Factors f) line n (Ok (Factors raised)) old new before now tally tally'
  factor_answered small low text is writes spends = record {
    ok = record {
      text = text;
      asked = (s, q) ∷ [];
      path = (Asks q, does, (text, [], [], is, (refl, refl, refl), sym (append-nil text), refl));
      writes = writes;
      reads = (refl, small.1, (let few = small.2 in omega arith));
      accounts = accounts;
      spends = spends;
    };
    refused = λ e. absurd (let no : ⊥ = cc in no);
    part = tt;
    more = more;
    at_most = tt;
    cause = tt;
    faults = faults;
  }

  pub factor_stopped : (e : Stop) → HasStopped e before now
      → ((text : List ℕ) → Answers Factor s q text → WritesBeginning old new text)
      → tally' + length f.job.roots * f.degrees ≤ tally + length f.job.roots * degrees'
      → AnswersLine Factor (Factors f) line n (Err e) old new before now tally tally'
  factor_stopped e stopped writes at_most = record {
    ok = tt;
    refused = λ is. absurd (not_refused e before now stopped (ap (error_or stop.Refused) is));
    part = λ text after asked h.
        let one = asked_alone Factor s q line n does text after asked h in
        subst (WritesBeginning old new) (sym one.is) (writes one.answer one.answers);
    more = more;
    at_most = λ text after asked h earlier account.
        let one = asked_alone Factor s q line n does text after asked h in
        let is : length f.job.roots * degrees' ≡ steps_of Factor (earlier ++ asked) =
        spent_is Factor (Factors raised) (earlier ++ (s, q) ∷ []) (accounts earlier account)
        ∙ ap (λ l. steps_of Factor (earlier ++ l)) (sym one.one) in
        omega arith;
    cause = cause_of e before now stopped;
    faults = faults;
  }

-- a request of `expand`
module _ (e : ExpandingValue) (q : Request) (line : List ℕ) (n : ℕ)
    (does : DoesOnly Expand (Has e.names e.job) line (Asks q)) (old new : Option (List ℕ)) (before now tally : ℕ)
    (faults : before ≤ now) where
  abbrev t : State
  t = Has e.names e.job

  pub expand_answered : (text : List ℕ) → AnswersOnly Expand t q text → WritesAll old new text
      → AnswersLine Expand (Inputs e) line n (Ok (Inputs e)) old new before now tally tally
  expand_answered text is writes = record {
    ok = record {
      text = text;
      asked = (t, q) ∷ [];
      path = (Asks q, does, (text, [], [], is, (refl, refl, refl), sym (append-nil text), refl));
      writes = writes;
      reads = refl;
      accounts = λ earlier account. account;
      spends = refl;
    };
    refused = λ e. absurd (let no : ⊥ = cc in no);
    part = tt;
    more = omega arith;
    at_most = tt;
    cause = tt;
    faults = faults;
  }

  pub expand_stopped : (x : Stop) → HasStopped x before now
      → ((text : List ℕ) → Answers Expand t q text → WritesBeginning old new text)
      → AnswersLine Expand (Inputs e) line n (Err x) old new before now tally tally
  expand_stopped x stopped writes = record {
    ok = tt;
    refused = λ is. absurd (not_refused x before now stopped (ap (error_or stop.Refused) is));
    part = λ text after asked h.
        let one = asked_alone Expand t q line n does text after asked h in
        subst (WritesBeginning old new) (sym one.is) (writes one.answer one.answers);
    more = omega arith;
    at_most = λ text after asked h earlier account. omega arith;
    cause = cause_of x before now stopped;
    faults = faults;
  }
