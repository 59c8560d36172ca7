-- Every script has exactly one output.
use Rattle.std.proofs.Common.{◌≡◌, ◌∙◌, ap, refl, ℕ, suc, ◌≤◌, ◌&&◌, Bool, true, false, List, [], ◌∷◌, ◌++◌, length}
use Rattle.std.proofs.Common.{take, Option, Some, None, Result, Ok, Err, arith, inl, inr}
use Rattle.std.proofs.lemmas.Bool.Decides.{leb_tells}
use Rattle.std.specs.Prelude.{codes, if◌then◌else◌}
use Rattle.std.specs.Str.{bytes_eq}
use Rattle.ps_model.specs.AcceptedJob.{IsAccepted}
use Rattle.ps_model.specs.BlockText.{block_text}
use Rattle.ps_model.specs.Bounds.{ExactlyOne}
use Rattle.ps_model.specs.Input.{IsValidInput}
use Rattle.ps_model.specs.InputText.{input_text}
use Rattle.ps_model.specs.Job.{job_ring, IsFactors}
use Rattle.ps_model.specs.Lead.{IsLead, IsLeadShown, IsShownLead}
use Rattle.ps_model.specs.SeriesRing.{SeriesRing, Poly}
use Rattle.ps_model.specs.StreamText.{stream_text}
use Rattle.ps_model.specs.Tree.{formal_degree}
use Rattle.ps_model.specs.Value.{IsValue, HasLead}
use Rattle.ps_model.specs.declared.job.JobData.{JobData}
use Rattle.ps_model.proofs.InputValues.{valid_value, valid_lead}
use Rattle.ps_model.proofs.JobRoots.{accepted_lawful, valid_input}
use Rattle.ps_model.proofs.JobValues.{lawful_factors}
use Rattle.script.specs.Answers.{Item, Line, TooLong, items_of, Outcome, Skips, Becomes, Asks, Refuses, IsFollowed}
use Rattle.script.specs.Answers.{IsWritten}
use Rattle.script.specs.Header.{Empty, Said, Longer, Makes, Refused}
use Rattle.script.specs.Refusals.{line_refused, end_refused}
use Rattle.script.specs.Requests.{asked, precision_in, words_said, request_said}
use Rattle.script.specs.Requests as request
use Rattle.script.specs.Script.{State, Begun, Has, Does, outcome_of, asked_by, missing}
use Rattle.script.specs.Words.{is_skipped, words}
use Rattle.script.specs.declared.refusal.Refusal.{Refusal}
use Rattle.script.specs.declared.refusal.Refusal.TheVariants as refusal
use Rattle.script.specs.declared.request.Request.{Request}
use Rattle.script.specs.declared.request.Request.TheVariants.{Show, Stream}
use Rattle.script.proofs.LeadsDecided.{lead_is_decided}
use Rattle.script.proofs.Paths.{path_plain, path_once}
use Rattle.commands.specs.Words.{Script}
use Rattle.commands.specs.declared.command.ScriptCommand.{ScriptCommand}
use Rattle.commands.specs.declared.command.ScriptCommand.TheVariants.{Factor, Expand}
use Rattle.commands.specs.Answering.{AnswersOnly, DoesOnly, AreOnly}
use Rattle.commands.specs.Output.{Asked, AreAnswers, IsEnd, IsMissing, IsWhole, IsOutput, steps_of}
use Rattle.commands.specs.Replies.{Answers}
use Rattle.commands.specs.Words.{takes_streams}
use Rattle.commands.proofs.HeaderOnce.{does_header, does_request}
use Rattle.commands.proofs.HeadersRead.{IsGood, IsGoodSaid, header_says}
use Rattle.commands.proofs.LinesDone.{does_long, does_skip}

-- what is printed of an accepted job
module _ (job : JobData) (ok : IsAccepted job) (D : ℕ) where
  abbrev S : SeriesRing
  S = job_ring job

  fits : IsValidInput S job.expr
  fits = valid_input job ok.valid

  pub factors : ExactlyOne (IsFactors job D)
  factors = lawful_factors job (accepted_lawful job ok) D

  value : ExactlyOne (IsValue S D job.expr)
  value = valid_value S job.expr fits job.n ok.tree D

  lead : ExactlyOne (IsLead S D job.expr)
  lead = valid_lead S job.expr fits job.n ok.tree D

  only_none : HasLead S job.expr 1 → (o : Option (Poly S)) → IsShownLead S D job.expr o → o ≡ None
  only_none known None is = refl
  only_none known (Some l) is = absurd (is.0 known)

  only_some : IsLeadShown S job.expr → (o : Option (Poly S)) → IsShownLead S D job.expr o → o ≡ Some lead.one_value
  only_some never None is = absurd (never is)
  only_some never (Some l) is = ap (λ (p : Poly S). Some p) (lead.only l is.1)

  pub shown : ExactlyOne (IsShownLead S D job.expr)
  shown = elim (lead_is_decided S job.expr 1) [
    | inl known ↦ record { one_value = None; meets = known; only = only_none known }
    | inr never ↦ record { one_value = Some lead.one_value; meets = (never, lead.meets); only = only_some never }
  ]

  abbrev IsPrinted : (List (Poly S) → Option (Poly S) → List ℕ) → List ℕ → Type 0
  IsPrinted print text =
      (fs : List (Poly S)) × (l : Option (Poly S)) × IsFactors job D fs × IsShownLead S D job.expr l
      × (text ≡ print fs l)

  printed : (print : List (Poly S) → Option (Poly S) → List ℕ) → ExactlyOne (IsPrinted print)
  printed print = record {
    one_value = print factors.one_value shown.one_value;
    meets = (factors.one_value, shown.one_value, factors.meets, shown.meets, refl);
    only = λ text (fs, l, are, is, at). at ∙ (λ i. print (factors.only fs are i) (shown.only l is i));
  }

  abbrev IsValuePrinted : (Poly S → List ℕ) → List ℕ → Type 0
  IsValuePrinted print text = (v : Poly S) × IsValue S D job.expr v × (text ≡ print v)

  value_printed : (print : Poly S → List ℕ) → ExactlyOne (IsValuePrinted print)
  value_printed print = record {
    one_value = print value.one_value;
    meets = (value.one_value, value.meets, refl);
    only = λ text (v, is, at). at ∙ ap print (value.only v is);
  }

-- a request that a script of the command may ask for
abbrev IsPermitted : ScriptCommand → Request → Type 0
IsPermitted Factor r = Unit {0}
IsPermitted Expand (Show D) = Unit {0}
IsPermitted Expand (Stream D) = ⊥

-- has one answer
pub answer_once : (c : ScriptCommand) (names : List (List ℕ)) (job : JobData) (r : Request) → IsAccepted job
    → IsPermitted c r → (text : List ℕ) × AnswersOnly c (Has names job) r text
answer_once Factor names job (Show D) ok may =
    let one = printed job ok D (λ fs l. block_text (job_ring job) names l job.roots fs D) in
    (one.one_value, (one.meets, one.only))
answer_once Factor names job (Stream D) ok may =
    let one = printed job ok D (λ fs l. stream_text (job_ring job) names l job.roots fs D) in
    (one.one_value, (one.meets, one.only))
answer_once Expand names job (Show D) ok may =
    let one = value_printed job ok D (λ v. input_text (job_ring job) names (formal_degree job.expr) v D) in
    (one.one_value, (one.meets, one.only))
answer_once Expand names job (Stream D) ok may = absurd may

-- what a line does keeps the states good, and asks only for what has one answer
abbrev IsGoodOutcome : ScriptCommand → State → Outcome State Request → Type 0
IsGoodOutcome c s Skips = Unit {0}
IsGoodOutcome c s (Becomes t) = IsGood t
IsGoodOutcome c s (Asks r) = (text : List ℕ) × AnswersOnly c s r text
IsGoodOutcome c s (Refuses f) = Unit {0}

said_good : (c : ScriptCommand) (s : State) (said : Said) → IsGoodSaid said → IsGoodOutcome c s (outcome_of said)
said_good c s (Longer h) good = good
said_good c s (Makes names job) good = good
said_good c s (Refused f) good = tt

show_permitted : (c : ScriptCommand) (d : ℕ) → IsPermitted c (Show d)
show_permitted Factor d = tt
show_permitted Expand d = tt

module _ (names : List (List ℕ)) (job : JobData) (ok : IsAccepted job) where
  asked_good : (c : ScriptCommand) (ask : ℕ → Request) → ((d : ℕ) → IsPermitted c (ask d)) → (r : Result ℕ Refusal)
      → IsGoodOutcome c (Has names job) (asked_by (asked ask r))
  asked_good c ask may (Ok d) = answer_once c names job (ask d) ok (may d)
  asked_good c ask may (Err f) = tt

  word_tests : (c : ScriptCommand) (show stream : Bool) (p : Result ℕ Refusal)
      → IsGoodOutcome c (Has names job) (asked_by (if show then asked Show p else
      (if takes_streams c && stream then asked Stream p else request.Refused refusal.ExpectedRequest)))
  word_tests c true stream p = asked_good c Show (show_permitted c) p
  word_tests Factor false true p = asked_good Factor Stream (λ d. tt) p
  word_tests Factor false false p = tt
  word_tests Expand false stream p = tt

  words_good : (c : ScriptCommand) (ws : List ℕ) (text : List (List ℕ))
      → IsGoodOutcome c (Has names job) (asked_by (words_said (takes_streams c) ws text))
  words_good c ws [] = tt
  words_good c ws (w ∷ more) =
      word_tests c (bytes_eq w (codes "show")) (bytes_eq w (codes "stream")) (precision_in ws more)

-- each line does one thing
module _ (c : ScriptCommand) where
  abbrev IsDone : State → List ℕ → Type 0
  IsDone s line = (o : Outcome State Request) × DoesOnly c s line o × IsGoodOutcome c s o

  content_done : (s : State) (line : List ℕ) → IsGood s → length line ≤ 65536 → is_skipped line ≡ false → IsDone s line
  content_done (Begun h) line good short read =
      let says = header_says h line good in
      (outcome_of says.0, does_header c h line says.0 short read says.1, said_good c (Begun h) says.0 says.2)
  content_done (Has names job) line good short read = (
    asked_by (request_said (takes_streams c) (take job.n job.weights) line),
    does_request c names job line short read,
    words_good names job good.0 c (take job.n job.weights) (words line),
  )

  short_done : (s : State) (line : List ℕ) → IsGood s → length line ≤ 65536 → IsDone s line
  short_done s line good short = by (is_skipped line) refl
    where
      by : (b : Bool) → is_skipped line ≡ b → IsDone s line
      by true skipped = (Skips, does_skip c s line short skipped, tt)
      by false read = content_done s line good short read

  pub line_done : (s : State) (line : List ℕ) → IsGood s → IsDone s line
  line_done s line good = elim (leb_tells (suc 65536) (length line)) [
    | inl long ↦ (Refuses refusal.LineTooLong, does_long c s line long.1, tt)
    | inr short ↦ short_done s line good (let at_most = short.1 in omega arith)
  ]

  -- and so all of them together
  abbrev AreDone : State → ℕ → List Item → Type 0
  AreDone s n items =
      (text : List ℕ) × (after : Option State) × (asked : Asked) × AreOnly c s n items text after asked

  followed : (s : State) (n : ℕ) (items : List Item) → IsGood s
      → ((t : State) → IsGood t → AreDone t (suc n) items) → (o : Outcome State Request) → IsGoodOutcome c s o
      → (text : List ℕ) × (after : Option State) × (asked : Asked)
      × IsFollowed (DoesOnly c) (AnswersOnly c) (λ t. IsWritten (DoesOnly c) (AnswersOnly c) t (suc n) items) s n o
      text after asked
  followed s n items good rest Skips h = rest s good
  followed s n items good rest (Becomes t) h = rest t h
  followed s n items good rest (Asks r) (answer, is) =
      let (more, after, later, written) = rest s good in
      (answer ++ more, after, (s, r) ∷ later, (answer, more, later, is, written, refl, refl))
  followed s n items good rest (Refuses f) h = (line_refused n f, None, [], (refl, refl, refl))

  pub items_done : (s : State) (n : ℕ) (items : List Item) → IsGood s → AreDone s n items
  items_done s n [] good = ([], Some s, [], (refl, refl, refl))
  items_done s n (TooLong ∷ items) good = (line_refused n refusal.InputTooLong, None, [], (refl, refl, refl))
  items_done s n (Line line ∷ items) good =
      let (o, does, keeps) = line_done s line good in
      let (text, after, asked, h) =
      followed s n items good (λ t good_t. items_done t (suc n) items good_t) o keeps in
      (text, after, asked, (o, does, h))

-- the lines of a script
pub answers_once : (c : ScriptCommand) (items : List Item)
    → ExactlyOne {A = List ℕ × Option State × Asked} (λ w. AreAnswers c items w.0 w.1 w.2)
answers_once c items =
    let (text, after, asked, h) = items_done c (Begun Empty) 1 items tt in
    record {
      one_value = (text, after, asked);
      meets = path_plain (Does (takes_streams c)) (Answers c) (Begun Empty) 1 items text after asked h;
      only = λ w k.
          let same = path_once (Does (takes_streams c)) (Answers c) (Begun Empty) 1 items text after asked
          w.0 w.1 w.2 h k in
          λ i. (same.0 i, same.1 i, same.2 i);
    }

-- its end
abbrev missing_end : Option Refusal → List ℕ × ℕ
missing_end None = ([], 0)
missing_end (Some r) = (end_refused r, 1)

abbrev end_of : Option State → List ℕ × ℕ
end_of None = ([], 1)
end_of (Some s) = missing_end (missing s)

missing_is : (o : Option Refusal) → IsMissing o (missing_end o).0 (missing_end o).1
missing_is None = (refl, refl)
missing_is (Some r) = (refl, refl)

missing_once : (o : Option Refusal) (text : List ℕ) (status : ℕ) → IsMissing o text status
    → (text ≡ (missing_end o).0) × (status ≡ (missing_end o).1)
missing_once None text status h = h
missing_once (Some r) text status h = h

end_is : (after : Option State) → IsEnd after (end_of after).0 (end_of after).1
end_is None = (refl, refl)
end_is (Some s) = missing_is (missing s)

end_once : (after : Option State) (text : List ℕ) (status : ℕ) → IsEnd after text status
    → (text ≡ (end_of after).0) × (status ≡ (end_of after).1)
end_once None text status h = h
end_once (Some s) text status h = missing_once (missing s) text status h

-- a whole input
pub whole_once : (c : ScriptCommand) (input : List ℕ)
    → ExactlyOne {A = List ℕ × ℕ × Asked} (λ w. IsWhole c input w.0 w.1 w.2)
whole_once c input = record {
  one_value = (lines ++ (end_of after).0, (end_of after).1, one.one_value.2);
  meets = record {
    lines = lines;
    end = (end_of after).0;
    after = after;
    of_lines = one.meets;
    of_end = end_is after;
    text_is = refl;
  };
  only = λ w h.
      let same = one.only (h.lines, h.after, w.2) h.of_lines in
      let ended = end_once h.after h.end w.1 h.of_end in
      let text = h.text_is ∙ ap (λ l. h.lines ++ l) ended.0 ∙ (λ i. (same i).0 ++ (end_of (same i).1).0) in
      let status = ended.1 ∙ (λ i. (end_of (same i).1).1) in
      λ i. (text i, status i, (same i).2);
}
  where
    one : ExactlyOne {A = List ℕ × Option State × Asked} (λ w. AreAnswers c (items_of true input) w.0 w.1 w.2)
    one = answers_once c (items_of true input)

    lines : List ℕ
    lines = (answers_once c (items_of true input)).one_value.0

    after : Option State
    after = (answers_once c (items_of true input)).one_value.1

-- the output of a command that answers requests
pub requests_once : (c : ScriptCommand) (input : List ℕ)
    → ExactlyOne {A = List ℕ × ℕ × ℕ} (λ w. IsOutput (Some (Script c)) input w.0 w.1 w.2)
requests_once c input =
    let one = whole_once c input in
    record {
      one_value = (one.one_value.0, one.one_value.1, steps_of c one.one_value.2);
      meets = (one.one_value.2, one.meets, refl);
      only = λ w (asked, whole, steps).
          let same = one.only (w.0, w.1, asked) whole in
          let steps_are = steps ∙ (λ i. steps_of c (same i).2) in
          λ i. ((same i).0, (same i).1, steps_are i);
    }
