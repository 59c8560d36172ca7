-- Each input of `check` has exactly one text, status and number of steps.
use Rattle.std.proofs.Common.{◌≡◌, ◌∙◌, sym, refl, subst, ℕ, zero, suc, ◌+◌, ◌*◌, ◌≤◌, ◌↔◌, inl, inr, arith}
use Rattle.std.proofs.Common.{Bool, true, false, IsTrue, List, [], ◌∷◌, length, take, Option, Some, None}
use Rattle.std.proofs.Common.{Result, Ok, Err}
use Rattle.std.specs.Prelude.{nat_lt, if◌then◌else◌}
use Rattle.ps_model.specs.AcceptedJob.{IsAccepted}
use Rattle.ps_model.specs.Bounds.{ExactlyOne}
use Rattle.ps_model.specs.Job.{job_ring}
use Rattle.ps_model.specs.Lead.{IsLeadShown}
use Rattle.ps_model.specs.declared.job.JobData.{JobData}
use Rattle.parts.specs.Rings.{weights_of, variables_of}
use Rattle.parts.specs.declared.rings.Ring.{Ring}
use Rattle.comparison.specs.declared.place.Place.{Place}
use Rattle.demo.proofs.DemoJobs.{one_text}
use Rattle.expr_reader.specs.NameLists.{as_names}
use Rattle.printer.specs.ReadBlock.{variable_names}
use Rattle.printer.specs.ReadText.{IsRefused}
use Rattle.printer.specs.declared.block_error.BlockError.{BlockError}
use Rattle.printer.specs.declared.block_error.BlockError.TheVariants.{NotPermitted, NotABlock, OutOfMemory}
use Rattle.script.specs.Answers.{Item, Line, TooLong, items_of}
use Rattle.script.specs.Blocks.{block_said}
use Rattle.script.specs.Checking.{State, Begun, Has, Reads, Does, CaseDoes, ContentDoes, header_outcome, block_outcome}
use Rattle.script.specs.Header.{Empty, Said, Longer, Makes, Refused, keyword_due}
use Rattle.script.specs.Refusals.{line_refused, end_refused}
use Rattle.script.specs.Words.{is_skipped}
use Rattle.script.specs.declared.refusal.Keyword.TheVariants.{Block}
use Rattle.script.specs.declared.refusal.Refusal.{Refusal}
use Rattle.script.specs.declared.refusal.Refusal.TheVariants as refusal
use Rattle.script.proofs.LeadsDecided.{lead_is_decided}
use Rattle.commands.specs.CheckLines.{IsGood}
use Rattle.commands.specs.Checks.{Behind, GoesOn, Ends, IsTooLong, IsLacking, IsToldAt, IsVerdict, IsJudged, IsTold}
use Rattle.commands.specs.Checks.{IsFollowed, IsCheckedFrom, IsChecked}
use Rattle.commands.specs.Judging.{IsSeen, Tells, verdict_text, verdict_status}
use Rattle.commands.specs.Output.{IsOutput}
use Rattle.commands.specs.Words.{Work, usage_line}
use Rattle.commands.specs.Words as work
use Rattle.commands.proofs.BlocksDecided.{text_decided}
use Rattle.commands.proofs.BlockTold.{not_permitted, least_unpermitted}
use Rattle.commands.proofs.Compared.{compared}
use Rattle.commands.proofs.HeadersRead.{IsGoodHeader, IsGoodSaid, header_says}
use Rattle.commands.proofs.JobRings.{ring_of, no_truth}
use Rattle.commands.proofs.OutputsOnce.{requests_once}
use Rattle.commands.proofs.ToldOnce.{apart, AreSame, told_once, does_once}

no_longer : (n : ℕ) (xs : List (List ℕ)) → length (take n xs) ≤ n
no_longer zero xs = omega arith
no_longer (suc n) [] = omega arith
no_longer (suc n) (x ∷ xs) = let less = no_longer n xs in omega arith

-- something is told
abbrev Is : (List ℕ → ℕ → ℕ → Type 0) → Type 0
Is Told = (t : List ℕ) × (s : ℕ) × (n : ℕ) × Told t s n

lacking_there : (m : ℕ) (f : Refusal) (behind : Behind) → Is (IsLacking m f behind)
lacking_there m f GoesOn = ([], 0, 0, (refl, refl, refl))
lacking_there m f Ends = (end_refused f, 1, 0, (refl, refl, refl))
lacking_there m f IsTooLong = (line_refused m refusal.InputTooLong, 1, 0, (refl, refl, refl))

told_at_there : (known : Bool) (k : ℕ) (f : Refusal) (m : ℕ) (behind : Behind) → Is (IsToldAt known k f m behind)
told_at_there true k f m behind = (line_refused k f, 1, 0, (refl, refl, refl))
told_at_there false k f m behind = lacking_there m f behind

verdict_there : (job : JobData) (D : ℕ) (place : Option Place) (m : ℕ) (behind : Behind)
    → Is (IsVerdict job D place m behind)
verdict_there job D place m GoesOn = ([], 0, 0, (refl, refl, refl))
verdict_there job D place m Ends =
    (verdict_text place, verdict_status place, length job.roots * suc D, (refl, refl, refl))
verdict_there job D place m IsTooLong = (line_refused m refusal.InputTooLong, 1, 0, (refl, refl, refl))

-- whether a lead is shown
shown_there : (job : JobData) → (b : Bool) × (IsTrue b ↔ IsLeadShown (job_ring job) job.expr)
shown_there job = elim (lead_is_decided (job_ring job) job.expr 1) [
  | inl known ↦ (false, ((λ e. absurd (no_truth e)), (λ shown. absurd (shown known))))
  | inr never ↦ (true, ((λ e. never), (λ shown. refl)))
]

module _ (names : List (List ℕ)) (job : JobData) (ok : IsAccepted job) (ring : Ring) (shown : Bool)
    (seen : IsSeen job ring shown) (first : ℕ) (block : List ℕ) (m : ℕ) (behind : Behind) where
  abbrev vars : List (List ℕ)
  vars = variable_names ring (as_names names)

  -- why it is refused, as a line and a text
  tells_there : (e : BlockError) → (e ≡ OutOfMemory → ⊥) → IsRefused ring vars job.roots shown block e
      → (k : ℕ) × (f : Refusal) × Tells (weights_of ring) e k f
  tells_there (NotPermitted p) some why =
      let f = not_permitted (weights_of ring) p (least_unpermitted (weights_of ring) why.0 p why.3 why.4) in
      (1, f.0, (refl, f.1))
  tells_there (NotABlock l) some why = (l, refusal.NotABlock, (refl, refl))
  tells_there OutOfMemory some why = absurd (some refl)

  judged_there : Is (IsJudged vars job ring shown first block m behind)
  judged_there = elim (text_decided ring vars (apart ring names)
      (let less = no_longer (variables_of ring) (as_names names) in let few = ring.few in omega arith) job.roots shown
      block) [
        | inl (e, some, why) ↦
            let tells = tells_there e some why in
            let told = told_at_there (nat_lt (first + tells.0) m) (first + tells.0) tells.1 m behind in
            (told.0, told.1, told.2, inl (tells.0, tells.1, (e, why, tells.2), told.3))
        | inr (D, l, fs, is) ↦
            let c = compared job ok ring shown seen vars block D l fs is in
            let told = verdict_there job D c.0 m behind in
            (told.0, told.1, told.2, inr (D, c.0, c.1, told.3))
      ]

told_there : (s : State) → IsGood s → (m : ℕ) (behind : Behind) → Is (IsTold s m behind)
told_there (Begun h) good m behind = lacking_there m (refusal.Expected (keyword_due h)) behind
told_there (Has names job) good m behind = lacking_there m (refusal.Expected Block) behind
told_there (Reads names job first block) good m behind =
    let ring = ring_of job good.0 in
    let shown = shown_there job in
    let seen : IsSeen job ring.0 shown.0 = record { ring_is = ring.1; shown_is = shown.1 } in
    let told = judged_there names job good.0 ring.0 shown.0 seen first block m behind in
    (told.0, told.1, told.2, (ring.0, shown.0, seen, told.3))

-- what is true of each state of a script
abbrev IsReached : State → Type 0
IsReached (Begun h) = IsGoodHeader h
IsReached (Has names job) = IsAccepted job × (length names ≡ job.n)
IsReached (Reads names job first text) = IsAccepted job × (length names ≡ job.n)

reached_good : (s : State) → IsReached s → IsGood s
reached_good (Begun h) good = tt
reached_good (Has names job) good = good
reached_good (Reads names job first text) good = good

abbrev IsGoodResult : Result State Refusal → Type 0
IsGoodResult (Ok t) = IsReached t
IsGoodResult (Err f) = Unit {0}

-- each line does something
abbrev DoesGood : (Result State Refusal → Type 0) → Type 0
DoesGood P = (r : Result State Refusal) × P r × IsGoodResult r

said_good : (said : Said) → IsGoodSaid said → IsGoodResult (header_outcome said)
said_good (Longer h) good = good
said_good (Makes names job) good = good
said_good (Refused f) good = tt

block_good : (names : List (List ℕ)) (job : JobData) (n : ℕ) → IsReached (Has names job) → (o : Option Refusal)
    → IsGoodResult (block_outcome names job n o)
block_good names job n good None = good
block_good names job n good (Some f) = tt

content_there : (s : State) (n : ℕ) (line : List ℕ) → IsReached s → DoesGood (ContentDoes s n line)
content_there (Begun h) n line good =
    let says = header_says h line good in
    (header_outcome says.0, (says.0, says.1, refl), said_good says.0 says.2)
content_there (Has names job) n line good =
    (block_outcome names job n (block_said line), refl, block_good names job n good (block_said line))
content_there (Reads names job first text) n line good = (Ok _, refl, good)

case_there : (long skipped : Bool) (s : State) (n : ℕ) (line : List ℕ) → IsReached s
    → DoesGood (CaseDoes long skipped s n line)
case_there true skipped s n line good = (Err refusal.LineTooLong, refl, tt)
case_there false true s n line good = (Ok s, refl, good)
case_there false false s n line good = content_there s n line good

does_there : (s : State) (n : ℕ) (line : List ℕ) → IsReached s → DoesGood (Does s n line)
does_there (Begun h) n line good = case_there (nat_lt 65536 (length line)) (is_skipped line) (Begun h) n line good
does_there (Has names job) n line good =
    case_there (nat_lt 65536 (length line)) (is_skipped line) (Has names job) n line good
does_there (Reads names job first text) n line good = content_there (Reads names job first text) n line good

module _ (ended : Bool) where
  abbrev From : State → ℕ → List Item → List ℕ → ℕ → ℕ → Type 0
  From = IsCheckedFrom ended

  -- a line, and what is told behind it
  line_there : (s : State) (n : ℕ) (line : List ℕ) (items : List Item)
      → ((t : State) → IsReached t → Is (From t (suc n) items)) → DoesGood (Does s n line)
      → Is (From s n (Line line ∷ items))
  line_there s n line items rest (Ok t, does, reached) =
      let later = rest t reached in (later.0, later.1, later.2, (Ok t, does, later.3))
  line_there s n line items rest (Err f, does, reached) = (line_refused n f, 1, 0, (Err f, does, (refl, refl, refl)))

  -- all items
  from_there : (s : State) (n : ℕ) (items : List Item) → IsReached s → Is (From s n items)
  from_there s n [] good = told_there s (reached_good s good) n (if ended then Ends else GoesOn)
  from_there s n (TooLong ∷ items) good = told_there s (reached_good s good) n IsTooLong
  from_there s n (Line line ∷ items) good =
      line_there s n line items (λ t reached. from_there t (suc n) items reached) (does_there s n line good)

  module _ (s : State) (n : ℕ) (line : List ℕ) (items : List Item) (t : List ℕ) (u k : ℕ) (t' : List ℕ) (u' k' : ℕ)
    where
      here : (x : Result State Refusal) → Does s n line x → (r : Result State Refusal) → Does s n line r
          → (t : List ℕ) (u k : ℕ) → IsFollowed (λ v. From v (suc n) items) n r t u k
          → IsFollowed (λ v. From v (suc n) items) n x t u k
      here x does r is t u k h =
          subst (λ y. IsFollowed (λ v. From v (suc n) items) n y t u k) (does_once s n line x r does is) h

      line_once : ((v : State) → IsReached v → From v (suc n) items t u k → From v (suc n) items t' u' k'
          → AreSame t u k t' u' k') → DoesGood (Does s n line) → From s n (Line line ∷ items) t u k
          → From s n (Line line ∷ items) t' u' k' → AreSame t u k t' u' k'
      line_once rest (Ok v, is, reached) (r, does, a) (r', does', b) =
          rest v reached (here (Ok v) is r does t u k a) (here (Ok v) is r' does' t' u' k' b)
      line_once rest (Err f, is, reached) (r, does, a) (r', does', b) =
          let h = here (Err f) is r does t u k a in
          let j = here (Err f) is r' does' t' u' k' b in
          (j.0 ∙ sym h.0, j.1 ∙ sym h.1, j.2 ∙ sym h.2)

  from_once : (s : State) (n : ℕ) (items : List Item) → IsReached s → (t : List ℕ) (u k : ℕ) (t' : List ℕ) (u' k' : ℕ)
      → From s n items t u k → From s n items t' u' k' → AreSame t u k t' u' k'
  from_once s n [] good t u k t' u' k' a b =
      told_once s (reached_good s good) n (if ended then Ends else GoesOn) t u k t' u' k' a b
  from_once s n (TooLong ∷ items) good t u k t' u' k' a b =
      told_once s (reached_good s good) n IsTooLong t u k t' u' k' a b
  from_once s n (Line line ∷ items) good t u k t' u' k' a b =
      line_once s n line items t u k t' u' k'
      (λ v reached a' b'. from_once v (suc n) items reached t u k t' u' k' a' b') (does_there s n line good) a b

-- the lines of an input of `check`
pub checks_once : (ended : Bool) (bytes : List ℕ)
    → ExactlyOne {A = List ℕ × ℕ × ℕ} (λ w. IsChecked ended bytes w.0 w.1 w.2)
checks_once ended bytes =
    let there = from_there ended (Begun Empty) 1 (items_of ended bytes) tt in
    record {
      one_value = (there.0, there.1, there.2);
      meets = there.3;
      only = λ w h.
          let same = from_once ended (Begun Empty) 1 (items_of ended bytes) tt there.0 there.1 there.2 w.0 w.1 w.2
          there.3 h in
          λ i. (same.0 i, same.1 i, same.2 i);
    }

-- the program's output
pub output_once : (o : Option Work) (input : List ℕ)
    → ExactlyOne {A = List ℕ × ℕ × ℕ} (λ w. IsOutput o input w.0 w.1 w.2)
output_once None input = record {
  one_value = (usage_line, 2, 0);
  meets = (refl, refl, refl);
  only = λ w h i. (h.0 i, h.1 i, h.2 i);
}
output_once (Some (work.Script c)) input = requests_once c input
output_once (Some work.Check) input = checks_once true input
output_once (Some (work.Demo n)) input =
    let one = one_text n in
    record {
      one_value = (one.one_value, 0, 164);
      meets = (one.meets, refl, refl);
      only = λ w h.
          let same = one.only w.0 h.0 in
          λ i. (same i, h.1 i, h.2 i);
    }
