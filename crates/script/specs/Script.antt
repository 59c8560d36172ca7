-- Scripts of `factor` and `expand`: a header, and requests behind it.
--     State      the header so far, or the job of the whole header
--     Does streams s line o      what the line does in the state; streams tells whether streams may be asked for
--     missing s      what the input lacks where it ends in the state; None behind a whole header
use Rattle.std.specs.Prelude.{ℕ, ◌≡◌, nat_lt, Bool, true, false, List, length, take, Option, Some, None}
use Rattle.ps_model.specs.declared.job.JobData.{JobData}
use Rattle.script.specs.Answers.{Outcome, Skips, Becomes, Asks, Refuses}
use Rattle.script.specs.Header.{Header, Said, HeaderSays, keyword_due}
use Rattle.script.specs.Header as header
use Rattle.script.specs.Requests.{RequestSaid, request_said}
use Rattle.script.specs.Requests as request
use Rattle.script.specs.Words.{is_skipped}
use Rattle.script.specs.declared.refusal.Refusal.{Refusal}
use Rattle.script.specs.declared.refusal.Refusal.TheVariants as refusal
use Rattle.script.specs.declared.request.Request.{Request}

pub data State : Type 0 where
  Begun : Header → State
  Has : List (List ℕ) → JobData → State

abbrev pub outcome_of : Said → Outcome State Request
outcome_of (header.Longer h) = Becomes (Begun h)
outcome_of (header.Makes names job) = Becomes (Has names job)
outcome_of (header.Refused r) = Refuses r

abbrev pub asked_by : RequestSaid → Outcome State Request
asked_by (request.Asks r) = Asks r
asked_by (request.Refused r) = Refuses r

abbrev pub ContentDoes : Bool → State → List ℕ → Outcome State Request → Type 0
ContentDoes streams (Begun h) line o = (said : Said) × HeaderSays h line said × (o ≡ outcome_of said)
ContentDoes streams (Has names job) line o = o ≡ asked_by (request_said streams (take job.n job.weights) line)

-- by whether the line is too long, and whether it is skipped
abbrev pub CaseDoes : Bool → Bool → Bool → State → List ℕ → Outcome State Request → Type 0
CaseDoes true skipped streams s line o = o ≡ Refuses refusal.LineTooLong
CaseDoes false true streams s line o = o ≡ Skips
CaseDoes false false streams s line o = ContentDoes streams s line o

abbrev pub Does : Bool → State → List ℕ → Outcome State Request → Type 0
Does streams s line o = CaseDoes (nat_lt 65536 (length line)) (is_skipped line) streams s line o

abbrev pub missing : State → Option Refusal
missing (Begun h) = Some (refusal.Expected (keyword_due h))
missing (Has names job) = None
