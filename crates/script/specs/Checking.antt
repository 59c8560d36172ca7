-- Scripts of `check`: a header, the line `block`, and a block behind it.
--     State      the header so far; the job of the whole header, of which the line `block` is due; or that job, the
--         number of the line `block`, and the text of the block's lines so far, each with a newline behind it
--     Does s n line r      what line n does in the state: the state behind it, or why the line is refused; of the
--         block's lines none is skipped, none is too long, and which is lawful shows only together
use Rattle.std.specs.Prelude.{ℕ, ◌≡◌, ◌++◌, nat_lt, Bool, true, false, List, [], length, Option, Some, None}
use Rattle.std.specs.Prelude.{Result, Ok, Err}
use Rattle.ps_model.specs.BlockText.{newline}
use Rattle.ps_model.specs.declared.job.JobData.{JobData}
use Rattle.script.specs.Blocks.{block_said}
use Rattle.script.specs.Header.{Header, Said, HeaderSays}
use Rattle.script.specs.Header as header
use Rattle.script.specs.Words.{is_skipped}
use Rattle.script.specs.declared.refusal.Refusal.{Refusal}
use Rattle.script.specs.declared.refusal.Refusal.TheVariants.{LineTooLong}

pub data State : Type 0 where
  Begun : Header → State
  Has : List (List ℕ) → JobData → State
  Reads : List (List ℕ) → JobData → ℕ → List ℕ → State

abbrev pub header_outcome : Said → Result State Refusal
header_outcome (header.Longer h) = Ok (Begun h)
header_outcome (header.Makes names job) = Ok (Has names job)
header_outcome (header.Refused f) = Err f

abbrev pub block_outcome : List (List ℕ) → JobData → ℕ → Option Refusal → Result State Refusal
block_outcome names job n None = Ok (Reads names job n [])
block_outcome names job n (Some f) = Err f

-- a line that isn't skipped
abbrev pub ContentDoes : State → ℕ → List ℕ → Result State Refusal → Type 0
ContentDoes (Begun h) n line r = (said : Said) × HeaderSays h line said × (r ≡ header_outcome said)
ContentDoes (Has names job) n line r = r ≡ block_outcome names job n (block_said line)
ContentDoes (Reads names job first text) n line r = r ≡ Ok (Reads names job first (text ++ line ++ newline))

-- by whether the line is too long, and whether it is skipped
abbrev pub CaseDoes : Bool → Bool → State → ℕ → List ℕ → Result State Refusal → Type 0
CaseDoes true skipped s n line r = r ≡ Err LineTooLong
CaseDoes false true s n line r = r ≡ Ok s
CaseDoes false false s n line r = ContentDoes s n line r

-- up to the line `block`
abbrev pub LineDoes : State → ℕ → List ℕ → Result State Refusal → Type 0
LineDoes s n line r = CaseDoes (nat_lt 65536 (length line)) (is_skipped line) s n line r

abbrev pub Does : State → ℕ → List ℕ → Result State Refusal → Type 0
Does (Begun h) n line r = LineDoes (Begun h) n line r
Does (Has names job) n line r = LineDoes (Has names job) n line r
Does (Reads names job first text) n line r = ContentDoes (Reads names job first text) n line r
