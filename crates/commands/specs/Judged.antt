-- What the steps of judging a block did.
--     IsBlockBy names job text D lead factors      the text is this block of the job
--     IsBlockOf names job D lead factors      some text is
--     IsReadOf names job text result      what was read of the text: its block, or why it is none
--     behind_of behind      what is behind the block's lines
--     refused_text known k f n behind      the line that refuses the script for a block, by whether line k is before n
--     RefusesBlock ws e first n behind why ..      that line was written, or a beginning of it
use Rattle.std.specs.Prelude.{◌≡◌, ℕ, ◌+◌, nat_lt, Bool, true, false, List, [], Option, Result, IfOk, IfErr}
use Rattle.ps_model.specs.declared.job.JobData.{JobData}
use Rattle.parts.specs.declared.rings.Ring.{Ring}
use Rattle.expr_reader.specs.NameLists.{as_names}
use Rattle.printer.specs.ReadBlock.{variable_names}
use Rattle.printer.specs.ReadText.{Coefficients, IsBlock, IsRefused}
use Rattle.printer.specs.declared.block_error.BlockError.{BlockError}
use Rattle.printer.specs.declared.block_error.BlockError.TheVariants.{OutOfMemory}
use Rattle.printer.specs.declared.reading.Block.{Block}
use Rattle.script.specs.Refusals.{line_refused, end_refused}
use Rattle.script.specs.declared.refusal.Refusal.{Refusal}
use Rattle.script.specs.declared.refusal.Refusal.TheVariants.{InputTooLong}
use Rattle.commands.specs.Checks.{Behind, GoesOn, Ends, IsTooLong}
use Rattle.commands.specs.Judging.{IsSeen, Tells}
use Rattle.commands.specs.Lines.{Refuses}
use Rattle.commands.specs.declared.judging.Behind as code
use Rattle.commands.specs.declared.judging.Behind.TheVariants as behind
use Rattle.commands.specs.declared.stop.Stop.{Stop}
use Rattle.commands.specs.declared.stop.Stop.TheVariants as stop

abbrev pub IsBlockBy : List (List ℕ) → JobData → List ℕ → ℕ → Option Coefficients → List Coefficients → Type 0
IsBlockBy names job text D lead factors =
    (ring : Ring) × (shown : Bool) × IsSeen job ring shown
    × IsBlock ring (variable_names ring (as_names names)) job.roots shown text D lead factors

abbrev pub IsBlockOf : List (List ℕ) → JobData → ℕ → Option Coefficients → List Coefficients → Type 0
IsBlockOf names job D lead factors = (text : List ℕ) × IsBlockBy names job text D lead factors

pub record IsReadOf (names : List (List ℕ)) (job : JobData) (text : List ℕ) (result : Result Block BlockError) :
    Type 0 where
  pub ring : Ring
  pub shown : Bool
  pub seen : IsSeen job ring shown
  pub block : IfOk result (λ b. IsBlock ring (variable_names ring (as_names names)) job.roots shown text b.precision
      b.lead b.factors.items)
  pub refused : IfErr result (IsRefused ring (variable_names ring (as_names names)) job.roots shown text)

abbrev pub behind_of : code.Behind → Behind
behind_of behind.End = Ends
behind_of behind.TooLong = IsTooLong

abbrev pub refused_text : Bool → ℕ → Refusal → ℕ → Behind → List ℕ
refused_text true k f n behind = line_refused k f
refused_text false k f n GoesOn = []
refused_text false k f n Ends = end_refused f
refused_text false k f n IsTooLong = line_refused n InputTooLong

pub record RefusesBlock (ws : List ℕ) (e : BlockError) (first n : ℕ) (behind : Behind) (why : Stop)
    (old new : Option (List ℕ)) (before now : ℕ) : Type 0 where
  pub told : (k : ℕ) (f : Refusal) → Tells ws e k f
      → Refuses why old new before now (refused_text (nat_lt (first + k) n) (first + k) f n behind)
  pub no_memory : e ≡ OutOfMemory → (why ≡ stop.OutOfMemory) × (new ≡ old) × (now ≡ before)
