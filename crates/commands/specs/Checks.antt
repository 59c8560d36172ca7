-- What `check` writes for its input, the status, and its steps.
--     Behind      what is behind lines: an input that goes on, of which nothing is known; its end; or a line that needs
--         byte 1,048,577
--     IsLacking n f behind text status steps      what is told behind the lines before line n, where f is missing
--     IsTold s n behind text status steps      the same, where no line was refused and they led to the state s
--     IsCheckedFrom ended s n items text status steps      what is told of the items from line n on, in the state s;
--         `ended` tells whether the input ends behind them
--     IsChecked ended bytes text status steps      of all lines of these bytes
--     Leads s n items t      each item from line n on is a line that isn't refused, and they lead from the state s to t
use Rattle.std.specs.Prelude.{◌≡◌, ◌⊎◌, ℕ, suc, ◌+◌, ◌*◌, nat_lt, if◌then◌else◌, Bool, true, false, List, [], ◌∷◌}
use Rattle.std.specs.Prelude.{length, Option, Result, Ok, Err}
use Rattle.ps_model.specs.declared.job.JobData.{JobData}
use Rattle.parts.specs.declared.rings.Ring.{Ring}
use Rattle.expr_reader.specs.NameLists.{as_names}
use Rattle.printer.specs.ReadBlock.{variable_names}
use Rattle.comparison.specs.declared.place.Place.{Place}
use Rattle.script.specs.Answers.{Item, Line, TooLong, items_of}
use Rattle.script.specs.Checking.{State, Begun, Has, Reads, Does}
use Rattle.script.specs.Header.{Empty, keyword_due}
use Rattle.script.specs.Refusals.{line_refused, end_refused}
use Rattle.script.specs.declared.refusal.Keyword.TheVariants.{Block}
use Rattle.script.specs.declared.refusal.Refusal.{Refusal}
use Rattle.script.specs.declared.refusal.Refusal.TheVariants.{InputTooLong, Expected}
use Rattle.commands.specs.Judging.{IsSeen, IsRefusedAt, IsCompared, verdict_text, verdict_status}

pub data Behind : Type 0 where
  GoesOn : Behind
  Ends : Behind
  IsTooLong : Behind

abbrev pub IsRefusal : List ℕ → List ℕ → ℕ → ℕ → Type 0
IsRefusal line text status steps = (text ≡ line) × (status ≡ 1) × (steps ≡ 0)

abbrev pub IsNothing : List ℕ → ℕ → ℕ → Type 0
IsNothing text status steps = (text ≡ []) × (status ≡ 0) × (steps ≡ 0)

abbrev pub IsLacking : ℕ → Refusal → Behind → List ℕ → ℕ → ℕ → Type 0
IsLacking n f GoesOn text status steps = IsNothing text status steps
IsLacking n f Ends text status steps = IsRefusal (end_refused f) text status steps
IsLacking n f IsTooLong text status steps = IsRefusal (line_refused n InputTooLong) text status steps

-- a block's line that is refused, by whether it is one of the lines before line n
abbrev pub IsToldAt : Bool → ℕ → Refusal → ℕ → Behind → List ℕ → ℕ → ℕ → Type 0
IsToldAt true k f n behind text status steps = IsRefusal (line_refused k f) text status steps
IsToldAt false k f n behind text status steps = IsLacking n f behind text status steps

-- a block that is whole
abbrev pub IsVerdict : JobData → ℕ → Option Place → ℕ → Behind → List ℕ → ℕ → ℕ → Type 0
IsVerdict job D place n GoesOn text status steps = IsNothing text status steps
IsVerdict job D place n Ends text status steps =
    (text ≡ verdict_text place) × (status ≡ verdict_status place) × (steps ≡ length job.roots * suc D)
IsVerdict job D place n IsTooLong text status steps = IsRefusal (line_refused n InputTooLong) text status steps

-- the block whose lines, from line first + 1 to line n - 1, are this
abbrev pub IsJudged : List (List ℕ) → JobData → Ring → Bool → ℕ → List ℕ → ℕ → Behind → List ℕ → ℕ → ℕ → Type 0
IsJudged names job ring shown first block n behind text status steps =
    ((k : ℕ) × (f : Refusal) × IsRefusedAt names job ring shown block k f
    × IsToldAt (nat_lt (first + k) n) (first + k) f n behind text status steps)
    ⊎ ((D : ℕ) × (place : Option Place) × IsCompared names job ring shown block D place
    × IsVerdict job D place n behind text status steps)

abbrev pub IsTold : State → ℕ → Behind → List ℕ → ℕ → ℕ → Type 0
IsTold (Begun h) n behind text status steps = IsLacking n (Expected (keyword_due h)) behind text status steps
IsTold (Has names job) n behind text status steps = IsLacking n (Expected Block) behind text status steps
IsTold (Reads names job first block) n behind text status steps =
    (ring : Ring) × (shown : Bool) × IsSeen job ring shown
    × IsJudged (variable_names ring (as_names names)) job ring shown first block n behind text status steps

-- what a line does, and what is told behind it, which Rest tells of the state behind it
abbrev pub IsFollowed : (State → List ℕ → ℕ → ℕ → Type 0) → ℕ → Result State Refusal → List ℕ → ℕ → ℕ → Type 0
IsFollowed Rest n (Ok t) text status steps = Rest t text status steps
IsFollowed Rest n (Err f) text status steps = IsRefusal (line_refused n f) text status steps

module _ (ended : Bool) where
  abbrev pub IsCheckedFrom : State → ℕ → List Item → List ℕ → ℕ → ℕ → Type 0
  IsCheckedFrom s n [] text status steps = IsTold s n (if ended then Ends else GoesOn) text status steps
  IsCheckedFrom s n (TooLong ∷ items) text status steps = IsTold s n IsTooLong text status steps
  IsCheckedFrom s n (Line line ∷ items) text status steps =
      (r : Result State Refusal) × Does s n line r
      × IsFollowed (λ t. IsCheckedFrom t (suc n) items) n r text status steps

  abbrev pub IsChecked : List ℕ → List ℕ → ℕ → ℕ → Type 0
  IsChecked bytes = IsCheckedFrom (Begun Empty) 1 (items_of ended bytes)

abbrev pub Leads : State → ℕ → List Item → State → Type 0
Leads s n [] t = t ≡ s
Leads s n (TooLong ∷ items) t = ⊥
Leads s n (Line line ∷ items) t = (u : State) × Does s n line (Ok u) × Leads u (suc n) items t
