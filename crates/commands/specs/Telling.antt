-- What a step of `check` did, by what the definition tells: Told text status steps.
--     IsAnswer status      the whole text was written
--     TellsAll Told status ..      what is told was written, and nothing else is told; the tally grew by its steps
--     TellsPart Told ..      a beginning of each text that is told, in no more steps
--     Tells Told status ..      the one or the other, by the status; of the sink the bytes written and the count of
--         faults, before and now, and the tally
--     check_status result      the status of a run of `check`
--     TellsVerdict place result ..      the verdict was written; else a beginning of it
use Rattle.std.specs.Prelude.{◌≡◌, ◌≢◌, ℕ, ◌+◌, ◌≤◌, ◌⊎◌, List, Option, Result, Ok, Err, IfOk, IfErr}
use Rattle.ports.specs.Bytes.{WritesAll}
use Rattle.ports.specs.Faults.{Rose}
use Rattle.comparison.specs.declared.place.Place.{Place}
use Rattle.commands.specs.Calls.{WritesBeginning}
use Rattle.commands.specs.Judging.{verdict_text, verdict_status}
use Rattle.commands.specs.Lines.{Refuses}
use Rattle.commands.specs.Statuses.{status_of, status_by}
use Rattle.commands.specs.declared.stop.Stop.{Stop}
use Rattle.commands.specs.declared.stop.Stop.TheVariants.{Refused}
use Rattle.commands.specs.declared.verdict.Verdict.{Verdict}

abbrev pub IsAnswer : ℕ → Type 0
IsAnswer status = (status ≤ 2) ⊎ (status ≡ 6)

module _ (Told : List ℕ → ℕ → ℕ → Type 0) where
  pub record TellsAll (status : ℕ) (old new : Option (List ℕ)) (tally tally' : ℕ) : Type 0 where
    pub text : List ℕ
    pub steps : ℕ
    pub is : Told text status steps
    pub only : (t : List ℕ) (s n : ℕ) → Told t s n → (t ≡ text) × (s ≡ status) × (n ≡ steps)
    pub writes : WritesAll old new text
    pub spends : tally' ≡ tally + steps

  pub record TellsPart (old new : Option (List ℕ)) (tally tally' : ℕ) : Type 0 where
    pub writes : (t : List ℕ) (s n : ℕ) → Told t s n → WritesBeginning old new t
    pub more : tally ≤ tally'
    pub at_most : (t : List ℕ) (s n : ℕ) → Told t s n → tally' ≤ tally + n

  pub record Tells (status : ℕ) (old new : Option (List ℕ)) (before now tally tally' : ℕ) : Type 0 where
    pub all : IsAnswer status → TellsAll status old new tally tally'
    pub part : (status ≡ 4) ⊎ (status ≡ 5) → TellsPart old new tally tally'
    pub cause : status ≡ 4 → Rose before now
    pub no_read : status ≢ 3
    pub low : status ≤ 6
    pub faults : before ≤ now

abbrev pub check_status : Result Verdict Stop → ℕ
check_status (Ok verdict) = status_by verdict
check_status (Err e) = status_of e

pub record TellsVerdict (place : Option Place) (result : Result Verdict Stop) (old new : Option (List ℕ))
    (before now : ℕ) : Type 0 where
  pub ok : IfOk result (λ verdict. (status_by verdict ≡ verdict_status place)
      × WritesAll old new (verdict_text place))
  pub err : IfErr result (λ e. (e ≢ Refused) × Refuses e old new before now (verdict_text place))
  pub faults : before ≤ now
