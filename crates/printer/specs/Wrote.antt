-- What a call that writes did with its sink.
--     Wrote result old new before now text      Ok: the text was added to what was written, and no fault was
--         counted; a fault: a beginning of the text was added, not the whole, and the count rose
use Rattle.std.specs.Prelude.{◌≡◌, ℕ, ◌≤◌, List, Option, Result, OnOk, OnErr}
use Rattle.ports.specs.Bytes.{WritesAll, WritesPart}
use Rattle.ports.specs.Faults.{Rose}

pub record Wrote {A E : Type 0} (result : Result A E) (old new : Option (List ℕ)) (before now : ℕ) (text : List ℕ) :
    Type 0 where
  pub ok : OnOk result (WritesAll old new text)
  pub no_fault : OnOk result (now ≡ before)
  pub err : OnErr result (WritesPart old new text)
  pub fault : OnErr result (Rose before now)
  pub faults : before ≤ now
