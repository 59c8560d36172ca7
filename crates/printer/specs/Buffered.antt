-- What a private call did with its sink and with the bytes that a buffer holds for it.
--     Sends old new held kept text      of the bytes held and the text behind them a beginning was added to what was
--         written, and the others are kept
--     Buffered result old new held kept before now text      Ok: it sent so, and no fault was counted; a fault: of the
--         bytes held and the text a beginning was added, not the whole, and the count rose
use Rattle.std.specs.Prelude.{◌≡◌, ℕ, ◌≤◌, List, ◌++◌, Option, Result, OnOk, OnErr}
use Rattle.ports.specs.Bytes.{WritesAll, WritesPart}
use Rattle.ports.specs.Faults.{Rose}

pub record Sends (old new : Option (List ℕ)) (held kept text : List ℕ) : Type 0 where
  pub sent : List ℕ
  pub written : WritesAll old new sent
  pub is : sent ++ kept ≡ held ++ text

pub record Buffered {A E : Type 0} (result : Result A E) (old new : Option (List ℕ)) (held kept : List ℕ)
    (before now : ℕ) (text : List ℕ) : Type 0 where
  pub ok : OnOk result (Sends old new held kept text)
  pub no_fault : OnOk result (now ≡ before)
  pub err : OnErr result (WritesPart old new (held ++ text))
  pub fault : OnErr result (Rose before now)
  pub faults : before ≤ now
