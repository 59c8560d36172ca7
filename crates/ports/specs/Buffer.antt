-- What a buffer of pulled bytes keeps true.
--     IsBuffer bytes filled scanned place ended start stop number      the bytes below `filled`
--         were pulled, no newline stands from `place` up to `scanned`, the last line's text stands
--         from `start` up to `stop`, and each line took a byte
use Rattle.std.specs.Prelude.{◌≡◌, ℕ, ◌≤◌, Bool, true, List, length, take, drop}
use Rattle.ports.specs.Reading.{HasNoNewline}

pub record IsBuffer (bytes : List ℕ) (filled scanned place : ℕ) (ended : Bool) (start stop number : ℕ) : Type 0 where
  pub size : length bytes ≡ 1048577
  pub fits : filled ≤ 1048577
  pub behind : scanned ≤ filled
  pub limit : scanned ≤ 1048576
  pub before : place ≤ scanned
  pub searched : HasNoNewline (drop place (take scanned bytes))
  pub text : start ≤ stop
  pub past : stop ≤ place
  pub counted : number ≤ place
  pub over : ended ≡ true → filled ≤ 1048576
