-- What a sink with a given room keeps, and what a push does to it.
--     Store      the bytes written, how many more fit, the most that a push takes, and
--         the count of faults
--     taken_of store piece      how many bytes of a piece the next push takes
--     Pushes old new piece answer      Took n: that many bytes are added and their room is gone,
--         nothing else changes; Failed: no room was left, and the count of faults is raised,
--         nothing else changes
--     IsStore len capacity size bite      a push takes at least one byte, and the bytes have their
--         whole room reserved
use Rattle.std.specs.Prelude.{◌≡◌, ℕ, ◌-◌, ◌≤◌, List, ◌++◌, length, min, take}
use Rattle.ports.specs.Faults.{raised}
use Rattle.ports.specs.declared.sink.Pushed.{Pushed}
use Rattle.ports.specs.declared.sink.Pushed.TheVariants.{Took, Failed}

pub record Store : Type 0 where
  pub bytes : List ℕ
  pub room : ℕ
  pub bite : ℕ
  pub faults : ℕ

abbrev pub taken_of : Store → List ℕ → ℕ
taken_of store piece = min (min (length piece) store.bite) store.room

abbrev pub Pushes : Store → Store → List ℕ → Pushed → Type 0
Pushes old new piece (Took n) =
    (n ≡ taken_of old piece) × (new ≡ record old { bytes = old.bytes ++ take n piece; room = old.room - n })
Pushes old new piece Failed = (old.room ≡ 0) × (new ≡ record old { faults = raised old.faults })

pub record IsStore (len capacity size bite : ℕ) : Type 0 where
  pub bites : 1 ≤ bite
  pub fits : size ≤ 4194304
  pub within : len ≤ size
  pub reserved : size ≤ capacity
