-- Stages that step in any order. A schedule is a list of stages, each of which is an event.
--     may_gain lengths s      whether stage s may gain its next item where the rows have these lengths: the first stage
--         always may, a later one where the row before its own is longer
--     after_event lengths s      the lengths after an event of stage s: one item more where it may gain one
--     lengths_after lengths events      the lengths after all events, one after the other
--     lengths_in states      the lengths of the rows
use Rattle.std.specs.Prelude.{ℕ, ◌+◌, ◌-◌, Bool, ◌==◌, ◌||◌, nat_lt, if◌then◌else◌, List, [], ◌∷◌, length, map}
use Rattle.std.specs.Prelude.{slice_index, slice_set}
use Rattle.stages.specs.States.{StageState}

abbrev pub may_gain : List ℕ → ℕ → Bool
may_gain lengths s = (s == 0) || nat_lt (slice_index lengths s) (slice_index lengths (s - 1))

abbrev pub after_event : List ℕ → ℕ → List ℕ
after_event lengths s =
    if may_gain lengths s then slice_set lengths s (slice_index lengths s + 1) else lengths

abbrev pub lengths_after : List ℕ → List ℕ → List ℕ
lengths_after lengths [] = lengths
lengths_after lengths (s ∷ events) = lengths_after (after_event lengths s) events

abbrev pub lengths_in : List StageState → List ℕ
lengths_in states = map (λ s. length s.items) states
