-- The rule of the word that tells how many items of a row are published.
--     start      what the writer of a new row knows: nothing is published, and it is the one that publishes
--     nothing_told      what a new reader knows, and a note that is spent
--     told_by v      what a note of v tells
--     learnt v w      v after it was told w: the greater number
--     known holder      what a holder of the word knows
--     Within count writer place v      no more than count is known at this place; the writer's place alone publishes,
--         and there the count is known
--     KnowsLengths state      the rule: so it is at each place, for the number in the word
--     IsRaised step old found new      the word was set to a number, which is known then
--     name_of table      which word it is, and so which row
use Rattle.std.specs.Prelude.{◌≡◌, ℕ, ◌≤◌, List, ◌∷◌, [], length, slice_index, max, true, false}
use mathlib.Core.Option.{some}
use lib.ListN.{get_elem?}
use Rattle.atomic_table.specs.Table.{State, Me, Step}
use Rattle.atomic_table.specs.Seated.{TableId}
use Rattle.atomic_table.specs.declared.shared.Seat.{Seat}
use Rattle.rows.specs.declared.published_length.KnownLength.{KnownLength}

abbrev pub start : KnownLength
start = record { count = 0; publishes = true }

abbrev pub nothing_told : KnownLength
nothing_told = record { count = 0; publishes = false }

abbrev pub told_by : KnownLength → KnownLength
told_by v = record { count = v.count; publishes = false }

abbrev pub learnt : KnownLength → KnownLength → KnownLength
learnt v w = record { count = max v.count w.count; publishes = v.publishes }

abbrev pub known : Seat (Unit {0}) KnownLength → KnownLength
known holder = holder.me.0

abbrev pub Within : ℕ → ℕ → ℕ → KnownLength → Type 0
Within count writer place v = (v.count ≤ count) × (v.publishes ≡ true → (place ≡ writer) × (v.count ≡ count))

pub record KnowsLengths (state : State (Unit {0}) KnownLength) : Type 0 where
  pub writer : ℕ
  pub one_word : length state.words ≡ 1
  pub each_place : (place : ℕ) (v : KnownLength) → get_elem? state.views place ≡ some v
      → Within (slice_index state.words 0) writer place v

abbrev pub IsRaised : Step (Unit {0}) → Me (Unit {0}) KnownLength → ℕ → Me (Unit {0}) KnownLength → Type 0
IsRaised step old found new = (new.0 ≡ record { count = step.first; publishes = true }) × (new.1 ≡ old.1)

abbrev pub name_of : TableId → List ℕ
name_of z = z.words ∷ z.slots ∷ z.views_name ∷ z.atom ∷ z.block ∷ z.offset ∷ z.slot_names
