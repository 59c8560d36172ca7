-- What is written for the lines of an input, in order.
--     Item      a line, without its newline and one return before it; or a line that needs byte 1,048,577
--     items_of ended bytes      the lines of bytes; `ended` tells whether the input ends behind them, where a last
--         line needs no newline
--     Outcome      what a line does: nothing, to another state, a request, or a refusal
--     IsWritten s n items text after asked      the items from line n on, in the state s, ask these requests, each in
--         its state, whose answers are this text, behind it the line that refuses one of the items; after is the state
--         behind them, None behind a refusal
use Rattle.std.specs.Prelude.{ℕ, suc, ◌≡◌, ◌==◌, nat_le, if◌then◌else◌, Bool, false, List, [], ◌∷◌, ◌++◌}
use Rattle.std.specs.Prelude.{Option, Some, None, length, map, take}
use Rattle.ports.specs.Reading.{without_return}
use Rattle.script.specs.Refusals.{line_refused}
use Rattle.script.specs.declared.refusal.Refusal.{Refusal}
use Rattle.script.specs.declared.refusal.Refusal.TheVariants as refusal

pub data Item : Type 0 where
  Line : List ℕ → Item
  TooLong : Item

-- the line that was begun, at the end of the input
abbrev pub last_line : Bool → List ℕ → List (List ℕ)
last_line ended [] = []
last_line ended (b ∷ line) = if ended then (b ∷ line) ∷ [] else []

abbrev pub lines_behind : Bool → List ℕ → List ℕ → List (List ℕ)
lines_behind ended line [] = last_line ended line
lines_behind ended line (b ∷ bytes) =
    if b == 10 then line ∷ lines_behind ended [] bytes else lines_behind ended (line ++ b ∷ []) bytes

abbrev pub items_behind : Bool → List ℕ → List Item
items_behind ended bytes = map (λ line. Line (without_return line)) (lines_behind ended [] bytes)

abbrev pub items_of : Bool → List ℕ → List Item
items_of ended bytes =
    if nat_le (length bytes) 1048576 then items_behind ended bytes
    else items_behind false (take 1048576 bytes) ++ TooLong ∷ []

pub data Outcome (State Request : Type 0) : Type 0 where
  Skips : Outcome State Request
  Becomes : State → Outcome State Request
  Asks : Request → Outcome State Request
  Refuses : Refusal → Outcome State Request

module _ {State Request : Type 0} (Does : State → List ℕ → Outcome State Request → Type 0)
    (Answers : State → Request → List ℕ → Type 0) where
  -- what a line does, and what is written behind it, which Rest tells of the state behind it
  abbrev pub IsFollowed : (State → List ℕ → Option State → List (State × Request) → Type 0) → State → ℕ
      → Outcome State Request → List ℕ → Option State → List (State × Request) → Type 0
  IsFollowed Rest s n Skips text after asked = Rest s text after asked
  IsFollowed Rest s n (Becomes t) text after asked = Rest t text after asked
  IsFollowed Rest s n (Asks r) text after asked =
      (answer : List ℕ) × (more : List ℕ) × (later : List (State × Request)) × Answers s r answer
      × Rest s more after later × (text ≡ answer ++ more) × (asked ≡ (s, r) ∷ later)
  IsFollowed Rest s n (Refuses f) text after asked =
      (text ≡ line_refused n f) × (after ≡ None) × (asked ≡ [])

  abbrev pub IsWritten : State → ℕ → List Item → List ℕ → Option State → List (State × Request) → Type 0
  IsWritten s n [] text after asked = (text ≡ []) × (after ≡ Some s) × (asked ≡ [])
  IsWritten s n (TooLong ∷ items) text after asked =
      IsFollowed (λ t more later rest. ⊥) s n (Refuses refusal.InputTooLong) text after asked
  IsWritten s n (Line line ∷ items) text after asked =
      (o : Outcome State Request) × Does s line o
      × IsFollowed (λ t. IsWritten t (suc n) items) s n o text after asked
