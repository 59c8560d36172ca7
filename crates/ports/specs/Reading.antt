-- Lines of what was pulled from a source, and what a call that takes the next line does.
--     Reading      the bytes pulled so far, the place of the first byte behind the last line,
--         whether the source has ended, and the last line's text and number; before the first line
--         the text is empty and the number 0
--     rest_of r      the bytes pulled behind the last line
--     HasNoNewline bytes      no byte is 10
--     without_return line      the line without one 13 at its end; [] stays
--     IsLine bytes ended line      the bytes begin with this whole line: behind it a newline, or
--         the end, where the source has ended and the line isn't empty
--     TakesLine old new      the next line's text and number are there, and the place is behind it
--         and its newline
--     NeedsLastByte r      byte 1,048,577 is there, and no newline before it: the next line needs
--         that byte
--     HoldsLine r      a newline is there behind the last line: a whole line
--     KeepsLine old new      the last line, its number and the place behind it are as they were
--     EndsBefore r k      the next line ends before the newline at place k
--     PullsMore old new left left'      some bytes more were pulled and kept, and
--         the source gave them
use Rattle.std.specs.Prelude.{◌≡◌, ◌≢◌, ℕ, ◌+◌, ◌<◌, ◌≤◌, ◌⊎◌, ◌==◌, if◌then◌else◌, Bool, true, List, [], ◌∷◌, ◌++◌}
use Rattle.std.specs.Prelude.{Option, length, slice_index, take, drop}
use Rattle.std.specs.List.{All, Contains}
use Rattle.ports.specs.Bytes.{TakesBytes}

-- what a contract sees of the lines
pub record Reading : Type 0 where
  pub pulled : List ℕ
  pub place : ℕ
  pub ended : Bool
  pub text : List ℕ
  pub number : ℕ

-- the bytes behind the last line
abbrev pub rest_of : Reading → List ℕ
rest_of r = drop r.place r.pulled

-- a newline is the byte 10
abbrev pub HasNoNewline : List ℕ → Type 0
HasNoNewline bytes = All (λ b. b ≢ 10) bytes

-- one 13 at the end goes, and no more
abbrev pub without_return : List ℕ → List ℕ
without_return [] = []
without_return (b ∷ []) = if b == 13 then [] else b ∷ []
without_return (b ∷ c ∷ bytes) = b ∷ without_return (c ∷ bytes)

-- a line and the newline behind it, or the line with which the input ends
abbrev pub IsLine : List ℕ → Bool → List ℕ → List ℕ → Type 0
IsLine bytes ended line rest =
    HasNoNewline line ×
    ((bytes ≡ line ++ 10 ∷ rest) ⊎ ((ended ≡ true) × (line ≢ []) × (bytes ≡ line) × (rest ≡ [])))

-- what the answer `Line` says
pub record TakesLine (old new : Reading) : Type 0 where
  pub line : List ℕ
  pub is_line : IsLine (drop old.place new.pulled) new.ended line (rest_of new)
  pub text : new.text ≡ without_return line
  pub number : new.number ≡ old.number + 1
  pub within : new.place ≤ 1048576

-- what the answer `InputTooLong` says
pub record NeedsLastByte (r : Reading) : Type 0 where
  pub full : length r.pulled ≡ 1048577
  pub no_line : HasNoNewline (drop r.place (take 1048576 r.pulled))

-- no pull is needed for the next line
abbrev pub HoldsLine : Reading → Type 0
HoldsLine r = Contains (rest_of r) 10

-- what the other answers say of the last line
pub record KeepsLine (old new : Reading) : Type 0 where
  pub text : new.text ≡ old.text
  pub number : new.number ≡ old.number
  pub place : new.place ≡ old.place

-- what was pulled in a call from a source with these bytes left before and after
abbrev pub PullsMore : Reading → Reading → Option (List ℕ) → Option (List ℕ) → Type 0
PullsMore old new left left' =
    (more : List ℕ) × (new.pulled ≡ old.pulled ++ more) × TakesBytes left left' more

-- the next line ends before the newline at place k
pub record EndsBefore (r : Reading) (k : ℕ) : Type 0 where
  pub from : r.place ≤ k
  pub within : k < length r.pulled
  pub limit : k < 1048576
  pub newline : slice_index r.pulled k ≡ 10
  pub first : HasNoNewline (drop r.place (take k r.pulled))
