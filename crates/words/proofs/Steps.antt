-- One word of a walk, by what it looks like.
use Rattle.std.proofs.Common.{◌≡◌, ◌∙◌, ap, ℕ, Bool, false, cond, List, [], ◌∷◌, Option, None}
use Rattle.std.specs.List.{fold}
use Rattle.std.specs.Option.{option_map_or}
use Rattle.std.specs.Str.{bytes_eq}
use Rattle.clap.specs.Lexer.{long_of, short_of}
use Rattle.clap.specs.Walk.{Held, Names, Step, Text, Waiting, Walk, after_step, long_or_other, short_or_plain}
use Rattle.clap.specs.Walk.{subcommand_met}
use Rattle.clap.specs.Walk.{subcommand_or_other, trailing, walked}
use Rattle.clap.specs.Simple.{Shape}
use Rattle.clap.specs.Kinds.{Kinds, or_else}
use Rattle.clap.specs.Faults.{bundle_fault, flag_word_fault, other_fault, settle_fault, step_fault, turn_fault}
use Rattle.clap.specs.Faults.{walk_fault}
use Rattle.words.proofs.Plain.{both_pass}

abbrev pub dashes : Text
dashes = 45 ∷ 45 ∷ []

-- a walk that goes on
abbrev pub at : Held → Waiting → ℕ → Walk
at h waiting position =
    record { held = h; waiting = waiting; position = position; is_trailing = false; stopped = None }

-- the words from here on have no fault
pub record Passes (s : Shape) (names : Names) (w : Walk) (words : List Text) : Type 0 where
  pub walk : walk_fault s names w words ≡ []
  pub settles : settle_fault s.rules s.args_override_self (fold (walked s.rules names) w words).held ≡ []

pub passes_more : (s : Shape) (names : Names) (w : Walk) (word : Text) (rest : List Text)
    → Passes s names w (word ∷ rest)
    → (turn_fault s names w word ≡ []) × Passes s names (walked s.rules names w word) rest
unfolding walk_fault
passes_more s names w word rest p =
    let parts = both_pass (turn_fault s names w word) (walk_fault s names (walked s.rules names w word) rest) p.walk in
    (parts.0, record { walk = parts.1; settles = p.settles })

module _ (s : Shape) (names : Names) (h : Held) (waiting : Waiting) (position : ℕ) (word : Text) where
  abbrev by_name : Option Text → Held × Step
  by_name met = subcommand_or_other s.rules met waiting position word h

  abbrev by_end : Bool → Option (Text × Option Text) → Held × Step
  by_end ends long = cond ends (h, trailing position) (long_or_other s.rules waiting word long h)

  -- the fault of a word that names no subcommand and isn't `--`, by its form
  abbrev pub long_turn : Bool → Option (Text × Option Text) → Kinds
  long_turn ends long = or_else (cond ends [] (flag_word_fault s.rules s.args_override_self long word h))
      (step_fault s position (by_end ends long).0 (by_end ends long).1)

  abbrev pub short_turn : Option Text → Kinds
  short_turn short = or_else (option_map_or (λ flags. bundle_fault s.rules s.args_override_self flags h) short [])
      (step_fault s position (short_or_plain s.rules waiting word short h).0 (short_or_plain s.rules waiting word
      short h).1)

  -- the walk behind it
  abbrev pub long_next : Bool → Option (Text × Option Text) → Walk
  long_next ends long = after_step s.rules word (at h waiting position) (by_end ends long).0 (by_end ends long).1

  abbrev pub short_next : Option Text → Walk
  short_next short = after_step s.rules word (at h waiting position) (short_or_plain s.rules waiting word short h).0
      (short_or_plain s.rules waiting word short h).1

  abbrev name_turn : Option Text → Kinds
  name_turn met = or_else (other_fault s met word h) (step_fault s position (by_name met).0 (by_name met).1)

  abbrev name_next : Option Text → Walk
  name_next met = after_step s.rules word (at h waiting position) (by_name met).0 (by_name met).1

  module _ (unnamed : subcommand_met names waiting word ≡ None) (goes_on : bytes_eq word dashes ≡ false) where
    pub long_turn-is : (long : Option (Text × Option Text)) → long_of word ≡ long
        → turn_fault s names (at h waiting position) word ≡ long_turn false long
    long_turn-is long e = ap name_turn unnamed ∙ (λ i. long_turn (goes_on i) (e i))

    pub long_next-is : (long : Option (Text × Option Text)) → long_of word ≡ long
        → walked s.rules names (at h waiting position) word ≡ long_next false long
    unfolding walked
    long_next-is long e = ap name_next unnamed ∙ (λ i. long_next (goes_on i) (e i))

    pub short_turn-is : (short : Option Text) → long_of word ≡ None → short_of word ≡ short
        → turn_fault s names (at h waiting position) word ≡ short_turn short
    short_turn-is short none e = long_turn-is None none ∙ ap short_turn e

    pub short_next-is : (short : Option Text) → long_of word ≡ None → short_of word ≡ short
        → walked s.rules names (at h waiting position) word ≡ short_next short
    short_next-is short none e = long_next-is None none ∙ ap short_next e
