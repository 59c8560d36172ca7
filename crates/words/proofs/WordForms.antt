-- Words that a subcommand refuses, whatever stands behind them.
use Rattle.std.proofs.Common.{◌≡◌, ◌∙◌, sym, ap, refl, ℕ, suc, zero, Bool, true, false, cond, List, [], ◌∷◌, length}
use Rattle.std.proofs.Common.{drop, Option, Some, None, ◌==◌, ap₂}
use Rattle.std.specs.Prelude.{encode_utf8, option_and_then, slice_get}
use Rattle.std.specs.Option.{option_map_or}
use Rattle.std.specs.Str.{bytes_eq, chars}
use Rattle.clap.specs.Lexer.{long_of, short_of, short_of_rest}
use Rattle.clap.specs.Walk.{Held, Names, Outcome, Row, Rule, Step, Text, Waiting, Walk, after_flag, after_step}
use Rattle.clap.specs.Walk.{arg_by_index}
use Rattle.clap.specs.Walk.{arg_by_long, arg_by_short, bundle_met, bundle_step, idle, plain, plain_word}
use Rattle.clap.specs.Walk.{subcommand_met, walked}
use Rattle.clap.specs.Simple.{Shape}
use Rattle.clap.specs.Kinds.{Kinds, or_else}
use Rattle.clap.specs.Faults.{bundle_step_fault, flags_fault, long_fault, positional_fault, short_fault, step_fault}
use Rattle.clap.specs.Faults.{stray_fault}
use Rattle.clap.specs.Faults.{turn_fault}
use Rattle.clap.specs.declared.error.kind.ErrorKind.TheVariants.{UnknownArgument, InvalidSubcommand}
use Rattle.words.proofs.Plain.{both_pass, not_empty, some≢none, the_same}
use Rattle.words.proofs.Steps.{at, dashes, long_turn-is, short_next-is, short_turn-is}

-- nothing of the word is a flag
pub data IsText (word : Text) : Type 0 where
  no_flags : long_of word ≡ None → short_of word ≡ None → IsText word
  no_characters : (flags : Text) → long_of word ≡ None → short_of word ≡ Some flags → slice_get (chars flags) 0 ≡ None
      → IsText word

-- a word by its form
pub data Form (word : Text) : Type 0 where
  long : (name : Text) (v : Option Text) → long_of word ≡ Some (name, v) → Form word
  short : (flags : Text) (x : ℕ) → long_of word ≡ None → short_of word ≡ Some flags
      → slice_get (chars flags) 0 ≡ Some x → Form word
  text : IsText word → Form word

pub form_of : (word : Text) → Form word
form_of word = by_long (long_of word) refl
  where
    by_char : (flags : Text) (o : Option ℕ) → long_of word ≡ None → short_of word ≡ Some flags
        → slice_get (chars flags) 0 ≡ o → Form word
    by_char flags None e f g = text (no_characters flags e f g)
    by_char flags (Some x) e f g = short flags x e f g

    by_short : (o : Option Text) → long_of word ≡ None → short_of word ≡ o → Form word
    by_short None e f = text (no_flags e f)
    by_short (Some flags) e f = by_char flags (slice_get (chars flags) 0) e f refl

    by_long : (o : Option (Text × Option Text)) → long_of word ≡ o → Form word
    by_long None e = by_short (short_of word) e refl
    by_long (Some p) e = long p.0 p.1 e

stray_fails : (s : Shape) → stray_fault s ≡ [] → ⊥
stray_fails s = go s.is_leaf
  where
    go : (b : Bool) → cond b (UnknownArgument ∷ []) (UnknownArgument ∷ InvalidSubcommand ∷ []) ≡ [] → ⊥
    go true e = not_empty UnknownArgument [] e
    go false e = not_empty UnknownArgument (InvalidSubcommand ∷ []) e

-- `short_of` answers no empty text
behind_minus : (b : Bool) (y : ℕ) (ys flags : Text) → cond b None (Some (y ∷ ys)) ≡ Some flags
    → (k : ℕ) × (length flags ≡ suc k)
behind_minus true y ys flags e = absurd (some≢none flags (sym e))
behind_minus false y ys flags e = (length ys, ap length (sym (the_same (y ∷ ys) flags e)))

rest_longer : (xs flags : Text) → short_of_rest xs ≡ Some flags → (k : ℕ) × (length flags ≡ suc k)
rest_longer [] flags e = absurd (some≢none flags (sym e))
rest_longer (y ∷ ys) flags e = behind_minus (y == 45) y ys flags e

word_longer : (b : Bool) (xs flags : Text) → option_and_then short_of_rest (cond b (Some xs) None) ≡ Some flags
    → (k : ℕ) × (length flags ≡ suc k)
word_longer true xs flags e = rest_longer xs flags e
word_longer false xs flags e = absurd (some≢none flags (sym e))

flags_longer : (word flags : Text) → short_of word ≡ Some flags → (k : ℕ) × (length flags ≡ suc k)
flags_longer [] flags e = absurd (some≢none flags (sym e))
flags_longer (x ∷ xs) flags e = word_longer (x == 45) xs flags e

abbrev pub held : Option (Text × List Text) → List Row → Held
held p rows = record { rows = rows; pending = p; skip = 0 }

-- where no argument has a short name, the first character of a flag word is unknown
module _ (c : List Rule) (again : Bool) (h : Held) (no_short : (x : ℕ) → arg_by_short c x ≡ None) where
  flags_fail : (k x : ℕ) (flags : Text) → length flags ≡ suc k → slice_get (chars flags) 0 ≡ Some x
      → flags_fault c again (length flags) flags 0 h ≡ UnknownArgument ∷ []
  unfolding flags_fault
  flags_fail k x flags e first =
      let rest = drop (length (encode_utf8 x)) flags in
      ap (λ n. flags_fault c again n flags 0 h) e
      ∙ ap (λ o. bundle_step_fault c again o flags 0 h (flags_fault c again k)) first
      ∙ ap (λ o. short_fault c again o rest h (flags_fault c again k rest 0)) (no_short x)

-- flags without characters are none
module _ (c : List Rule) (again : Bool) (h : Held) (flags : Text) (none : slice_get (chars flags) 0 ≡ None) where
  no_flag_fails : (n : ℕ) → flags_fault c again n flags 0 h ≡ []
  unfolding flags_fault
  no_flag_fails zero = refl
  no_flag_fails (suc k) = ap (λ o. bundle_step_fault c again o flags 0 h (flags_fault c again k)) none

  no_flag_met : (n : ℕ) → bundle_met c n flags 0 plain h ≡ (h, plain)
  unfolding bundle_met
  no_flag_met zero = refl
  no_flag_met (suc k) = ap (λ o. bundle_step c o flags 0 plain h (bundle_met c k)) none

module _ (s : Shape) (names : Names) (p : Option (Text × List Text)) (rows : List Row) (waiting : Waiting)
    (position : ℕ) (word : Text) (unnamed : subcommand_met names waiting word
    ≡ None) (goes_on : bytes_eq word dashes ≡ false) where
  abbrev pub here : Walk
  here = at (held p rows) waiting position

  -- a long name that the command lacks
  pub unknown_long : (name : Text) (v : Option Text) → long_of word ≡ Some (name, v) → arg_by_long s.rules name ≡ None
      → turn_fault s names here word ≡ [] → ⊥
  unknown_long name v e none passes =
      let turn = sym (long_turn-is s names (held p rows) waiting position word unnamed goes_on (Some (name, v)) e)
      ∙ passes in
      let first = (both_pass _ _ turn).0 in
      not_empty UnknownArgument [] (sym (ap (λ o. long_fault s.rules s.args_override_self o v (held p rows)) none)
      ∙ first)

  pub unknown_short : (flags : Text) (x : ℕ) → long_of word ≡ None → short_of word ≡ Some flags
      → slice_get (chars flags) 0 ≡ Some x → ((y : ℕ) → arg_by_short s.rules y ≡ None)
      → turn_fault s names here word ≡ [] → ⊥
  unknown_short flags x e f first none passes =
      let turn = sym (short_turn-is s names (held p rows) waiting position word unnamed goes_on (Some flags) e f)
      ∙ passes in
      let fault = (both_pass _ _ turn).0 in
      let longer = flags_longer word flags f in
      not_empty UnknownArgument []
      (sym (flags_fail s.rules s.args_override_self (held p rows) none longer.0 x flags longer.1 first) ∙ fault)

  -- a text is a value, or no argument takes it
  abbrev pub value_fault : Kinds
  value_fault = step_fault s position (plain_word s.rules waiting word (held p rows)).0
      (plain_word s.rules waiting word (held p rows)).1

  abbrev pub value_next : Walk
  value_next = after_step s.rules word here (plain_word s.rules waiting word (held p rows)).0
      (plain_word s.rules waiting word (held p rows)).1

  abbrev after : Held × Outcome → Held × Step
  after met = after_flag s.rules waiting word met.0 met.1

  pub text_turn : IsText word → turn_fault s names here word ≡ value_fault
  text_turn (no_flags e f) = short_turn-is s names (held p rows) waiting position word unnamed goes_on None e f
  text_turn (no_characters flags e f none) =
      short_turn-is s names (held p rows) waiting position word unnamed goes_on (Some flags) e f
      ∙ ap₂ (λ (k : Kinds) (m : Held × Outcome). or_else k (step_fault s position (after m).0 (after m).1))
      (no_flag_fails s.rules s.args_override_self (held p rows) flags none (length flags))
      (no_flag_met s.rules s.args_override_self (held p rows) flags none (length flags))

  pub text_next : IsText word → walked s.rules names here word ≡ value_next
  text_next (no_flags e f) = short_next-is s names (held p rows) waiting position word unnamed goes_on None e f
  text_next (no_characters flags e f none) =
      short_next-is s names (held p rows) waiting position word unnamed goes_on (Some flags) e f
      ∙ ap (λ (m : Held × Outcome). after_step s.rules word here (after m).0 (after m).1)
      (no_flag_met s.rules s.args_override_self (held p rows) flags none (length flags))

-- a word that nothing takes
pub nothing_takes : (s : Shape) (names : Names) (p : Option (Text × List Text)) (rows : List Row) (position : ℕ)
    (word : Text)
    → subcommand_met names idle word ≡ None → bytes_eq word dashes ≡ false
    → ((name : Text) → arg_by_long s.rules name ≡ None) → ((x : ℕ) → arg_by_short s.rules x ≡ None)
    → arg_by_index s.rules position ≡ None
    → turn_fault s names (at (held p rows) idle position) word ≡ [] → ⊥
nothing_takes s names p rows position word unnamed goes_on no_long no_short no_place passes = go (form_of word)
  where
    go : Form word → ⊥
    go (long name v e) = unknown_long s names p rows idle position word unnamed goes_on name v e (no_long name) passes
    go (short flags x e f first) =
        unknown_short s names p rows idle position word unnamed goes_on flags x e f first no_short passes
    go (text t) =
        let stray = sym (text_turn s names p rows idle position word unnamed goes_on t) ∙ passes in
        stray_fails s (sym (ap (λ o. option_map_or
        (λ a. positional_fault s.rules s.args_override_self a (held p rows)) o (stray_fault s)) no_place) ∙ stray)
