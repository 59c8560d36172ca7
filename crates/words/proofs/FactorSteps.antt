-- Words behind `factor`, one by one.
use Rattle.std.proofs.Common.{◌≡◌, ◌∙◌, sym, ap, refl, ℕ, Bool, true, false, cond, List, [], ◌∷◌, codes, Option}
use Rattle.std.proofs.Common.{Some, None, ◌&&◌, ◌||◌, not}
use Rattle.std.specs.Str.{bytes_eq}
use Rattle.clap.specs.Lexer.{long_of}
use Rattle.clap.specs.Walk.{Row, Rule, Text, Walk, after_flag, after_step, arg_by_long, arg_by_id}
use Rattle.clap.specs.Walk.{has_row, idle, long_met, option}
use Rattle.clap.specs.Walk.{reading_by, settled_rows, used, walked}
use Rattle.clap.specs.Simple.{Shape, built_leaf, filled, inherited, marked_built, with_leaf_noted}
use Rattle.clap.specs.Faults.{long_fault, settle_fault, turn_fault, use_fault}
use Rattle.clap.specs.declared.error.kind.ErrorKind.TheVariants.{ArgumentConflict, InvalidValue, UnknownArgument}
use Rattle.clap.specs.declared.parser.matches.ValueSource.TheVariants.{CommandLine}
use Rattle.words.specs.Subcommands.{declared, factor_app, option_rule}
use Rattle.words.proofs.Plain.{both_pass, not_empty, same_text}
use Rattle.words.proofs.Steps.{at, dashes, long_next-is, long_turn, long_turn-is}
use Rattle.words.proofs.WordForms.{IsText, held, text_next, text_turn}

-- what a built subcommand takes from the program
abbrev pub above : Shape
above = with_leaf_noted (marked_built declared.top)

abbrev pub factor_ready : Shape
factor_ready = built_leaf (inherited above factor_app.top)

-- the name of the first option, or of the second
abbrev pub name_of : Bool → Text
name_of false = codes "rounds"
name_of true = codes "workers"

abbrev pub rule_of : Bool → Rule
rule_of second = filled (option_rule (name_of second))

abbrev pub both_rules : List Rule
both_rules = rule_of false ∷ rule_of true ∷ []

pub found_by_long : (second : Bool) → arg_by_long both_rules (name_of second) ≡ Some (rule_of second)
found_by_long false = refl
found_by_long true = refl

pub found_by_id : (second : Bool) → arg_by_id both_rules (name_of second) ≡ Some (rule_of second)
found_by_id false = refl
found_by_id true = refl

pub no_short : (x : ℕ) → Rattle.clap.specs.Walk.arg_by_short both_rules x ≡ None
no_short x = refl

-- the row of an option with its value
abbrev pub row : Bool → Text → Row
row second v = record {
  id = name_of second;
  values = v ∷ [];
  count = None;
  source = Some CommandLine;
  reading = reading_by (rule_of second);
}

-- the option that a long name is of
pub data IsOption (name : Text) : Type 0 where
  known : (second : Bool) → name ≡ name_of second → IsOption name
  unknown : arg_by_long both_rules name ≡ None → IsOption name

pub option_of : (name : Text) → IsOption name
option_of name = go (bytes_eq (name_of false) name) (bytes_eq (name_of true) name) refl refl
  where
    go : (a b : Bool) → bytes_eq (name_of false) name ≡ a → bytes_eq (name_of true) name ≡ b → IsOption name
    go true b e f = known false (sym (same_text (name_of false) name e))
    go false true e f = known true (sym (same_text (name_of true) name f))
    go false false e f = unknown (λ i. cond (e i || false) (Some (rule_of false)) (cond (f i || false) (Some (rule_of
        true)) None))

-- the rows with what is pending
abbrev pub settled_to : Option (Text × List Text) → List Row → List Row
settled_to = settled_rows both_rules

abbrev pub Settles : Option (Text × List Text) → List Row → Type 0
Settles p rows = settle_fault both_rules false (held p rows) ≡ []

abbrev pub waits_for : Bool → Option (Text × List Text)
waits_for second = Some (name_of second, [])

abbrev pub pending : Bool → Text → Option (Text × List Text)
pending second v = Some (name_of second, v ∷ [])

-- a use that passes is the first of its option
pub use_is_first : (second : Bool) (v : Text) (rows : List Row) → use_fault false (rule_of second) (v ∷ []) rows ≡ []
    → has_row (name_of second) rows ≡ false
use_is_first second v rows e =
    go (has_row (name_of second) rows) ((both_pass _ _ e).0)
  where
    go : (b : Bool) → cond (b && not false) (ArgumentConflict ∷ []) [] ≡ [] → b ≡ false
    go true e = absurd (not_empty ArgumentConflict [] e)
    go false e = refl

pub waits_in_vain : (second : Bool) (rows : List Row) → Settles (waits_for second) rows → ⊥
waits_in_vain false rows e = not_empty InvalidValue [] e
waits_in_vain true rows e = not_empty InvalidValue [] e

pub pending_is_first : (second : Bool) (v : Text) (rows : List Row) → Settles (pending second v) rows
    → has_row (name_of second) rows ≡ false
pending_is_first false v rows e = use_is_first false v rows e
pending_is_first true v rows e = use_is_first true v rows e

-- ---- an option where a word is awaited that may be one

module _ (p : Option (Text × List Text)) (rows : List Row) (word : Text) (goes_on : bytes_eq word dashes ≡ false) where
  abbrev now : Walk
  now = at (held p rows) idle 1

  -- `--name=value`
  module _ (second : Bool) (v : Text) (e : long_of word ≡ Some (name_of second, Some v)) where
    pub joined_passes : turn_fault factor_ready [] now word ≡ []
        → Settles p rows × (has_row (name_of second) (settled_to p rows) ≡ false)
    joined_passes passes =
        let turn = sym (long_turn-is factor_ready [] (held p rows) idle 1 word refl goes_on (Some (
          name_of second,
          Some v,
        )) e) ∙ passes in
        let first = (both_pass _ _ turn).0 in
        let fault = sym (ap (λ o. long_fault both_rules false o (Some v) (held p rows)) (found_by_long second))
        ∙ first in
        let parts = both_pass (settle_fault both_rules false (held p rows)) _ fault in
        (parts.0, use_is_first second v (settled_to p rows) parts.1)

    pub joined_next : walked both_rules [] now word
        ≡ at (held None (used (rule_of second) (v ∷ []) (settled_to p rows))) idle 1
    joined_next =
        long_next-is factor_ready [] (held p rows) idle 1 word refl goes_on (Some (name_of second, Some v)) e
        ∙ ap (λ (o : Option Rule). let met = long_met both_rules o (Some v) (held p rows) in
        let step = after_flag both_rules idle word met.0 met.1 in
        after_step both_rules word now step.0 step.1) (found_by_long second)

  -- `--name`
  module _ (second : Bool) (e : long_of word ≡ Some (name_of second, None)) where
    pub alone_passes : turn_fault factor_ready [] now word ≡ [] → Settles p rows
    alone_passes passes =
        let turn = sym (long_turn-is factor_ready [] (held p rows) idle 1 word refl goes_on (Some (
          name_of second,
          None,
        )) e) ∙ passes in
        sym (ap (λ o. long_fault both_rules false o None (held p rows)) (found_by_long second)) ∙ (both_pass _ _ turn).0

    pub alone_next : walked both_rules [] now word
        ≡ at (held (waits_for second) (settled_to p rows)) (option (name_of second)) 1
    alone_next =
        long_next-is factor_ready [] (held p rows) idle 1 word refl goes_on (Some (name_of second, None)) e
        ∙ ap (λ (o : Option Rule). let met = long_met both_rules o None (held p rows) in
        let step = after_flag both_rules idle word met.0 met.1 in
        after_step both_rules word now step.0 step.1) (found_by_long second)

  -- no argument takes a text
  pub text_fails : IsText word → turn_fault factor_ready [] now word ≡ [] → ⊥
  text_fails t passes =
      not_empty UnknownArgument [] (sym (text_turn factor_ready [] p rows idle 1 word refl goes_on t) ∙ passes)

-- ---- the value of an option

module _ (second : Bool) (rows : List Row) (word : Text) (goes_on : bytes_eq word dashes ≡ false) where
  abbrev awaiting : Walk
  awaiting = at (held (waits_for second) rows) (option (name_of second)) 1

  pub value_next : IsText word → walked both_rules [] awaiting word ≡ at (held (pending second word) rows) idle 1
  value_next t = text_next factor_ready [] (waits_for second) rows (option (name_of second)) 1 word refl goes_on t
      ∙ taken second
    where
      taken : (second : Bool) → Rattle.words.proofs.WordForms.value_next factor_ready [] (waits_for second) rows
          (option (name_of second)) 1 word refl goes_on
          ≡ at (held (pending second word) rows) idle 1
      taken false = refl
      taken true = refl

  -- an option can't stand there
  pub long_fails : (name : Text) (v : Option Text) → long_of word ≡ Some (name, v)
      → turn_fault factor_ready [] awaiting word ≡ [] → ⊥
  long_fails name v e passes = go (option_of name)
    where
      turn : long_turn factor_ready [] (held (waits_for second) rows) (option (name_of second)) 1 word false (Some
          (name, v)) ≡ []
      turn = sym (long_turn-is factor_ready [] (held (waits_for second) rows) (option (name_of second)) 1 word refl
          goes_on (Some (name, v)) e) ∙ passes

      go : IsOption name → ⊥
      go (unknown none) = not_empty UnknownArgument []
          (sym (ap (λ o. long_fault both_rules false o v (held (waits_for second) rows)) none) ∙ (both_pass _ _ turn).0)
      go (known other is) = waits_in_vain second rows (by_value v
          (sym (ap (λ o. long_fault both_rules false o v (held (waits_for second) rows))
          (ap (arg_by_long both_rules) is ∙ found_by_long other)) ∙ (both_pass _ _ turn).0))
        where
          by_value : (v : Option Text) → long_fault both_rules false (Some (rule_of other)) v (held (waits_for
              second) rows) ≡ []
              → Settles (waits_for second) rows
          by_value None e = e
          by_value (Some v) e = (both_pass (settle_fault both_rules false (held (waits_for second) rows)) _ e).0
