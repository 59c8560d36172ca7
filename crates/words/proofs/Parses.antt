-- The words of the program: where `clap` finds no fault and the rules are met, they name the command.
use Rattle.std.proofs.Common.{◌≡◌, ◌∙◌, sym, ap, subst, refl, Bool, true, false, cond, List, [], ◌∷◌, ◌++◌, codes}
use Rattle.std.proofs.Common.{Option, Some, None, is_some, option_map, ◌||◌}
use Rattle.std.specs.Prelude.{option_and_then}
use Rattle.std.specs.List.{fold}
use Rattle.std.specs.Str.{bytes_eq}
use Rattle.clap.specs.Walk.{Names, Text, Walk, finished, idle, nothing_held, settled, subcommand_met}
use Rattle.clap.specs.Walk.{walk_from, walked}
use Rattle.clap.specs.Simple.{App, Shape, built, entered, names_of}
use Rattle.clap.specs.Kinds.{Kinds, or_else}
use Rattle.clap.specs.Faults.{check_fault, defaults_fault, entered_fault, fault_of, level_fault, settle_fault}
use Rattle.clap.specs.Faults.{turn_fault, walk_fault}
use Rattle.clap.specs.declared.error.kind.ErrorKind.TheVariants.{MissingSubcommand}
use Rattle.clap.proofs.OnLiterals.{clap_on_literals}
use Rattle.clap.proofs.WalkLemmas.{walk_stopped}
use Rattle.words.specs.declared.command.Command.{Command}
use Rattle.words.specs.declared.command.Command.TheVariants.{Expand, Check}
use Rattle.words.specs.Subcommands.{declared}
use Rattle.words.specs.Forms.{Names as NamesCommand}
use Rattle.words.specs.Rules.{has_end_of_options, is_end_of_options, parsed, taken}
use Rattle.words.proofs.Plain.{both_pass, either_false, not_empty, same_text, the_same}
use Rattle.words.proofs.WordForms.{nothing_takes}
use Rattle.words.proofs.FactorSteps.{both_rules, factor_ready}
use Rattle.words.proofs.Factor.{factor_named}
use Rattle.words.proofs.Others.{demo_named, demo_ready, demo_rules, no_words, plain_ready}

abbrev program : App
program = built declared

abbrev top : Shape
top = program.top

abbrev names : Names
names = names_of program

abbrev beginning : Walk
beginning = walk_from nothing_held

-- a subcommand is met, and these words are left to it
abbrev stopped_at : Text → List Text → Walk
stopped_at name rest = record beginning { stopped = Some (name, rest) }

-- the words behind a subcommand have no fault at the top
stopped_passes : (name : Text) (seen words : List Text) → walk_fault top names (stopped_at name seen) words ≡ []
unfolding walk_fault walked
stopped_passes name seen [] = refl
stopped_passes name seen (word ∷ rest) = stopped_passes name (seen ++ word ∷ []) rest

-- the fault of all words, by where their walk ends
abbrev fault_at : Walk → Kinds → Kinds
fault_at end found = or_else found (or_else (entered_fault program end.stopped)
    (or_else (settle_fault top.rules top.args_override_self end.held)
    (or_else (defaults_fault (settled top.rules end.held).rows top.rules)
    (check_fault top (finished top.rules end.held) (is_some (entered program end.stopped))))))

abbrev parsed_at : Walk → Option Command
parsed_at end = option_and_then (λ p. taken p.0 p.1) (entered program end.stopped)

module _ (name : Text) (rest : List Text) (met : walked top.rules names beginning name ≡ stopped_at name [])
    (fine : turn_fault top names beginning name ≡ []) where
  ends_at : fold (walked top.rules names) beginning (name ∷ rest) ≡ stopped_at name rest
  ends_at = ap (λ (w : Walk). fold (walked top.rules names) w rest) met
      ∙ sym (walk_stopped top.rules names beginning name [] rest)

  walk_passes : walk_fault top names beginning (name ∷ rest) ≡ []
  unfolding walk_fault
  walk_passes = (λ i. or_else (fine i) (walk_fault top names (met i) rest)) ∙ stopped_passes name [] rest

  pub entered_fault_is : fault_of declared (name ∷ rest) ≡ fault_at (stopped_at name rest) []
  entered_fault_is = λ i. fault_at (ends_at i) (walk_passes i)

  pub entered_parse_is : parsed (name ∷ rest) ≡ parsed_at (stopped_at name rest)
  entered_parse_is = λ i. parsed_at (ends_at i)

factor_met : walked top.rules names beginning (codes "factor") ≡ stopped_at (codes "factor") []
unfolding walked
factor_met = refl

expand_met : walked top.rules names beginning (codes "expand") ≡ stopped_at (codes "expand") []
unfolding walked
expand_met = refl

check_met : walked top.rules names beginning (codes "check") ≡ stopped_at (codes "check") []
unfolding walked
check_met = refl

demo_met : walked top.rules names beginning (codes "demo") ≡ stopped_at (codes "demo") []
unfolding walked
demo_met = refl

-- the fault behind each subcommand, and what the parse gives
pub factor_fault : (rest : List Text) → fault_of declared (codes "factor" ∷ rest)
    ≡ or_else (level_fault factor_ready [] nothing_held rest false []) []
unfolding defaults_fault
factor_fault rest = entered_fault_is (codes "factor") rest factor_met refl

pub expand_fault : (rest : List Text) → fault_of declared (codes "expand" ∷ rest)
    ≡ or_else (level_fault (plain_ready (codes "expand")) [] nothing_held rest false []) []
unfolding defaults_fault
expand_fault rest = entered_fault_is (codes "expand") rest expand_met refl

pub check_fault_is : (rest : List Text) → fault_of declared (codes "check" ∷ rest)
    ≡ or_else (level_fault (plain_ready (codes "check")) [] nothing_held rest false []) []
unfolding defaults_fault
check_fault_is rest = entered_fault_is (codes "check") rest check_met refl

pub demo_fault : (rest : List Text) → fault_of declared (codes "demo" ∷ rest)
    ≡ or_else (level_fault demo_ready [] nothing_held rest false []) []
unfolding defaults_fault
demo_fault rest = entered_fault_is (codes "demo") rest demo_met refl

pub factor_parse : (rest : List Text) → parsed (codes "factor" ∷ rest)
    ≡ taken (codes "factor") (Rattle.clap.specs.Walk.rows_after both_rules [] rest)
factor_parse rest = entered_parse_is (codes "factor") rest factor_met refl

pub expand_parse : (rest : List Text) → parsed (codes "expand" ∷ rest) ≡ Some Expand
expand_parse rest = entered_parse_is (codes "expand") rest expand_met refl

pub check_parse : (rest : List Text) → parsed (codes "check" ∷ rest) ≡ Some Check
check_parse rest = entered_parse_is (codes "check") rest check_met refl

pub demo_parse : (rest : List Text) → parsed (codes "demo" ∷ rest)
    ≡ taken (codes "demo") (Rattle.clap.specs.Walk.rows_after demo_rules [] rest)
demo_parse rest = entered_parse_is (codes "demo") rest demo_met refl

-- ---- all words

nothing_missing : fault_of declared [] ≡ MissingSubcommand ∷ []
unfolding clap_on_literals
nothing_missing = refl

-- which subcommand a word names
pub data Subcommand (word : Text) : Type 0 where
  factor : word ≡ codes "factor" → Subcommand word
  expand : word ≡ codes "expand" → Subcommand word
  check : word ≡ codes "check" → Subcommand word
  demo : word ≡ codes "demo" → Subcommand word
  other : subcommand_met names idle word ≡ None → Subcommand word

abbrev found_by : Bool → Bool → Bool → Bool → Option Text
found_by a b c d = option_map (λ (s : Text × List Text). s.0)
    (cond (a || false) (Some (codes "factor", [])) (cond (b || false) (Some (codes "expand", []))
    (cond (c || false) (Some (codes "check", [])) (cond (d || false) (Some (codes "demo", [])) None))))

subcommand_named : (word : Text) → Subcommand word
subcommand_named word = go (bytes_eq (codes "factor") word) (bytes_eq (codes "expand") word) (bytes_eq (codes
    "check") word)
    (bytes_eq (codes "demo") word) refl refl refl refl
  where
    go : (a b c d : Bool) → bytes_eq (codes "factor") word ≡ a → bytes_eq (codes "expand") word ≡ b
        → bytes_eq (codes "check") word ≡ c → bytes_eq (codes "demo") word ≡ d → Subcommand word
    go true b c d e f g h = factor (sym (same_text (codes "factor") word e))
    go false true c d e f g h = expand (sym (same_text (codes "expand") word f))
    go false false true d e f g h = check (sym (same_text (codes "check") word g))
    go false false false true e f g h = demo (sym (same_text (codes "demo") word h))
    go false false false false e f g h = other (λ i. found_by (e i) (f i) (g i) (h i))

abbrev IsNamed : List Text → Type 0
IsNamed words = fault_of declared words ≡ [] → (c : Command) → parsed words ≡ Some c → NamesCommand words c

first_passes : (word : Text) (rest : List Text) → walk_fault top names beginning (word ∷ rest) ≡ []
    → turn_fault top names beginning word ≡ []
unfolding walk_fault
first_passes word rest walk =
    (both_pass (turn_fault top names beginning word) (walk_fault top names (walked top.rules names beginning word)
    rest) walk).0

by_subcommand : (word : Text) (rest : List Text) → bytes_eq word (codes "--") ≡ false → has_end_of_options rest ≡ false
    → Subcommand word → IsNamed (word ∷ rest)
by_subcommand word rest goes_on ends (factor is) = subst (λ (w : Text). IsNamed (w ∷ rest)) (sym is) (λ passes c e.
    factor_named rest ends (both_pass _ [] (sym (factor_fault rest) ∙ passes)).0 c (sym (factor_parse rest) ∙ e))
by_subcommand word rest goes_on ends (expand is) = subst (λ (w : Text). IsNamed (w ∷ rest)) (sym is) (λ passes c e.
    let none = no_words (codes "expand") rest ends (both_pass _ [] (sym (expand_fault rest) ∙ passes)).0 in
    subst (NamesCommand (codes "expand" ∷ rest)) (the_same Expand c (sym (expand_parse rest) ∙ e))
    (ap (λ ws. codes "expand" ∷ ws) none))
by_subcommand word rest goes_on ends (check is) = subst (λ (w : Text). IsNamed (w ∷ rest)) (sym is) (λ passes c e.
    let none = no_words (codes "check") rest ends (both_pass _ [] (sym (check_fault_is rest) ∙ passes)).0 in
    subst (NamesCommand (codes "check" ∷ rest)) (the_same Check c (sym (check_parse rest) ∙ e))
    (ap (λ ws. codes "check" ∷ ws) none))
by_subcommand word rest goes_on ends (demo is) = subst (λ (w : Text). IsNamed (w ∷ rest)) (sym is) (λ passes c e.
    demo_named rest ends (both_pass _ [] (sym (demo_fault rest) ∙ passes)).0 c (sym (demo_parse rest) ∙ e))
by_subcommand word rest goes_on ends (other unnamed) = λ passes c e.
    let walk = (both_pass (walk_fault top names beginning (word ∷ rest)) _ passes).0 in
    absurd (nothing_takes top names None [] 1 word unnamed goes_on (λ _. refl) (λ _. refl) refl (first_passes word
    rest walk))

pub parsed_named : (words : List Text) → has_end_of_options words ≡ false → IsNamed words
parsed_named [] ends passes c e = absurd (not_empty MissingSubcommand [] (sym nothing_missing ∙ passes))
parsed_named (word ∷ rest) ends passes c e =
    let first = either_false (is_end_of_options word) (has_end_of_options rest) ends in
    by_subcommand word rest first.0 first.1 (subcommand_named word) passes c e
