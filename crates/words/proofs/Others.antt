-- `expand` and `check`, which take no words, and `demo`, which takes one.
use Rattle.std.proofs.Common.{◌≡◌, ◌∙◌, sym, ap, subst, refl, false, List, [], ◌∷◌, codes}
use Rattle.std.proofs.Common.{Some, None, option_map}
use Rattle.std.specs.Str.{bytes_eq}
use Rattle.clap.specs.Walk.{Rule, Text, Walk, finished, idle}
use Rattle.clap.specs.Walk.{nothing_held, rows_after, walked}
use Rattle.clap.specs.Simple.{Shape, built_leaf, inherited, new_shape, with_index, filled}
use Rattle.clap.specs.Faults.{level_fault, turn_fault, walk_fault}
use Rattle.clap.specs.declared.error.kind.ErrorKind.TheVariants.{MissingRequiredArgument}
use Rattle.clap.proofs.OnLiterals.{clap_on_literals}
use Rattle.words.specs.declared.command.Command.{Command}
use Rattle.words.specs.declared.command.Command.TheVariants.{Demo}
use Rattle.words.specs.Numbers.{number_in}
use Rattle.words.specs.Subcommands.{demo_app, positional_rule}
use Rattle.words.specs.Forms.{Names, greatest_seed}
use Rattle.words.specs.Rules.{has_end_of_options, is_end_of_options, taken}
use Rattle.words.proofs.Plain.{both_pass, either_false, not_empty}
use Rattle.words.proofs.Numbers.{is_number, mapped}
use Rattle.words.proofs.Steps.{at, dashes}
use Rattle.words.proofs.WordForms.{Form, IsText, form_of, held, long, short, text, nothing_takes, text_next}
use Rattle.words.proofs.WordForms.{unknown_long, unknown_short}
use Rattle.words.proofs.FactorSteps.{above}

-- the first word passes, and then the others
pub walk_more : (s : Shape) (w : Walk) (word : Text) (rest : List Text) → walk_fault s [] w (word ∷ rest) ≡ []
    → (turn_fault s [] w word ≡ []) × (walk_fault s [] (walked s.rules [] w word) rest ≡ [])
unfolding walk_fault
walk_more s w word rest e = both_pass (turn_fault s [] w word) (walk_fault s [] (walked s.rules [] w word) rest) e

abbrev pub start : Walk
start = at (held None []) idle 1

-- ---- no words

abbrev pub plain_ready : Text → Shape
plain_ready name = built_leaf (inherited above (new_shape name))

pub no_words : (name : Text) (words : List Text) → has_end_of_options words ≡ false
    → level_fault (plain_ready name) [] nothing_held words false [] ≡ [] → words ≡ []
no_words name [] ends passes = refl
no_words name (word ∷ rest) ends passes =
    let goes_on = (either_false (is_end_of_options word) (has_end_of_options rest) ends).0 in
    let walk = (both_pass (walk_fault (plain_ready name) [] start (word ∷ rest)) _ passes).0 in
    absurd (nothing_takes (plain_ready name) [] None [] 1 word refl goes_on (λ _. refl) (λ _. refl) refl
    (walk_more (plain_ready name) start word rest walk).0)

-- ---- one word

abbrev pub demo_ready : Shape
demo_ready = built_leaf (inherited above demo_app.top)

abbrev pub number_rule : Rule
number_rule = with_index 1 (filled (positional_rule (codes "number")))

abbrev pub demo_rules : List Rule
demo_rules = number_rule ∷ []

abbrev pub behind_number : Text → Walk
behind_number v = at (held (Some (codes "number", v ∷ [])) []) idle 2

pub number_next : (v : Text) → bytes_eq v dashes ≡ false → IsText v → walked demo_rules [] start v ≡ behind_number v
number_next v goes_on t = text_next demo_ready [] None [] idle 1 v refl goes_on t

number_text : (v : Text) → bytes_eq v dashes ≡ false → turn_fault demo_ready [] start v ≡ [] → IsText v
number_text v goes_on passes = go (form_of v)
  where
    go : Form v → IsText v
    go (long name x e) = absurd (unknown_long demo_ready [] None [] idle 1 v refl goes_on name x e refl passes)
    go (short flags x e f first) =
        absurd (unknown_short demo_ready [] None [] idle 1 v refl goes_on flags x e f first (λ _. refl) passes)
    go (text t) = t

none_missing : level_fault demo_ready [] nothing_held [] false [] ≡ MissingRequiredArgument ∷ []
unfolding clap_on_literals
none_missing = refl

-- what `clap` found for the one word
pub number_found : (v : Text) → bytes_eq v dashes ≡ false → IsText v
    → taken (codes "demo") (rows_after demo_rules [] (v ∷ [])) ≡ option_map Demo (number_in 20 0 greatest_seed v)
number_found v goes_on t =
    ap (λ (w : Walk). taken (codes "demo") (finished demo_rules w.held)) (number_next v goes_on t)

pub demo_named : (words : List Text) → has_end_of_options words ≡ false
    → level_fault demo_ready [] nothing_held words false [] ≡ [] → (c : Command)
    → taken (codes "demo") (rows_after demo_rules [] words) ≡ Some c → Names (codes "demo" ∷ words) c
demo_named [] ends passes c e = absurd (not_empty MissingRequiredArgument [] (sym none_missing ∙ passes))
demo_named (v ∷ []) ends passes c e =
    let goes_on = (either_false (is_end_of_options v) (has_end_of_options []) ends).0 in
    let walk = (both_pass (walk_fault demo_ready [] start (v ∷ [])) _ passes).0 in
    let t = number_text v goes_on (walk_more demo_ready start v [] walk).0 in
    let seed = mapped Demo (number_in 20 0 greatest_seed v) c (sym (number_found v goes_on t) ∙ e) in
    subst (Names (codes "demo" ∷ v ∷ [])) seed.2 (v, is_number 20 0 greatest_seed v seed.0 seed.1, refl)
demo_named (v ∷ word ∷ rest) ends passes c e =
    let first = either_false (is_end_of_options v) (has_end_of_options (word ∷ rest)) ends in
    let second = either_false (is_end_of_options word) (has_end_of_options rest) first.1 in
    let walk = (both_pass (walk_fault demo_ready [] start (v ∷ word ∷ rest)) _ passes).0 in
    let more = walk_more demo_ready start v (word ∷ rest) walk in
    let next = number_next v first.0 (number_text v first.0 more.0) in
    let then = walk_more demo_ready (behind_number v) word rest
    (subst (λ (w : Walk). walk_fault demo_ready [] w (word ∷ rest) ≡ []) next more.1) in
    absurd (nothing_takes demo_ready [] (Some (codes "number", v ∷ [])) [] 2 word refl second.0 (λ _. refl) (λ _.
    refl) refl then.0)
