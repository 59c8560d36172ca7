-- Lists of words behind `factor`: where they have no fault, each option is given once at most.
use Rattle.std.proofs.Common.{◌≡◌, ◌∙◌, sym, ap, subst, refl, Bool, true, false, cond, true≢false, List, []}
use Rattle.std.proofs.Common.{◌∷◌, ◌++◌, append-nil, Option, Some, None}
use Rattle.std.specs.Prelude.{option_and_then, slice_get}
use Rattle.std.specs.List.{find, fold}
use Rattle.std.specs.Option.{option_or}
use Rattle.std.specs.Str.{bytes_eq}
use Rattle.std.proofs.lemmas.List.Folds.{find-append}
use Rattle.clap.specs.Lexer.{long_of}
use Rattle.clap.specs.Walk.{Row, Rule, Text, Walk, at_row, default_rows, first_of, has_row, idle, more_values, option}
use Rattle.clap.specs.Walk.{reading_by}
use Rattle.clap.specs.Walk.{rows_after, used, used_by_id, walked, with_default, with_values}
use Rattle.clap.specs.Faults.{turn_fault}
use Rattle.clap.specs.declared.parser.matches.ValueSource.TheVariants.{CommandLine}
use Rattle.words.specs.Rules.{has_end_of_options, is_end_of_options}
use Rattle.words.proofs.Plain.{either_false, some≢none}
use Rattle.words.proofs.Steps.{Passes, at, dashes, passes_more}
use Rattle.words.proofs.WordForms.{Form, IsText, form_of, held, long, short, text, unknown_long, unknown_short}
use Rattle.words.proofs.FactorSteps.{IsOption, known, unknown, Settles, alone_next, alone_passes, both_rules}
use Rattle.words.proofs.FactorSteps.{factor_ready, found_by_id, joined_next, joined_passes, long_fails}
use Rattle.words.proofs.FactorSteps.{name_of, no_short, option_of, pending, pending_is_first, row, settled_to}
use Rattle.words.proofs.FactorSteps.{text_fails, value_next, waits_for, waits_in_vain}
use Rattle.words.proofs.FactorSteps.{rule_of}

-- ---- rows

abbrev first_value_of : Option Row → Option Text
first_value_of = option_and_then (λ r. slice_get r.values 0)

pub first_kept : (id v : Text) (rows more : List Row) → first_of id rows ≡ Some v → first_of id (rows ++ more) ≡ Some v
first_kept id v rows more e =
    ap first_value_of (find-append (λ r. bytes_eq r.id id) rows more)
    ∙ go (find (λ r. bytes_eq r.id id) rows) (find (λ r. bytes_eq r.id id) more) e
  where
    go : (o p : Option Row) → first_value_of o ≡ Some v → first_value_of (option_or o p) ≡ Some v
    go None p e = absurd (some≢none v (sym e))
    go (Some r) p e = e

found_none : (id : Text) (rows : List Row) → has_row id rows ≡ false → find (λ r. bytes_eq r.id id) rows ≡ None
found_none id [] e = refl
found_none id (r ∷ rows) e = go (bytes_eq r.id id) (either_false _ _ e).0 (found_none id rows (either_false _ _ e).1)
  where
    go : (b : Bool) → b ≡ false → find (λ r. bytes_eq r.id id) rows ≡ None
        → cond b (Some r) (find (λ r. bytes_eq r.id id) rows) ≡ None
    go true e f = absurd (true≢false e)
    go false e f = f

pub own_value : (second : Bool) (v : Text) → first_of (name_of second) (row second v ∷ []) ≡ Some v
own_value false v = refl
own_value true v = refl

pub first_new : (second : Bool) (v : Text) (rows : List Row) → has_row (name_of second) rows ≡ false
    → first_of (name_of second) (rows ++ row second v ∷ []) ≡ Some v
first_new second v rows e =
    ap first_value_of (find-append (λ r. bytes_eq r.id (name_of second)) rows (row second v ∷ [])
    ∙ ap (λ o. option_or o (find (λ r. bytes_eq r.id (name_of second)) (row second v ∷ []))) (found_none (name_of
    second) rows e))
    ∙ own_value second v

at_end : (id : Text) (change : Row → List Row) (missing rows : List Row) → has_row id rows ≡ false
    → at_row id change missing rows ≡ rows ++ missing
at_end id change missing [] e = refl
at_end id change missing (r ∷ rows) e =
    go (bytes_eq r.id id) (either_false _ _ e).0 (at_end id change missing rows (either_false _ _ e).1)
  where
    go : (b : Bool) → b ≡ false → at_row id change missing rows ≡ rows ++ missing
        → cond b (change r ++ rows) (r ∷ at_row id change missing rows) ≡ r ∷ (rows ++ missing)
    go true e f = absurd (true≢false e)
    go false e f = ap (λ rs. r ∷ rs) f

-- the first use of an option adds its row
pub used_first : (second : Bool) (v : Text) (rows : List Row) → has_row (name_of second) rows ≡ false
    → used (rule_of second) (v ∷ []) rows ≡ rows ++ row second v ∷ []
used_first second v rows e =
    let kept = at_end (name_of second) (λ _. []) [] rows e ∙ append-nil rows in
    ap (with_values (name_of second) (reading_by (rule_of second)) CommandLine (v ∷ [])) kept
    ∙ at_end (name_of second) (more_values CommandLine (v ∷ [])) (row second v ∷ []) rows e

-- ---- the walk

abbrev pub rows_behind : Walk → List Text → List Row
rows_behind w words =
    let end = fold (walked both_rules []) w words in settled_to end.held.pending end.held.rows

-- what words do to the rows: values stay, and where there is a word an option gets its first value
pub record Went (before after : List Row) (words : List Text) : Type 0 where
  pub keeps : (id v : Text) → first_of id before ≡ Some v → first_of id after ≡ Some v
  pub adds : (words ≡ [] → ⊥) → (second : Bool) × (v : Text) × (has_row (name_of second) before ≡ false)
      × (first_of (name_of second) after ≡ Some v)

abbrev pub now : Option (Text × List Text) → List Row → Walk
now p rows = at (held p rows) idle 1

abbrev pub awaiting : Bool → List Row → Walk
awaiting second rows = at (held (waits_for second) rows) (option (name_of second)) 1

-- what a walk that passes does
abbrev pub Goes : Option (Text × List Text) → List Row → List Text → Type 0
Goes p rows words = Settles p rows × Went (settled_to p rows) (rows_behind (now p rows) words) words

abbrev pub WillGo : List Text → Type 0
WillGo words = (p : Option (Text × List Text)) (rows : List Row) → Passes factor_ready [] (now p rows) words
    → Goes p rows words

-- one use more, before words that go on
used_then : (second : Bool) (v : Text) (before used after : List Row) (words rest : List Text)
    → has_row (name_of second) before ≡ false → used ≡ before ++ row second v ∷ [] → Went used after rest
    → Went before after words
used_then second v before used after words rest first is went = record {
  keeps = λ id x e. went.keeps id x (ap (first_of id) is ∙ first_kept id x before (row second v ∷ []) e);
  adds = λ some. (
    second,
    v,
    first,
    went.keeps (name_of second) v (ap (first_of (name_of second)) is
        ∙ first_new second v before first),
  );
}

joined_goes : (p : Option (Text × List Text)) (rows : List Row) (word : Text) (rest : List Text)
    → bytes_eq word dashes ≡ false → (second : Bool) (v : Text) → long_of word ≡ Some (name_of second, Some v)
    → Passes factor_ready [] (now p rows) (word ∷ rest) → WillGo rest → Goes p rows (word ∷ rest)
joined_goes p rows word rest goes_on second v e passes later =
    let more = passes_more factor_ready [] (now p rows) word rest passes in
    let first = joined_passes p rows word goes_on second v e more.0 in
    let next = joined_next p rows word goes_on second v e in
    let before = settled_to p rows in
    let after = used (rule_of second) (v ∷ []) before in
    let went = later None after (subst (λ (w : Walk). Passes factor_ready [] w rest) next more.1) in (
      first.0,
      used_then second v before after (rows_behind (now p rows) (word ∷ rest)) (word ∷ rest) rest first.1
          (used_first second v before first.1)
          (subst (λ (rs : List Row). Went after rs rest) (ap (λ (w : Walk). rows_behind w rest) (sym next)) went.1),
    )

pub value_text : (second : Bool) (rows : List Row) (v : Text) → bytes_eq v dashes ≡ false
    → turn_fault factor_ready [] (awaiting second rows) v ≡ [] → IsText v
value_text second rows v goes_on passes = go (form_of v)
  where
    go : Form v → IsText v
    go (long name x e) = absurd (long_fails second rows v goes_on name x e passes)
    go (short flags x e f first) = absurd (unknown_short factor_ready [] (waits_for second) rows (option (name_of
        second)) 1 v
        refl goes_on flags x e f first no_short passes)
    go (text t) = t

alone_goes : (p : Option (Text × List Text)) (rows : List Row) (word v : Text) (rest : List Text)
    → bytes_eq word dashes ≡ false → bytes_eq v dashes ≡ false → (second : Bool)
    → long_of word ≡ Some (name_of second, None)
    → Passes factor_ready [] (now p rows) (word ∷ v ∷ rest) → WillGo rest → Goes p rows (word ∷ v ∷ rest)
alone_goes p rows word v rest goes_on goes_on' second e passes later =
    let before = settled_to p rows in
    let more = passes_more factor_ready [] (now p rows) word (v ∷ rest) passes in
    let settles = alone_passes p rows word goes_on second e more.0 in
    let next = alone_next p rows word goes_on second e in
    let value = subst (λ (w : Walk). Passes factor_ready [] w (v ∷ rest)) next more.1 in
    let then = passes_more factor_ready [] (awaiting second before) v rest value in
    let is_text = value_text second before v goes_on' then.0 in
    let next' = value_next second before v goes_on' is_text in
    let went = later (pending second v) before (subst (λ (w : Walk). Passes factor_ready [] w rest) next' then.1) in
    let first = pending_is_first second v before went.0 in
    let after = settled_to (pending second v) before in
    let after_is : after ≡ before ++ row second v ∷ [] =
    ap (λ (o : Option Rule). used_by_id o (v ∷ []) before) (found_by_id second) ∙ used_first second v before first in
    let same : rows_behind (now (pending second v) before) rest ≡ rows_behind (now p rows) (word ∷ v ∷ rest) =
    ap (λ (w : Walk). rows_behind w rest) (sym next')
    ∙ ap (λ (w : Walk). rows_behind (walked both_rules [] w v) rest) (sym next) in (
      settles,
      used_then second v before after (rows_behind (now p rows) (word ∷ v ∷ rest)) (word ∷ v ∷ rest) rest first after_is
          (subst (λ (rs : List Row). Went after rs rest) same went.1),
    )

-- an option at the end lacks its value
pub alone_ends : (p : Option (Text × List Text)) (rows : List Row) (word : Text) → bytes_eq word dashes ≡ false
    → (second : Bool)
    → long_of word ≡ Some (name_of second, None) → Passes factor_ready [] (now p rows) (word ∷ []) → ⊥
alone_ends p rows word goes_on second e passes =
    let more = passes_more factor_ready [] (now p rows) word [] passes in
    let end = subst (λ (w : Walk). Passes factor_ready [] w []) (alone_next p rows word goes_on second e) more.1 in
    waits_in_vain second (settled_to p rows) end.settles

-- the first of some words is an option
pub data Begins (word : Text) : Type 0 where
  joined : (second : Bool) (v : Text) → long_of word ≡ Some (name_of second, Some v) → Begins word
  alone : (second : Bool) → long_of word ≡ Some (name_of second, None) → Begins word

by_value : (word : Text) (second : Bool) (v : Option Text) → long_of word ≡ Some (name_of second, v) → Begins word
by_value word second None e = alone second e
by_value word second (Some v) e = joined second v e

pub begins : (p : Option (Text × List Text)) (rows : List Row) (word : Text) → bytes_eq word dashes ≡ false
    → turn_fault factor_ready [] (now p rows) word ≡ [] → Begins word
begins p rows word goes_on passes = go (form_of word)
  where
    by_option : (name : Text) (v : Option Text) → long_of word ≡ Some (name, v) → IsOption name → Begins word
    by_option name v e (known second is) = by_value word second v (e ∙ ap (λ n. Some (n, v)) is)
    by_option name v e (unknown none) =
        absurd (unknown_long factor_ready [] p rows idle 1 word refl goes_on name v e none passes)

    go : Form word → Begins word
    go (long name v e) = by_option name v e (option_of name)
    go (short flags x e f first) =
        absurd (unknown_short factor_ready [] p rows idle 1 word refl goes_on flags x e f first no_short passes)
    go (text t) = absurd (text_fails p rows word goes_on t passes)

one_goes : (p : Option (Text × List Text)) (rows : List Row) (word : Text) → bytes_eq word dashes ≡ false → WillGo []
    → Passes factor_ready [] (now p rows) (word ∷ []) → Begins word → Goes p rows (word ∷ [])
one_goes p rows word goes_on later passes (joined second v e) =
    joined_goes p rows word [] goes_on second v e passes later
one_goes p rows word goes_on later passes (alone second e) = absurd (alone_ends p rows word goes_on second e passes)

two_go : (p : Option (Text × List Text)) (rows : List Row) (word v : Text) (rest : List Text)
    → bytes_eq word dashes ≡ false
    → bytes_eq v dashes ≡ false → WillGo (v ∷ rest) → WillGo rest
    → Passes factor_ready [] (now p rows) (word ∷ v ∷ rest) → Begins word → Goes p rows (word ∷ v ∷ rest)
two_go p rows word v rest goes_on goes_on' later latest passes (joined second x e) =
    joined_goes p rows word (v ∷ rest) goes_on second x e passes later
two_go p rows word v rest goes_on goes_on' later latest passes (alone second e) =
    alone_goes p rows word v rest goes_on goes_on' second e passes latest

none_go : WillGo []
none_go p rows passes = (passes.settles, record { keeps = λ id v e. e; adds = λ some. absurd (some refl) })

pub goes : (words : List Text) → has_end_of_options words ≡ false → WillGo words
goes [] ends p rows passes = none_go p rows passes
goes (word ∷ []) ends p rows passes =
    let goes_on = (either_false (is_end_of_options word) (has_end_of_options []) ends).0 in
    one_goes p rows word goes_on none_go passes
    (begins p rows word goes_on (passes_more factor_ready [] (now p rows) word [] passes).0)
goes (word ∷ v ∷ rest) ends p rows passes =
    let first = either_false (is_end_of_options word) (has_end_of_options (v ∷ rest)) ends in
    let second = either_false (is_end_of_options v) (has_end_of_options rest) first.1 in
    two_go p rows word v rest first.0 second.0 (λ q rs h. goes (v ∷ rest) first.1 q rs h) (λ q rs h. goes rest
    second.1 q rs h) passes
    (begins p rows word first.0 (passes_more factor_ready [] (now p rows) word (v ∷ rest) passes).0)

-- ---- at the end of the words

no_default : (second : Bool) (rows : List Row) → with_default rows (rule_of second) ≡ rows
no_default second rows = go (has_row (name_of second) rows)
  where
    go : (b : Bool) → cond b rows (default_rows (name_of second) (reading_by (rule_of second)) [] rows) ≡ rows
    go true = refl
    go false = refl

pub rows_are : (words : List Text) → rows_after both_rules [] words ≡ rows_behind (now None []) words
rows_are words =
    ap (λ (rs : List Row). with_default rs (rule_of true)) (no_default false (rows_behind (now None []) words))
    ∙ no_default true (rows_behind (now None []) words)
