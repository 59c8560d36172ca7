-- Words that name a command: `clap` finds no fault, and the rules are met.
use Rattle.std.proofs.Common.{◌≡◌, ◌∙◌, sym, ap, subst, refl, ℕ, ◌≤◌, Bool, true, false, cond, List, [], ◌∷◌}
use Rattle.std.proofs.Common.{◌++◌, codes, length, get_or, arith, Option, Some, None, option_map, ◌⊎◌, inl, inr, ◌||◌}
use Rattle.std.proofs.Common.{◌==◌, ne_eqb, leb-true, nat_le}
use Rattle.std.specs.Prelude.{option_and_then}
use Rattle.std.specs.List.{fold}
use Rattle.std.specs.Char.{is_ascii_digit}
use Rattle.std.specs.Str.{all_ascii_digits, bytes_eq}
use Rattle.clap.specs.Lexer.{long_of, long_of_rest, short_of, short_of_rest, strip_byte}
use Rattle.clap.specs.Walk.{Text, Walk, finished, idle, nothing_held, option, rows_after, settled}
use Rattle.clap.specs.Walk.{walked}
use Rattle.clap.specs.Kinds.{Kinds, or_else}
use Rattle.clap.specs.Faults.{check_fault, defaults_fault, fault_of, level_fault, settle_fault}
use Rattle.clap.specs.Faults.{turn_fault, walk_fault}
use Rattle.clap.proofs.OnLiterals.{clap_on_literals}
use Rattle.words.specs.declared.command.Command.{Command}
use Rattle.words.specs.declared.command.Command.TheVariants.{Factor, Expand, Check, Demo}
use Rattle.words.specs.declared.command.Workers.{Workers}
use Rattle.words.specs.declared.command.Workers.TheVariants.{One, Rounds, Pipeline}
use Rattle.words.specs.Numbers.{IsNumber}
use Rattle.words.specs.Subcommands.{declared}
use Rattle.words.specs.Forms.{IsWorkers, Names, greatest_seed}
use Rattle.words.specs.Rules.{has_end_of_options, parsed, taken}
use Rattle.words.proofs.Plain.{same_text}
use Rattle.words.proofs.Numbers.{both, number_is}
use Rattle.words.proofs.Steps.{dashes, long_turn, long_turn-is}
use Rattle.words.proofs.WordForms.{IsText, no_flags, held, text_turn}
use Rattle.words.proofs.FactorSteps.{alone_next, both_rules, factor_ready, joined_next, name_of}
use Rattle.words.proofs.FactorSteps.{pending, row, value_next, waits_for}
use Rattle.words.proofs.FactorWalk.{awaiting, now, rows_are}
use Rattle.words.proofs.Factor.{asks, option_text}
use Rattle.words.proofs.Others.{behind_number, demo_ready, demo_rules, number_found, number_next, start}
use Rattle.words.proofs.Parses.{demo_fault, demo_parse}
use Rattle.words.proofs.Parses.{factor_fault, factor_parse}

pub record IsTaken (words : List Text) (c : Command) : Type 0 where
  pub ends : has_end_of_options words ≡ false
  pub passes : fault_of declared words ≡ []
  pub gives : parsed words ≡ Some c

-- ---- a number is no flag

not_a_minus : (d : ℕ) → is_ascii_digit d ≡ true → (d == 45) ≡ false
not_a_minus d e =
    let least : 48 ≤ d = leb-true 48 d (both (nat_le 48 d) (nat_le d 57) e).0 in
    ne_eqb d 45 (λ is. omega arith)

no_dashes : (d : ℕ) (ds : Text) → (d == 45) ≡ false → bytes_eq (d ∷ ds) dashes ≡ false
no_dashes d ds e = go (bytes_eq (d ∷ ds) dashes) refl
  where
    go : (b : Bool) → bytes_eq (d ∷ ds) dashes ≡ b → bytes_eq (d ∷ ds) dashes ≡ false
    go true f =
        let first : d ≡ 45 = ap (λ l. get_or l 0 0) (same_text (d ∷ ds) dashes f) in
        absurd (Rattle.std.proofs.Common.true≢false (sym (ap (λ n. n == 45) first) ∙ e))
    go false f = f

no_long : (d : ℕ) (ds : Text) → (d == 45) ≡ false → long_of (d ∷ ds) ≡ None
no_long d ds e = ap (λ b. option_and_then long_of_rest (option_and_then (strip_byte 45) (cond b (Some ds) None))) e

no_short : (d : ℕ) (ds : Text) → (d == 45) ≡ false → short_of (d ∷ ds) ≡ None
no_short d ds e = ap (λ b. option_and_then short_of_rest (cond b (Some ds) None)) e

abbrev IsValue : Text → Type 0
IsValue v = (bytes_eq v dashes ≡ false) × IsText v

digits_are_text : (most low high : ℕ) (v : Text) (n : ℕ) → IsNumber most low high v n → IsValue v
digits_are_text most low high [] n is = let some : 1 ≤ length {A = ℕ} [] = is.some in absurd (omega arith)
digits_are_text most low high (d ∷ ds) n is =
    let other = not_a_minus d (both (is_ascii_digit d) (all_ascii_digits ds) is.digits).0 in
    (no_dashes d ds other, no_flags (no_long d ds other) (no_short d ds other))

-- ---- `factor`

abbrev level_at : Walk → Kinds → Kinds
level_at end found = or_else found (or_else (settle_fault both_rules false end.held)
    (or_else (defaults_fault (settled both_rules end.held).rows both_rules)
    (check_fault factor_ready (finished both_rules end.held) false)))

abbrev Fine : List Text → Type 0
Fine words = level_fault factor_ready [] nothing_held words false [] ≡ []

alone_fine : Fine []
unfolding clap_on_literals
alone_fine = refl

-- the words of an option's value
abbrev option_words : Bool → Text → List Text → Type 0
option_words second v words =
    (words ≡ option_text second ∷ v ∷ []) ⊎ (words ≡ (option_text second ++ 61 ∷ v) ∷ [])

abbrev joined_text : Bool → Text → Text
joined_text second v = option_text second ++ 61 ∷ v

joined_long : (second : Bool) (v : Text) → long_of (joined_text second v) ≡ Some (name_of second, Some v)
joined_long false v = refl
joined_long true v = refl

joined_goes_on : (second : Bool) (v : Text) → bytes_eq (joined_text second v) dashes ≡ false
joined_goes_on false v = refl
joined_goes_on true v = refl

alone_long : (second : Bool) → long_of (option_text second) ≡ Some (name_of second, None)
alone_long false = refl
alone_long true = refl

alone_goes_on : (second : Bool) → bytes_eq (option_text second) dashes ≡ false
alone_goes_on false = refl
alone_goes_on true = refl

long_turn_fine : (second : Bool) (v : Option Text) (word : Text)
    → long_turn factor_ready [] (held None []) idle 1 word false (Some (name_of second, v)) ≡ []
long_turn_fine false None word = refl
long_turn_fine false (Some v) word = refl
long_turn_fine true None word = refl
long_turn_fine true (Some v) word = refl

turn_fine : (second : Bool) (v : Option Text) (word : Text) → bytes_eq word dashes ≡ false
    → long_of word ≡ Some (name_of second, v) → turn_fault factor_ready [] (now None []) word ≡ []
turn_fine second v word goes_on e =
    long_turn-is factor_ready [] (held None []) idle 1 word refl goes_on (Some (name_of second, v)) e
    ∙ long_turn_fine second v word

value_turn_fine : (second : Bool) (v : Text) → bytes_eq v dashes ≡ false → IsText v
    → turn_fault factor_ready [] (awaiting second []) v ≡ []
value_turn_fine second v goes_on t =
    text_turn factor_ready [] (waits_for second) [] (option (name_of second)) 1 v refl goes_on t ∙ by_option second
  where
    by_option : (second : Bool)
        → Rattle.words.proofs.WordForms.value_fault factor_ready [] (waits_for second) [] (option (name_of second)) 1
        v refl goes_on ≡ []
    by_option false = refl
    by_option true = refl

joined_end : (second : Bool) (v : Text) → level_at (now None (row second v ∷ [])) [] ≡ []
unfolding defaults_fault
joined_end false v = refl
joined_end true v = refl

alone_end : (second : Bool) (v : Text) → level_at (now (pending second v) []) [] ≡ []
unfolding defaults_fault
alone_end false v = refl
alone_end true v = refl

joined_walk : (second : Bool) (v : Text) → walked both_rules [] (now None []) (joined_text second v)
    ≡ now None (row second v ∷ [])
joined_walk second v = joined_next None [] (joined_text second v) (joined_goes_on second v) second v (joined_long
    second v)

alone_walk : (second : Bool) (v : Text) → IsValue v
    → fold (walked both_rules []) (now None []) (option_text second ∷ v ∷ []) ≡ now (pending second v) []
alone_walk second v is =
    ap (λ (w : Walk). walked both_rules [] w v) (alone_next None [] (option_text second) (alone_goes_on second)
    second (alone_long second))
    ∙ value_next second [] v is.0 is.1

joined_found : (second : Bool) (v : Text) → walk_fault factor_ready [] (now None []) (joined_text second v ∷ []) ≡ []
unfolding walk_fault
joined_found second v =
    ap (λ k. or_else k []) (turn_fine second (Some v) (joined_text second v) (joined_goes_on second v) (joined_long
    second v))

alone_found : (second : Bool) (v : Text) → IsValue v
    → walk_fault factor_ready [] (now None []) (option_text second ∷ v ∷ []) ≡ []
unfolding walk_fault
alone_found second v is =
    (λ i. or_else (turn_fine second None (option_text second) (alone_goes_on second) (alone_long second) i)
    (or_else (turn_fault factor_ready []
    (alone_next None [] (option_text second) (alone_goes_on second) second (alone_long second) i) v) []))
    ∙ ap (λ k. or_else k []) (value_turn_fine second v is.0 is.1)

joined_passes : (second : Bool) (v : Text) → Fine (joined_text second v ∷ [])
joined_passes second v = (λ i. level_at (joined_walk second v i) (joined_found second v i)) ∙ joined_end second v

alone_passes : (second : Bool) (v : Text) → IsValue v → Fine (option_text second ∷ v ∷ [])
alone_passes second v is = (λ i. level_at (alone_walk second v is i) (alone_found second v is i)) ∙ alone_end second v

abbrev asks_of : Walk → Option Command
asks_of w = asks (Rattle.words.proofs.FactorSteps.settled_to w.held.pending w.held.rows)

joined_asks : (second : Bool) (v : Text) → taken (codes "factor") (rows_after both_rules [] (joined_text second v ∷ []))
    ≡ asks (row second v ∷ [])
joined_asks second v = ap asks (rows_are (joined_text second v ∷ [])) ∙ ap asks_of (joined_walk second v)

pending_asks : (second : Bool) (v : Text) → asks_of (now (pending second v) []) ≡ asks (row second v ∷ [])
pending_asks false v = refl
pending_asks true v = refl

alone_asks : (second : Bool) (v : Text) → IsValue v
    → taken (codes "factor") (rows_after both_rules [] (option_text second ∷ v ∷ [])) ≡ asks (row second v ∷ [])
alone_asks second v is =
    ap asks (rows_are (option_text second ∷ v ∷ [])) ∙ ap asks_of (alone_walk second v is) ∙ pending_asks second v

abbrev workers_by : Bool → ℕ → Workers
workers_by false n = Rounds n
workers_by true n = Pipeline n

row_asks : (second : Bool) (v : Text) (n : ℕ) → IsWorkers v n
    → asks (row second v ∷ []) ≡ Some (Factor (workers_by second n))
row_asks false v n is = ap (λ o. option_map Factor (option_map Rounds o)) (number_is 4 1 64 v n is)
row_asks true v n is = ap (λ o. option_map Factor (option_map Pipeline o)) (number_is 4 1 64 v n is)

passes_as : (k : Kinds) (words : List Text) → fault_of declared words ≡ or_else k [] → k ≡ []
    → fault_of declared words ≡ []
passes_as k words e none = e ∙ ap (λ k. or_else k []) none

option_taken : (second : Bool) (v : Text) (n : ℕ) (words : List Text) → IsWorkers v n
    → (words ≡ codes "factor" ∷ option_text second ∷ v ∷ []) ⊎ (words ≡ codes "factor" ∷ joined_text second v ∷ [])
    → IsTaken words (Factor (workers_by second n))
option_taken second v n words is (inl e) =
    let value = digits_are_text 4 1 64 v n is in
    subst (λ ws. IsTaken ws (Factor (workers_by second n))) (sym e) (record {
      ends = λ i. alone_goes_on second i || (value.0 i || false);
      passes = passes_as (level_fault factor_ready [] nothing_held (option_text second ∷ v ∷ []) false [])
          (codes "factor" ∷ option_text second ∷ v ∷ []) (factor_fault (option_text second ∷ v ∷ []))
          (alone_passes second v value);
      gives = factor_parse (option_text second ∷ v ∷ []) ∙ alone_asks second v value ∙ row_asks second v n is;
    })
option_taken second v n words is (inr e) =
    subst (λ ws. IsTaken ws (Factor (workers_by second n))) (sym e) (record {
      ends = λ i. joined_goes_on second v i || false;
      passes = passes_as (level_fault factor_ready [] nothing_held (joined_text second v ∷ []) false [])
          (codes "factor" ∷ joined_text second v ∷ []) (factor_fault (joined_text second v ∷ []))
          (joined_passes second v);
      gives = factor_parse (joined_text second v ∷ []) ∙ joined_asks second v ∙ row_asks second v n is;
    })

-- ---- `demo`

abbrev demo_at : Walk → Kinds → Kinds
demo_at end found = or_else found (or_else (settle_fault demo_rules false end.held)
    (or_else (defaults_fault (settled demo_rules end.held).rows demo_rules)
    (check_fault demo_ready (finished demo_rules end.held) false)))

demo_end : (v : Text) → demo_at (behind_number v) [] ≡ []
unfolding defaults_fault
demo_end v = refl

demo_found : (v : Text) → IsValue v → walk_fault demo_ready [] start (v ∷ []) ≡ []
unfolding walk_fault
demo_found v is = ap (λ k. or_else k []) (text_turn demo_ready [] None [] idle 1 v refl is.0 is.1)

demo_passes : (v : Text) → IsValue v → level_fault demo_ready [] nothing_held (v ∷ []) false [] ≡ []
demo_passes v is = (λ i. demo_at (number_next v is.0 is.1 i) (demo_found v is i)) ∙ demo_end v

-- ---- all commands

factor_taken : IsTaken (codes "factor" ∷ []) (Factor One)
unfolding clap_on_literals
factor_taken = record { ends = refl; passes = refl; gives = refl }

expand_taken : IsTaken (codes "expand" ∷ []) Expand
unfolding clap_on_literals
expand_taken = record { ends = refl; passes = refl; gives = refl }

check_taken : IsTaken (codes "check" ∷ []) Check
unfolding clap_on_literals
check_taken = record { ends = refl; passes = refl; gives = refl }

pub named_taken : (words : List Text) (c : Command) → Names words c → IsTaken words c
named_taken words (Factor One) e = subst (λ ws. IsTaken ws (Factor One)) (sym e) factor_taken
named_taken words (Factor (Rounds n)) (v, is, e) = option_taken false v n words is e
named_taken words (Factor (Pipeline n)) (v, is, e) = option_taken true v n words is e
named_taken words Expand e = subst (λ ws. IsTaken ws Expand) (sym e) expand_taken
named_taken words Check e = subst (λ ws. IsTaken ws Check) (sym e) check_taken
named_taken words (Demo n) (v, is, e) =
    let value = digits_are_text 20 0 greatest_seed v n is in
    subst (λ ws. IsTaken ws (Demo n)) (sym e) (record {
      ends = λ i. value.0 i || false;
      passes = passes_as (level_fault demo_ready [] nothing_held (v ∷ []) false [])
          (codes "demo" ∷ v ∷ []) (demo_fault (v ∷ [])) (demo_passes v value);
      gives = demo_parse (v ∷ []) ∙ number_found v value.0 value.1
          ∙ ap (option_map Demo) (number_is 20 0 greatest_seed v n is);
    })
