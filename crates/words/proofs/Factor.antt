-- `factor`: where its words have no fault and meet the rules, they are one of its forms.
use Rattle.std.proofs.Common.{◌≡◌, ◌∙◌, sym, ap, ap₂, subst, refl, Bool, true, false, true≢false, List, []}
use Rattle.std.proofs.Common.{◌∷◌, ◌++◌, codes, Option, Some, None, option_map, inl, inr, ◌⊎◌}
use Rattle.std.specs.List.{fold}
use Rattle.clap.specs.Lexer.{long_of}
use Rattle.clap.specs.Walk.{Row, Rule, Text, Walk, first_of, has_row, nothing_held, rows_after, used_by_id}
use Rattle.clap.specs.Walk.{walk_from, walked}
use Rattle.clap.specs.Faults.{level_fault, settle_fault, walk_fault}
use Rattle.words.specs.declared.command.Command.{Command}
use Rattle.words.specs.declared.command.Command.TheVariants.{Factor}
use Rattle.words.specs.declared.command.Workers.TheVariants.{One, Rounds, Pipeline}
use Rattle.words.specs.Numbers.{number_in}
use Rattle.words.specs.Forms.{Gives, Names, rounds_option, workers_option}
use Rattle.words.specs.Rules.{has_end_of_options, is_end_of_options, taken, workers_in}
use Rattle.words.proofs.Plain.{both_pass, either_false, not_empty, some≢none, the_same}
use Rattle.words.proofs.Numbers.{is_number, mapped}
use Rattle.words.proofs.LongWords.{alone_word, joined_word}
use Rattle.words.proofs.Steps.{Passes, passes_more}
use Rattle.words.proofs.FactorSteps.{alone_next, both_rules, factor_ready, found_by_id, joined_next}
use Rattle.words.proofs.FactorSteps.{name_of, pending, row, settled_to, value_next}
use Rattle.words.proofs.FactorWalk.{Begins, joined, alone, alone_ends, awaiting, begins, goes, now, own_value}
use Rattle.words.proofs.FactorWalk.{rows_are, rows_behind, value_text}

-- the words of the option
abbrev pub option_text : Bool → Text
option_text second = 45 ∷ 45 ∷ name_of second

-- the words with their first use
pub record First (words : List Text) : Type 0 where
  pub second : Bool
  pub v : Text
  pub rest : List Text
  pub form : (words ≡ option_text second ∷ v ∷ rest) ⊎ (words ≡ (option_text second ++ 61 ∷ v) ∷ rest)
  pub p : Option (Text × List Text)
  pub rows : List Row
  pub ends : has_end_of_options rest ≡ false
  pub passes : Passes factor_ready [] (now p rows) rest
  pub settled : settled_to p rows ≡ row second v ∷ []
  pub same : rows_behind (now None []) words ≡ rows_behind (now p rows) rest

joined_first : (word : Text) (rest : List Text) → has_end_of_options (word ∷ rest) ≡ false → (second : Bool) (v : Text)
    → long_of word ≡ Some (name_of second, Some v) → Passes factor_ready [] (now None []) (word ∷ rest)
    → First (word ∷ rest)
joined_first word rest ends second v e passes =
    let here = either_false (is_end_of_options word) (has_end_of_options rest) ends in
    let more = passes_more factor_ready [] (now None []) word rest passes in
    let next = joined_next None [] word here.0 second v e in
    record {
      second = second;
      v = v;
      rest = rest;
      form = inr (ap (λ w. w ∷ rest) (joined_word word (name_of second) v e));
      p = None;
      rows = row second v ∷ [];
      ends = here.1;
      passes = subst (λ (w : Walk). Passes factor_ready [] w rest) next more.1;
      settled = refl;
      same = ap (λ (w : Walk). rows_behind w rest) next;
    }

alone_first : (word v : Text) (rest : List Text) → has_end_of_options (word ∷ v ∷ rest) ≡ false → (second : Bool)
    → long_of word ≡ Some (name_of second, None) → Passes factor_ready [] (now None []) (word ∷ v ∷ rest)
    → First (word ∷ v ∷ rest)
alone_first word v rest ends second e passes =
    let here = either_false (is_end_of_options word) (has_end_of_options (v ∷ rest)) ends in
    let there = either_false (is_end_of_options v) (has_end_of_options rest) here.1 in
    let more = passes_more factor_ready [] (now None []) word (v ∷ rest) passes in
    let next = alone_next None [] word here.0 second e in
    let value = subst (λ (w : Walk). Passes factor_ready [] w (v ∷ rest)) next more.1 in
    let then = passes_more factor_ready [] (awaiting second []) v rest value in
    let next' = value_next second [] v there.0 (value_text second [] v there.0 then.0) in
    record {
      second = second;
      v = v;
      rest = rest;
      form = inl (ap (λ w. w ∷ v ∷ rest) (alone_word word (name_of second) e));
      p = pending second v;
      rows = [];
      ends = there.1;
      passes = subst (λ (w : Walk). Passes factor_ready [] w rest) next' then.1;
      settled = ap (λ (o : Option Rule). used_by_id o (v ∷ []) []) (found_by_id second);
      same = ap (λ (w : Walk). rows_behind (walked both_rules [] w v) rest) next
          ∙ ap (λ (w : Walk). rows_behind w rest) next';
    }

first_use : (word : Text) (rest : List Text) → has_end_of_options (word ∷ rest) ≡ false
    → Passes factor_ready [] (now None []) (word ∷ rest) → Begins word → First (word ∷ rest)
first_use word rest ends passes (joined second v e) = joined_first word rest ends second v e passes
first_use word [] ends passes (alone second e) =
    absurd (alone_ends None [] word (either_false (is_end_of_options word) (has_end_of_options []) ends).0 second e
    passes)
first_use word (v ∷ rest) ends passes (alone second e) = alone_first word v rest ends second e passes

-- the command by the rows
abbrev pub asks : List Row → Option Command
asks rows = option_map Factor (workers_in (first_of (codes "rounds") rows) (first_of (codes "workers") rows))

-- two options are refused
both_given : (second other : Bool) (v x : Text) (after : List Row) → first_of (name_of second) after ≡ Some v
    → has_row (name_of other) (row second v ∷ []) ≡ false → first_of (name_of other) after ≡ Some x → asks after ≡ None
both_given false false v x after e f g = absurd (true≢false f)
both_given false true v x after e f g = ap (option_map Factor) (ap₂ workers_in e g)
both_given true false v x after e f g = ap (option_map Factor) (ap₂ workers_in g e)
both_given true true v x after e f g = absurd (true≢false f)

-- the form behind the command's name
as_words : (name v : Text) (words : List Text) → (words ≡ name ∷ v ∷ []) ⊎ (words ≡ (name ++ 61 ∷ v) ∷ [])
    → Gives name v (codes "factor" ∷ words)
as_words name v words (inl e) = inl (ap (λ ws. codes "factor" ∷ ws) e)
as_words name v words (inr e) = inr (ap (λ ws. codes "factor" ∷ ws) e)

one_given : (second : Bool) (v : Text) (words : List Text) (c : Command)
    → (words ≡ option_text second ∷ v ∷ []) ⊎ (words ≡ (option_text second ++ 61 ∷ v) ∷ [])
    → asks (row second v ∷ []) ≡ Some c → Names (codes "factor" ∷ words) c
one_given false v words c form e =
    let outer = mapped Factor (option_map Rounds (number_in 4 1 64 v)) c e in
    let inner = mapped Rounds (number_in 4 1 64 v) outer.0 outer.1 in
    subst (Names (codes "factor" ∷ words)) (ap Factor inner.2 ∙ outer.2)
    (v, is_number 4 1 64 v inner.0 inner.1, as_words rounds_option v words form)
one_given true v words c form e =
    let outer = mapped Factor (option_map Pipeline (number_in 4 1 64 v)) c e in
    let inner = mapped Pipeline (number_in 4 1 64 v) outer.0 outer.1 in
    subst (Names (codes "factor" ∷ words)) (ap Factor inner.2 ∙ outer.2)
    (v, is_number 4 1 64 v inner.0 inner.1, as_words workers_option v words form)

-- the words behind the first use are none
by_rest : (words : List Text) (c : Command) (second : Bool) (v : Text) (rest : List Text) (p : Option (Text × List
    Text))
    (rows : List Row)
    → (words ≡ option_text second ∷ v ∷ rest) ⊎ (words ≡ (option_text second ++ 61 ∷ v) ∷ rest)
    → has_end_of_options rest ≡ false → Passes factor_ready [] (now p rows) rest → settled_to p rows ≡ row second v ∷ []
    → asks (rows_behind (now p rows) rest) ≡ Some c → Names (codes "factor" ∷ words) c
by_rest words c second v [] p rows form ends passes settled e =
    one_given second v words c form (sym (ap asks settled) ∙ e)
by_rest words c second v (w ∷ rest) p rows form ends passes settled e =
    let went = (goes (w ∷ rest) ends p rows passes).1 in
    let after = rows_behind (now p rows) (w ∷ rest) in
    let own = went.keeps (name_of second) v (ap (first_of (name_of second)) settled ∙ own_value second v) in
    let more = went.adds (λ none. not_empty w rest none) in
    let none = both_given second more.0 v more.1 after own
    (ap (has_row (name_of more.0)) (sym settled) ∙ more.2) more.3 in
    absurd (some≢none c (sym e ∙ none))

level_passes : (words : List Text) → level_fault factor_ready [] nothing_held words false [] ≡ []
    → Passes factor_ready [] (now None []) words
level_passes words e =
    let walk = both_pass (walk_fault factor_ready [] (walk_from nothing_held) words) _ e in
    record {
      walk = walk.0;
      settles = (both_pass (settle_fault both_rules false (fold (walked both_rules []) (now
          None []) words).held) _ walk.1).0;
    }

by_words : (words : List Text) → has_end_of_options words ≡ false → Passes factor_ready [] (now None []) words
    → (c : Command)
    → asks (rows_behind (now None []) words) ≡ Some c → Names (codes "factor" ∷ words) c
by_words [] ends passes c e = subst (Names (codes "factor" ∷ [])) (the_same (Factor One) c e) refl
by_words (word ∷ rest) ends passes c e =
    let goes_on = (either_false (is_end_of_options word) (has_end_of_options rest) ends).0 in
    let f = first_use word rest ends passes
    (begins None [] word goes_on (passes_more factor_ready [] (now None []) word rest passes).0) in
    by_rest (word ∷ rest) c f.second f.v f.rest f.p f.rows f.form f.ends f.passes f.settled (sym (ap asks f.same) ∙ e)

pub factor_named : (words : List Text) → has_end_of_options words ≡ false
    → level_fault factor_ready [] nothing_held words false [] ≡ [] → (c : Command)
    → taken (codes "factor") (rows_after both_rules [] words) ≡ Some c → Names (codes "factor" ∷ words) c
factor_named words ends passes c e =
    by_words words ends (level_passes words passes) c (sym (ap asks (rows_are words)) ∙ e)
