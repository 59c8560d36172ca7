use Rattle.std.proofs.Common.{◌≡◌, ◌∙◌, sym, true, map, string_bytes}
use Rattle.std.proofs.lemmas.Result.{IfOk-weaker}
use Rattle.clap.proofs.WalkLemmas.{list_any-map}
use Rattle.words.specs.Rules.{has_end_of_options, is_end_of_options}
use Rattle.words.proofs.CommandIn.{ended, named_in, taken_named}
use Rattle.words.proofs.reading.command_of.Goals as goal

pub returns-then-has_end_of_options : goal.returns-then-has_end_of_options
returns-then-has_end_of_options c =
    let words = map string_bytes c.args.words.now in
    let ends : has_end_of_options words ≡ true = sym (list_any-map is_end_of_options string_bytes c.args.words.now)
    ∙ sym c.has_end_of_options.ensures ∙ c.if-has_end_of_options.true in
    let is = ended words ends in
    record { named = λ k. (λ e. taken_named words k (sym is ∙ e), λ n. is ∙ named_in words k n); parsed = is }

pub parse-requires : goal.parse-requires
parse-requires c =
    sym (list_any-map is_end_of_options string_bytes c.args.words.now) ∙ sym c.has_end_of_options.ensures
    ∙ c.if-has_end_of_options.false

pub returns-clause-named : goal.returns-clause-named
returns-clause-named c =
    let words = map string_bytes c.args.words.now in
    IfOk-weaker c.parse.result _ _ (λ command is k. (
      λ e. taken_named words k (sym is ∙ e),
      λ n. is
          ∙ named_in words k n,
    ))
    c.parse.ensures
