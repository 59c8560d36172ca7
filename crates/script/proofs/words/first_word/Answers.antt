use Rattle.std.proofs.Common.{◌≡◌, ◌<◌, [], arith}
use Rattle.std.proofs.lemmas.Grind.{common_steps}
use Rattle.script.proofs.WordLemmas.{no_words, first_of_words, behind_first, some_bytes}
use Rattle.script.proofs.words.first_word.Goals as goal

pub returns-then-is_empty-clause-words : goal.returns-then-is_empty-clause-words
returns-then-is_empty-clause-words c =
    let none : c.from_first-text.result.now ≡ [] = grind (arith, common_steps) in
    no_words c.args.text.now c.from_first-text.result.now c.from_first-text.ensures.same none

pub returns-clause-words : goal.returns-clause-words
returns-clause-words c =
    let some : (c.from_first-text.result.now ≡ [] → ⊥) = λ e. grind (arith, common_steps) in
    first_of_words c.args.text.now c.from_first-text.result.now c.split_at.result.0.now c.split_at.result.1.now
    c.word_length.result c.from_first-text.ensures.same some c.word_length.ensures.end c.split_at.ensures.front
    c.split_at.ensures.back

pub returns-clause-behind : goal.returns-clause-behind
returns-clause-behind c =
    behind_first c.args.text.now c.from_first-text.result.now c.split_at.result.1.now c.word_length.result
    c.from_first-text.ensures.same c.word_length.ensures.end c.split_at.ensures.back

pub returns-clause-fewer : goal.returns-clause-fewer
returns-clause-fewer c =
    let some : (c.from_first-text.result.now ≡ [] → ⊥) = λ e. grind (arith, common_steps) in
    let one : 0 < c.word_length.result = omega (
      arith,
      some_bytes c.args.text.now c.from_first-text.result.now
          c.from_first-text.ensures.same some,
      c.word_length.ensures.end,
    ) in
    omega (arith, one, c.split_at.ensures.back_len, c.from_first-text.ensures.within, c.word_length.ensures.within)
