use Rattle.std.proofs.Common.{◌≡◌, ◌<◌, ℕ, List, Option, length, arith}
use Rattle.std.proofs.lemmas.Result.{err_from_is_err_and}
use Rattle.std.specs.Option.{option_map}
use Rattle.script.specs.Header.{behind_colon}
use Rattle.script.specs.Words.{words}
use Rattle.script.proofs.NamesRead.{behind_is, tells_name, few_later, some_later, weights_later, same_later, whole}
use Rattle.script.proofs.names.names_of.Goals as goal

pub returns-in_err-add_name-clause-fault : goal.returns-in_err-add_name-clause-fault
returns-in_err-add_name-clause-fault c =
    let p = err_from_is_err_and c.from_residual.result c.from_residual.ensures.1 in
    rw (p.1, p.2) (tells_name (words c.args.text.now) c.loop-word.names c.loop-word.weights
    (words c.loop-word.rest.now) c.loop-word.invariant.same c.loop-word.invariant.begun c.loop-word.invariant.some
    c.in-Some.word.now (words c.in-Some.behind.now) c.in-Some.ensures.words c.cut.result.0.now c.cut.ensures.name
    c.len-place.result c.len-place.ensures.count c.in_err-add_name.field-0.0 c.in_err-add_name.ensures.fault)

pub loop-word-preserved : goal.loop-word-preserved
loop-word-preserved c =
    let text = c.args.text.now in
    let names = c.loop-word.names in
    let ws = c.loop-word.weights in
    let rest = c.loop-word.rest.now in
    let now = c.loop-word.invariant in
    let word = c.in-Some.word.now in
    let more = words c.in-Some.behind.now in
    let first = c.in-Some.ensures.words in
    let name = c.cut.result.0.now in
    let n = c.len-place.result in
    let place = c.len-place.ensures.count in
    let good = c.in_ok-add_name.ensures.good in
    let o : Option (List ℕ) = option_map (λ t. t.now) c.cut.result.1 in
    let cut : o ≡ behind_colon word = behind_is (λ t. t.now) c.cut.result.1 (behind_colon word) c.cut.ensures.behind in
    let v = c.in-Some-weight_of.weight in
    let is = c.in-Some-weight_of.ensures in
    let later = c.add_name.new.names in
    let pushed = c.in_ok-add_name.ensures.added in
    let some : 0 < length later = some_later (words text) names ws (words rest) now.same now.begun now.some word more
    first name c.cut.ensures.name n place good o cut now.few now.so_far v is later pushed in
    record {
      few = few_later (words text) names ws (words rest) now.same now.begun now.some word more first name
          c.cut.ensures.name n place good o cut now.few now.so_far v is later pushed;
      so_far = weights_later (words text) names ws (words rest) now.same now.begun now.some word more first name
          c.cut.ensures.name n place good o cut now.few now.so_far v is later pushed;
      same = same_later (words text) names ws (words rest) now.same now.begun now.some word more first name
          c.cut.ensures.name n place good o cut now.few now.so_far v is later pushed;
      begun = λ none. absurd (omega (arith, some, none));
      some = λ _. whole (words text) names ws (words rest) now.same now.begun now.some word more first name
          c.cut.ensures.name n place;
    }
