use Rattle.std.proofs.Common.{◌≡◌, ◌∙◌, ◌+◌, arith, drop, get_or, suc, true, false, sym, refl, subst}
use Rattle.std.specs.Char.{is_ascii_digit, is_ascii_alphabetic}
use Rattle.grammar.specs.Digits.{AreDigits}
use Rattle.grammar.proofs.Lexed.{scanned_number, scanned_word, scanned_symbol, run_slice, AreDigits-run}
use Rattle.expr_reader.specs.Reading.{token_of}
use Rattle.expr_reader.proofs.scanning.scan.Goals as goal

pub number_token-requires : goal.number_token-requires
number_token-requires c =
    let digit : is_ascii_digit (get_or c.args.text.now c.skip_blanks-place.result 0) ≡ true =
    sym c.is_ascii_digit.ensures.value ∙ c.if-is_ascii_digit.true in
    subst AreDigits (sym (run_slice is_ascii_digit c.args.text.now c.skip_blanks-place.result c.digits_end-next.result
    (omega arith) c.digits_end-next.ensures.end)) (
      digit,
      AreDigits-run
          (drop (suc c.skip_blanks-place.result) c.args.text.now),
    )

pub returns-then-is_ascii_digit-clause-found : goal.returns-then-is_ascii_digit-clause-found
returns-then-is_ascii_digit-clause-found c =
    let digit : is_ascii_digit (get_or c.args.text.now c.skip_blanks-place.result 0) ≡ true =
    sym c.is_ascii_digit.ensures.value ∙ c.if-is_ascii_digit.true in
    c.skip_blanks-place.ensures.same c.args.names.now
    ∙ scanned_number c.args.names.now c.args.text.now c.skip_blanks-place.result c.digits_end-next.result
    (token_of c.number_token.result) (omega arith) (c.skip_blanks-place.ensures.stops
    (omega arith)) digit c.digits_end-next.ensures.end c.number_token.ensures

pub returns-then-is_ascii_alphabetic-clause-found : goal.returns-then-is_ascii_alphabetic-clause-found
returns-then-is_ascii_alphabetic-clause-found c =
    let digit : is_ascii_digit (get_or c.args.text.now c.skip_blanks-place.result 0) ≡ false =
    sym c.is_ascii_digit.ensures.value ∙ c.if-is_ascii_digit.false in
    let letter : is_ascii_alphabetic (get_or c.args.text.now c.skip_blanks-place.result 0) ≡ true =
    sym c.is_ascii_alphabetic.ensures.value ∙ c.if-is_ascii_alphabetic.true in
    c.skip_blanks-place.ensures.same c.args.names.now
    ∙ scanned_word c.args.names.now c.args.text.now c.skip_blanks-place.result c.word_end-next.result
    (token_of c.word_token.result) (omega arith) (c.skip_blanks-place.ensures.stops
    (omega arith)) digit letter c.word_end-next.ensures.end c.word_token.ensures

pub returns-else-is_ascii_alphabetic-clause-found : goal.returns-else-is_ascii_alphabetic-clause-found
returns-else-is_ascii_alphabetic-clause-found c =
    let digit : is_ascii_digit (get_or c.args.text.now c.skip_blanks-place.result 0) ≡ false =
    sym c.is_ascii_digit.ensures.value ∙ c.if-is_ascii_digit.false in
    let letter : is_ascii_alphabetic (get_or c.args.text.now c.skip_blanks-place.result 0) ≡ false =
    sym c.is_ascii_alphabetic.ensures.value ∙ c.if-is_ascii_alphabetic.false in
    c.skip_blanks-place.ensures.same c.args.names.now
    ∙ scanned_symbol c.args.names.now c.args.text.now c.skip_blanks-place.result (c.skip_blanks-place.result + 1)
    (token_of c.symbol_token.result) (omega arith) (c.skip_blanks-place.ensures.stops
    (omega arith)) digit letter refl c.symbol_token.ensures
