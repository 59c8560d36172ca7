-- Numbers that are read digit by digit.
use Rattle.std.proofs.Common.{◌≡◌, ◌∙◌, sym, ap, refl, ℕ, suc, ◌+◌, ◌-◌, ◌*◌, ◌<◌, true}
use Rattle.std.proofs.Common.{List, [], ◌∷◌, ◌++◌, length, take, get_or}
use Rattle.std.proofs.Math.Seq.{take-suc}
use Rattle.std.specs.Char.{is_ascii_digit, digit_value}
use Rattle.std.specs.List.{list_all}
use Rattle.std.specs.Str.Parse.{digits_value_after}
use Rattle.std.proofs.lemmas.List.Folds.{list_all_more}
use Rattle.std.proofs.lemmas.Bool.{and_from}
use Rattle.grammar.proofs.Lexed.{digit_value-digit}
use Rattle.script.specs.Numbers.{number_of}

after-push : (n : ℕ) (ds : List ℕ) (d : ℕ)
    → digits_value_after 10 n (ds ++ d ∷ []) ≡ digits_value_after 10 n ds * 10 + digit_value d
after-push n [] d = refl
after-push n (x ∷ ds) d = after-push (n * 10 + digit_value x) ds d

-- one digit more
pub number_of-more : (word : List ℕ) (i k : ℕ) → suc i ≡ k → i < length word
    → is_ascii_digit (get_or word i 0) ≡ true
    → number_of (take k word) ≡ number_of (take i word) * 10 + (get_or word i 0 - 48)
number_of-more word i k e within h =
    ap (λ n. number_of (take n word)) (sym e) ∙ ap number_of (take-suc word i 0 within)
    ∙ after-push 0 (take i word) (get_or word i 0)
    ∙ ap (λ v. number_of (take i word) * 10 + v) ((digit_value-digit _ h).1)

pub digits-more : (word : List ℕ) (i : ℕ) → i < length word → list_all is_ascii_digit (take i word) ≡ true
    → is_ascii_digit (get_or word i 0) ≡ true → list_all is_ascii_digit (take (i + 1) word) ≡ true
digits-more word i within before h =
    list_all_more is_ascii_digit word i 0 within ∙ and_from _ _ before h
