-- The two forms of a number's word.
use Rattle.std.proofs.Common.{◌<◌, ◌^◌, Result, Ok, Err, arith, ◌≡◌, ◌∙◌, sym, ap, refl, ℕ, ◌≤◌, ◌&&◌, Bool, true}
use Rattle.std.proofs.Common.{false, cond, true≢false, length}
use Rattle.std.proofs.Common.{List, Option, Some, None, nat_le, leb-true, le-leb, option_map, subst, [], ◌∷◌}
use Rattle.std.specs.Char.{is_ascii_digit}
use Rattle.std.specs.List.{list_all}
use Rattle.std.specs.Str.{all_ascii_digits}
use Rattle.std.specs.Str.Parse.{digits_value}
use Rattle.std.specs.Result.{OkIff}
use Rattle.std.specs.Str.Parse.{ParsesUnsigned}
use Rattle.std.proofs.lemmas.Str.Parse.{numerals_by_value, parse_digits, tells_all_ascii_digits}
use Rattle.words.specs.Numbers.{IsNumber, are_digits, is_within, number_in}
use Rattle.words.proofs.Plain.{some≢none, the_same}

pub both : (a b : Bool) → (a && b) ≡ true → (a ≡ true) × (b ≡ true)
both true b e = (refl, e)
both false b e = absurd (true≢false (sym e))

pub given : {X : Type 0} (b : Bool) (x y : X) → cond b (Some x) None ≡ Some y → (b ≡ true) × (x ≡ y)
given true x y e = (refl, the_same x y e)
given false x y e = absurd (some≢none y (sym e))

pub is_number : (most low high : ℕ) (word : List ℕ) (n : ℕ) → number_in most low high word ≡ Some n
    → IsNumber most low high word n
is_number most low high word n e =
    let here = given (are_digits most word && is_within low high (digits_value 10 word)) (digits_value 10 word) n e in
    let parts = both (are_digits most word) (is_within low high (digits_value 10 word)) here.0 in
    let digits = both (all_ascii_digits word) (nat_le 1 (length word) && nat_le (length word) most) parts.0 in
    let lengths = both (nat_le 1 (length word)) (nat_le (length word) most) digits.1 in
    let bounds = both (nat_le low (digits_value 10 word)) (nat_le (digits_value 10 word) high) parts.1 in
    record {
      digits = digits.0;
      some = leb-true _ _ lengths.0;
      at_most = leb-true _ _ lengths.1;
      value = here.1;
      from = subst (λ v. low ≤ v) here.1 (leb-true _ _ bounds.0);
      to = subst (λ v. v ≤ high) here.1 (leb-true _ _ bounds.1);
    }

pub number_is : (most low high : ℕ) (word : List ℕ) (n : ℕ) → IsNumber most low high word n
    → number_in most low high word ≡ Some n
number_is most low high word n is =
    let least : low ≤ digits_value 10 word = subst (λ v. low ≤ v) (sym is.value) is.from in
    let greatest : digits_value 10 word ≤ high = subst (λ v. v ≤ high) (sym is.value) is.to in
    (λ i. cond ((is.digits i && (le-leb 1 (length word) is.some i && le-leb (length word) most is.at_most i))
    && (le-leb low (digits_value 10 word) least i && le-leb (digits_value 10 word) high greatest i))
    (Some (digits_value 10 word)) None) ∙ ap Some is.value

-- what a number makes
pub mapped : {X Y : Type 0} (f : X → Y) (o : Option X) (y : Y) → option_map f o ≡ Some y
    → (x : X) × (o ≡ Some x) × (f x ≡ y)
mapped f (Some x) y e = (x, refl, the_same (f x) y e)
mapped f None y e = absurd (some≢none y (sym e))

-- ---- a word that is read

pub digits_same : (word : List ℕ) → list_all is_ascii_digit word ≡ all_ascii_digits word
digits_same [] = refl
digits_same (d ∷ ds) = ap (λ b. is_ascii_digit d && b) (digits_same ds)

pub no_number : (most low high : ℕ) (word : List ℕ) → (IsNumber most low high word (digits_value 10 word) → ⊥)
    → None ≡ number_in most low high word
no_number most low high word none =
    go (are_digits most word && is_within low high (digits_value 10 word)) refl
  where
    go : (b : Bool) → (are_digits most word && is_within low high (digits_value 10 word)) ≡ b
        → None ≡ cond b (Some (digits_value 10 word)) None
    go true e = absurd (none (is_number most low high word (digits_value 10 word) (ap (λ b. cond b (Some
        (digits_value 10 word)) None) e)))
    go false e = refl

-- what `parse` of u64 answers for digits; nothing is said of its errors, so their type may be any
read : (word : List ℕ) (r : Result ℕ ℕ) → ParsesUnsigned 64 10 word r → all_ascii_digits word ≡ true
    → OkIff r ((0 < length word) × (digits_value 10 word < 2 ^ 64)) (digits_value 10 word)
read word r h digits =
    parse_digits (numerals_by_value (λ ds. all_ascii_digits ds ≡ true) tells_all_ascii_digits) 64 word r h digits

pub digits_read : (word : List ℕ) (n : ℕ) → ParsesUnsigned {E = ℕ} 64 10 word (Ok n) → all_ascii_digits word ≡ true
    → (1 ≤ length word) × (digits_value 10 word ≡ n)
digits_read word n h digits =
    let is = read word (Ok n) h digits in
    let some : 1 ≤ length word = omega (arith, is.0.0) in
    (some, sym is.1)

pub digits_refused : (word : List ℕ) → ParsesUnsigned {E = ℕ} 64 10 word (Err 0) → all_ascii_digits word ≡ true
    → 1 ≤ length word → digits_value 10 word < 2 ^ 64 → ⊥
digits_refused word h digits some small = read word (Err 0) h digits (some, small)

pub number_of_digits : (most low high : ℕ) (word : List ℕ) (n : ℕ) → all_ascii_digits word ≡ true → 1 ≤ length word
    → length word ≤ most → digits_value 10 word ≡ n
    → cond (is_within low high n) (Some n) None ≡ number_in most low high word
number_of_digits most low high word n digits some few value =
    sym (λ i. cond ((digits i && (le-leb 1 (length word) some i && le-leb (length word) most few i))
    && is_within low high (value i)) (Some (value i)) None)
