-- Names that are added one by one.
use Rattle.std.proofs.Common.{◌≡◌, ◌∙◌, sym, ap, refl, ℕ, zero, suc, ◌<◌, ◌≤◌, ◌==◌, ◌||◌, Bool, true, false, cond}
use Rattle.std.proofs.Common.{List, [], ◌∷◌, length, slice_get, unwrap_or, Option, Some, None, arith}
use Rattle.std.specs.Prelude.{not}
use Rattle.std.specs.Char.{is_ascii_alphabetic}
use Rattle.std.specs.List.{list_all, list_any, All}
use Rattle.std.specs.Str.{bytes_eq, IsUtf8}
use Rattle.std.proofs.lemmas.Bool.{and_parts}
use Rattle.std.proofs.lemmas.Grind.{common_steps}
use Rattle.std.proofs.lemmas.Option.{none-some}
use Rattle.std.proofs.lemmas.Slice.Eq.{bytes_eq-Decides}
use Rattle.std.proofs.lemmas.Str.{IsUtf8-from_ascii}
use Rattle.std.proofs.lemmas.Str.Ascii.{IsAscii-from_all}
use Rattle.std.proofs.Common.{Result, Ok, Err}
use mathlib.Core.Bool.{true≢false}
use Rattle.expr_reader.specs.declared.name_error.NameError.{NameError}
use Rattle.ps_model.specs.Names.{is_name, is_name_byte}
use Rattle.script.specs.Header.{name_fault}
use Rattle.script.specs.declared.refusal.Refusal.{Refusal}
use Rattle.script.specs.declared.refusal.Refusal.TheVariants as refusal

low_letter : (b : ℕ) → is_ascii_alphabetic b ≡ true → b < 128
low_letter b h = grind (arith, common_steps)

low_byte : (b : ℕ) → is_name_byte b ≡ true → b < 128
low_byte b h = grind (arith, common_steps)

low_bytes : (bs : List ℕ) → list_all is_name_byte bs ≡ true → All (λ b. b < 128) bs
low_bytes [] h i d lt = absurd (omega arith)
low_bytes (b ∷ bs) h zero d lt = low_byte b ((and_parts _ _ h).0)
low_bytes (b ∷ bs) h (suc i) d lt = low_bytes bs ((and_parts _ _ h).1) i d (omega arith)

pub name_utf8 : (name : List ℕ) → is_name name ≡ true → IsUtf8 name
name_utf8 [] h = IsUtf8-from_ascii [] (IsAscii-from_all [] (low_bytes [] refl))
name_utf8 (b ∷ bs) h = IsUtf8-from_ascii (b ∷ bs) (IsAscii-from_all (b ∷ bs) low)
  where
    letters : (is_ascii_alphabetic b ≡ true) × (list_all is_name_byte bs ≡ true)
    letters = and_parts _ _ ((and_parts _ _ ((and_parts _ _ h).0)).0)

    low : All (λ x. x < 128) (b ∷ bs)
    low zero d lt = low_letter b letters.0
    low (suc i) d lt = low_bytes bs letters.1 i d (omega arith)

pub no_name : (name : List ℕ) → (IsUtf8 name → ⊥) → is_name name ≡ false
no_name name bad = by (is_name name) refl
  where
    by : (x : Bool) → is_name name ≡ x → x ≡ false
    by true e = absurd (bad (name_utf8 name e))
    by false e = refl

any_at : (name : List ℕ) (names : List (List ℕ)) (i : ℕ) → slice_get names i ≡ Some name
    → list_any (bytes_eq name) names ≡ true
any_at name [] i h = absurd (none-some name h)
any_at name (x ∷ xs) zero h =
    ap (λ b. b || list_any (bytes_eq name) xs)
    ((bytes_eq-Decides name x).1 (sym (ap (λ o. unwrap_or o []) h)))
any_at name (x ∷ xs) (suc i) h = by (bytes_eq name x) refl (any_at name xs i h)
  where
    by : (b : Bool) → bytes_eq name x ≡ b → list_any (bytes_eq name) xs ≡ true
        → list_any (bytes_eq name) (x ∷ xs) ≡ true
    by true e rest = ap (λ c. c || list_any (bytes_eq name) xs) e
    by false e rest = ap (λ c. c || list_any (bytes_eq name) xs) e ∙ rest

none_any : (name : List ℕ) (names : List (List ℕ)) → ((i : ℕ) → slice_get names i ≡ Some name → ⊥)
    → list_any (bytes_eq name) names ≡ false
none_any name [] none = refl
none_any name (x ∷ xs) none = by (bytes_eq name x) refl (none_any name xs (λ i. none (suc i)))
  where
    by : (b : Bool) → bytes_eq name x ≡ b → list_any (bytes_eq name) xs ≡ false
        → list_any (bytes_eq name) (x ∷ xs) ≡ false
    by true e rest = absurd (none 0 (ap Some (sym ((bytes_eq-Decides name x).0 e))))
    by false e rest = ap (λ c. c || list_any (bytes_eq name) xs) e ∙ rest

-- the fault of a name by the three tests
abbrev by_tests : ℕ → Bool → Bool → Bool → Option Refusal
by_tests k full valid repeated = cond full (Some refusal.TooManyNames)
    (cond (not valid) (Some (refusal.BadName k)) (cond repeated (Some (refusal.NameRepeats k)) None))

module _ (names : List (List ℕ)) (name : List ℕ) (k : ℕ) where
  pub too_many : length names ≡ 8 → name_fault names name k ≡ Some refusal.TooManyNames
  too_many e = ap (λ n. by_tests k (n == 8) (is_name name) (list_any (bytes_eq name) names)) e

  room : length names < 8 → (length names == 8) ≡ false
  room lt = grind (arith, common_steps)

  behind_room : length names < 8
      → name_fault names name k ≡ by_tests k false (is_name name) (list_any (bytes_eq name) names)
  behind_room lt = ap (λ b. by_tests k b (is_name name) (list_any (bytes_eq name) names)) (room lt)

  pub bad_name : length names < 8 → is_name name ≡ false → name_fault names name k ≡ Some (refusal.BadName k)
  bad_name lt e = behind_room lt ∙ ap (λ b. by_tests k false b (list_any (bytes_eq name) names)) e

  pub name_repeats : (i : ℕ) → length names < 8 → is_name name ≡ true → slice_get names i ≡ Some name
      → name_fault names name k ≡ Some (refusal.NameRepeats k)
  name_repeats i lt e h =
      behind_room lt ∙ ap (λ b. by_tests k false b (list_any (bytes_eq name) names)) e
      ∙ ap (by_tests k false true) (any_at name names i h)

  pub good_name : length names < 8 → is_name name ≡ true → ((i : ℕ) → slice_get names i ≡ Some name → ⊥)
      → name_fault names name k ≡ None
  good_name lt e none =
      behind_room lt ∙ ap (λ b. by_tests k false b (list_any (bytes_eq name) names)) e
      ∙ ap (by_tests k false true) (none_any name names none)

  pub not_text : length names ≤ 8 → (length names == 8) ≡ false → (IsUtf8 name → ⊥)
      → name_fault names name k ≡ Some (refusal.BadName k)
  not_text few test bad =
      ap (λ b. by_tests k b (is_name name) (list_any (bytes_eq name) names)) test
      ∙ ap (λ b. by_tests k false b (list_any (bytes_eq name) names)) (no_name name bad)

  pub repeated : (i : ℕ) → (length names < 8) × (is_name name ≡ true) × (slice_get names i ≡ Some name)
      → name_fault names name k ≡ Some (refusal.NameRepeats k)
  repeated i p = name_repeats i p.0 p.1 p.2

  pub added : length names ≤ 8 → (length names ≡ 8 → ⊥) → ((length names < 8) × (is_name name ≡ false) → ⊥)
      → ((i : ℕ) → (length names < 8) × (is_name name ≡ true) × (slice_get names i ≡ Some name) → ⊥)
      → name_fault names name k ≡ None
  added few not_full not_bad not_twice = by (is_name name) refl
    where
      fewer : (n : ℕ) → n ≤ 8 → (n ≡ 8 → ⊥) → n < 8
      fewer n le ne = grind (arith, common_steps)

      lt : length names < 8
      lt = fewer (length names) few not_full

      by : (b : Bool) → is_name name ≡ b → name_fault names name k ≡ None
      by true e = good_name lt e (λ i h. not_twice i (lt, e, h))
      by false e = absurd (not_bad (lt, e))

abbrev okay : Result ℕ NameError → Bool
okay (Ok x) = true
okay (Err e) = false

pub ok_not_err : (x : ℕ) (e : NameError) → Ok x ≡ Err e → ⊥
ok_not_err x e h = true≢false (ap okay h)
