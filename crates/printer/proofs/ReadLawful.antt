-- A term that was read is the one with which the text begins.
use Rattle.std.proofs.Common.{◌≡◌, ℕ, zero, suc, ◌-◌, ◌^◌, ◌<◌, ◌≤◌, List, [], ◌∷◌, ◌++◌, length, take, drop, Some}
use Rattle.std.proofs.Common.{None}
use Rattle.std.proofs.Common.{decimal, refl, sym, ◌∙◌, ap, subst, arith}
use Rattle.std.proofs.lemmas.Option.{none-some, same_Some}
use Rattle.std.proofs.lemmas.List.{length-take-le}
use Rattle.ps_model.specs.Names.{AreNames}
use Rattle.ps_model.specs.BlockText.{power_text, powers_text, term_text}
use Rattle.ps_model.specs.Keys.{Key, numbers, powers_of, weights_from}
use Rattle.ps_model.specs.KeyLaws.{weights_from-positive, same_numbers}
use Rattle.ps_model.specs.Plain.{key_of, entry_of}
use Rattle.ps_model.specs.PlainLists.{plain_degree}
use Rattle.ps_model.specs.declared.plain.PlainTerm.{PlainTerm}
use Rattle.ps_model.proofs.Maps.{numbers_of}
use Rattle.parts.specs.Rings.{modulus_of, variables_of, eight_weights}
use Rattle.parts.specs.declared.rings.Ring.{Ring}
use Rattle.printer.specs.ReadForms.{term_in, AreApart, IsNamed, IsNone}
use Rattle.printer.specs.ReadBlock.{IsTerm, IsTermBefore, variable_names}
use Rattle.printer.proofs.ReadNames.{names_apart}
use Rattle.printer.proofs.ReadPowers.{AreLow}
use Rattle.printer.proofs.ReadPrinted.{low_powers}
use Rattle.printer.proofs.ReadTerms.{term_sound, term_read, IsWritten, at_names, IsTermRead, same_at_names}
use Rattle.printer.proofs.ReadTerms.{length-numbers}

-- the first of names that are apart
none_taken : (k : ℕ) (name : List ℕ) (names : List (List ℕ)) → IsNone name names → IsNone name (take k names)
none_taken zero name names h = tt
none_taken (suc k) name [] h = tt
none_taken (suc k) name (n ∷ names) h = (h.0, none_taken k name names h.1)

pub apart_taken : (k : ℕ) (names : List (List ℕ)) → AreApart names → AreApart (take k names)
apart_taken zero names h = tt
apart_taken (suc k) [] h = tt
apart_taken (suc k) (n ∷ names) h = (h.0, none_taken k n names h.1, apart_taken k names h.2)

no_names_text : (xs : List ℕ) → powers_text [] xs ≡ []
no_names_text xs = refl

taken_text : (names : List (List ℕ)) (xs : List ℕ)
    → powers_text names (take (length names) xs) ≡ powers_text names xs
taken_text [] xs = refl
taken_text (name ∷ names) [] = refl
taken_text (name ∷ names) (x ∷ xs) = ap (λ (l : List ℕ). power_text name x ++ l) (taken_text names xs)

at_names_taken : (names : List (List ℕ)) (xs : List ℕ) → length names ≤ length xs
    → at_names names xs ≡ take (length names) xs
at_names_taken [] xs h = refl
at_names_taken (name ∷ names) [] h = absurd (omega arith)
at_names_taken (name ∷ names) (x ∷ xs) h = ap (λ l. x ∷ l) (at_names_taken names xs (omega arith))

degree_low : (ws : List ℕ) (D : ℕ) (k : Key 8) → plain_degree ws k ≤ D → AreLow D (numbers 8 k.powers)
unfolding plain_degree
degree_low ws D k h = low_powers 8 D (weights_from 8 ws) k.powers (weights_from-positive 8 ws) h

module _ (ring : Ring) (names : List (List ℕ)) (D j : ℕ) (apart : AreApart names) (two : 2 ≤ modulus_of ring)
    (fits : modulus_of ring < 2 ^ 64) (low : D ≤ 4095) where
  abbrev most : ℕ
  most = modulus_of ring - 1

  most_fits : (m : ℕ) → m < 2 ^ 64 → m - 1 < 2 ^ 64
  most_fits m h = omega arith

  pub written : (t : Key 8 × ℕ) → IsTerm ring names D j t → IsWritten names (modulus_of ring - 1) D j t
  written t is = record {
    some = is.some;
    within = less t.1 (modulus_of ring) is.residue;
    low = degree_low (eight_weights ring) D t.0 is.low;
    is_named = is.is_named;
    y = is.y;
  }
    where
      less : (a b : ℕ) → a < b → a ≤ b - 1
      less a b h = omega arith

  -- a term with which the text begins is read
  pub before_read : (bytes : List ℕ) (t : Key 8 × ℕ) (rest : List ℕ) → IsTermBefore ring names D j bytes t rest
      → term_in (modulus_of ring - 1) D names bytes ≡ Some ((t.1, at_names names (numbers 8 t.0.powers)), rest)
  before_read bytes t rest is =
      ap (term_in (modulus_of ring - 1) D names) is.text_is
      ∙ term_read 8 names (modulus_of ring - 1) D j apart (most_fits (modulus_of ring) fits) (omega arith) t rest
      (written t is.is_term) is.rest_ends

  pub none_before : (bytes : List ℕ) → term_in (modulus_of ring - 1) D names bytes ≡ None → (t : Key 8 × ℕ)
      (rest : List ℕ) → IsTermBefore ring names D j bytes t rest → ⊥
  none_before bytes none t rest is = none-some _ (sym none ∙ before_read bytes t rest is)

  module _ (bytes rest : List ℕ) (t : PlainTerm) (all : length t.powers ≡ 8) (few : length names ≤ 8)
      (past : IsNamed names t.powers) (y : t.y ≡ j)
      (read : term_in (modulus_of ring - 1) D names bytes ≡ Some ((t.coefficient, take (length names) t.powers), rest))
    where
      sound : IsTermRead (modulus_of ring - 1) D names bytes ((t.coefficient, take (length names) t.powers), rest)
      sound = term_sound (modulus_of ring - 1) D names bytes ((t.coefficient, take (length names) t.powers), rest)
          (most_fits (modulus_of ring) fits) (omega arith) read

      pub read_text : bytes ≡ term_text names (entry_of t) ++ rest
      read_text =
          sym sound.0
          ∙ ap (λ (l : List ℕ). (decimal t.coefficient ++ l) ++ rest)
          (taken_text names t.powers ∙ ap (powers_text names) (sym (numbers_of 8 t.powers all)))

      named : IsNamed names (numbers 8 (powers_of 8 t.powers))
      named = subst (IsNamed names) (sym (numbers_of 8 t.powers all)) past

      pub read_term : plain_degree (eight_weights ring) (key_of t) ≤ D → IsTerm ring names D j (entry_of t)
      read_term h = record {
        some = sound.1;
        residue = less t.coefficient (modulus_of ring) two sound.2;
        low = h;
        is_named = named;
        y = y;
      }
        where
          less : (a b : ℕ) → 2 ≤ b → a ≤ b - 1 → a < b
          less a b two h = omega arith

      -- no other term is at the beginning
      pub only_read : (u : Key 8 × ℕ) (rest' : List ℕ) → IsTermBefore ring names D j bytes u rest'
          → (entry_of t ≡ u) × (rest ≡ rest')
      only_read u rest' is =
          let same = same_Some _ _ (sym read ∙ before_read bytes u rest' is) in
          let same_powers = same_at_names names t.powers (numbers 8 u.0.powers) past is.is_term.is_named
          (all ∙ sym (length-numbers 8 u.0.powers))
          (at_names_taken names t.powers (omega (arith, all, few))
          ∙ ap (λ (x : (ℕ × List ℕ) × List ℕ). x.0.1) same) in
          let key = same_numbers 8 (powers_of 8 t.powers) u.0.powers (numbers_of 8 t.powers all ∙ same_powers) in (
            λ i. (
              record { powers = key i; y = (y ∙ sym is.is_term.y) i },
              ap (λ (x : (ℕ × List ℕ) × List ℕ). x.0.0) same i,
            ),
            ap (λ (x : (ℕ × List ℕ) × List ℕ). x.1) same,
          )

past_back : (names : List (List ℕ)) (ps : List ℕ) → IsNamed names ps → IsNamed [] (drop (length names) ps)
past_back [] ps h = h
past_back (name ∷ names) [] h = tt
past_back (name ∷ names) (p ∷ ps) h = past_back names ps h

-- the same of a count, a number and a limit that the code has
module _ (ring : Ring) (all : List (List ℕ)) (D y m d n : ℕ) (bytes : List ℕ) (are : AreNames all)
    (le : variables_of ring ≤ length all) (few : variables_of ring ≤ 8) (low : D ≤ 4095) (em : m ≡ modulus_of ring)
    (two : 2 ≤ m) (high : m < 2 ^ 63) (ed : d ≡ D) (en : n ≡ variables_of ring) where
  abbrev names : List (List ℕ)
  names = variable_names ring all

  count : length names ≡ variables_of ring
  count = length-take-le (variables_of ring) all le

  here_apart : AreApart names
  here_apart = apart_taken (variables_of ring) all (names_apart all are)

  two_here : 2 ≤ modulus_of ring
  two_here = omega (arith, em)

  fits_here : modulus_of ring < 2 ^ 64
  fits_here = omega (arith, em)

  same_reading : term_in (m - 1) d (take n all) bytes ≡ term_in (modulus_of ring - 1) D names bytes
  same_reading = λ i. term_in (em i - 1) (ed i) (take (en i) all) bytes

  pub none_here : term_in (m - 1) d (take n all) bytes ≡ None → (t : Key 8 × ℕ) (rest : List ℕ)
      → IsTermBefore ring names D y bytes t rest → ⊥
  none_here e t rest is = none_before ring names D y here_apart two_here fits_here low bytes (sym same_reading ∙ e) t
      rest is

  module _ (t : PlainTerm) (rest : List ℕ) (all_powers : length t.powers ≡ 8) (past : IsNamed (take n all) t.powers)
      (is_y : t.y ≡ y) (read : term_in (m - 1) d (take n all) bytes ≡ Some ((t.coefficient, take n t.powers), rest))
    where
      abbrev IsFound : ℕ → Type 0
      IsFound k = term_in (modulus_of ring - 1) D names bytes ≡ Some ((t.coefficient, take k t.powers), rest)

      found : IsFound (length names)
      found = subst IsFound (en ∙ sym count) (sym same_reading ∙ read)

      past_here : IsNamed names t.powers
      past_here = subst (λ k. IsNamed (take k all) t.powers) en past

      pub past_variables : IsNamed [] (drop (variables_of ring) t.powers)
      past_variables = subst (λ k. IsNamed [] (drop k t.powers)) count (past_back names t.powers past_here)

      pub text_here : bytes ≡ term_text names (entry_of t) ++ rest
      text_here = read_text ring names D y here_apart two_here fits_here low bytes rest t all_powers
          (omega (arith, count)) past_here is_y found

      pub term_here : plain_degree (eight_weights ring) (key_of t) ≤ D → IsTerm ring names D y (entry_of t)
      term_here h = read_term ring names D y here_apart two_here fits_here low bytes rest t all_powers
          (omega (arith, count)) past_here is_y found h

      pub only_here : (u : Key 8 × ℕ) (rest' : List ℕ) → IsTermBefore ring names D y bytes u rest'
          → (entry_of t ≡ u) × (rest ≡ rest')
      only_here u rest' is = only_read ring names D y here_apart two_here fits_here low bytes rest t all_powers
          (omega (arith, count)) past_here is_y found u rest' is

      pub high_here : D < plain_degree (eight_weights ring) (key_of t) → (u : Key 8 × ℕ) (rest' : List ℕ)
          → IsTermBefore ring names D y bytes u rest' → ⊥
      high_here h u rest' is =
          let same : plain_degree (eight_weights ring) (key_of t) ≡ plain_degree (eight_weights ring) u.0 =
          ap (λ (e : Key 8 × ℕ). plain_degree (eight_weights ring) e.0) (only_here u rest' is).0 in
          let below = is.is_term.low in
          omega (arith, same, below, h)
