-- Terms are read back from their texts, and a line has one list of terms.
use Rattle.std.proofs.Common.{◌≡◌, ℕ, zero, suc, ◌^◌, ◌<◌, ◌≤◌, true}
use Rattle.std.proofs.Common.{List, [], ◌∷◌, ◌++◌, length, Some, None, decimal, codes}
use Rattle.std.proofs.Common.{refl, sym, ◌∙◌, ap, subst, arith, append_assoc}
use Rattle.std.specs.Option.{option_map}
use Rattle.std.specs.List.{flat_map}
use Rattle.std.proofs.lemmas.Option.{none-some, same_Some}
use Rattle.std.proofs.lemmas.List.{append_cancel_left}
use Rattle.ps_model.specs.Keys.{Key, Powers, numbers}
use Rattle.ps_model.specs.KeyLaws.{same_numbers}
use Rattle.ps_model.specs.BlockText.{power_text, powers_text, term_text, terms_text}
use Rattle.printer.specs.ReadForms.{number_in, powers_in, term_in, AreApart, IsNamed, ends}
use Rattle.printer.proofs.ReadNumbers.{number_complete, number_sound, number_zero}
use Rattle.printer.proofs.ReadPowers.{bind_some, map_some, powers_complete, powers_sound, AreLow}
use Rattle.printer.proofs.ReadPowers.{powers_stop, stop_digit}

-- a term is read back
pub term_complete : (most limit : ℕ) (names : List (List ℕ)) (c : ℕ) (ps rest : List ℕ) → AreApart names → 0 < c
    → c ≤ most → most < 2 ^ 64 → AreLow limit ps → length ps ≡ length names → limit < 2 ^ 64 → ends rest ≡ true
    → term_in most limit names ((decimal c ++ powers_text names ps) ++ rest) ≡ Some ((c, ps), rest)
unfolding term_in
term_complete most limit names c ps rest apart some within fits low same fits' h =
    rw (
      append_assoc (decimal c) (powers_text names ps) rest,
      number_complete most c (powers_text names ps ++ rest) some within (omega arith)
          (stop_digit (powers_text names ps ++ rest) (powers_stop names ps rest h)),
      powers_complete limit names ps rest apart low same fits' h,
    ) refl

-- what was read is a term
abbrev pub IsTermRead : ℕ → ℕ → List (List ℕ) → List ℕ → (ℕ × List ℕ) × List ℕ → Type 0
IsTermRead most limit names bytes x =
    ((decimal x.0.0 ++ powers_text names x.0.1) ++ x.1 ≡ bytes) × (0 < x.0.0) × (x.0.0 ≤ most)
    × (length x.0.1 ≡ length names) × AreLow (suc limit) x.0.1

pub term_sound : (most limit : ℕ) (names : List (List ℕ)) (bytes : List ℕ) (x : (ℕ × List ℕ) × List ℕ)
    → most < 2 ^ 64 → limit < 2 ^ 64 → term_in most limit names bytes ≡ Some x → IsTermRead most limit names bytes x
unfolding term_in
term_sound most limit names bytes x fits fits' h =
    let a = bind_some (number_in most bytes)
    (λ c. option_map (λ (q : List ℕ × List ℕ). ((c.0, q.0), q.1)) (powers_in limit names c.1)) x h in
    let b = map_some (λ (q : List ℕ × List ℕ). ((a.0.0, q.0), q.1)) (powers_in limit names a.0.1) x a.2 in
    let c = number_sound most bytes a.0.0 a.0.1 fits a.1 in
    let d = powers_sound limit names a.0.1 b.0 fits' b.1 in
    subst (IsTermRead most limit names bytes) b.2 (
      append_assoc (decimal a.0.0) (powers_text names b.0.0) b.0.1
          ∙ ap (λ (l : List ℕ). decimal a.0.0 ++ l) d.0 ∙ c.0,
      c.1,
      c.2,
      d.1,
      d.2,
    )

-- the powers at the names, 0 where there is no variable
abbrev pub at_names : List (List ℕ) → List ℕ → List ℕ
at_names [] xs = []
at_names (name ∷ names) [] = 0 ∷ at_names names []
at_names (name ∷ names) (x ∷ xs) = x ∷ at_names names xs

pub length-at_names : (names : List (List ℕ)) (xs : List ℕ) → length (at_names names xs) ≡ length names
length-at_names [] xs = refl
length-at_names (name ∷ names) [] = ap suc (length-at_names names [])
length-at_names (name ∷ names) (x ∷ xs) = ap suc (length-at_names names xs)

no_powers_text : (names : List (List ℕ)) → powers_text names (at_names names []) ≡ []
no_powers_text [] = refl
no_powers_text (name ∷ names) = no_powers_text names

pub powers_text-at_names : (names : List (List ℕ)) (xs : List ℕ)
    → powers_text names (at_names names xs) ≡ powers_text names xs
powers_text-at_names [] xs = refl
powers_text-at_names (name ∷ names) [] = no_powers_text names
powers_text-at_names (name ∷ names) (x ∷ xs) =
    ap (λ (l : List ℕ). power_text name x ++ l) (powers_text-at_names names xs)

low-at_names : (limit : ℕ) (names : List (List ℕ)) (xs : List ℕ) → AreLow limit xs → AreLow limit (at_names names xs)
low-at_names limit [] xs low = tt
low-at_names limit (name ∷ names) [] low = (omega arith, low-at_names limit names [] low)
low-at_names limit (name ∷ names) (x ∷ xs) low = (low.0, low-at_names limit names xs low.1)

no_names : (xs ys : List ℕ) → IsNamed [] xs → IsNamed [] ys → length xs ≡ length ys → xs ≡ ys
no_names [] [] p q e = refl
no_names [] (y ∷ ys) p q e = absurd (omega arith)
no_names (x ∷ xs) [] p q e = absurd (omega arith)
no_names (x ∷ xs) (y ∷ ys) p q e =
    let rest = no_names xs ys p.1 q.1 (omega arith) in
    λ i. (p.0 ∙ sym q.0) i ∷ rest i

pub same_at_names : (names : List (List ℕ)) (xs ys : List ℕ) → IsNamed names xs → IsNamed names ys
    → length xs ≡ length ys → at_names names xs ≡ at_names names ys → xs ≡ ys
same_at_names [] xs ys p q e same = no_names xs ys p q e
same_at_names (name ∷ names) [] [] p q e same = refl
same_at_names (name ∷ names) [] (y ∷ ys) p q e same = absurd (omega arith)
same_at_names (name ∷ names) (x ∷ xs) [] p q e same = absurd (omega arith)
same_at_names (name ∷ names) (x ∷ xs) (y ∷ ys) p q e same =
    let rest = same_at_names names xs ys p q (omega arith) (cc) in
    let first : x ≡ y = cc in
    λ i. first i ∷ rest i

pub length-numbers : (n : ℕ) (x : Powers n) → length (numbers n x) ≡ n
length-numbers zero x = refl
length-numbers (suc n) x = ap suc (length-numbers n x.1)

-- a term that is written with these names, of the coefficient of Y^j
pub record IsWritten {n : ℕ} (names : List (List ℕ)) (most limit j : ℕ) (t : Key n × ℕ) : Type 0 where
  pub some : 0 < t.1
  pub within : t.1 ≤ most
  pub low : AreLow limit (numbers n t.0.powers)
  pub is_named : IsNamed names (numbers n t.0.powers)
  pub y : t.0.y ≡ j

abbrev pub AreWritten : {n : ℕ} → List (List ℕ) → ℕ → ℕ → ℕ → List (Key n × ℕ) → Type 0
AreWritten names most limit j [] = Unit {0}
AreWritten names most limit j (t ∷ ts) = IsWritten names most limit j t × AreWritten names most limit j ts

module _ (n : ℕ) (names : List (List ℕ)) (most limit j : ℕ) (apart : AreApart names) (fits : most < 2 ^ 64)
    (fits' : limit < 2 ^ 64) where
  abbrev read_of : Key n × ℕ → ℕ × List ℕ
  read_of t = (t.1, at_names names (numbers n t.0.powers))

  pub term_read : (t : Key n × ℕ) (rest : List ℕ) → IsWritten names most limit j t → ends rest ≡ true
      → term_in most limit names (term_text names t ++ rest) ≡ Some (read_of t, rest)
  term_read t rest is h =
      ap (λ (l : List ℕ). term_in most limit names ((decimal t.1 ++ l) ++ rest))
      (sym (powers_text-at_names names (numbers n t.0.powers)))
      ∙ term_complete most limit names t.1 (at_names names (numbers n t.0.powers)) rest apart is.some is.within fits
      (low-at_names limit names (numbers n t.0.powers) is.low) (length-at_names names (numbers n t.0.powers)) fits' h

  pub same_term : (t u : Key n × ℕ) → IsWritten names most limit j t → IsWritten names most limit j u
      → read_of t ≡ read_of u → t ≡ u
  same_term t u is is' e =
      let powers = same_numbers n t.0.powers u.0.powers
      (same_at_names names (numbers n t.0.powers) (numbers n u.0.powers) is.is_named is'.is_named
      (length-numbers n t.0.powers ∙ sym (length-numbers n u.0.powers)) (ap (λ (x : ℕ × List ℕ). x.1) e)) in
      λ i. (record { powers = powers i; y = (is.y ∙ sym is'.y) i }, (ap (λ (x : ℕ × List ℕ). x.0) e) i)

  abbrev pub tail_text : List (Key n × ℕ) → List ℕ
  tail_text ts = flat_map (λ u. codes " + " ++ term_text names u) ts

  -- what stands behind a term
  pub tail_ends : (ts : List (Key n × ℕ)) (rest : List ℕ) → ends (tail_text ts ++ 10 ∷ rest) ≡ true
  tail_ends [] rest = refl
  tail_ends (t ∷ ts) rest = refl

  abbrev OneReading : (ts us : List (Key n × ℕ)) → (List ℕ) → (List ℕ) → Type 0
  OneReading ts us rest rest' = (ts ≡ us) × (rest ≡ rest')

  abbrev AreWrittenHere : List (Key n × ℕ) → Type 0
  AreWrittenHere ts = AreWritten names most limit j ts

  -- two terms at the beginning of one text are one
  one_term : (t u : Key n × ℕ) (rest rest' : List ℕ) → IsWritten names most limit j t
      → IsWritten names most limit j u → ends rest ≡ true → ends rest' ≡ true
      → term_text names t ++ rest ≡ term_text names u ++ rest' → (t ≡ u) × (rest ≡ rest')
  one_term t u rest rest' is is' h h' e =
      let same = same_Some _ _ (sym (term_read t rest is h) ∙ ap (term_in most limit names) e
      ∙ term_read u rest' is' h') in (
        same_term t u is is' (ap (λ (x : (ℕ × List ℕ) × List ℕ). x.0) same),
        ap (λ (x : (ℕ × List ℕ) × List ℕ). x.1) same,
      )

  behind_plus : (a b : List ℕ) → (codes " + " ++ a) ++ b ≡ codes " + " ++ (a ++ b)
  behind_plus a b = append_assoc (codes " + ") a b

  pub one_tail : (ts us : List (Key n × ℕ)) (rest rest' : List ℕ) → AreWrittenHere ts → AreWrittenHere us
      → tail_text ts ++ 10 ∷ rest ≡ tail_text us ++ 10 ∷ rest' → OneReading ts us rest rest'
  one_tail [] [] rest rest' p q e = (refl, cc)
  one_tail [] (u ∷ us) rest rest' p q e = absurd (cc)
  one_tail (t ∷ ts) [] rest rest' p q e = absurd (cc)
  one_tail (t ∷ ts) (u ∷ us) rest rest' p q e =
      let cut = append_cancel_left (codes " + ") (term_text names t ++ (tail_text ts ++ 10 ∷ rest))
      (term_text names u ++ (tail_text us ++ 10 ∷ rest'))
      (sym (regroup (codes " + ") (term_text names t) (tail_text ts) (10 ∷ rest)) ∙ e
      ∙ regroup (codes " + ") (term_text names u) (tail_text us) (10 ∷ rest')) in
      let first = one_term t u (tail_text ts ++ 10 ∷ rest) (tail_text us ++ 10 ∷ rest') p.0 q.0
      (tail_ends ts rest) (tail_ends us rest') cut in
      let later = one_tail ts us rest rest' p.1 q.1 first.1 in
      (λ i. first.0 i ∷ later.0 i, later.1)
    where
      regroup : (a b c d : List ℕ) → ((a ++ b) ++ c) ++ d ≡ a ++ (b ++ (c ++ d))
      regroup a b c d = simp append_assoc

  -- a text of terms isn't that of none
  not_zero : (t : Key n × ℕ) (rest rest' : List ℕ) → IsWritten names most limit j t → ends rest' ≡ true
      → 48 ∷ rest ≡ term_text names t ++ rest' → ⊥
  unfolding term_in
  not_zero t rest rest' is h e =
      let none : term_in most limit names (48 ∷ rest) ≡ None = rw (number_zero most rest) refl in
      none-some _ (sym none ∙ ap (term_in most limit names) e ∙ term_read t rest' is h)

  pub one_line : (ts us : List (Key n × ℕ)) (rest rest' : List ℕ) → AreWrittenHere ts → AreWrittenHere us
      → terms_text names ts ++ 10 ∷ rest ≡ terms_text names us ++ 10 ∷ rest' → OneReading ts us rest rest'
  one_line [] [] rest rest' p q e = (refl, cc)
  one_line [] (u ∷ us) rest rest' p q e =
      absurd (not_zero u (10 ∷ rest) (tail_text us ++ 10 ∷ rest') q.0 (tail_ends us rest')
      (e ∙ append_assoc (term_text names u) (tail_text us) (10 ∷ rest')))
  one_line (t ∷ ts) [] rest rest' p q e =
      absurd (not_zero t (10 ∷ rest') (tail_text ts ++ 10 ∷ rest) p.0 (tail_ends ts rest)
      (sym e ∙ append_assoc (term_text names t) (tail_text ts) (10 ∷ rest)))
  one_line (t ∷ ts) (u ∷ us) rest rest' p q e =
      let first = one_term t u (tail_text ts ++ 10 ∷ rest) (tail_text us ++ 10 ∷ rest') p.0 q.0
      (tail_ends ts rest) (tail_ends us rest')
      (sym (append_assoc (term_text names t) (tail_text ts) (10 ∷ rest)) ∙ e
      ∙ append_assoc (term_text names u) (tail_text us) (10 ∷ rest')) in
      let later = one_tail ts us rest rest' p.1 q.1 first.1 in
      (λ i. first.0 i ∷ later.0 i, later.1)
