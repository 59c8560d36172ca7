-- The lines of a whole block.
use Rattle.std.proofs.Common.{◌≡◌, ℕ, zero, suc, ◌+◌, ◌-◌, ◌^◌, ◌<◌, ◌≤◌, min, Bool, true, false, cond, ◌&&◌, not}
use Rattle.std.proofs.Common.{List, [], ◌∷◌, ◌++◌, length, get_or}
use Rattle.std.proofs.Common.{Option, Some, None, codes, decimal, eqb, refl, sym, ◌∙◌, ap, subst, arith, append_assoc}
use Rattle.std.proofs.Common.{inl, inr}
use Rattle.std.specs.Option.{option_map}
use Rattle.std.specs.Char.{is_ascii_digit}
use Rattle.std.proofs.lemmas.Bool.{le-leb, eqb-true, ne_eqb}
use Rattle.std.proofs.lemmas.Option.{none-some, same_Some}
use Rattle.std.proofs.lemmas.Fmt.{decimal_digit, decimal_nonempty, first_decimal}
use Rattle.ps_model.specs.declared.job.Root.{Root}
use Rattle.ps_model.specs.Keys.{Key}
use Rattle.ps_model.specs.BlockText.{newline}
use Rattle.parts.specs.JobRows.{IsPermitted}
use Rattle.parts.specs.Rings.{weights_of}
use Rattle.parts.specs.declared.rings.Ring.{Ring}
use Rattle.printer.specs.ReadForms.{◌>>=◌, strip, up_to, digits_from, number_in}
use Rattle.printer.specs.ReadPrecision.{numeral_in, ends_line, precision_in, told_precision}
use Rattle.printer.specs.ReadBlock.{precision_text, lead_forms, factor_forms}
use Rattle.printer.specs.ReadBlock.{IsFirstUnlawful, Form}
use Rattle.printer.specs.ReadWhole.{HasLead, IsStopped}
use Rattle.printer.specs.declared.block_error.BlockError.TheVariants.{NotPermitted, NotABlock}
use Rattle.printer.proofs.ReadNumbers.{number_sound, first_digit, digits_complete, digits_stop}
use Rattle.printer.proofs.ReadPowers.{bind_some, map_some, cond_some, strip_is, strip_same}
use Rattle.printer.proofs.ReadPowerLines.{begins, behind_shorter, line_shorter}

-- a precision that a ring may have is read from its text alone
both_tests : {A : Type 0} (a b : Bool) (x : Option A) → a ≡ true → b ≡ false → cond (a && not b) x None ≡ x
both_tests a b x p q = rw (p, q) refl

within_limit : (limit : ℕ) (p : ℕ × List ℕ) → p.0 ≤ limit → up_to limit p ≡ Some p
within_limit limit p h = rw (le-leb p.0 limit h) refl

as_number : (b : ℕ) (bs : List ℕ) (n : ℕ) (rest : List ℕ) → is_ascii_digit b ≡ true → eqb b 48 ≡ false → n ≤ 4095
    → digits_from 0 (b ∷ bs) ≡ (n, rest) → number_in 4095 (b ∷ bs) ≡ Some (n, rest)
unfolding number_in
as_number b bs n rest digit other low is =
    both_tests (is_ascii_digit b) (eqb b 48) (up_to 4095 (digits_from 0 (b ∷ bs))) digit other
    ∙ ap (up_to 4095) is ∙ within_limit 4095 (n, rest) low

zero_read : (b : ℕ) (bs : List ℕ) (n : ℕ) (rest : List ℕ) → b ≡ 48
    → ◌≡◌ {A = ℕ × List ℕ} (0, bs) (n, rest) → decimal n ++ rest ≡ b ∷ bs
zero_read b bs n rest is e =
    ap (λ (x : ℕ × List ℕ). decimal x.0 ++ x.1) (sym e)
    ∙ ap (λ (l : List ℕ). l ++ bs) (decimal_digit 0 (omega arith)) ∙ ap (λ x. x ∷ bs) (sym is)

numeral_sound : (bytes : List ℕ) (n : ℕ) (rest : List ℕ) → n ≤ 4095 → numeral_in bytes ≡ Some (n, rest)
    → decimal n ++ rest ≡ bytes
unfolding numeral_in
numeral_sound [] n rest low h = absurd (none-some _ h)
numeral_sound (b ∷ bs) n rest low h = elim (eqb b 48) as
    (λ v. eqb b 48 ≡ v → cond v (Some (0, bs)) (cond (is_ascii_digit b) (Some (digits_from 0 (b ∷ bs))) None)
    ≡ Some (n, rest) → decimal n ++ rest ≡ b ∷ bs) [
      | true ↦ λ is e. zero_read b bs n rest (eqb-true b 48 is) (same_Some _ _ e)
      | false ↦ λ other e. elim (is_ascii_digit b) as
          (λ v. is_ascii_digit b ≡ v → cond v (Some (digits_from 0 (b ∷ bs))) None ≡ Some (n, rest)
          → decimal n ++ rest ≡ b ∷ bs) [
            | true ↦ λ digit e. (number_sound 4095 (b ∷ bs) n rest (omega arith)
                (as_number b bs n rest digit other low (same_Some _ _ e))).0
            | false ↦ λ digit e. absurd (none-some _ e)
          ] refl e
    ] refl h

-- the digits of a number are those of a numeral
first_stops : (rest : List ℕ) → ends_line rest ≡ true → is_ascii_digit (get_or rest 0 0) ≡ false
first_stops [] h = refl
first_stops (b ∷ bs) h = ap is_ascii_digit (eqb-true b 10 h)

numeral_first : (n : ℕ) (rest ds : List ℕ) → 0 < length ds → is_ascii_digit (get_or ds 0 0) ≡ true
    → 48 < get_or ds 0 0 → digits_from 0 (ds ++ rest) ≡ (n, rest) → numeral_in (ds ++ rest) ≡ Some (n, rest)
unfolding numeral_in
numeral_first n rest [] long digit above is = absurd (omega arith)
numeral_first n rest (d ∷ ds) long digit above is =
    two_tests (eqb d 48) (is_ascii_digit d) _ _ (ne_eqb d 48 (differs d above)) digit
    ∙ ap (λ (p : ℕ × List ℕ). Some p) is
  where
    differs : (d : ℕ) → 48 < d → d ≡ 48 → ⊥
    differs d above e = omega arith

    two_tests : {A : Type 0} (a b : Bool) (x y : Option A) → a ≡ false → b ≡ true
        → cond a x (cond b y None) ≡ y
    two_tests a b x y p q = rw (p, q) refl

numeral_zero : (rest : List ℕ) → numeral_in (48 ∷ rest) ≡ Some (0, rest)
unfolding numeral_in
numeral_zero rest = refl

numeral_complete : (n : ℕ) (rest : List ℕ) → n ≤ 4095 → ends_line rest ≡ true
    → numeral_in (decimal n ++ rest) ≡ Some (n, rest)
numeral_complete zero rest low ends =
    ap (λ (l : List ℕ). numeral_in (l ++ rest)) (decimal_digit 0 (omega arith)) ∙ numeral_zero rest
numeral_complete (suc n) rest low ends =
    numeral_first (suc n) rest (decimal (suc n)) (decimal_nonempty (suc n) (omega arith))
    (first_digit (suc n) (omega arith)) (first_decimal (suc n) (omega arith) (omega arith))
    (digits_complete (suc n) (omega arith) rest ∙ digits_stop (suc n) rest (first_stops rest ends))

-- the line of the precision
abbrev ended : ℕ × List ℕ → Option (ℕ × List ℕ)
ended p = cond (ends_line p.1) (Some p) None

pub precision_sound : (text : List ℕ) (D : ℕ) (rest : List ℕ) → D ≤ 4095 → precision_in text ≡ Some (D, rest)
    → text ≡ precision_text D ++ rest
unfolding precision_in
precision_sound text D rest low h =
    let a = bind_some (strip (codes "precision ") text) (λ digits. numeral_in digits >>= ended) (D, rest) h in
    let b = bind_some (numeral_in a.0) ended (D, rest) a.2 in
    let c = cond_some (ends_line b.0.1) b.0 (D, rest) b.2 in
    strip_is (codes "precision ") text a.0 a.1
    ∙ ap (λ (l : List ℕ). codes "precision " ++ l)
    (sym (numeral_sound a.0 D rest low (b.1 ∙ ap (λ (x : ℕ × List ℕ). Some x) c.1)))
    ∙ sym (append_assoc (codes "precision ") (decimal D) rest)

pub precision_complete : (D : ℕ) (rest : List ℕ) → D ≤ 4095 → ends_line rest ≡ true
    → precision_in (precision_text D ++ rest) ≡ Some (D, rest)
unfolding precision_in
precision_complete D rest low ends =
    ap (λ (o : Option (List ℕ)). o >>= (λ digits. numeral_in digits >>= ended))
    (ap (strip (codes "precision ")) (append_assoc (codes "precision ") (decimal D) rest)
    ∙ strip_same (codes "precision ") (decimal D ++ rest))
    ∙ ap (λ (o : Option (ℕ × List ℕ)). o >>= ended) (numeral_complete D rest low ends)
    ∙ ap (λ b. cond b (Some (D, rest)) None) ends

-- a text that begins with such a line
pub precision_line : (text : List ℕ) (D : ℕ) (rest : List ℕ) → D ≤ 4095
    → text ≡ (precision_text D ++ newline) ++ rest → precision_in text ≡ Some (D, 10 ∷ rest)
precision_line text D rest low is =
    ap precision_in (is ∙ append_assoc (precision_text D) newline rest) ∙ precision_complete D (10 ∷ rest) low refl

-- what was told of a precision
pub told_some : (text : List ℕ) (p : ℕ) (rest : List ℕ)
    → option_map told_precision (precision_in text) ≡ Some (p, rest)
    → (D : ℕ) × (precision_in text ≡ Some (D, rest)) × (p ≡ min D (2 ^ 32 - 1))
told_some text p rest h =
    let a = map_some told_precision (precision_in text) (p, rest) h in (
      a.0.0,
      a.1 ∙ ap (λ (x : List ℕ). Some (a.0.0, x)) (ap (λ (x : ℕ × List ℕ). x.1) a.2),
      sym (ap (λ (x : ℕ × List ℕ). x.0) a.2),
    )

pub told_none : (o : Option (ℕ × List ℕ)) → option_map told_precision o ≡ None → o ≡ None
told_none None h = refl
told_none (Some p) h = absurd (none-some _ (sym h))

pub precision_is : (text : List ℕ) (p : ℕ) (rest : List ℕ) → p ≤ 4095
    → option_map told_precision (precision_in text) ≡ Some (p, rest) → precision_in text ≡ Some (p, rest)
precision_is text p rest low h =
    let a = told_some text p rest h in
    let told = a.2 in
    let same : a.0 ≡ p = omega arith in
    subst (λ n. precision_in text ≡ Some (n, rest)) same a.1

pub precision_known : (text : List ℕ) (p : ℕ) (rest behind : List ℕ) → p ≤ 4095
    → option_map told_precision (precision_in text) ≡ Some (p, rest) → strip newline rest ≡ Some behind
    → text ≡ (precision_text p ++ newline) ++ behind
precision_known text p rest behind low h is =
    precision_sound text p rest low (precision_is text p rest low h)
    ∙ ap (λ (l : List ℕ). precision_text p ++ l) (strip_is newline rest behind is)
    ∙ sym (append_assoc (precision_text p) newline behind)

-- the number of the line behind that of the lead
pub then_first : (lead : Bool) (first : ℕ) → lead ≡ true → first ≡ 3 → first ≡ cond lead 3 2
then_first lead first e f = f ∙ ap (λ v. cond v 3 2) (sym e)

pub else_first : (lead : Bool) (first : ℕ) → lead ≡ false → first ≡ 2 → first ≡ cond lead 3 2
else_first lead first e f = f ∙ ap (λ v. cond v 3 2) (sym e)

pub first_low : (lead : Bool) (first : ℕ) → first ≡ cond lead 3 2 → first ≤ 3
first_low true first e = omega arith
first_low false first e = omega arith

module _ (ring : Ring) (names : List (List ℕ)) (D : ℕ) where
  pub lead_pass : (lead : Bool) (later : List Form) (text : List ℕ) (old new : List (Key 8 × ℕ)) (rest : List ℕ)
      (i j l : ℕ) → HasLead ring names D lead text old new rest → j ≡ cond lead (i + 1) i
      → IsFirstUnlawful ring names D later rest j l → IsFirstUnlawful ring names D (lead_forms lead ++ later) text i l
  lead_pass false later text old new rest i j l is e h =
      subst (λ t. IsFirstUnlawful ring names D later t i l) is.1
      (subst (λ n. IsFirstUnlawful ring names D later rest n l) e h)
  lead_pass true later text old new rest i j l is e h =
      let next : j ≡ suc i = omega arith in
      inr (
        rest,
        begins ring names D 0 (codes "lead: ") text old new rest is,
        subst (λ n. IsFirstUnlawful ring names D later rest n l) next h,
      )

  pub lead_from : (lead : Bool) (text : List ℕ) (old new : List (Key 8 × ℕ)) (rest : List ℕ) → old ≡ []
      → HasLead ring names D lead text old new rest → HasLead ring names D lead text [] new rest
  lead_from lead text old new rest e is =
      subst (λ (l : List (Key 8 × ℕ)). HasLead ring names D lead text l new rest) e is

  -- the rest of a text is no longer
  pub rest_short : (lead : Bool) (text behind : List ℕ) (old new : List (Key 8 × ℕ)) (rest : List ℕ) (most : ℕ)
      → length text ≤ most → text ≡ (precision_text D ++ newline) ++ behind
      → HasLead ring names D lead behind old new rest → length rest ≤ most
  rest_short lead text behind old new rest most le is has =
      let all : length text ≡ length ((precision_text D ++ newline) ++ behind) = ap (λ (l : List ℕ). length l) is in
      omega (arith, all, behind_shorter (precision_text D ++ newline) behind, left lead has)
    where
      left : (lead : Bool) → HasLead ring names D lead behind old new rest → length rest ≤ length behind
      left false h = let e : length rest ≡ length behind = ap (λ (l : List ℕ). length l) h.1 in omega arith
      left true h = let less = line_shorter ring names D 0 (codes "lead: ") behind old new rest h in omega arith

-- what is refused
module _ (ring : Ring) (names : List (List ℕ)) (roots : List Root) (lead : Bool) (text : List ℕ) where
  pub stopped_first : precision_in text ≡ None → IsStopped ring names roots lead text (NotABlock 1)
  stopped_first none = (
    λ D rest is. absurd (none-some _ (sym none ∙ is)),
    inl (λ D rest permitted is. none-some _ (sym none ∙ precision_line text D rest permitted.0 is), refl),
  )

  module _ (p : ℕ) (rest : List ℕ) (told : option_map told_precision (precision_in text) ≡ Some (p, rest)) where
    pub stopped_precision : (q : ℕ) → (IsPermitted (weights_of ring) p → ⊥) → q ≡ min p 4096
        → IsStopped ring names roots lead text (NotPermitted q)
    stopped_precision q none is =
        let a = told_some text p rest told in
        (a.0, rest, a.1, λ h. none (subst (IsPermitted (weights_of ring)) (same a.0 h.0 a.2) h), least a.0 q a.2 is)
      where
        same : (D : ℕ) → D ≤ 4095 → p ≡ min D (2 ^ 32 - 1) → D ≡ p
        same D low e = omega arith

        least : (D q : ℕ) → p ≡ min D (2 ^ 32 - 1) → q ≡ min p 4096 → q ≡ min D 4096
        least D q e is = omega arith

    module _ (permitted : IsPermitted (weights_of ring) p) where
      only_permitted : (D : ℕ) (r : List ℕ) → precision_in text ≡ Some (D, r) → IsPermitted (weights_of ring) D
      only_permitted D r is =
          subst (IsPermitted (weights_of ring))
          (ap (λ (x : ℕ × List ℕ). x.0)
          (same_Some _ _ (sym (precision_is text p rest permitted.0 told) ∙ is))) permitted

      pub stopped_unended : strip newline rest ≡ None → IsStopped ring names roots lead text (NotABlock 1)
      stopped_unended none = (only_permitted, inl (no_line, refl))
        where
          no_line : (D : ℕ) (r : List ℕ) → IsPermitted (weights_of ring) D
              → text ≡ (precision_text D ++ newline) ++ r → ⊥
          no_line D r low is =
              let same = same_Some _ _ (sym (precision_is text p rest permitted.0 told)
              ∙ precision_line text D r low.0 is) in
              let rest_is : rest ≡ newline ++ r = ap (λ (x : ℕ × List ℕ). x.1) same in
              none-some _ (sym none ∙ ap (strip newline) rest_is ∙ strip_same newline r)

      pub stopped_line : (behind : List ℕ) (l : ℕ) → strip newline rest ≡ Some behind
          → IsFirstUnlawful ring names p (lead_forms lead ++ factor_forms 1 roots) behind 2 l
          → IsStopped ring names roots lead text (NotABlock l)
      stopped_line behind l is h = (
        only_permitted,
        inr (p, behind, permitted, precision_known text p rest behind permitted.0 told is, h),
      )
