-- A block's text has no unlawful line.
use Rattle.std.proofs.Common.{◌≡◌, ℕ, zero, suc, ◌-◌, ◌^◌, ◌<◌, ◌≤◌, Bool, true, false, T, List, [], ◌∷◌, ◌++◌}
use Rattle.std.proofs.Common.{Option, Some, None, codes, refl, sym, ◌∙◌, ap, subst, arith, append_assoc, inl}
use Rattle.std.proofs.Common.{inr}
use Rattle.std.specs.Prelude.{is_some}
use Rattle.std.specs.List.{AllByRecursion}
use Rattle.std.specs.FinMap.{is_sorted}
use Rattle.std.proofs.lemmas.Bool.{true≢false}
use Rattle.std.proofs.lemmas.List.{append_cancel_left}
use Rattle.ps_model.specs.declared.job.Root.{Root}
use Rattle.ps_model.specs.Keys.{Key, numbers}
use Rattle.ps_model.specs.BlockText.{terms_text, printed_terms, power_line, power_lines, factor_texts}
use Rattle.ps_model.specs.BlockText.{lead_text, newline}
use Rattle.ps_model.specs.Job.{series_ring}
use Rattle.ps_model.specs.PlainLists.{plain_degree}
use Rattle.ps_model.specs.SeriesRing.{SeriesRing, degree, Poly}
use Rattle.parts.specs.Rings.{modulus_of, eight_weights}
use Rattle.parts.specs.Series.{series}
use Rattle.parts.specs.declared.rings.Ring.{Ring}
use Rattle.parts.proofs.Polynomials.{modulus_is}
use Rattle.printer.specs.ReadForms.{AreApart, IsNamed}
use Rattle.printer.specs.ReadBlock.{printed_order, IsTerm, Form, BeginsWith, IsFirstUnlawful, head_text}
use Rattle.printer.specs.ReadBlock.{mark_text}
use Rattle.printer.specs.ReadBlock.{power_forms, factor_forms, lead_forms}
use Rattle.printer.specs.ReadBlock.Form.{Whole, Coefficient}
use Rattle.printer.specs.ReadLaw.{IsPrinted, ArePrinted, IsLeadPrinted}
use Rattle.printer.proofs.ReadLawful.{written}
use Rattle.printer.proofs.ReadPrinted.{Each, printed_written}
use Rattle.printer.proofs.ReadSorted.{order, HasNoMore, printed_sorted, printed_low}
use Rattle.printer.proofs.ReadTerms.{AreWritten, one_line}

abbrev Entry : Type 0
Entry = Key 8 × ℕ

-- the terms that are printed of a polynomial
module _ (S : SeriesRing) (names : List (List ℕ)) (D j : ℕ) where
  abbrev IsGood : Key S.variables × ℕ → Type 0
  IsGood t = (0 < t.1) × (t.1 < S.modulus) × (degree S t.0 ≤ D) × IsNamed names (numbers S.variables t.0.powers)
      × (t.0.y ≡ j)

  below_modulus : (a m : ℕ) → 2 ≤ m → a ≤ m - 1 → a < m
  below_modulus a m two h = omega arith

  each_good : (p : Poly S) (ts : List (Key S.variables × ℕ)) → AreWritten names (S.modulus - 1) D j ts
      → Each (order S) (HasNoMore S p j D) ts → AllByRecursion IsGood ts
  each_good p [] are low = tt
  each_good p (t ∷ ts) are low = (
    (
      are.0.some,
      below_modulus t.1 S.modulus S.at_least_two are.0.within,
      low.0,
      are.0.is_named,
      are.0.y,
    ),
    each_good p ts are.1 low.1,
  )

  pub good_terms : (K : ℕ) (p : Poly S) → IsPrinted S names D K p → AllByRecursion IsGood (printed_terms S p j D)
  good_terms K p is =
      each_good p (printed_terms S p j D) (printed_written S names D K p is j) (printed_low S p j D)

-- the same as a list of entries
abbrev IsListed : (m : ℕ) (ws : List ℕ) (names : List (List ℕ)) (D j : ℕ) → Entry → Type 0
IsListed m ws names D j t =
    (0 < t.1) × (t.1 < m) × (plain_degree ws t.0 ≤ D) × IsNamed names (numbers 8 t.0.powers) × (t.0.y ≡ j)

pub record AreListed (m : ℕ) (ws : List ℕ) (names : List (List ℕ)) (D j : ℕ) (text : List ℕ) : Type 0 where
  pub listed : List Entry
  pub each : AllByRecursion (IsListed m ws names D j) listed
  pub in_order : T (is_sorted (printed_order ws) listed)
  pub text_is : text ≡ terms_text names listed

pub printed_listed : (m : ℕ) (ws : List ℕ) (names : List (List ℕ)) (D K j : ℕ) (p : Poly (series_ring m ws))
    → IsPrinted (series_ring m ws) names D K p
    → AreListed (series_ring m ws).modulus ws names D j (terms_text names (printed_terms (series_ring m ws) p j D))
unfolding series_ring plain_degree printed_order
printed_listed m ws names D K j p is = record {
  listed = printed_terms (series_ring m ws) p j D;
  each = good_terms (series_ring m ws) names D j K p is;
  in_order = printed_sorted (series_ring m ws) p j D;
  text_is = refl;
}

module _ (ring : Ring) (names : List (List ℕ)) (D : ℕ) where
  each_term : (j : ℕ) (ts : List Entry)
      → AllByRecursion (IsListed (series ring).modulus (eight_weights ring) names D j) ts
      → AllByRecursion (IsTerm ring names D j) ts
  each_term j [] all = tt
  each_term j (t ∷ ts) all = (
    record {
      some = all.0.0;
      residue = subst (λ n. t.1 < n) (modulus_is ring) all.0.1;
      low = all.0.2;
      is_named = all.0.3;
      y = all.0.4;
    },
    each_term j ts all.1,
  )

  abbrev pub IsLawful : List Form → List ℕ → Type 0
  IsLawful [] text = text ≡ []
  IsLawful (form ∷ forms) text =
      (rest : List ℕ) × BeginsWith ring names D form text rest × IsLawful forms rest

  -- the lines of polynomials are lawful
  lawful_line : (mark : List ℕ) (j K : ℕ) (p : Poly (series ring)) → IsPrinted (series ring) names D K p
      → (forms : List Form) (rest : List ℕ) → IsLawful forms rest
      → IsLawful (Coefficient mark j ∷ forms)
      (((mark ++ terms_text names (printed_terms (series ring) p j D)) ++ newline) ++ rest)
  lawful_line mark j K p is forms rest lawful =
      let are = printed_listed (modulus_of ring) (eight_weights ring) names D K j p is in (
        rest,
        record {
          line = (mark ++ terms_text names (printed_terms (series ring) p j D)) ++ newline;
          has_form = (
            are.listed,
            record { each = each_term j are.listed are.each; in_order = are.in_order },
            append_assoc mark (terms_text names (printed_terms (series ring) p j D)) newline
                ∙ ap (λ (l : List ℕ). mark ++ (l ++ newline)) are.text_is,
          );
          text_is = refl;
        },
        lawful,
      )

  lawful_powers : (K : ℕ) (p : Poly (series ring)) → IsPrinted (series ring) names D K p → (j : ℕ)
      (forms : List Form) (rest : List ℕ) → IsLawful forms rest
      → IsLawful (power_forms j ++ forms) (power_lines (series ring) names D p j ++ rest)
  lawful_powers K p is zero forms rest lawful = lawful_line (mark_text 0) 0 K p is forms rest lawful
  lawful_powers K p is (suc j) forms rest lawful =
      subst (IsLawful (power_forms (suc j) ++ forms))
      (sym (append_assoc (power_line (series ring) names D p (suc j)) (power_lines (series ring) names D p j) rest))
      (lawful_line (mark_text (suc j)) (suc j) K p is (power_forms j ++ forms)
      (power_lines (series ring) names D p j ++ rest) (lawful_powers K p is j forms rest lawful))

  pub lawful_factors : (i : ℕ) (roots : List Root) (fs : List (Poly (series ring)))
      → ArePrinted (series ring) names D roots fs
      → IsLawful (factor_forms i roots) (factor_texts (series ring) names D i roots fs)
  lawful_factors i [] [] are = refl
  lawful_factors i [] (f ∷ fs) are = absurd are
  lawful_factors i (root ∷ roots) [] are = absurd are
  lawful_factors i (root ∷ roots) (f ∷ fs) are = (
    power_lines (series ring) names D f root.times ++ factor_texts (series ring) names D (suc i) roots fs,
    record {
      line = head_text i root ++ newline;
      has_form = refl;
      text_is = append_assoc (head_text i root ++ newline) (power_lines (series ring) names D f root.times)
          (factor_texts (series ring) names D (suc i) roots fs);
    },
    lawful_powers root.times f are.0 root.times (factor_forms (suc i) roots)
        (factor_texts (series ring) names D (suc i) roots fs) (lawful_factors (suc i) roots fs are.1),
  )

  pub lawful_lead : (lead : Bool) (l : Option (Poly (series ring))) → is_some l ≡ lead
      → IsLeadPrinted (series ring) names D l → (forms : List Form) (rest : List ℕ) → IsLawful forms rest
      → IsLawful (lead_forms lead ++ forms) (lead_text (series ring) names D l ++ rest)
  lawful_lead true None e is forms rest lawful = absurd (true≢false (sym e))
  lawful_lead false None e is forms rest lawful = lawful
  lawful_lead true (Some l) e is forms rest lawful = lawful_line (codes "lead: ") 0 0 l is forms rest lawful
  lawful_lead false (Some l) e is forms rest lawful = absurd (true≢false e)

  -- one line of a form is at the beginning of a text
  module _ (apart : AreApart names) (two : 2 ≤ modulus_of ring) (fits : modulus_of ring < 2 ^ 64) (low : D ≤ 4095)
    where
      are_written : (j : ℕ) (ts : List Entry) → AllByRecursion (IsTerm ring names D j) ts
          → AreWritten names (modulus_of ring - 1) D j ts
      are_written j [] all = tt
      are_written j (t ∷ ts) all =
          (written ring names D j apart two fits low t all.0, are_written j ts all.1)

      regroup : (h t n r : List ℕ) → (h ++ (t ++ n)) ++ r ≡ h ++ (t ++ (n ++ r))
      regroup h t n r = simp append_assoc

      less : (m : ℕ) → m < 2 ^ 64 → m - 1 < 2 ^ 64
      less m h = omega arith

      one_rest : (form : Form) (text rest rest' : List ℕ) → BeginsWith ring names D form text rest
          → BeginsWith ring names D form text rest' → rest ≡ rest'
      one_rest (Whole t) text rest rest' is is' =
          append_cancel_left (t ++ newline) rest rest'
          (ap (λ (l : List ℕ). l ++ rest) (sym is.has_form) ∙ sym is.text_is ∙ is'.text_is
          ∙ ap (λ (l : List ℕ). l ++ rest') is'.has_form)
      one_rest (Coefficient mark j) text rest rest' is is' =
          (one_line 8 names (modulus_of ring - 1) D j apart (less (modulus_of ring) fits) (omega arith)
          is.has_form.0 is'.has_form.0 rest rest' (are_written j is.has_form.0 is.has_form.1.each)
          (are_written j is'.has_form.0 is'.has_form.1.each)
          (append_cancel_left mark (terms_text names is.has_form.0 ++ 10 ∷ rest)
          (terms_text names is'.has_form.0 ++ 10 ∷ rest')
          (sym (ap (λ (l : List ℕ). l ++ rest) is.has_form.2 ∙ regroup mark (terms_text names is.has_form.0)
          newline rest)
          ∙ sym is.text_is ∙ is'.text_is
          ∙ (ap (λ (l : List ℕ). l ++ rest') is'.has_form.2
          ∙ regroup mark (terms_text names is'.has_form.0) newline rest')))).1

      pub none_unlawful : (forms : List Form) (text : List ℕ) (i l : ℕ) → IsLawful forms text
          → IsFirstUnlawful ring names D forms text i l → ⊥
      none_unlawful [] text i l is h = h.0 is
      none_unlawful (form ∷ forms) text i l is (inl h) = h.0 is.0 is.1
      none_unlawful (form ∷ forms) text i l is (inr h) =
          none_unlawful forms is.0 (suc i) l is.2
          (subst (λ t. IsFirstUnlawful ring names D forms t (suc i) l) (one_rest form text h.0 is.0 h.1 is.1) h.2)
