-- Lines, factors and blocks are read back in one way.
use Rattle.std.proofs.Common.{◌≡◌, ℕ, zero, suc, ◌-◌, ◌^◌, ◌<◌, ◌≤◌, false, List, [], ◌∷◌, ◌++◌, get_or}
use Rattle.std.proofs.Common.{Option, Some, None, decimal, codes, refl, sym, ◌∙◌, ap, subst, arith, append_assoc, eqb}
use Rattle.std.proofs.Common.{inl, inr}
use Rattle.std.proofs.lemmas.Bool.{true≢false, cases_lt}
use Rattle.std.proofs.lemmas.List.{append_cancel_left}
use Rattle.ps_model.specs.declared.job.Root.{Root}
use Rattle.ps_model.specs.BlockText.{terms_text, printed_terms, power_line, power_lines, factor_text, factor_texts}
use Rattle.ps_model.specs.BlockText.{lead_text, block_text, newline}
use Rattle.ps_model.specs.SeriesRing.{SeriesRing, Poly}
use Rattle.printer.specs.ReadForms.{AreApart}
use Rattle.printer.specs.ReadLaw.{IsPrinted, ArePrinted, IsLeadPrinted}
use Rattle.printer.proofs.ReadTerms.{one_line}
use Rattle.printer.proofs.ReadPrinted.{printed_alike, printed_written}

regroup : (x t n r : List ℕ) → ((x ++ t) ++ n) ++ r ≡ x ++ (t ++ (n ++ r))
regroup x t n r = simp append_assoc

module _ (S : SeriesRing) (names : List (List ℕ)) (D : ℕ) (apart : AreApart names) (small : S.modulus ≤ 2 ^ 64)
    (low : D ≤ 4095) where
  terms_of : Poly S → ℕ → List ℕ
  terms_of p j = terms_text names (printed_terms S p j D)

  -- one list of terms, in a line with a known beginning
  one_list : (K K' j : ℕ) (p q : Poly S) → IsPrinted S names D K p → IsPrinted S names D K' q → (head r r' : List ℕ)
      → ((head ++ terms_text names (printed_terms S p j D)) ++ newline) ++ r
      ≡ ((head ++ terms_text names (printed_terms S q j D)) ++ newline) ++ r'
      → (printed_terms S p j D ≡ printed_terms S q j D) × (r ≡ r')
  one_list K K' j p q is is' head r r' e =
      let line = one_line S.variables names (S.modulus - 1) D j apart (fits S.modulus S.at_least_two small)
      (omega arith) (printed_terms S p j D) (printed_terms S q j D) r r' (printed_written S names D K p is j)
      (printed_written S names D K' q is' j)
      (append_cancel_left head (terms_text names (printed_terms S p j D) ++ 10 ∷ r)
      (terms_text names (printed_terms S q j D) ++ 10 ∷ r')
      (sym (regroup head (terms_text names (printed_terms S p j D)) newline r) ∙ e
      ∙ regroup head (terms_text names (printed_terms S q j D)) newline r')) in
      (line.0, line.1)
    where
      fits : (m : ℕ) → 2 ≤ m → m ≤ 2 ^ 64 → m - 1 < 2 ^ 64
      fits m two h = omega arith

  module _ (K : ℕ) (p q : Poly S) (is : IsPrinted S names D K p) (is' : IsPrinted S names D K q) where
    one_power_line : (j : ℕ) (r r' : List ℕ) → power_line S names D p j ++ r ≡ power_line S names D q j ++ r'
        → (printed_terms S p j D ≡ printed_terms S q j D) × (r ≡ r')
    one_power_line j r r' e = one_list K K j p q is is' ((codes "Y^" ++ decimal j) ++ codes ": ") r r' e

    abbrev AreAlike : ℕ → Type 0
    AreAlike j = (i : ℕ) → i ≤ j → printed_terms S p i D ≡ printed_terms S q i D

    alike_more : (j : ℕ) → printed_terms S p (suc j) D ≡ printed_terms S q (suc j) D → AreAlike j → AreAlike (suc j)
    alike_more j here below i le = elim (cases_lt j i) [
      | inl high ↦ let e : suc j ≡ i = omega arith in
          subst (λ k. printed_terms S p k D ≡ printed_terms S q k D) e here
      | inr less ↦ below i less
    ]

    one_power_lines : (j : ℕ) (r r' : List ℕ) → power_lines S names D p j ++ r ≡ power_lines S names D q j ++ r'
        → AreAlike j × (r ≡ r')
    one_power_lines zero r r' e =
        let line = one_power_line 0 r r' e in (
          λ i le. let z : 0 ≡ i = omega arith in subst (λ k. printed_terms S p k D ≡ printed_terms S q k D) z line.0,
          line.1,
        )
    one_power_lines (suc j) r r' e =
        let line = one_power_line (suc j) (power_lines S names D p j ++ r) (power_lines S names D q j ++ r')
        (sym (append_assoc (power_line S names D p (suc j)) (power_lines S names D p j) r) ∙ e
        ∙ append_assoc (power_line S names D q (suc j)) (power_lines S names D q j) r') in
        let later = one_power_lines j r r' line.1 in
        (alike_more j line.0 later.0, later.1)

  -- the first line of a factor
  abbrev head_text : ℕ → Root → List ℕ
  head_text i root =
      codes "factor " ++ decimal i ++ codes " root " ++ decimal root.value ++ codes " times " ++ decimal root.times
      ++ newline

  one_factor : (i : ℕ) (root : Root) (f g : Poly S) (r r' : List ℕ) → IsPrinted S names D root.times f
      → IsPrinted S names D root.times g
      → factor_text S names D i root f ++ r ≡ factor_text S names D i root g ++ r' → (f ≡ g) × (r ≡ r')
  one_factor i root f g r r' is is' e =
      let lines = one_power_lines root.times f g is is' root.times r r'
      (append_cancel_left (head_text i root) (power_lines S names D f root.times ++ r)
      (power_lines S names D g root.times ++ r')
      (sym (append_assoc (head_text i root) (power_lines S names D f root.times) r) ∙ e
      ∙ append_assoc (head_text i root) (power_lines S names D g root.times) r')) in
      (printed_alike S D root.times f g is.degree is.y_degree is'.degree is'.y_degree lines.0, lines.1)

  one_list_of_factors : (i : ℕ) (roots : List Root) (fs gs : List (Poly S)) → ArePrinted S names D roots fs
      → ArePrinted S names D roots gs → factor_texts S names D i roots fs ≡ factor_texts S names D i roots gs
      → fs ≡ gs
  one_list_of_factors i [] [] [] are are' e = refl
  one_list_of_factors i [] [] (g ∷ gs) are are' e = absurd are'
  one_list_of_factors i [] (f ∷ fs) gs are are' e = absurd are
  one_list_of_factors i (root ∷ roots) [] gs are are' e = absurd are
  one_list_of_factors i (root ∷ roots) (f ∷ fs) [] are are' e = absurd are'
  one_list_of_factors i (root ∷ roots) (f ∷ fs) (g ∷ gs) are are' e =
      let first = one_factor i root f g (factor_texts S names D (suc i) roots fs)
      (factor_texts S names D (suc i) roots gs) are.0 are'.0 e in
      let later = one_list_of_factors (suc i) roots fs gs are.1 are'.1 first.1 in
      λ l. first.0 l ∷ later l

  -- factors don't begin as a lead does
  first_byte : (i : ℕ) (roots : List Root) (fs : List (Poly S))
      → eqb (get_or (factor_texts S names D i roots fs) 0 0) 108 ≡ false
  first_byte i [] fs = refl
  first_byte i (root ∷ roots) [] = refl
  first_byte i (root ∷ roots) (f ∷ fs) = refl

  not_lead : (i : ℕ) (roots : List Root) (fs : List (Poly S)) (text r : List ℕ)
      → factor_texts S names D i roots fs ≡ ((codes "lead: " ++ text) ++ newline) ++ r → ⊥
  not_lead i roots fs text r e =
      true≢false (sym (ap (λ (l : List ℕ). eqb (get_or l 0 0) 108) e) ∙ first_byte i roots fs)

  one_lead : (roots : List Root) (lead lead' : Option (Poly S)) (fs gs : List (Poly S)) → IsLeadPrinted S names D lead
      → IsLeadPrinted S names D lead' → ArePrinted S names D roots fs → ArePrinted S names D roots gs
      → lead_text S names D lead ++ factor_texts S names D 1 roots fs
      ≡ lead_text S names D lead' ++ factor_texts S names D 1 roots gs
      → (fs ≡ gs) × (lead ≡ lead')
  one_lead roots None None fs gs is is' are are' e = (one_list_of_factors 1 roots fs gs are are' e, refl)
  one_lead roots None (Some l) fs gs is is' are are' e =
      absurd (not_lead 1 roots fs (terms_text names (printed_terms S l 0 D)) (factor_texts S names D 1 roots gs) e)
  one_lead roots (Some l) None fs gs is is' are are' e =
      absurd (not_lead 1 roots gs (terms_text names (printed_terms S l 0 D)) (factor_texts S names D 1 roots fs)
      (sym e))
  one_lead roots (Some l) (Some l') fs gs is is' are are' e =
      let line = one_list 0 0 0 l l' is is' (codes "lead: ") (factor_texts S names D 1 roots fs)
      (factor_texts S names D 1 roots gs) e in (
        one_list_of_factors 1 roots fs gs are are' line.1,
        ap (λ (x : Poly S). Some x)
            (printed_alike S D 0 l l' is.degree is.y_degree is'.degree is'.y_degree (only line.0)),
      )
    where
      only : printed_terms S l 0 D ≡ printed_terms S l' 0 D → (j : ℕ) → j ≤ 0
          → printed_terms S l j D ≡ printed_terms S l' j D
      only same j le =
          let z : 0 ≡ j = omega arith in subst (λ k. printed_terms S l k D ≡ printed_terms S l' k D) z same

  pub one_block : (roots : List Root) (lead lead' : Option (Poly S)) (fs gs : List (Poly S))
      → IsLeadPrinted S names D lead → IsLeadPrinted S names D lead' → ArePrinted S names D roots fs
      → ArePrinted S names D roots gs
      → block_text S names lead roots fs D ≡ block_text S names lead' roots gs D → (fs ≡ gs) × (lead ≡ lead')
  one_block roots lead lead' fs gs is is' are are' e =
      one_lead roots lead lead' fs gs is is' are are'
      (append_cancel_left ((codes "precision " ++ decimal D) ++ newline)
      (lead_text S names D lead ++ factor_texts S names D 1 roots fs)
      (lead_text S names D lead' ++ factor_texts S names D 1 roots gs)
      (sym (append_assoc ((codes "precision " ++ decimal D) ++ newline) (lead_text S names D lead)
      (factor_texts S names D 1 roots fs)) ∙ e
      ∙ append_assoc ((codes "precision " ++ decimal D) ++ newline) (lead_text S names D lead')
      (factor_texts S names D 1 roots gs)))
