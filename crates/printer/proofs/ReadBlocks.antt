-- Whole blocks: the one that a text is, and that a refused text is none.
use Rattle.std.proofs.Common.{◌≡◌, ℕ, ◌^◌, ◌<◌, ◌≤◌, Bool, true, false, List, [], ◌∷◌, ◌++◌, map}
use Rattle.std.proofs.Common.{Option, Some, None, IfSome, refl, sym, ◌∙◌, ap, subst, arith}
use Rattle.std.proofs.Common.{append_assoc}
use Rattle.std.proofs.Common.{inl, inr, All}
use Rattle.std.specs.Prelude.{is_some}
use Rattle.std.specs.List.{AllByRecursion}
use Rattle.std.specs.Option.{option_map}
use Rattle.std.specs.FinMap.{get}
use Rattle.std.proofs.lemmas.Bool.{true≢false}
use Rattle.std.proofs.lemmas.Option.{none-some, same_Some}
use Rattle.ps_model.specs.declared.job.Root.{Root}
use Rattle.ps_model.specs.Keys.{Key}
use Rattle.ps_model.specs.BlockText.{lead_text, factor_texts, newline}
use Rattle.ps_model.specs.Job.{series_ring}
use Rattle.ps_model.specs.SeriesRing.{ring as ring_of, Poly}
use Rattle.ps_model.proofs.OfMap.{map-of_map}
use Rattle.parts.specs.JobRows.{IsPermitted}
use Rattle.parts.specs.Rings.{modulus_of, weights_of, eight_weights}
use Rattle.parts.specs.Series.{series, polynomial_modulo, polynomial_in}
use Rattle.parts.specs.declared.rings.Ring.{Ring}
use Rattle.parts.proofs.Polynomials.{modulus_is}
use Rattle.printer.specs.ReadForms.{AreApart}
use Rattle.printer.specs.ReadBlock.{precision_text, lead_forms, factor_forms, IsFirstUnlawful}
use Rattle.printer.specs.ReadLaw.{IsLeadPrinted}
use Rattle.printer.specs.ReadText.{Coefficients, IsReduced, IsBlock, IsUnlawfulLine, IsRefused}
use Rattle.printer.specs.ReadTermLists.{IsTermList, HasTerms, HaveTerms}
use Rattle.printer.specs.ReadWhole.{HasLead, HasBlock, IsStopped}
use Rattle.printer.specs.declared.block_error.BlockError.{BlockError}
use Rattle.printer.specs.declared.block_error.BlockError.TheVariants.{NotPermitted, NotABlock, OutOfMemory}
use Rattle.printer.specs.ReadPrecision.{precision_in}
use Rattle.printer.proofs.ReadBuilt.{by_recursion}
use Rattle.printer.proofs.ReadLines.{one_block}
use Rattle.printer.proofs.ReadNoFaults.{lawful_lead, lawful_factors, none_unlawful}
use Rattle.printer.proofs.ReadTexts.{term_list, lead_lines, lists_are, factors_are, reduced_is, lead_text_is}
use Rattle.printer.proofs.ReadTexts.{printed_here}
use Rattle.printer.proofs.ReadWholes.{precision_line}

abbrev Entry : Type 0
Entry = Key 8 × ℕ

-- maps whose polynomials are equal
same_map : (m : ℕ) (ws : List ℕ) (p q : Coefficients)
    → ((k : Key 8) (c : ℕ) → get p k ≡ Some c → (0 < c) × (c < (series_ring m ws).modulus))
    → ((k : Key 8) (c : ℕ) → get q k ≡ Some c → (0 < c) × (c < (series_ring m ws).modulus))
    → polynomial_modulo m ws p ≡ polynomial_modulo m ws q → p ≡ q
unfolding series_ring polynomial_modulo
same_map m ws p q has has' e =
    sym (map-of_map (ring_of (series_ring m ws)) p has)
    ∙ ap (λ (x : Poly (series_ring m ws)). x.map) e ∙ map-of_map (ring_of (series_ring m ws)) q has'

module _ (ring : Ring) where
  residues : (p : Coefficients) → IsReduced ring p → (k : Key 8) (c : ℕ) → get p k ≡ Some c
      → (0 < c) × (c < (series ring).modulus)
  residues p is k c h = let r = is k c h in (r.0, subst (λ n. c < n) (sym (modulus_is ring)) r.1)

  one_map : (p q : Coefficients) → IsReduced ring p → IsReduced ring q → polynomial_in ring p ≡ polynomial_in ring q
      → p ≡ q
  one_map p q is is' e = same_map (modulus_of ring) (eight_weights ring) p q (residues p is) (residues q is') e

  same_lists : (ps qs : List Coefficients) → AllByRecursion (IsReduced ring) ps → AllByRecursion (IsReduced ring) qs
      → map (polynomial_in ring) ps ≡ map (polynomial_in ring) qs → ps ≡ qs
  same_lists [] [] is is' e = refl
  same_lists [] (q ∷ qs) is is' e = absurd (cc)
  same_lists (p ∷ ps) [] is is' e = absurd (cc)
  same_lists (p ∷ ps) (q ∷ qs) is is' e =
      let first = one_map p q is.0 is'.0 (cc) in
      let later = same_lists ps qs is.1 is'.1 (cc) in
      λ i. first i ∷ later i

  same_leads : (l l' : Option Coefficients) → IfSome l (IsReduced ring) → IfSome l' (IsReduced ring)
      → option_map (polynomial_in ring) l ≡ option_map (polynomial_in ring) l' → l ≡ l'
  same_leads None None is is' e = refl
  same_leads None (Some q) is is' e = absurd (none-some _ e)
  same_leads (Some p) None is is' e = absurd (none-some _ (sym e))
  same_leads (Some p) (Some q) is is' e = ap (λ (x : Coefficients). Some x) (one_map p q is is' (same_Some _ _ e))

module _ (ring : Ring) (names : List (List ℕ)) (roots : List Root) (lead : Bool) (text : List ℕ) where
  -- the lists of terms that were read
  pub lead_list : (D : ℕ) (behind : List ℕ) (l : List Entry) (rest : List ℕ)
      → HasLead ring names D lead behind [] l rest → IsTermList l
  lead_list D behind l rest has = at lead has
    where
      at : (lead : Bool) → HasLead ring names D lead behind [] l rest → IsTermList l
      at false h =
          subst IsTermList (sym h.0) (record { once = λ k. omega arith; some = λ i d lt. absurd (omega arith) })
      at true h = term_list ring names D 0 l (lead_lines ring names D behind l rest h)

  pub factor_lists : (D : ℕ) (l : List Entry) (fs : List (List Entry)) → HasBlock ring names roots lead text D l fs
      → All IsTermList fs
  factor_lists D l fs is = by_recursion IsTermList fs (lists_are ring names D 1 roots is.rest fs is.factors)

  record LeadIs (D : ℕ) (behind rest : List ℕ) (lo : Option Coefficients) : Type 0 where
    pub reduced : IfSome lo (IsReduced ring)
    pub printed : IsLeadPrinted (series ring) names D (option_map (polynomial_in ring) lo)
    pub text_is : behind ≡ lead_text (series ring) names D (option_map (polynomial_in ring) lo) ++ rest

  lead_is : (D : ℕ) (behind : List ℕ) (l : List Entry) (rest : List ℕ) (lo : Option Coefficients) (shown : Bool)
      → is_some lo ≡ shown → HasLead ring names D shown behind [] l rest → IfSome lo (λ p. HasTerms p l)
      → LeadIs D behind rest lo
  lead_is D behind l rest None true e has terms = absurd (true≢false (sym e))
  lead_is D behind l rest None false e has terms = record { reduced = tt; printed = tt; text_is = sym has.1 }
  lead_is D behind l rest (Some p) false e has terms = absurd (true≢false e)
  lead_is D behind l rest (Some p) true e has terms =
      let lines = lead_lines ring names D behind l rest has in
      let reduced = reduced_is ring names D 0 l p lines terms in
      record {
        reduced = reduced;
        printed = printed_here ring names D p l terms reduced 0 lines;
        text_is = lead_text_is ring names D p l terms reduced behind rest has;
      }

  -- the block that was read
  pub block_is : (D : ℕ) (l : List Entry) (fs : List (List Entry)) (lo : Option Coefficients) (ps : List Coefficients)
      → HasBlock ring names roots lead text D l fs → is_some lo ≡ lead → IfSome lo (λ p. HasTerms p l)
      → HaveTerms ps fs → IsBlock ring names roots lead text D lo ps
  block_is D l fs lo ps is shown terms have =
      let first = lead_is D is.behind l is.rest lo lead shown is.lead_is terms in
      let later = factors_are ring names D 1 roots is.rest fs ps is.factors have in
      record {
        permitted = is.permitted;
        lead_shown = shown;
        lead_reduced = first.reduced;
        reduced = later.reduced;
        text_is = record {
          lead_is = first.printed;
          factors_are = later.printed;
          text_is = is.text_is
              ∙ ap (λ (t : List ℕ). (precision_text D ++ newline) ++ t)
              (first.text_is
              ∙ ap (λ (t : List ℕ). lead_text (series ring) names D (option_map (polynomial_in ring) lo) ++ t)
              later.text_is)
              ∙ sym (append_assoc (precision_text D ++ newline)
              (lead_text (series ring) names D (option_map (polynomial_in ring) lo))
              (factor_texts (series ring) names D 1 roots (map (polynomial_in ring) ps)));
        };
      }

  -- a block's text is read
  behind_precision : (D : ℕ) (l : Option Coefficients) (fs : List Coefficients)
      → IsBlock ring names roots lead text D l fs
      → text ≡ (precision_text D ++ newline)
      ++ (lead_text (series ring) names D (option_map (polynomial_in ring) l)
      ++ factor_texts (series ring) names D 1 roots (map (polynomial_in ring) fs))
  behind_precision D l fs is =
      is.text_is.text_is
      ∙ append_assoc (precision_text D ++ newline)
      (lead_text (series ring) names D (option_map (polynomial_in ring) l))
      (factor_texts (series ring) names D 1 roots (map (polynomial_in ring) fs))

  line_is : (D : ℕ) (l : Option Coefficients) (fs : List Coefficients) → IsBlock ring names roots lead text D l fs
      → precision_in text ≡ Some (
        D,
        10 ∷ (lead_text (series ring) names D (option_map (polynomial_in ring) l)
            ++ factor_texts (series ring) names D 1 roots (map (polynomial_in ring) fs)),
      )
  line_is D l fs is = precision_line text D _ is.permitted.0 (behind_precision D l fs is)

  map_shown : (l : Option Coefficients) → is_some (option_map (polynomial_in ring) l) ≡ is_some l
  map_shown None = refl
  map_shown (Some p) = refl

  module _ (apart : AreApart names) where
    two_here : 2 ≤ modulus_of ring
    two_here = ring.modulus.low

    fits_here : modulus_of ring < 2 ^ 64
    fits_here = let high = ring.modulus.high in omega arith

    behind_same : (x y : List ℕ) → 10 ∷ x ≡ 10 ∷ y → x ≡ y
    behind_same x y e = cc

    pub no_unlawful : (line D : ℕ) (l : Option Coefficients) (fs : List Coefficients)
        → IsUnlawfulLine ring names roots lead text line → IsBlock ring names roots lead text D l fs → ⊥
    no_unlawful line D l fs (inl none) is = none.0 D _ is.permitted (behind_precision D l fs is)
    no_unlawful line D l fs (inr h) is =
        let same = same_Some _ _ (sym (precision_line text h.0 h.1 h.2.0 h.3) ∙ line_is D l fs is) in
        let same_precision : h.0 ≡ D = ap (λ (x : ℕ × List ℕ). x.0) same in
        let same_rest = behind_same _ _ (ap (λ (x : ℕ × List ℕ). x.1) same) in
        none_unlawful ring names D apart two_here fits_here is.permitted.0 (lead_forms lead ++ factor_forms 1 roots)
        (lead_text (series ring) names D (option_map (polynomial_in ring) l)
        ++ factor_texts (series ring) names D 1 roots (map (polynomial_in ring) fs)) 2 line
        (lawful_lead ring names D lead (option_map (polynomial_in ring) l) (map_shown l ∙ is.lead_shown)
        is.text_is.lead_is (factor_forms 1 roots) _
        (lawful_factors ring names D 1 roots (map (polynomial_in ring) fs) is.text_is.factors_are))
        (subst (λ n. IsFirstUnlawful ring names n (lead_forms lead ++ factor_forms 1 roots) _ 2 line) same_precision
        (subst (λ t. IsFirstUnlawful ring names h.0 (lead_forms lead ++ factor_forms 1 roots) t 2 line) same_rest h.4))

    pub refused_is : (e : BlockError) → IsStopped ring names roots lead text e → IsRefused ring names roots lead text e
    refused_is (NotPermitted precision) is = is
    refused_is (NotABlock line) is = (is.0, λ D l fs block. no_unlawful line D l fs is.1 block, is.1)
    refused_is OutOfMemory is = tt

    -- no other block has the text
    pub one_block_is : (D D' : ℕ) (l l' : Option Coefficients) (fs fs' : List Coefficients)
        → IsBlock ring names roots lead text D l fs → IsBlock ring names roots lead text D' l' fs'
        → (D ≡ D') × (l ≡ l') × (fs ≡ fs')
    one_block_is D D' l l' fs fs' is is' =
        let same = same_Some _ _ (sym (line_is D l fs is) ∙ line_is D' l' fs' is') in
        let same_precision : D ≡ D' = ap (λ (x : ℕ × List ℕ). x.0) same in
        let there = subst (λ n. IsBlock ring names roots lead text n l' fs') (sym same_precision) is' in
        let both = one_block (series ring) names D apart modulus_small is.permitted.0 roots
        (option_map (polynomial_in ring) l) (option_map (polynomial_in ring) l') (map (polynomial_in ring) fs)
        (map (polynomial_in ring) fs') is.text_is.lead_is there.text_is.lead_is is.text_is.factors_are
        there.text_is.factors_are (sym is.text_is.text_is ∙ there.text_is.text_is) in (
          same_precision,
          same_leads ring l l' is.lead_reduced is'.lead_reduced both.1,
          same_lists ring fs fs' is.reduced is'.reduced both.0,
        )
      where
        modulus_small : (series ring).modulus ≤ 2 ^ 64
        modulus_small = let e = modulus_is ring in let high = fits_here in omega (arith, e, high)

    pub refused_none : (e : BlockError) → IsStopped ring names roots lead text e → (D : ℕ) (l : Option Coefficients)
        (fs : List Coefficients) → IsBlock ring names roots lead text D l fs → e ≡ OutOfMemory
    refused_none (NotPermitted precision) is D l fs block =
        let same = same_Some _ _ (sym is.2 ∙ line_is D l fs block) in
        absurd (is.3 (subst (IsPermitted (weights_of ring)) (sym (ap (λ (x : ℕ × List ℕ). x.0) same)) block.permitted))
    refused_none (NotABlock line) is D l fs block = absurd (no_unlawful line D l fs is.1 block)
    refused_none OutOfMemory is D l fs block = refl
