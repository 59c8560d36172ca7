-- A text is judged in one way.
use Rattle.std.proofs.Common.{◌≡◌, ◌∙◌, sym, ap, subst, append_assoc, ℕ, suc, ◌-◌, ◌^◌, ◌<◌, ◌≤◌, inl, inr, min, arith}
use Rattle.std.proofs.Common.{Bool, List, [], ◌∷◌, ◌++◌, map, Option, Some, Result, Ok, Err}
use Rattle.std.specs.Option.{option_map}
use Rattle.std.specs.List.{AllByRecursion}
use Rattle.std.proofs.lemmas.List.{append_cancel_left}
use Rattle.std.proofs.lemmas.Option.{same_Some}
use Rattle.ps_model.specs.AcceptedJob.{IsAccepted}
use Rattle.ps_model.specs.BlockText.{newline, terms_text}
use Rattle.ps_model.specs.Keys.{Key}
use Rattle.ps_model.specs.Bounds.{ExactlyOne}
use Rattle.ps_model.specs.Job.{IsFactors}
use Rattle.ps_model.specs.Lead.{IsShownLead}
use Rattle.ps_model.specs.SeriesRing.{Poly}
use Rattle.ps_model.specs.declared.job.JobData.{JobData}
use Rattle.ps_model.specs.declared.job.Root.{Root}
use Rattle.parts.specs.Rings.{modulus_of, weights_of}
use Rattle.parts.specs.Series.{series, polynomial_in}
use Rattle.parts.specs.declared.rings.Ring.{Ring}
use Rattle.comparison.specs.Differences.{IsFirstDifference}
use Rattle.comparison.specs.declared.place.Place.{Place}
use Rattle.comparison.proofs.PlacesOnce.{one_difference}
use Rattle.printer.specs.ReadBlock.{lead_forms, factor_forms, Form, IsFirstUnlawful}
use Rattle.printer.specs.ReadBlock.{BeginsWith, IsTerm}
use Rattle.printer.specs.ReadBlock.Form.{Whole, Coefficient}
use Rattle.printer.specs.ReadForms.{AreApart}
use Rattle.printer.specs.ReadPrecision.{precision_in}
use Rattle.printer.specs.ReadText.{Coefficients, IsBlock, IsUnlawfulLine, IsRefused}
use Rattle.printer.specs.ReadWhole.{IsStopped}
use Rattle.printer.specs.declared.block_error.BlockError.{BlockError}
use Rattle.printer.specs.declared.block_error.BlockError.TheVariants.{NotPermitted, NotABlock, OutOfMemory}
use Rattle.printer.proofs.ReadBlocks.{one_block_is, refused_none}
use Rattle.printer.proofs.ReadLawful.{written}
use Rattle.printer.proofs.ReadTerms.{AreWritten, one_line}
use Rattle.printer.proofs.ReadWholes.{precision_line}
use Rattle.session.specs.Factors.{job_in}
use Rattle.session.proofs.JobRings.{accepted_in}
use Rattle.script.specs.Requests.{degree_in}
use Rattle.script.specs.declared.refusal.Refusal.{Refusal}
use Rattle.commands.specs.Judging.{IsSeen, Tells, IsCompared}
use Rattle.commands.proofs.OutputsOnce.{factors, shown as lead_of}

-- the refusal of an answer
abbrev pub refusal_or : {A : Type 0} → Refusal → Result A Refusal → Refusal
refusal_or f (Ok x) = f
refusal_or f (Err g) = g

module _ (ring : Ring) (names : List (List ℕ)) (apart : AreApart names) where
  two : 2 ≤ modulus_of ring
  two = ring.modulus.low

  fits : modulus_of ring < 2 ^ 64
  fits = let high = ring.modulus.high in omega arith

  -- one line of a form is at the beginning of a text
  module _ (D : ℕ) (low : D ≤ 4095) where
    are_written : (j : ℕ) (ts : List (Key 8 × ℕ)) → AllByRecursion (IsTerm ring names D j) ts
        → AreWritten names (modulus_of ring - 1) D j ts
    are_written j [] all = tt
    are_written j (t ∷ ts) all = (written ring names D j apart two fits low t all.0, are_written j ts all.1)

    regroup : (h t n r : List ℕ) → (h ++ (t ++ n)) ++ r ≡ h ++ (t ++ (n ++ r))
    regroup h t n r = simp append_assoc

    less : (m : ℕ) → m < 2 ^ 64 → m - 1 < 2 ^ 64
    less m h = omega arith

    one_rest : (form : Form) (text rest rest' : List ℕ) → BeginsWith ring names D form text rest
        → BeginsWith ring names D form text rest' → rest ≡ rest'
    one_rest (Whole t) text rest rest' is is' =
        append_cancel_left (t ++ newline) rest rest'
        (ap (λ (l : List ℕ). l ++ rest) (sym is.has_form) ∙ sym is.text_is ∙ is'.text_is
        ∙ ap (λ (l : List ℕ). l ++ rest') is'.has_form)
    one_rest (Coefficient mark j) text rest rest' is is' =
        let ts = is.has_form.0 in
        let us = is'.has_form.0 in
        (one_line 8 names (modulus_of ring - 1) D j apart (less (modulus_of ring) fits) (omega arith) ts us rest rest'
        (are_written j ts is.has_form.1.each) (are_written j us is'.has_form.1.each)
        (append_cancel_left mark (terms_text names ts ++ 10 ∷ rest) (terms_text names us ++ 10 ∷ rest')
        (sym (ap (λ (l : List ℕ). l ++ rest) is.has_form.2 ∙ regroup mark (terms_text names ts) newline rest)
        ∙ sym is.text_is ∙ is'.text_is
        ∙ (ap (λ (l : List ℕ). l ++ rest') is'.has_form.2 ∙ regroup mark (terms_text names us) newline rest')))).1

  -- the first unlawful line is one
  first_once : (D : ℕ) → D ≤ 4095 → (forms : List Form) (text : List ℕ) (i l l' : ℕ)
      → IsFirstUnlawful ring names D forms text i l → IsFirstUnlawful ring names D forms text i l' → l ≡ l'
  first_once D low [] text i l l' h k = h.1 ∙ sym k.1
  first_once D low (form ∷ forms) text i l l' (inl h) (inl k) = h.1 ∙ sym k.1
  first_once D low (form ∷ forms) text i l l' (inl h) (inr k) = absurd (h.0 k.0 k.1)
  first_once D low (form ∷ forms) text i l l' (inr h) (inl k) = absurd (k.0 h.0 h.1)
  first_once D low (form ∷ forms) text i l l' (inr h) (inr k) =
      first_once D low forms k.0 (suc i) l l'
      (subst (λ t. IsFirstUnlawful ring names D forms t (suc i) l)
      (one_rest D low form text h.0 k.0 h.1 k.1) h.2) k.2

  module _ (roots : List Root) (shown : Bool) (text : List ℕ) where
    behind_same : (x y : List ℕ) → 10 ∷ x ≡ 10 ∷ y → x ≡ y
    behind_same x y e = cc

    one_number : (l l' : ℕ) → IsUnlawfulLine ring names roots shown text l → IsUnlawfulLine ring names roots shown
        text l'
        → l ≡ l'
    one_number l l' (inl h) (inl k) = h.1 ∙ sym k.1
    one_number l l' (inl h) (inr k) = absurd (h.0 k.0 k.1 k.2 k.3)
    one_number l l' (inr h) (inl k) = absurd (k.0 h.0 h.1 h.2 h.3)
    one_number l l' (inr h) (inr k) =
        let same = same_Some _ _ (sym (precision_line text h.0 h.1 h.2.0 h.3) ∙ precision_line text k.0 k.1 k.2.0
        k.3) in
        let D_is : h.0 ≡ k.0 = ap (λ (x : ℕ × List ℕ). x.0) same in
        let rest_is = behind_same _ _ (ap (λ (x : ℕ × List ℕ). x.1) same) in
        first_once k.0 k.2.0 (lead_forms shown ++ factor_forms 1 roots) k.1 2 l l'
        (subst (λ n. IsFirstUnlawful ring names n (lead_forms shown ++ factor_forms 1 roots) k.1 2 l) D_is
        (subst (λ t. IsFirstUnlawful ring names h.0 (lead_forms shown ++ factor_forms 1 roots) t 2 l) rest_is h.4)) k.4

    precision_once : (p q : ℕ) (D D' : ℕ) (rest rest' : List ℕ) → precision_in text ≡ Some (D, rest)
        → precision_in text ≡ Some (D', rest') → p ≡ min D 4096 → q ≡ min D' 4096 → p ≡ q
    precision_once p q D D' rest rest' h k e f =
        e ∙ ap (λ (x : ℕ × List ℕ). min x.0 4096) (same_Some _ _ (sym h ∙ k)) ∙ sym f

    abbrev IsWhy : BlockError → Type 0
    IsWhy = IsRefused ring names roots shown text

    pub one_refusal : (e e' : BlockError) (k k' : ℕ) (f f' : Refusal) → IsWhy e → IsWhy e'
        → Tells (weights_of ring) e k f → Tells (weights_of ring) e' k' f' → (k ≡ k') × (f ≡ f')
    one_refusal (NotPermitted p) (NotPermitted q) k k' f f' h h' t t' = (
      t.0 ∙ sym t'.0,
      ap (refusal_or f) (sym t.1
          ∙ ap (degree_in (weights_of ring)) (precision_once p q h.0 h'.0 h.1 h'.1 h.2 h'.2 h.4 h'.4) ∙ t'.1),
    )
    one_refusal (NotPermitted p) (NotABlock l) k k' f f' h h' t t' = absurd (h.3 (h'.0 h.0 h.1 h.2))
    one_refusal (NotPermitted p) OutOfMemory k k' f f' h h' t t' = absurd t'
    one_refusal (NotABlock l) (NotPermitted p) k k' f f' h h' t t' = absurd (h'.3 (h.0 h'.0 h'.1 h'.2))
    one_refusal (NotABlock l) (NotABlock l') k k' f f' h h' t t' =
        (t.0 ∙ one_number l l' h.2 h'.2 ∙ sym t'.0, t.1 ∙ sym t'.1)
    one_refusal (NotABlock l) OutOfMemory k k' f f' h h' t t' = absurd t'
    one_refusal OutOfMemory e' k k' f f' h h' t t' = absurd t

    -- what is refused is no block
    why_stopped : (e : BlockError) → IsWhy e → IsStopped ring names roots shown text e
    why_stopped (NotPermitted p) h = h
    why_stopped (NotABlock l) h = (h.0, h.2)
    why_stopped OutOfMemory h = tt

    pub not_both : (e : BlockError) (k : ℕ) (f : Refusal) → IsWhy e → Tells (weights_of ring) e k f → (D : ℕ)
        (l : Option Coefficients) (fs : List Coefficients) → IsBlock ring names roots shown text D l fs → ⊥
    not_both e k f h t D l fs block =
        subst (λ e. Tells (weights_of ring) e k f)
        (refused_none ring names roots shown text apart e (why_stopped e h) D l fs block) t

  -- a block is compared in one way
  module _ (job : JobData) (ok : IsAccepted job) (shown : Bool) (seen : IsSeen job ring shown) (text : List ℕ) where
    ok_in : IsAccepted (job_in ring job)
    ok_in = accepted_in ring job seen.ring_is ok

    abbrev Differ : Option (Poly (series ring)) → List (Poly (series ring)) → Option Coefficients → List Coefficients
        → Option Place → Type 0
    Differ l fs m gs = IsFirstDifference (series ring) l fs (option_map (polynomial_in ring) m)
        (map (polynomial_in ring) gs)

    pub one_place : (D D' : ℕ) (place place' : Option Place) → IsCompared names job ring shown text D place
        → IsCompared names job ring shown text D' place' → (D ≡ D') × (place ≡ place')
    one_place D D' place place' a b =
        let block = one_block_is ring names job.roots shown text apart D D' a.lead b.lead a.factors b.factors a.is_block
        b.is_block in
        let fs = subst (λ n. IsFactors (job_in ring job) n a.job_factors) block.0 a.are_factors in
        let l = subst (λ n. IsShownLead (series ring) n job.expr a.job_lead) block.0 a.is_lead in
        let one_fs = factors (job_in ring job) ok_in D' in
        let one_l = shown_once D' in
        let same_fs = one_fs.only a.job_factors fs ∙ sym (one_fs.only b.job_factors b.are_factors) in
        let same_l = one_l.only a.job_lead l ∙ sym (one_l.only b.job_lead b.is_lead) in (
          block.0,
          one_difference (series ring) b.job_lead (option_map (polynomial_in ring) b.lead) b.job_factors
              (map (polynomial_in ring) b.factors) place place'
              (subst (λ (x : Option (Poly (series ring)) × List (Poly (series ring)) × Option Coefficients
              × List Coefficients). Differ x.0 x.1 x.2 x.3 place)
              (λ i. (same_l i, same_fs i, block.1 i, block.2 i)) a.differ)
              b.differ,
        )
      where
        shown_once : (n : ℕ) → ExactlyOne (IsShownLead (series ring) n job.expr)
        shown_once n = lead_of (job_in ring job) ok_in n
