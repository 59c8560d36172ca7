-- Each text is a block of a ring, or is refused for one reason.
use Rattle.std.proofs.Common.{◌≡◌, ◌∙◌, ap, refl, ℕ, ◌-◌, ◌^◌, ◌≤◌}
use Rattle.std.proofs.Common.{◌⊎◌, inl, inr, min, arith, Bool, true, false, List, [], ◌∷◌, ◌++◌, length}
use Rattle.std.proofs.Common.{Option, Some, None, IfSome}
use Rattle.std.specs.Prelude.{is_some}
use Rattle.std.specs.FinMap.{from_entries, get-from_entries}
use Rattle.std.specs.Option.{option_map}
use Rattle.std.proofs.lemmas.Bool.Decides.{leb_tells}
use Rattle.ps_model.specs.BlockText.{newline}
use Rattle.ps_model.specs.KeyLaws.{key_compare_total}
use Rattle.ps_model.specs.declared.job.Root.{Root}
use Rattle.parts.specs.Counting.{monomials_up_to}
use Rattle.parts.specs.JobRows.{IsPermitted}
use Rattle.parts.specs.Rings.{weights_of}
use Rattle.parts.specs.declared.rings.Ring.{Ring}
use Rattle.printer.specs.ReadBlock.{lead_forms, factor_forms}
use Rattle.printer.specs.ReadForms.{AreApart, strip}
use Rattle.printer.specs.ReadPrecision.{precision_in, told_precision}
use Rattle.printer.specs.ReadTermLists.{HasTerms, HaveTerms}
use Rattle.printer.specs.ReadText.{Coefficients, IsBlock, IsRefused}
use Rattle.printer.specs.ReadWhole.{IsStopped}
use Rattle.printer.specs.declared.block_error.BlockError.{BlockError}
use Rattle.printer.specs.declared.block_error.BlockError.TheVariants.{NotPermitted, NotABlock, OutOfMemory}
use Rattle.printer.proofs.ReadBlocks.{block_is, refused_is}
use Rattle.printer.proofs.ReadNoFaults.{IsLawful}
use Rattle.printer.proofs.ReadWholes.{precision_known, stopped_first, stopped_unended, stopped_line}
use Rattle.commands.proofs.LinesDecided.{Decided, Entry, forms_decided, all_factors, all_lead}

-- the maps of lists of terms
maps_of : List (List Entry) → List Coefficients
maps_of [] = []
maps_of (es ∷ ess) = from_entries es ∷ maps_of ess

has_terms : (es : List Entry) → HasTerms (from_entries es) es
has_terms es = record { at = λ k. get-from_entries (key_compare_total 8) es k }

have_terms : (ess : List (List Entry)) → HaveTerms (maps_of ess) ess
unfolding maps_of
have_terms [] = tt
have_terms (es ∷ ess) = (has_terms es, have_terms ess)

permitted_decided : (ws : List ℕ) (D : ℕ) → Decided (IsPermitted ws D)
permitted_decided ws D = elim (leb_tells 4096 D) [
  | inl high ↦ inr (λ is. let low = is.0 in let above = high.1 in omega arith)
  | inr low ↦ elim (leb_tells 32769 (monomials_up_to ws D)) [
    | inl many ↦ inr (λ is. let few = is.1 in let above = many.1 in omega arith)
    | inr few ↦ inl (let below = low.1 in omega arith, let below = few.1 in omega arith)
  ]
]

-- what a text is
module _ (ring : Ring) (names : List (List ℕ)) (apart : AreApart names) (few : length names ≤ 8) (roots : List Root)
    (shown : Bool) (text : List ℕ) where
  abbrev IsWhy : Type 0
  IsWhy = (e : BlockError) × (e ≡ OutOfMemory → ⊥) × IsRefused ring names roots shown text e

  abbrev IsSome : Type 0
  IsSome =
      (D : ℕ) × (l : Option Coefficients) × (fs : List Coefficients) × IsBlock ring names roots shown text D l fs

  why : (l : ℕ) → IsStopped ring names roots shown text (NotABlock l) → IsWhy
  why l is = (NotABlock l, (λ e. cc), refused_is ring names roots shown text apart (NotABlock l) is)

  lead_map : Bool → List Entry → Option Coefficients
  lead_map true es = Some (from_entries es)
  lead_map false es = None

  lead_some : (b : Bool) (es : List Entry) → is_some (lead_map b es) ≡ b
  unfolding lead_map
  lead_some true es = refl
  lead_some false es = refl

  lead_terms : (b : Bool) (es : List Entry) → IfSome (lead_map b es) (λ p. HasTerms p es)
  unfolding lead_map
  lead_terms true es = has_terms es
  lead_terms false es = tt

  module _ (D : ℕ) (rest : List ℕ) (read : precision_in text ≡ Some (D, rest)) (ok : IsPermitted (weights_of ring) D)
    where
      told : option_map told_precision (precision_in text) ≡ Some (D, rest)
      told = ap (option_map told_precision) read ∙ ap (λ n. Some (n, rest)) (least D ok.0)
        where
          least : (D : ℕ) → D ≤ 4095 → min D (2 ^ 32 - 1) ≡ D
          least D low = omega arith

      block : (behind : List ℕ) → strip newline rest ≡ Some behind
          → IsLawful ring names D (lead_forms shown ++ factor_forms 1 roots) behind → IsSome
      block behind is lawful =
          let lead = all_lead ring names apart few D ok.0 shown (factor_forms 1 roots) behind lawful in
          let factors = all_factors ring names apart few D ok.0 1 roots lead.1 lead.3 in (
            D,
            lead_map shown lead.0,
            maps_of factors.0,
            block_is ring names roots shown text D lead.0 factors.0 (lead_map shown lead.0) (maps_of factors.0)
                (record {
                  behind = behind;
                  rest = lead.1;
                  permitted = ok;
                  text_is = precision_known text D rest behind ok.0 told is;
                  lead_is = lead.2;
                  factors = factors.1;
                }) (lead_some shown lead.0) (lead_terms shown lead.0) (have_terms factors.0),
          )

      of_lines : IsWhy ⊎ IsSome
      of_lines = by (strip newline rest) refl
        where
          by : (o : Option (List ℕ)) → strip newline rest ≡ o → IsWhy ⊎ IsSome
          by None none = inl (why 1 (stopped_unended ring names roots shown text D rest told ok none))
          by (Some behind) is = elim (forms_decided ring names apart few D ok.0
              (lead_forms shown ++ factor_forms 1 roots) behind 2) [
                | inl (l, first) ↦ inl (why l (stopped_line ring names roots shown text D rest told ok behind l is
                    first))
                | inr lawful ↦ inr (block behind is lawful)
              ]

  pub text_decided : IsWhy ⊎ IsSome
  text_decided = by (precision_in text) refl
    where
      by : (o : Option (ℕ × List ℕ)) → precision_in text ≡ o → IsWhy ⊎ IsSome
      by None none = inl (why 1 (stopped_first ring names roots shown text none))
      by (Some p) read = elim (permitted_decided (weights_of ring) p.0) [
        | inr none ↦ inl (NotPermitted (min p.0 4096), (λ e. cc), (p.0, p.1, read, none, refl))
        | inl ok ↦ of_lines p.0 p.1 read ok
      ]
