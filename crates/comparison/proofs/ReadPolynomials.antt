-- The polynomials of a block that was read: what they have no more of.
use Rattle.std.proofs.Common.{◌≡◌, ℕ, zero, suc, ◌<◌, ◌≤◌, Bool, List, [], ◌∷◌, Option, Some, length, get_or, map, refl}
use Rattle.std.proofs.Common.{subst, arith}
use Rattle.std.specs.List.{AllByRecursion}
use Rattle.std.specs.Prelude.{IfSome, is_some}
use Rattle.std.specs.Option.{option_map}
use Rattle.ps_model.specs.declared.job.Root.{Root}
use Rattle.parts.specs.Series.{series, polynomial_in}
use Rattle.parts.specs.declared.rings.Ring.{Ring}
use Rattle.printer.specs.ReadBlock.{variable_names}
use Rattle.printer.specs.ReadLaw.{ArePrinted, IsLeadPrinted}
use Rattle.printer.specs.ReadText.{Coefficients, IsBlock, IsReduced}
use Rattle.printer.specs.View.{BlockValue}
use Rattle.comparison.specs.Blocks.{IsRead}
use Rattle.comparison.specs.Compared.{IsWithin, AreWithin}

module _ (ring : Ring) (names : List (List ℕ)) (D : ℕ) (low : D ≤ 4095) where
  many : (roots : List Root) (fs : List Coefficients)
      → ArePrinted (series ring) names D roots (map (polynomial_in ring) fs) → length fs ≡ length roots
  many [] [] are = refl
  many [] (f ∷ fs) are = absurd are
  many (root ∷ roots) [] are = absurd are
  many (root ∷ roots) (f ∷ fs) are = omega (arith, many roots fs are.1)

  each : (roots : List Root) (fs : List Coefficients)
      → ArePrinted (series ring) names D roots (map (polynomial_in ring) fs) → AllByRecursion (IsReduced ring) fs
      → (i : ℕ) (root : Root) (f : Coefficients) → i < length fs
      → IsWithin ring (get_or roots i root).times D (get_or fs i f)
  each [] [] are reduced i root f lt = absurd (omega arith)
  each [] (g ∷ fs) are reduced i root f lt = absurd are
  each (r ∷ roots) [] are reduced i root f lt = absurd are
  each (r ∷ roots) (g ∷ fs) are reduced zero root f lt = record {
    low = low;
    reduced = reduced.0;
    degree = are.0.degree;
    y_degree = are.0.y_degree;
  }
  each (r ∷ roots) (g ∷ fs) are reduced (suc i) root f lt = each roots fs are.1 reduced.1 i root f (omega arith)

-- what each of them has
pub are_within : (value : BlockValue) (D : ℕ) (l : Option Coefficients) (fs : List Coefficients)
    → IsRead value D l fs → AreWithin value D fs
are_within value D l fs read =
    let block = read.2 in
    let names = variable_names value.ring read.0 in
    record {
      many = many value.ring names D block.permitted.0 value.roots fs block.text_is.factors_are;
      each = each value.ring names D block.permitted.0 value.roots fs block.text_is.factors_are block.reduced;
    }

lead_printed : (ring : Ring) (names : List (List ℕ)) (D : ℕ) (p : Coefficients) → D ≤ 4095 → IsReduced ring p
    → IsLeadPrinted (series ring) names D (Some (polynomial_in ring p)) → IsWithin ring 0 D p
lead_printed ring names D p low reduced is = record {
  low = low;
  reduced = reduced;
  degree = is.degree;
  y_degree = is.y_degree;
}

-- so has the lead
pub lead_within : (value : BlockValue) (D : ℕ) (l : Option Coefficients) (fs : List Coefficients) (p : Coefficients)
    → IsRead value D l fs → l ≡ Some p → IsWithin value.ring 0 D p
lead_within value D l fs p read is =
    let block = read.2 in
    let names = variable_names value.ring read.0 in
    lead_printed value.ring names D p block.permitted.0
    (subst (λ (o : Option Coefficients). IfSome o (IsReduced value.ring)) is block.lead_reduced)
    (subst (λ (o : Option Coefficients). IsLeadPrinted (series value.ring) names D
    (option_map (polynomial_in value.ring) o)) is block.text_is.lead_is)

-- it is there exactly where the view's is
pub lead_there : (value : BlockValue) (D : ℕ) (l : Option Coefficients) (fs : List Coefficients)
    → IsRead value D l fs → is_some l ≡ value.shows_lead
lead_there value D l fs read = read.2.lead_shown

-- what `read_block` answers was read, where it was given what the view has
pub is_read : (value : BlockValue) (names : List (List ℕ)) (ring : Ring) (roots : List Root) (lead : Bool)
    (text : List ℕ) (D : ℕ) (l : Option Coefficients) (fs : List Coefficients) → ring ≡ value.ring
    → roots ≡ value.roots → lead ≡ value.shows_lead
    → IsBlock ring (variable_names ring names) roots lead text D l fs → IsRead value D l fs
is_read value names ring roots lead text D l fs same same' same'' block = (
  names,
  text,
  subst (λ (r : Ring). IsBlock r (variable_names r names) value.roots value.shows_lead text D l fs) same
      (subst (λ (rs : List Root). IsBlock ring (variable_names ring names) rs value.shows_lead text D l fs) same'
      (subst (λ (b : Bool). IsBlock ring (variable_names ring names) roots b text D l fs) same'' block)),
)
