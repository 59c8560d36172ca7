-- The block that a text is, and why a text is none.
--     Coefficients      what contracts see of a `PlainPoly`: a finite map from keys to coefficients
--     IsReduced ring p      each coefficient of the map is a residue other than 0
--     IsBlock ring names roots lead text D l fs      the text is that of the block of precision D, which the ring has,
--         with the lead l, there exactly where `lead` is true, and the factors fs, one for each root: no term of a
--         degree above D, no power of Y above its root's multiplicity and none in the lead, so that nothing is left out
--     IsUnlawfulLine ring names roots lead text line      line 1 is `precision D` and a newline for no D that the ring
--         has, and `line` is 1; or it is, and `line` is the first behind it that has no form of the block's at its
--         place: where the text ends early the one behind its last, where it goes on the one behind the block's last
--     IsRefused ring names roots lead text e      why the text is refused. First: line 1, with or without its newline,
--         is `precision D` of a D that the ring doesn't have; one above 4095 is told as 4096. Then: the text is no
--         block's, and the line is the first unlawful one. `names` are those of the ring's variables.
use Rattle.std.specs.Prelude.{◌≡◌, ℕ, ◌<◌, min, ◌⊎◌, Bool, List, ◌++◌, Option, Some, IfSome, is_some, map}
use Rattle.std.specs.FinMap.{FinMap, get}
use Rattle.std.specs.List.{AllByRecursion}
use Rattle.std.specs.Option.{option_map}
use Rattle.ps_model.specs.declared.job.Root.{Root}
use Rattle.ps_model.specs.Keys.{Key, key_compare}
use Rattle.ps_model.specs.BlockText.{newline}
use Rattle.parts.specs.JobRows.{IsPermitted}
use Rattle.parts.specs.Rings.{modulus_of, weights_of}
use Rattle.parts.specs.Series.{series, polynomial_in}
use Rattle.parts.specs.declared.rings.Ring.{Ring}
use Rattle.printer.specs.declared.block_error.BlockError.{BlockError}
use Rattle.printer.specs.declared.block_error.BlockError.TheVariants.{NotPermitted, NotABlock, OutOfMemory}
use Rattle.printer.specs.ReadBlock.{precision_text, lead_forms, factor_forms, IsFirstUnlawful}
use Rattle.printer.specs.ReadLaw.{IsBlockText}
use Rattle.printer.specs.ReadPrecision.{precision_in}

abbrev pub Coefficients : Type 0
Coefficients = FinMap (key_compare 8) ℕ

abbrev pub IsReduced : Ring → Coefficients → Type 0
IsReduced ring p = (k : Key 8) (c : ℕ) → get p k ≡ Some c → (0 < c) × (c < modulus_of ring)

module _ (ring : Ring) (names : List (List ℕ)) (roots : List Root) (lead : Bool) (text : List ℕ) where
  pub record IsBlock (D : ℕ) (l : Option Coefficients) (fs : List Coefficients) : Type 0 where
    pub permitted : IsPermitted (weights_of ring) D
    pub lead_shown : is_some l ≡ lead
    pub lead_reduced : IfSome l (IsReduced ring)
    pub reduced : AllByRecursion (IsReduced ring) fs
    pub text_is : IsBlockText (series ring) names D roots (option_map (polynomial_in ring) l)
        (map (polynomial_in ring) fs) text

  abbrev pub IsUnlawfulLine : ℕ → Type 0
  IsUnlawfulLine line =
      (((D : ℕ) (rest : List ℕ) → IsPermitted (weights_of ring) D
      → text ≡ (precision_text D ++ newline) ++ rest → ⊥) × (line ≡ 1))
      ⊎ ((D : ℕ) × (rest : List ℕ) × IsPermitted (weights_of ring) D
      × (text ≡ (precision_text D ++ newline) ++ rest)
      × IsFirstUnlawful ring names D (lead_forms lead ++ factor_forms 1 roots) rest 2 line)

  abbrev pub IsRefused : BlockError → Type 0
  IsRefused (NotPermitted precision) =
      (D : ℕ) × (rest : List ℕ) × (precision_in text ≡ Some (D, rest))
      × (IsPermitted (weights_of ring) D → ⊥) × (precision ≡ min D 4096)
  IsRefused (NotABlock line) =
      ((D : ℕ) (rest : List ℕ) → precision_in text ≡ Some (D, rest) → IsPermitted (weights_of ring) D)
      × ((D : ℕ) (l : Option Coefficients) (fs : List Coefficients) → IsBlock D l fs → ⊥)
      × IsUnlawfulLine line
  IsRefused OutOfMemory = Unit {0}
