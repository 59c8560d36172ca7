-- The lines of a whole block, as they are read: terms in the order of printing.
--     HasLead ring names D lead text old new rest      the text begins with the lead's line, with whose terms the list
--         grew; where no lead is shown there is no such line
--     HasBlock ring names roots lead text D l fs      the text is that of a block of precision D, which the ring has,
--         with the terms l of the lead and fs of the factors
--     IsStopped ring names roots lead text e      why the lines are none of a block's: as `IsRefused`, but that no
--         polynomials have this text is left to be seen
use Rattle.std.specs.Prelude.{◌≡◌, ℕ, min, Bool, true, false, List, [], ◌++◌, Some, codes}
use Rattle.ps_model.specs.declared.job.Root.{Root}
use Rattle.ps_model.specs.Keys.{Key}
use Rattle.ps_model.specs.BlockText.{newline}
use Rattle.parts.specs.JobRows.{IsPermitted}
use Rattle.parts.specs.Rings.{weights_of}
use Rattle.parts.specs.declared.rings.Ring.{Ring}
use Rattle.printer.specs.declared.block_error.BlockError.{BlockError}
use Rattle.printer.specs.declared.block_error.BlockError.TheVariants.{NotPermitted, NotABlock, OutOfMemory}
use Rattle.printer.specs.ReadBlock.{precision_text, HasMarkedLine}
use Rattle.printer.specs.ReadFactors.{HasFactors}
use Rattle.printer.specs.ReadPrecision.{precision_in}
use Rattle.printer.specs.ReadText.{IsUnlawfulLine}

module _ (ring : Ring) (names : List (List ℕ)) where
  abbrev pub HasLead : ℕ → Bool → List ℕ → List (Key 8 × ℕ) → List (Key 8 × ℕ) → List ℕ → Type 0
  HasLead D false text old new rest = (new ≡ old) × (rest ≡ text)
  HasLead D true text old new rest = HasMarkedLine ring names D 0 (codes "lead: ") text old new rest

  module _ (roots : List Root) (lead : Bool) (text : List ℕ) where
    pub record HasBlock (D : ℕ) (l : List (Key 8 × ℕ)) (fs : List (List (Key 8 × ℕ))) : Type 0 where
      pub behind : List ℕ
      pub rest : List ℕ
      pub permitted : IsPermitted (weights_of ring) D
      pub text_is : text ≡ (precision_text D ++ newline) ++ behind
      pub lead_is : HasLead D lead behind [] l rest
      pub factors : HasFactors ring names D 1 roots rest fs

    abbrev pub IsStopped : BlockError → Type 0
    IsStopped (NotPermitted precision) =
        (D : ℕ) × (rest : List ℕ) × (precision_in text ≡ Some (D, rest))
        × (IsPermitted (weights_of ring) D → ⊥) × (precision ≡ min D 4096)
    IsStopped (NotABlock line) =
        ((D : ℕ) (rest : List ℕ) → precision_in text ≡ Some (D, rest) → IsPermitted (weights_of ring) D)
        × IsUnlawfulLine ring names roots lead text line
    IsStopped OutOfMemory = Unit {0}
