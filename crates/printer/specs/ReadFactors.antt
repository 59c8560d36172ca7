-- The lines of the factors of a block, as they are read.
--     StopsIn ring names D forms text k      of the lines of these forms the first that is unlawful has k lawful ones
--         before it, whatever forms are behind
--     factor_form i root      the forms of the lines of the i-th factor
--     HasFactor ring names D i root text old new rest      the text begins with the lines of this factor, with whose
--         terms the list grew
--     HasFactors ring names D i roots text fs      the text is that of the factors, counted from i, with these terms
use Rattle.std.specs.Prelude.{◌≡◌, ℕ, suc, ◌+◌, List, [], ◌∷◌, ◌++◌}
use Rattle.ps_model.specs.declared.job.Root.{Root}
use Rattle.ps_model.specs.Keys.{Key}
use Rattle.ps_model.specs.BlockText.{newline}
use Rattle.parts.specs.declared.rings.Ring.{Ring}
use Rattle.printer.specs.ReadBlock.{Form, IsFirstUnlawful, HasPowerLines, head_text, power_forms}
use Rattle.printer.specs.ReadBlock.Form.{Whole}

abbrev pub factor_form : ℕ → Root → List Form
factor_form i root = Whole (head_text i root) ∷ power_forms root.times

module _ (ring : Ring) (names : List (List ℕ)) (D : ℕ) where
  abbrev pub StopsIn : List Form → List ℕ → ℕ → Type 0
  StopsIn forms text k = (later : List Form) (i : ℕ) → IsFirstUnlawful ring names D (forms ++ later) text i (i + k)

  pub record HasFactor (i : ℕ) (root : Root) (text : List ℕ) (old new : List (Key 8 × ℕ)) (rest : List ℕ) :
      Type 0 where
    pub behind : List ℕ
    pub text_is : text ≡ (head_text i root ++ newline) ++ behind
    pub lines : HasPowerLines ring names D root.times behind old new rest

  abbrev pub HasFactors : ℕ → List Root → List ℕ → List (List (Key 8 × ℕ)) → Type 0
  HasFactors i [] text [] = text ≡ []
  HasFactors i [] text (f ∷ fs) = ⊥
  HasFactors i (root ∷ roots) text [] = ⊥
  HasFactors i (root ∷ roots) text (f ∷ fs) =
      (rest : List ℕ) × HasFactor i root text [] f rest × HasFactors (suc i) roots rest fs
