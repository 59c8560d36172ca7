-- The law that a text is that of one block at most.
--     IsPrinted S names D K p      nothing of p is left out by a text with these names, of precision D and with
--         the powers of Y up to K
--     ArePrinted S names D roots fs      there is one such polynomial for each root, with its multiplicity as K
--     IsLeadPrinted S names D lead      so is the lead without Y, where it is shown
--     IsBlockText S names D roots lead fs text      the text is the block of these, from which nothing is left out
use Rattle.std.specs.Prelude.{◌≡◌, ℕ, List, [], ◌∷◌, Option, Some, None}
use Rattle.std.specs.FinMap.{get}
use Rattle.ps_model.specs.declared.job.Root.{Root}
use Rattle.ps_model.specs.Keys.{Key, numbers}
use Rattle.ps_model.specs.Bounds.{HasNoDegreeAbove, HasNoPowerAbove}
use Rattle.ps_model.specs.BlockText.{block_text}
use Rattle.ps_model.specs.SeriesRing.{SeriesRing, Poly}
use Rattle.printer.specs.ReadForms.{IsNamed}

module _ (S : SeriesRing) (names : List (List ℕ)) (D : ℕ) where
  pub record IsPrinted (K : ℕ) (p : Poly S) : Type 0 where
    pub degree : HasNoDegreeAbove D p
    pub y_degree : HasNoPowerAbove K p
    pub is_named : (k : Key S.variables) (c : ℕ) → get p.map k ≡ Some c
        → IsNamed names (numbers S.variables k.powers)

  abbrev pub ArePrinted : List Root → List (Poly S) → Type 0
  ArePrinted [] [] = Unit {0}
  ArePrinted [] (f ∷ fs) = ⊥
  ArePrinted (root ∷ roots) [] = ⊥
  ArePrinted (root ∷ roots) (f ∷ fs) = IsPrinted root.times f × ArePrinted roots fs

  abbrev pub IsLeadPrinted : Option (Poly S) → Type 0
  IsLeadPrinted None = Unit {0}
  IsLeadPrinted (Some l) = IsPrinted 0 l

  pub record IsBlockText (roots : List Root) (lead : Option (Poly S)) (fs : List (Poly S)) (text : List ℕ) :
      Type 0 where
    pub lead_is : IsLeadPrinted lead
    pub factors_are : ArePrinted roots fs
    pub text_is : text ≡ block_text S names lead roots fs D
