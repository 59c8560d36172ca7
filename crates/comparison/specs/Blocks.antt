-- What is compared: what a view tells up to a degree, and a block that was read.
--     IsRead value D l fs      the lead l, shown exactly where the view's is, and the factors fs, one for each of its
--         roots, are those of a block of precision D that some text is, in the view's ring with some names
--     DifferFrom value D l fs place      the place is the first one where they differ from what the view tells up to D
use Rattle.std.specs.Prelude.{ℕ, Option, List, map}
use Rattle.std.specs.Option.{option_map}
use Rattle.parts.specs.Series.{series, polynomial_in}
use Rattle.printer.specs.ReadBlock.{variable_names}
use Rattle.printer.specs.ReadText.{Coefficients, IsBlock}
use Rattle.printer.specs.Texts.{factors_to, shown_lead}
use Rattle.printer.specs.View.{BlockValue}
use Rattle.comparison.specs.Differences.{IsFirstDifference}
use Rattle.comparison.specs.declared.place.Place.{Place}

module _ (value : BlockValue) (D : ℕ) (l : Option Coefficients) (fs : List Coefficients) where
  abbrev pub IsRead : Type 0
  IsRead = (names : List (List ℕ)) × (text : List ℕ)
      × IsBlock value.ring (variable_names value.ring names) value.roots value.shows_lead text D l fs

  abbrev pub DifferFrom : Option Place → Type 0
  DifferFrom place = IsFirstDifference (series value.ring) (shown_lead value D) (factors_to value D)
      (option_map (polynomial_in value.ring) l) (map (polynomial_in value.ring) fs) place
