-- Items of a stage.
--     StageItemValue      what contracts see of an item: the parts of the factor, and those of the polynomial
--         that the stage leaves, by power of Y
--     IsItem title r item      these are the parts of degree r of the stage's factor and of the product
--         of the later ones
use Rattle.std.specs.Prelude.{ℕ, suc, List, refl}
use Rattle.std.specs.Coded.{Coded, code_by, coded×, coded_list}
use Rattle.ps_model.specs.Factors.{product_from}
use Rattle.parts.specs.PartValue.{PartValue, part_code}
use Rattle.stages.specs.Titles.{TitleValue, times_at, later_times}
use Rattle.stages.specs.Slices.{AreSlices, AreSlices-IsProp, factor_at}

pub record StageItemValue : Type 0 where
  pub factor : List PartValue
  pub left : List PartValue

abbrev pub item_code : Coded StageItemValue
item_code =
    code_by (List PartValue × List PartValue) (coded× (coded_list part_code) (coded_list part_code))
    (λ i. (i.factor, i.left)) (λ p. record { factor = p.0; left = p.1 }) (λ _. refl)

pub record IsItem (title : TitleValue) (r : ℕ) (item : StageItemValue) : Type 0 where
  pub factor : AreSlices title.job (times_at title.job title.stage) r (factor_at title.job title.stage) item.factor
  pub left : AreSlices title.job (later_times title.job title.stage) r (λ fs. product_from r
      (suc title.stage) fs) item.left

-- two proofs that an item fits are equal
pub IsItem-IsProp : (title : TitleValue) (r : ℕ) (item : StageItemValue) → IsProp (IsItem title r item)
IsItem-IsProp title r item = hlevel (AreSlices-IsProp)
