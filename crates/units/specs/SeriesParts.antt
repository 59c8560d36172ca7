-- Series as lists of their homogeneous parts, from degree 0 on.
--     AreSeriesParts ring ps      the part at place r is of the ring and of degree r; so of no part
--     series_of ring ps      the sum of the parts' polynomials; 0 of no part
--     AreQuotientParts ring a b own      own are the first parts of the quotient of a by b: of D + 1 parts
--         the sum is the quotient at D; nothing is asked of no part
--     Changes ring old new p      the sum new is the sum old and p
use Rattle.std.specs.Prelude.{◌≡◌, ℕ, suc, ◌<◌, List, [], ◌∷◌, length}
use Rattle.ps_model.specs.Notation.{zero, sum, truncated}
use Rattle.ps_model.specs.Prepared.{IsQuotient}
use Rattle.ps_model.specs.SeriesRing.{Poly}
use Rattle.parts.specs.AccumulatorValue.{AccumulatorValue}
use Rattle.parts.specs.PartValue.{PartValue, IsPartOf}
use Rattle.parts.specs.RowsOfParts.{part_in}
use Rattle.parts.specs.Series.{series, polynomial_in}
use Rattle.parts.specs.declared.rings.Ring.{Ring}

-- a part of the ring of degree r
abbrev pub IsPartAt : Ring → ℕ → PartValue → Type 0
IsPartAt ring r p = (p.degree ≡ r) × IsPartOf ring p

-- parts of the degrees 0, 1 and so on
abbrev pub AreSeriesParts : Ring → List PartValue → Type 0
AreSeriesParts ring ps = (r : ℕ) → r < length ps → IsPartAt ring r (part_in ps r)

-- the series, as far as its parts are there
abbrev pub series_of : (ring : Ring) → List PartValue → Poly (series ring)
series_of ring [] = zero
series_of ring (p ∷ ps) = sum (polynomial_in ring p.map) (series_of ring ps)

-- the first parts of a / b
abbrev pub AreQuotientParts : (ring : Ring) (a b : Poly (series ring)) → List PartValue → Type 0
AreQuotientParts ring a b own =
    (D : ℕ) → length own ≡ suc D → IsQuotient D (truncated D a) b (series_of ring own)

-- a sum that p was added to
pub record Changes (ring : Ring) (old new : AccumulatorValue) (p : Poly (series ring)) : Type 0 where
  pub ring_is : new.ring ≡ old.ring
  pub degree_is : new.degree ≡ old.degree
  pub sum_is : polynomial_in ring new.map ≡ sum (polynomial_in ring old.map) p
