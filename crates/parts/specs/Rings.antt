-- Rings of polynomials: a modulus, and variables with weights.
--     modulus_of ring      the number modulo which coefficients are
--     variables_of ring      how many variables there are, from 1 to 8
--     weights_of ring      the degree of each variable
--     eight_weights ring      the same, and 1 for each variable that the ring hasn't
use Rattle.std.specs.Prelude.{ℕ, List, take}
use Rattle.residue.specs.Residues.{number_of}
use Rattle.parts.specs.declared.rings.Ring.{Ring}

abbrev pub modulus_of : Ring → ℕ
modulus_of ring = number_of ring.modulus

abbrev pub variables_of : Ring → ℕ
variables_of ring = ring.n

abbrev pub weights_of : Ring → List ℕ
weights_of ring = take ring.n ring.weights

abbrev pub eight_weights : Ring → List ℕ
eight_weights ring = ring.weights
