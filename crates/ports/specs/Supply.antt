-- What a source of given pieces holds, and what a pull does to it.
--     Supply      the pieces left, the numbers of the pulls that fail, how many pulls there were,
--         and the count of faults
--     given_of pieces room      how many bytes a pull gives: the first piece, or as much of its
--         beginning as fits
--     taken n pieces      the pieces without the first n bytes of the first, and without the first
--         where that is all of it
--     GivesPiece old new room answer      Bytes n: as many as above, and they are taken away; End:
--         no piece is left; Failed: the count of faults is raised. The pull is counted, and nothing
--         else changes
--     pieces_from i place pieces      the pieces from the i-th on, that one from
--         its byte `place` on
--     IsPlace i place pieces      the i-th piece has a byte `place`, or all pieces are behind
use Rattle.std.specs.Prelude.{◌≡◌, ℕ, ◌<◌, ◌≤◌, List, [], ◌∷◌, length, drop, nat_lt, if◌then◌else◌}
use Rattle.std.specs.List.{All}
use Rattle.ports.specs.Bytes.{least_of}
use Rattle.ports.specs.Faults.{raised}
use Rattle.ports.specs.declared.source.Pulled.{Pulled}
use Rattle.ports.specs.declared.source.Pulled.TheVariants.{Bytes, End, Failed}

pub record Supply : Type 0 where
  pub pieces : List (List ℕ)
  pub failing : List ℕ
  pub pulls : ℕ
  pub faults : ℕ

abbrev pub given_of : List (List ℕ) → ℕ → ℕ
given_of [] room = 0
given_of (p ∷ ps) room = least_of (length p) room

abbrev pub taken : ℕ → List (List ℕ) → List (List ℕ)
taken n [] = []
taken n (p ∷ ps) = if nat_lt n (length p) then drop n p ∷ ps else ps

abbrev pub GivesPiece : Supply → Supply → ℕ → Pulled → Type 0
GivesPiece old new room (Bytes n) =
    (n ≡ given_of old.pieces room) × (new ≡ record old { pieces = taken n old.pieces; pulls = raised old.pulls })
GivesPiece old new room End = (old.pieces ≡ []) × (new ≡ record old { pulls = raised old.pulls })
GivesPiece old new room Failed = new ≡ record old { pulls = raised old.pulls; faults = raised old.faults }

-- the pieces, the first from its byte `place` on
abbrev pub from_place : ℕ → List (List ℕ) → List (List ℕ)
from_place place [] = []
from_place place (p ∷ ps) = drop place p ∷ ps

abbrev pub pieces_from : ℕ → ℕ → List (List ℕ) → List (List ℕ)
pieces_from i place pieces = from_place place (drop i pieces)

-- the first piece has a byte `place`
abbrev pub IsIn : ℕ → List (List ℕ) → Type 0
IsIn place [] = place ≡ 0
IsIn place (p ∷ ps) = place < length p

pub record IsPlace (i place : ℕ) (pieces : List (List ℕ)) : Type 0 where
  pub within : i ≤ length pieces
  pub stands : IsIn place (drop i pieces)
  pub nonempty : All (λ p. 0 < length p) pieces
