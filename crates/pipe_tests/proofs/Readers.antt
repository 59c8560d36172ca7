-- What is known of the name of the stage at a place is known of the reader there.
use Rattle.std.proofs.Common.{◌≡◌, ℕ, ◌<◌, List, length, map, get_or, ◌∙◌, ap}
use Rattle.std.proofs.lemmas.List.{get_or-map}
use Rattle.stages.specs.States.{StageState}
use Rattle.pipe.specs.Looks.{ReaderState}
use Rattle.pipe.specs.SharedLines.{AreReadersOf, name_of_reader}
use Rattle.pipe.proofs.ReadersOf.{name_there}

pub reader_there : {T : Type 0} (look : T → ReaderState) (name : List ℕ) (states : List StageState) (readers : List T)
    (i : ℕ) (x : T) → AreReadersOf states (map look readers) → i < length states → i < length readers
    → ((d : StageState) → name ≡ (get_or states i d).name) → name ≡ (look (get_or readers i x)).name
reader_there look name states readers i x are lt low here =
    name_there name states (map look readers) i are lt here (look x)
    ∙ ap name_of_reader (get_or-map look readers i x (look x) low)
