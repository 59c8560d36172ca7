-- Readers that stay the same.
use Rattle.std.proofs.Common.{◌≡◌, ℕ, List, map, refl, sym, ◌∙◌, arith, subst}
use Rattle.stages.specs.Items.{StageItemValue, IsItem}
use Rattle.stages.specs.States.{StageState}
use Rattle.pipe.specs.Looks.{ReaderState, KeepsReader, title_of_reader}
use Rattle.pipe.specs.Pairs.{Pairwise}
use Rattle.pipe.specs.SharedLines.{AreReadersOf, name_of_reader}
use Rattle.pipe.proofs.PairLists.{alike}

pub reader_same : (r : ReaderState) → KeepsReader r r
reader_same r = record { title = refl; name = refl; seen = omega arith; told = refl }

pub reader_twice : (r s t : ReaderState) → KeepsReader r s → KeepsReader s t → KeepsReader r t
reader_twice r s t k l = record {
  title = l.title ∙ k.title;
  name = l.name ∙ k.name;
  seen = let p = k.seen in let q = l.seen in omega arith;
  told = l.told ∙ k.told;
}

-- an item of the reader that was there
pub item_before : (r s : ReaderState) (n : ℕ) (x : StageItemValue) → KeepsReader r s
    → IsItem s.title n x → IsItem r.title n x
item_before r s n x k h = subst (λ t. IsItem t n x) k.title h

-- the readers of the rows are still that
pub readers_kept : (states : List StageState) (rs rs' : List ReaderState) → Pairwise KeepsReader rs rs'
    → AreReadersOf states rs → AreReadersOf states rs'
readers_kept states rs rs' kept are = record {
  same_titles = alike KeepsReader title_of_reader (λ x y k. k.title) rs rs' kept ∙ are.same_titles;
  same_names = alike KeepsReader name_of_reader (λ x y k. k.name) rs rs' kept ∙ are.same_names;
}

-- as the lists are called before and after
pub readers_on : {U : Type 0} (look : U → ReaderState) (states : List StageState) (us vs ws xs : List U) → vs ≡ us → xs ≡ ws
    → Pairwise KeepsReader (map look vs) (map look ws) → AreReadersOf states (map look us) → AreReadersOf states (map look xs)
readers_on look states us vs ws xs same same_too kept are =
    subst (λ l. AreReadersOf states (map look l)) (sym same_too)
    (readers_kept states (map look vs) (map look ws) kept (subst (λ l. AreReadersOf states (map look l)) (sym same) are))
