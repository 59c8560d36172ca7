-- The rows of an input, one more at a time.
use Rattle.std.proofs.Common.{◌≡◌, ℕ, List, [], ◌∷◌, ◌++◌, length, sym, ◌∙◌, ap, subst, arith}
use Rattle.std.proofs.Common.{inl, inr}
use Rattle.std.proofs.lemmas.Bool.{cases_lt}
use Rattle.std.proofs.lemmas.List.{get_or_append_left, get_or_push, length-map, length_push, map_push}
use Rattle.std.specs.declared.alloc.Global.{Global}
use Rattle.std.specs.declared.sync.Arc.{Arc}
use Rattle.std.specs.declared.vec.Vec.{Vec}
use Rattle.ps_model.specs.declared.job.JobData.{JobData}
use Rattle.parts.specs.PartValue.{PartValue}
use Rattle.parts.specs.RowsOfParts.{parts_of, parts_in}
use Rattle.intake.specs.Jobs.{IsValueRowOf}
use Rattle.commands.specs.Expandings.{AreValueRows}

abbrev pub RowVec : Type 0
RowVec = Vec (Arc PartValue Global) Global

pub no_rows : (job : JobData) (rows : List RowVec) → rows ≡ [] → AreValueRows job (parts_in rows)
no_rows job rows none r lt = let count = ap (λ (l : List RowVec). length (parts_in l)) none in absurd (omega arith)

row_pushed : (job : JobData) (xs : List (List PartValue)) (row : List PartValue) → AreValueRows job xs
    → IsValueRowOf job (length xs) row → AreValueRows job (xs ++ row ∷ [])
row_pushed job xs row are is r low = elim (cases_lt r (length xs)) [
  | inl lt ↦ subst (IsValueRowOf job r) (sym (get_or_append_left xs (row ∷ []) [] r lt)) (are r lt)
  | inr le ↦ let last : length xs ≡ r = (let count = length_push xs row in omega arith) in
      subst (λ q. IsValueRowOf job r q) (sym (get_or_push xs row [] r last))
      (subst (λ k. IsValueRowOf job k row) last is)
]

-- one more row
pub row_more : (job : JobData) (rows all : List RowVec) (row : RowVec) (r : ℕ) → all ≡ rows ++ row ∷ []
    → r ≡ length rows → AreValueRows job (parts_in rows) → IsValueRowOf job r (parts_of row.items)
    → AreValueRows job (parts_in all)
row_more job rows all row r is at are one =
    subst (AreValueRows job) (sym (ap parts_in is ∙ map_push (λ (v : RowVec). parts_of v.items) rows row))
    (row_pushed job (parts_in rows) (parts_of row.items) are
    (subst (λ k. IsValueRowOf job k (parts_of row.items))
    (at ∙ sym (length-map rows (λ (v : RowVec). parts_of v.items))) one))
