-- The lead's parts, one more at a time.
use Rattle.std.proofs.Common.{◌≡◌, ℕ, ◌<◌, List, [], ◌∷◌, ◌++◌, length}
use Rattle.std.proofs.Common.{sym, ◌∙◌, ap, subst}
use Rattle.std.proofs.Common.{arith, inl, inr}
use Rattle.std.proofs.lemmas.Bool.{cases_lt}
use Rattle.std.proofs.lemmas.List.{append-nil, append_assoc, get_or_append_left, get_or_push, length-map, length_push}
use Rattle.std.proofs.lemmas.List.{map_push}
use Rattle.std.specs.Arc.{arc_value}
use Rattle.std.specs.declared.alloc.Global.{Global}
use Rattle.std.specs.declared.sync.Arc.{Arc}
use Rattle.ps_model.specs.declared.job.JobData.{JobData}
use Rattle.parts.specs.PartValue.{PartValue}
use Rattle.parts.specs.RowsOfParts.{parts_of, nothing}
use Rattle.intake.specs.Jobs.{IsLeadPartOf}
use Rattle.session.specs.Leads.{AreLeadParts, ExtendsLead}

-- nothing was added
pub extends_none : (n : ℕ) (xs : List PartValue) → ExtendsLead n xs xs
extends_none n xs = record { more = []; begins = sym (append-nil xs); count = omega arith }

lead_pushed : (job : JobData) (xs : List PartValue) (p : PartValue) → AreLeadParts job xs
    → IsLeadPartOf job (length xs) p → AreLeadParts job (xs ++ p ∷ [])
lead_pushed job xs p are is r low = elim (cases_lt r (length xs)) [
  | inl lt ↦ subst (IsLeadPartOf job r) (sym (get_or_append_left xs (p ∷ []) nothing r lt)) (are r lt)
  | inr le ↦ let last : length xs ≡ r = (let count = length_push xs p in omega arith) in
      subst (λ q. IsLeadPartOf job r q) (sym (get_or_push xs p nothing r last))
      (subst (λ k. IsLeadPartOf job k p) last is)
]

module _ (items all : List (Arc PartValue Global)) (x : Arc PartValue Global) (is : all ≡ items ++ x ∷ []) where
  pushed : parts_of all ≡ parts_of items ++ arc_value x ∷ []
  pushed = ap parts_of is ∙ map_push arc_value items x

  -- one more part
  pub lead_more : (job : JobData) (r : ℕ) → r ≡ length items → AreLeadParts job (parts_of items)
      → IsLeadPartOf job r (arc_value x) → AreLeadParts job (parts_of all)
  lead_more job r at are part = subst (AreLeadParts job) (sym pushed)
      (lead_pushed job (parts_of items) (arc_value x) are
      (subst (λ k. IsLeadPartOf job k (arc_value x)) (at ∙ sym (length-map items arc_value)) part))

  pub extends_more : (n : ℕ) (old : List PartValue) → length items < n → ExtendsLead n old (parts_of items)
      → ExtendsLead n old (parts_of all)
  extends_more n old low so_far = record {
    more = so_far.more ++ arc_value x ∷ [];
    begins = pushed ∙ ap (λ xs. xs ++ arc_value x ∷ []) so_far.begins ∙ append_assoc old so_far.more (arc_value x ∷ []);
    count =
        let one = ap length is ∙ length_push items x in
        let all_of = length-map all arc_value in
        omega arith;
  }
