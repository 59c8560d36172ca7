-- Rows that are read part by part, while more of the graph gets known.
use Rattle.std.proofs.Common.{◌≡◌, ℕ, ◌+◌, ◌<◌, List, [], ◌∷◌, ◌++◌, length, get_or, take, map, inl, inr, Some}
use Rattle.std.proofs.Common.{refl, sym, ◌∙◌, ap, subst, arith, append_assoc}
use Rattle.std.specs.declared.alloc.Global.{Global}
use Rattle.std.specs.declared.sync.Arc.{Arc}
use Rattle.std.specs.Prelude.{slice_get}
use Rattle.std.specs.Arc.{arc_value}
use Rattle.std.proofs.lemmas.List.{take_more}
use Rattle.std.proofs.lemmas.Option.{slice_get_within}
use Rattle.ps_model.specs.Bounds.{ExactlyOne}
use Rattle.parts.specs.PartValue.{PartValue}
use Rattle.parts.specs.RowsOfParts.{parts_of, part_in, nothing}
use Rattle.parts.specs.Series.{series}
use Rattle.series_graph.specs.Calls.{Keeps, BeginsWith}
use Rattle.series_graph.specs.Formula.{place_of}
use Rattle.series_graph.specs.GraphValue.{GraphValue, IsKnownPart, known_at}
use Rattle.series_graph.specs.Meaning.{Means}
use Rattle.series_graph.specs.declared.node.NodeId.{NodeId}
use Rattle.intake.specs.InputRows.{ArePartsOf}
use Rattle.intake.proofs.SlotMeanings.{get_or-before, get_or-at_end}
use Rattle.intake.proofs.SlotSteps.{length_both, slice_get-last}

begins_trans : (xs ys zs : List PartValue) → BeginsWith xs ys → BeginsWith ys zs → BeginsWith xs zs
begins_trans xs ys zs a b = (a.0 ++ b.0, b.1 ∙ ap (λ l. l ++ b.0) a.1 ∙ append_assoc xs a.0 b.0)

pub keeps_trans : (a b c : GraphValue) → Keeps a b → Keeps b c → Keeps a c
keeps_trans a b c h k = record {
  new_is = k.new_is ∙ ap (λ (g : GraphValue). record g { known = c.known }) h.new_is;
  count = k.count ∙ h.count;
  begin = λ i. begins_trans (known_at a i) (known_at b i) (known_at c i) (h.begin i) (k.begin i);
}

-- one more slot's part
pub row_next : (graph now : GraphValue) (slots : List NodeId) (i r : ℕ) (row : List PartValue) (d id : NodeId)
    (p : PartValue)
    → i < length slots → id ≡ get_or slots i d → Keeps graph now → ArePartsOf graph (take i slots) r row
    → IsKnownPart now.ring now.formulas (place_of id) r p
    → ((D : ℕ) → ExactlyOne (Means (series now.ring) D now.formulas (place_of id)))
    → ArePartsOf graph (take (i + 1) slots) r (row ++ p ∷ [])
row_next graph now slots i r row d id p lt at keeps parts part meaning =
    subst (λ (ids : List NodeId). ArePartsOf graph ids r (row ++ p ∷ []))
    (sym (take_more slots i d lt ∙ ap (λ (x : NodeId). take i slots ++ x ∷ []) (sym at)))
    (more (take i slots) parts)
  where
    known : IsKnownPart graph.ring graph.formulas (place_of id) r p
    known = subst (λ (g : GraphValue). IsKnownPart g.ring g.formulas (place_of id) r p) keeps.new_is part

    alone : (D : ℕ) → ExactlyOne (Means (series graph.ring) D graph.formulas (place_of id))
    alone D = subst (λ (g : GraphValue). ExactlyOne (Means (series g.ring) D g.formulas (place_of id))) keeps.new_is
        (meaning D)

    same : (x : NodeId) → Some id ≡ Some x → id ≡ x
    same x e = cc

    more : (done : List NodeId) → ArePartsOf graph done r row → ArePartsOf graph (done ++ id ∷ []) r (row ++ p ∷ [])
    more done are = record {
      count = (
          let of_row = length_both row (p ∷ []) in
          let of_done = length_both done (id ∷ []) in
          let count = are.count in
          omega (arith, of_row, of_done, count));
      parts = λ j x there. elim (slice_get-last done id x j there) [
        | inl before ↦ subst (λ (q : PartValue). IsKnownPart graph.ring graph.formulas (place_of x) r q)
            (sym (get_or-before row (p ∷ []) j nothing
            (let count = are.count in let within = slice_get_within done j x before in omega (arith, count, within))))
            (are.parts j x before)
        | inr last ↦ subst (λ (q : PartValue). IsKnownPart graph.ring graph.formulas (place_of x) r q)
            (sym (ap (λ k. part_in (row ++ p ∷ []) k) (last.0 ∙ sym are.count) ∙ get_or-at_end row p nothing))
            (subst (λ (y : NodeId). IsKnownPart graph.ring graph.formulas (place_of y) r p) (same x last.1) known)
      ];
      meanings = λ j D x there. elim (slice_get-last done id x j there) [
        | inl before ↦ are.meanings j D x before
        | inr last ↦ subst (λ (y : NodeId). ExactlyOne (Means (series graph.ring) D graph.formulas (place_of y)))
            (same x last.1) (alone D)
      ];
    }

pub parts_more : (row : List (Arc PartValue Global)) (p : Arc PartValue Global)
    → parts_of (row ++ p ∷ []) ≡ parts_of row ++ arc_value p ∷ []
parts_more [] p = refl
parts_more (q ∷ row) p = ap (λ ps. arc_value q ∷ ps) (parts_more row p)
