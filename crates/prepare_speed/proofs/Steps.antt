-- Preparations that grow, degree by degree.
use Rattle.std.proofs.Common.{◌≡◌, ℕ, ◌+◌, List, [], length, get_or, sym, ◌∙◌, ap, subst, arith}
use Rattle.std.proofs.lemmas.List.{length_push}
use Rattle.ps_model.specs.Bounds.{HasNoPowerAbove}
use Rattle.ps_model.specs.Rows.{IsRowOf}
use Rattle.parts.specs.PartValue.{PartValue}
use Rattle.parts.specs.RowsOfParts.{IsRowOfParts}
use Rattle.parts.specs.Series.{row_maps}
use Rattle.parts.specs.declared.rings.Ring.{Ring}
use Rattle.prepare.specs.Calls.{Begins, Adds}
use Rattle.prepare.specs.PrepValue.{PrepValue, degrees_of}
use Rattle.prepare_speed.specs.Prepared.{IsPreparationOf}

module _ (ring : Ring) (rows : List (List PartValue)) where
  -- of the first row
  pub begun : (prep : PrepValue) (row : List PartValue) → row ≡ get_or rows 0 [] → length row ≡ 9
      → Begins ring 2 row prep → IsPreparationOf ring rows 1 prep
  begun prep row is nine begins =
      let k_is = begins.k_is in
      let q_is = begins.q_is in
      let eight : prep.k + prep.q ≡ 8 = omega (arith, nine, q_is) in
      record {
        ring_is = begins.ring_is;
        k_is = k_is;
        q_is = omega (arith, eight, k_is);
        degrees = begins.degrees;
        pair = λ G powers are. begins.pair G (subst (λ n. HasNoPowerAbove n G) (sym eight) powers)
            (subst (λ n. IsRowOf n 0 G (row_maps prep.ring row)) (sym eight)
            (subst (λ r. IsRowOf 8 0 G (row_maps prep.ring r)) (sym is) (are 0 (omega arith))));
      }

  -- of one row more
  pub more : (n : ℕ) (old new : PrepValue) (row : List PartValue) → row ≡ get_or rows n [] → Adds row old new
      → IsPreparationOf ring rows n old → IsPreparationOf ring rows (n + 1) new
  more n old new row is adds before =
      let k_is = before.k_is in
      let q_is = before.q_is in
      let degrees = before.degrees in
      let eight : old.k + old.q ≡ 8 = omega (arith, k_is, q_is) in
      subst (IsPreparationOf ring rows (n + 1)) (sym adds.new_is) (record {
        ring_is = before.ring_is;
        k_is = before.k_is;
        q_is = before.q_is;
        degrees = length_push old.rows_p adds.row_p ∙ ap (λ d. d + 1) degrees;
        pair = λ G powers are. adds.pair G (subst (λ d. HasNoPowerAbove d G) (sym eight) powers)
            (subst (λ d. IsRowOf d (degrees_of old) G (row_maps old.ring row)) (sym eight)
            (subst (λ d. IsRowOf 8 d G (row_maps old.ring row)) (sym degrees)
            (subst (λ r. IsRowOf 8 n G (row_maps old.ring r)) (sym is) (are n (omega arith)))))
            (before.pair G powers (λ r lt. are r (omega arith)));
      })

  -- the row that is next
  pub fits : (n : ℕ) (prep : PrepValue) (row : List PartValue) → IsPreparationOf ring rows n prep
      → IsRowOfParts ring 8 n row → IsRowOfParts prep.ring (prep.k + prep.q) (degrees_of prep) row
  fits n prep row before is =
      let k_is = before.k_is in
      let q_is = before.q_is in
      let eight : prep.k + prep.q ≡ 8 = omega (arith, k_is, q_is) in
      subst (λ R. IsRowOfParts R (prep.k + prep.q) (degrees_of prep) row) (sym before.ring_is)
      (subst (λ K. IsRowOfParts ring K (degrees_of prep) row) (sym eight)
      (subst (λ r. IsRowOfParts ring 8 r row) (sym before.degrees) is))
