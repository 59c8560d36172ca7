-- Lists of powers that grow.
use Rattle.std.proofs.Common.{◌≡◌, ℕ, ◌<◌, List, [], ◌∷◌, ◌++◌, length, get_or, sym, ◌∙◌, ap, subst, arith}
use Rattle.std.proofs.lemmas.Bool.{cases_lt}
use Rattle.std.proofs.lemmas.List.{get_or_append_left, length_push}
use Rattle.std.proofs.Math.Seq.{get_or-append_seam}
use Rattle.std.proofs.Common.{inl, inr}
use Rattle.parts.specs.PartValue.{PartValue, IsPartOf}
use Rattle.parts.specs.declared.rings.Ring.{Ring}
use Rattle.prepare_speed.specs.Prepared.{ArePowers}

-- one power more
pub powers_more : (ring : Ring) (xs : List PartValue) (x : PartValue) → ArePowers ring xs → x.degree ≡ length xs
    → IsPartOf ring x → ArePowers ring (xs ++ x ∷ [])
powers_more ring xs x are degree part k d lt = elim (cases_lt k (length xs)) as
    (λ _. ((get_or (xs ++ x ∷ []) k d).degree ≡ k) × IsPartOf ring (get_or (xs ++ x ∷ []) k d)) [
      | inl low ↦ subst (λ (p : PartValue). (p.degree ≡ k) × IsPartOf ring p)
          (sym (get_or_append_left xs (x ∷ []) d k low)) (are k d low)
      | inr high ↦
          let end : length xs ≡ k = omega (arith, length_push xs x) in
          subst (λ (p : PartValue). (p.degree ≡ k) × IsPartOf ring p)
          (sym (get_or-append_seam xs x [] d) ∙ ap (λ n. get_or (xs ++ x ∷ []) n d) end) (degree ∙ end, part)
    ]

-- a part that is read
pub power_read : (ring : Ring) (xs : List PartValue) (k : ℕ) (x : PartValue) → ArePowers ring xs → k < length xs
    → x ≡ get_or xs k x → (x.degree ≡ k) × IsPartOf ring x
power_read ring xs k x are lt is = subst (λ (p : PartValue). (p.degree ≡ k) × IsPartOf ring p) (sym is) (are k x lt)
