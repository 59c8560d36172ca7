-- The terms of a polynomial without a degree above D have degrees of at most D.
use Rattle.std.proofs.Common.{◌≡◌, ℕ, ◌%◌, ◌<◌, ◌≤◌, List, All, length, get_or, map, sym, ◌∙◌, ap, subst, arith}
use Rattle.std.specs.Prelude.{Some}
use Rattle.std.specs.Option.{unwrap_or}
use Rattle.std.specs.FinMap.{get, entries, entries_sorted, get-entries}
use Rattle.std.proofs.Math.Nat.{mod-eq_of_lt}
use Rattle.std.proofs.lemmas.List.{get_or-map, length-map}
use Rattle.ps_model.specs.Bounds.{HasNoDegreeAbove}
use Rattle.ps_model.specs.Job.{series_ring}
use Rattle.ps_model.specs.Keys.{Key}
use Rattle.ps_model.specs.Plain.{key_of, entry_of}
use Rattle.ps_model.specs.PlainLists.{plain_degree}
use Rattle.ps_model.specs.SeriesRing.{ring as ring_of}
use Rattle.ps_model.specs.declared.plain.PlainTerm.{PlainTerm}
use Rattle.ps_model.proofs.OfMap.{coefficient-of_map}
use Rattle.ps_model.proofs.Origin.{coefficient-above}
use Rattle.ps_model.proofs.PlainBounds.{found_at}
use Rattle.parts.specs.Rings.{modulus_of, eight_weights}
use Rattle.parts.specs.Series.{polynomial_modulo}
use Rattle.parts.specs.declared.rings.Ring.{Ring}
use Rattle.printer.specs.ReadText.{Coefficients}
use Rattle.comparison.specs.Compared.{IsWithin}
use Rattle.comparison.proofs.ComparedSlices.{residues}

not_above : (n D : ℕ) → (D < n → ⊥) → n ≤ D
not_above n D h = omega arith

no_residue : (c m : ℕ) → 0 < c → c < m → c % m ≡ 0 → ⊥
no_residue c m some small none = omega (arith, sym (mod-eq_of_lt small) ∙ none)

module _ (m : ℕ) (ws : List ℕ) (p : Coefficients) (D : ℕ) where
  low_degree : HasNoDegreeAbove D (polynomial_modulo m ws p)
      → ((k : Key 8) (c : ℕ) → get p k ≡ Some c → (0 < c) × (c < (series_ring m ws).modulus))
      → (k : Key 8) (c : ℕ) → get p k ≡ Some c → plain_degree ws k ≤ D
  unfolding series_ring polynomial_modulo plain_degree
  low_degree none has k c is = not_above (plain_degree ws k) D (λ high.
      no_residue c (ring_of (series_ring m ws)).modulus (has k c is).0 (has k c is).1
      (sym (ap (λ o. unwrap_or o 0 % (ring_of (series_ring m ws)).modulus) is)
      ∙ sym (coefficient-of_map (ring_of (series_ring m ws)) p k)
      ∙ coefficient-above (ring_of (series_ring m ws)) (ring_of (series_ring m ws)).degree D
      (polynomial_modulo m ws p) none k high))

pub low_terms : (ring : Ring) (K D : ℕ) (p : Coefficients) → IsWithin ring K D p → (ts : List PlainTerm)
    → map entry_of ts ≡ entries p → All (λ t. plain_degree (eight_weights ring) (key_of t) ≤ D) ts
low_terms ring K D p within ts listed i t lt =
    let e = get_or (entries p) i (entry_of t) in
    let same : e ≡ entry_of (get_or ts i t) =
    ap (λ l. get_or l i (entry_of t)) (sym listed) ∙ get_or-map entry_of ts i t (entry_of t) lt in
    let there : i < length (entries p) = omega (arith, sym (ap length listed) ∙ length-map ts entry_of) in
    subst (λ (x : Key 8 × ℕ). plain_degree (eight_weights ring) x.0 ≤ D) same
    (low_degree (modulus_of ring) (eight_weights ring) p D within.degree (residues ring p within.reduced) e.0 e.1
    (get-entries p e.0 ∙ found_at (entries p) i (entry_of t) (entries_sorted p) there))
