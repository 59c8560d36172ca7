-- What contracts see of a part: its degree, and a finite map from keys to residues other than 0.
--     IsEntryOf m ws d e      e's key has degree d by the weights ws, and its coefficient is a residue modulo m
--     variable_key i      the key of variable i alone
--     single_map ring k c      the map with c at the key k, which is empty where the modulus divides c
--     IsPartOf ring p      each entry of p is one of the ring, of p's degree; so is the zero part
use Rattle.std.specs.Prelude.{ℕ, ◌<◌, List, [], ◌∷◌, replicate, slice_set, refl}
use Rattle.std.specs.List.{All}
use Rattle.std.specs.FinMap.{FinMap, code, entries}
use Rattle.std.specs.Coded.{Coded, code_by, coded×, coded_ℕ}
use Rattle.ps_model.specs.Keys.{Key, key_compare}
use Rattle.ps_model.specs.FiniteMaps.{collected}
use Rattle.ps_model.specs.Plain.{coded_key}
use Rattle.parts.specs.Keys.{key_from}
use Rattle.parts.specs.declared.rings.Ring.{Ring}
use Rattle.parts.specs.Rings.{modulus_of, weights_of}
use Rattle.parts.specs.Terms.{IsKeyOf}

pub record PartValue : Type 0 where
  pub degree : ℕ
  pub map : FinMap (key_compare 8) ℕ

abbrev pub part_code : Coded PartValue
part_code =
    code_by (ℕ × FinMap (key_compare 8) ℕ) (coded× coded_ℕ (code coded_key coded_ℕ)) (λ p. (p.degree, p.map))
    (λ p. record { degree = p.0; map = p.1 }) (λ _. refl)

abbrev pub IsEntryOf : ℕ → List ℕ → ℕ → Key 8 × ℕ → Type 0
IsEntryOf m ws d e = IsKeyOf ws d e.0 × (e.1 < m)

-- each entry has the part's degree, and a residue modulo the ring's modulus
abbrev pub IsPartOf : Ring → PartValue → Type 0
IsPartOf ring p = All (IsEntryOf (modulus_of ring) (weights_of ring) p.degree) (entries p.map)

abbrev pub variable_key : ℕ → Key 8
variable_key i = key_from (slice_set (replicate 8 0) i 1)

-- c at the key k, modulo the ring's modulus, and nothing elsewhere
abbrev pub single_map : Ring → Key 8 → ℕ → FinMap (key_compare 8) ℕ
single_map ring k c = collected (key_compare 8) (modulus_of ring) ((k, c) ∷ [])
