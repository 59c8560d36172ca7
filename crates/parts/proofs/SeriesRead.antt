-- Series in lists: their parts by place.
use Rattle.std.proofs.Common.{◌≡◌, ℕ, ◌<◌, ◌≤◌, List, [], length, get_or, map, All, sym, ◌∙◌, ap, subst, arith, inl, inr}
use Rattle.std.proofs.Math.ListN.{get_or-eq_default}
use Rattle.std.proofs.lemmas.Bool.{cases_lt}
use Rattle.std.proofs.lemmas.List.{get_or-map, length-map}
use Rattle.ps_model.specs.Keys.{Key}
use Rattle.ps_model.proofs.Totals.{total-zero}
use Rattle.parts.specs.PartValue.{PartValue}
use Rattle.parts.specs.SeriesParts.{SeriesValue, AreSeriesParts, parts_at}
use Rattle.parts.specs.SeriesRows.{all_entries, crossed_total}
use Rattle.parts.specs.declared.rings.Ring.{Ring}

-- the parts of a series that is read
pub parts_read : (series : List SeriesValue) (h : ℕ) (x : SeriesValue) → h < length series → x ≡ get_or series h x →
    parts_at series h ≡ x.parts
parts_read series h x lt is =
    get_or-map (λ (s : SeriesValue). s.parts) series h x [] lt ∙ ap (λ (s : SeriesValue). s.parts) (sym is)

pub parts_past : (series : List SeriesValue) (h : ℕ) → length series ≤ h → parts_at series h ≡ []
parts_past series h le = get_or-eq_default (map (λ (s : SeriesValue). s.parts) series) []
    (omega (arith, length-map series (λ (s : SeriesValue). s.parts)))

-- they are the parts of a series of the ring, also past the end
pub all_parts : (ring : Ring) (series : List SeriesValue) → All (λ (s : SeriesValue). AreSeriesParts ring s.parts) series →
    (h : ℕ) → AreSeriesParts ring (parts_at series h)
all_parts ring series are h = elim (cases_lt h (length series)) [
  | inl lt ↦ subst (AreSeriesParts ring) (sym (get_or-map (λ (s : SeriesValue). s.parts) series h (none ring) [] lt))
      (are h (none ring) lt)
  | inr past ↦ subst (AreSeriesParts ring) (sym (parts_past series h past)) (λ s lt. absurd (omega arith))
]
  where
    none : Ring → SeriesValue
    none ring = record { ring = ring; parts = [] }

-- a series past the end gives nothing
pub crossed_past : (g : Key 8 → ℕ) (a : List PartValue) (w : List SeriesValue) (h : ℕ) → length w ≤ h →
    crossed_total g a (parts_at w h) ≡ 0
crossed_past g a w h le = ap (crossed_total g a) (parts_past w h le) ∙ total-zero (all_entries a)
