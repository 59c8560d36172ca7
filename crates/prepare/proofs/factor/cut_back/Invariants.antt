use Rattle.std.proofs.Common.{◌≡◌, ℕ, ◌<◌, ◌≤◌, length, get_or}
use Rattle.parts.specs.SeriesParts.{SeriesValue}
use Rattle.prepare.specs.Columns.{cut_to}
use Rattle.prepare.proofs.factor.cut_back.Given as goal

abbrev pub invariant-loop-i : goal.invariant-loop-i
invariant-loop-i l = record {
  long : length l.series ≡ length l.fn.series;
  cut : (h : ℕ) (x : SeriesValue) → h < l.i → get_or l.series h x ≡ cut_to l.r (get_or l.fn.series h x);
  kept : (h : ℕ) (x : SeriesValue) → l.i ≤ h → get_or l.series h x ≡ get_or l.fn.series h x;
}
