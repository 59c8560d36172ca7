use Rattle.std.proofs.Common.{◌≡◌, ℕ, ◌-◌, ◌<◌, ◌≤◌, length}
use Rattle.std.specs.declared.cmp.Ordering.TheVariants.{Less, Greater}
use Rattle.ps_model.specs.Keys.{key_compare}
use Rattle.parts.specs.Terms.{key_of}
use Rattle.parts.specs.declared.terms.Term.{Term}
use Rattle.parts.proofs.Found.{key_at_place}
use Rattle.parts.proofs.merging.find_coefficient.Given as goal

abbrev pub invariant-loop-low : goal.invariant-loop-low
invariant-loop-low l = record {
  inside : l.high ≤ length l.terms;
  below : (k : ℕ) (d : Term) → k < l.low → key_compare 8 (key_at_place l.terms k d) (key_of l.at) ≡ Less;
  above : (k : ℕ) (d : Term) → l.high ≤ k → k < length l.terms →
      key_compare 8 (key_at_place l.terms k d) (key_of l.at) ≡ Greater;
}

abbrev pub decreases-loop-low : goal.decreases-loop-low
decreases-loop-low l = l.high - l.low
