-- The slots of powers, as repeated products.
use Rattle.std.proofs.Common.{◌≡◌, ℕ, zero, suc, ◌+◌, ◌-◌, ◌*◌, ◌<◌, ◌≤◌, ◌⊎◌, inl, inr, List, [], ◌++◌, length, false}
use Rattle.std.proofs.Common.{refl, sym, ◌∙◌, ap, subst, arith, append-nil}
use Rattle.ps_model.specs.Bounds.{HasNoPowerAbove, HasNoDegreeAbove}
use Rattle.ps_model.specs.Notation.{power, truncated}
use Rattle.ps_model.specs.SeriesRing.{SeriesRing, ring, Poly}
use Rattle.ps_model.specs.Tree.{power_nodes}
use Rattle.ps_model.proofs.PowerBounds.{power_bound-truncated, power_bound-power}
use Rattle.ps_model.proofs.RingLaws.{product-one}
use Rattle.series_graph.specs.Formula.{place_of}
use Rattle.series_graph.specs.GraphValue.{GraphValue, size_of}
use Rattle.series_graph.specs.declared.node.NodeId.{NodeId}
use Rattle.intake.specs.Slots.{Mean, AreIn, AddsSlots}
use Rattle.intake.proofs.Built.{adds_both, adds_same, added_size, mean_then, MeansMultiplied, MeansPower}
use Rattle.intake.proofs.SlotsAdded.{power_more}

pub record PowerBuilt (old new : GraphValue) (base slots : List NodeId) (e : ℕ) : Type 0 where
  pub some : 0 < e
  pub nodes : AddsSlots (power_nodes (length base - 1) e) (suc (e * (length base - 1))) old new slots
  pub mean : MeansPower e old new base slots

pub power_one : (old : GraphValue) (base slots : List NodeId) → 0 < length base → AreIn old base → slots ≡ base
    → PowerBuilt old old base slots 1
power_one old base slots some within same = record {
  some = omega arith;
  nodes = record {
    ring_is = refl;
    added = [];
    formulas_are = sym (append-nil old.formulas);
    nodes = refl;
    slots = ap length same ∙ long;
    within = subst (λ (ids : List NodeId). AreIn old ids) (sym same) within;
  };
  mean = λ S D v bound low mean. subst (λ (ids : List NodeId). Mean S D old.formulas ids (truncated D (power v 1)))
      (sym same) (subst (λ (p : Poly S). Mean S D old.formulas base p)
      (sym (ap (truncated D) (product-one (ring S) v) ∙ low)) mean);
}
  where
    long : length base ≡ suc (1 * (length base - 1))
    long = omega (arith, some)

power_nodes-more : (d e : ℕ) → 0 < e → power_nodes d (suc e) ≡ power_nodes d e + (suc e * d + 1)
power_nodes-more d zero some = absurd (omega arith)
power_nodes-more d (suc e) some = refl

power_nodes-step : (d n : ℕ) → power_nodes d n ≤ power_nodes d (suc n)
power_nodes-step d zero = omega arith
power_nodes-step d (suc n) = more (power_nodes d (suc n)) (suc (suc n) * d + 1)
  where
    more : (a b : ℕ) → a ≤ a + b
    more a b = omega arith

pub power_nodes-up_to : (d e n : ℕ) → e ≤ n → power_nodes d e ≤ power_nodes d n
power_nodes-up_to d e zero le = subst (λ (k : ℕ). power_nodes d k ≤ power_nodes d 0) (none e le) (omega arith)
  where
    none : (e : ℕ) → e ≤ 0 → 0 ≡ e
    none e le = omega arith
power_nodes-up_to d e (suc n) le = elim (last e n le) [
  | inl before ↦ (let h = power_nodes-up_to d e n before in let k = power_nodes-step d n in omega (arith, h, k))
  | inr here ↦ subst (λ (k : ℕ). power_nodes d e ≤ power_nodes d k) here (omega arith)
]
  where
    last : (e n : ℕ) → e ≤ suc n → (e ≤ n) ⊎ (e ≡ suc n)
    last zero n le = inl (omega arith)
    last (suc e) zero le = inr (omega arith)
    last (suc e) (suc n) le = elim (last e n (omega arith)) [ inl h ↦ inl (omega arith) | inr h ↦ inr (ap suc h) ]

-- there is room for one more product
pub power_room : (old mid : GraphValue) (base slots : List NodeId) (e n : ℕ) → 0 < length base
    → PowerBuilt old mid base slots e → e < n → size_of old + power_nodes (length base - 1) n ≤ 65536
    → size_of mid + (length slots + length base - 1) ≤ 65536
power_room old mid base slots e n some built lt room =
    let size = added_size _ _ old mid slots built.nodes in
    let more = power_nodes-more (length base - 1) e built.some in
    let all = power_nodes-up_to (length base - 1) (suc e) n (omega arith) in
    let long = joined_length (length base) e (length slots) some built.nodes.slots in
    omega (arith, size, more, all, long)
  where
    joined_length : (b e s : ℕ) → 0 < b → s ≡ suc (e * (b - 1)) → s + b - 1 ≡ suc e * (b - 1) + 1
    joined_length b e s some is = joined (b - 1) e s b (omega arith) is
      where
        joined : (d e s b : ℕ) → b ≡ suc d → s ≡ suc (e * d) → s + b - 1 ≡ suc e * d + 1
        joined d e s b long is = omega arith

pub power_next : (old mid new : GraphValue) (base slots ids : List NodeId) (e : ℕ) → 0 < length base
    → PowerBuilt old mid base slots e
    → AddsSlots (length slots + length base - 1) (length slots + length base - 1) mid new ids
    → MeansMultiplied false mid new slots base ids → PowerBuilt old new base ids (e + 1)
power_next old mid new base slots ids e some built adds means =
    subst (λ (k : ℕ). PowerBuilt old new base ids k) (one_more e) (record {
      some = omega arith;
      nodes = adds_same _ _ _ _ old new ids nodes count (adds_both _ _ _ _ old mid new slots ids built.nodes adds);
      mean = λ S D v bound low mean. means S D (truncated D (power v e)) v (truncated D (power v (suc e)))
          (subst (λ (K : ℕ). HasNoPowerAbove K (truncated D (power v e))) below
          (power_bound-truncated (ring S) D (e * (length base - 1)) (power v e)
          (power_bound-power (ring S) (length base - 1) e v bound))) bound
          (built.mean S D v bound low mean) (mean_then S D _ _ old mid slots base v built.nodes mean)
          (sym (power_more S D e v));
    })
  where
    one_more : (e : ℕ) → suc e ≡ e + 1
    one_more e = omega arith

    joined : (d e s b : ℕ) → b ≡ suc d → s ≡ suc (e * d) → s + b - 1 ≡ suc e * d + 1
    joined d e s b long is = omega arith

    whole : length slots + length base - 1 ≡ suc e * (length base - 1) + 1
    whole = joined (length base - 1) e (length slots) (length base) (omega (arith, some)) built.nodes.slots

    nodes : power_nodes (length base - 1) e + (length slots + length base - 1) ≡ power_nodes (length base - 1) (suc e)
    nodes = ap (λ k. power_nodes (length base - 1) e + k) whole ∙ sym (power_nodes-more (length base - 1) e built.some)

    count : length slots + length base - 1 ≡ suc (suc e * (length base - 1))
    count = whole ∙ last (suc e * (length base - 1))
      where
        last : (n : ℕ) → n + 1 ≡ suc n
        last n = omega arith

    below : e * (length base - 1) ≡ length slots - 1
    below = one_less (length slots) (e * (length base - 1)) built.nodes.slots
      where
        one_less : (s k : ℕ) → s ≡ suc k → k ≡ s - 1
        one_less s k is = omega arith
