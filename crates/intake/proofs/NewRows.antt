-- The rows of a new job: the lead's slot is the last one, by which the others are divided unless it is known to be 1.
use Rattle.std.proofs.Common.{◌≡◌, ℕ, zero, suc, ◌+◌, ◌-◌, ◌≤◌, Bool, true, false, List, [], ◌∷◌, length}
use Rattle.std.proofs.Common.{take, drop, Some, refl, sym}
use Rattle.std.proofs.Common.{◌∙◌, ap, subst, arith}
use Rattle.std.specs.Prelude.{slice_get}
use Rattle.ps_model.specs.declared.job.JobData.{JobData}
use Rattle.ps_model.specs.AcceptedJob.{IsLawfulJob}
use Rattle.ps_model.specs.Job.{job_ring}
use Rattle.ps_model.specs.Lead.{IsLeadShown}
use Rattle.ps_model.specs.Tree.{formal_degree}
use Rattle.ps_model.specs.Value.{HasLead}
use Rattle.ps_model.proofs.JobRoots.{valid_small}
use Rattle.parts.specs.JobRows.{IsRingOf}
use Rattle.parts.specs.declared.rings.Ring.{Ring}
use Rattle.series_graph.specs.GraphValue.{GraphValue}
use Rattle.series_graph.specs.declared.node.NodeId.{NodeId}
use Rattle.intake.specs.Jobs.{HasSlots, HasMonicSlots, HoldsRows}
use Rattle.intake.specs.Slots.{AreIn, AddsSlots, IsUnitAt}
use Rattle.intake.proofs.Built.{MeansMultiplied}
use Rattle.intake.proofs.JobSlots.{shown_here, known_here, last_unit, divided_monic, same_monic, slots_kept, in_kept}

last_of : (xs : List NodeId) (k : ℕ) → length xs ≡ suc k
    → (id : NodeId) × (drop k xs ≡ id ∷ []) × (slice_get xs k ≡ Some id)
last_of [] k e = absurd (omega arith)
last_of (x ∷ []) zero e = (x, refl, refl)
last_of (x ∷ y ∷ xs) zero e = absurd (omega arith)
last_of (x ∷ xs) (suc k) e = last_of xs k (omega arith)

-- the last slot, as the rest of a list from its last place on
pub last_slice : (xs : List NodeId) (k : ℕ) → length xs ≡ suc k → (id : NodeId)
    × (take (length xs - (length xs - 1)) (drop (length xs - 1) xs) ≡ id ∷ []) × (slice_get xs k ≡ Some id)
last_slice xs k e =
    let last = last_of xs k e in
    (last.0, (λ i. take (one i) (drop (place i) xs)) ∙ ap (take 1) last.1, last.2)
  where
    one : length xs - (length xs - 1) ≡ 1
    one = omega arith

    place : length xs - 1 ≡ k
    place = omega arith

-- the slot that a slice from there on has
pub which_last : (xs ys : List NodeId) (n k : ℕ) (id : NodeId) → ys ≡ xs → n ≡ length xs → length xs ≡ suc k
    → take (length ys - (n - 1)) (drop (n - 1) ys) ≡ id ∷ [] → slice_get xs k ≡ Some id
which_last xs ys n k id same size long alone =
    let last = last_slice xs k long in
    last.2 ∙ ap Some (head last.0 id (sym last.1
    ∙ (λ i. take (length (sym same i) - (sym size i - 1)) (drop (sym size i - 1) (sym same i))) ∙ alone))
  where
    head : (x y : NodeId) → x ∷ [] ≡ y ∷ [] → x ≡ y
    head x y e = cc

pub room_last : (count n k : ℕ) (xs ys zs : List NodeId) → count ≤ 4096 → k ≤ 32 → length xs ≡ suc k → zs ≡ xs
    → ys ≡ xs → n ≡ length xs → count + (length zs + length (take (length ys - (n - 1)) (drop (n - 1) ys)) - 1) ≤ 65536
room_last count n k xs ys zs few small long same_zs same_ys size =
    let last = last_slice xs k long in
    let one : length (take (length ys - (n - 1)) (drop (n - 1) ys)) ≡ 1 =
    ap length ((λ i. take (length (same_ys i) - (size i - 1)) (drop (size i - 1) (same_ys i))) ∙ last.1) in
    let of_zs : length zs ≡ length xs = ap length same_zs in
    omega arith

module _ (ring : Ring) (job : JobData) (of : IsRingOf ring job) (lawful : IsLawfulJob job) (old : GraphValue)
    (same : old.ring ≡ ring) (input : List NodeId) (within : AreIn old input)
    (has : HasSlots ring old.formulas job.expr input) where
  -- the divisor is a unit
  pub unit_last : (id : NodeId) → slice_get input (formal_degree job.expr) ≡ Some id → IsUnitAt old.ring old.formulas id
  unit_last id there = subst (λ (R : Ring). IsUnitAt R old.formulas id) (sym same)
      (last_unit ring job of lawful old.formulas input has id there)

  pub divided_rows : (new : GraphValue) (b monic : List NodeId) (id : NodeId) → b ≡ id ∷ []
      → slice_get input (formal_degree job.expr) ≡ Some id
      → AddsSlots (length input + length b - 1) (length input + length b - 1) old new monic
      → MeansMultiplied true old new input b monic → IsLeadShown (job_ring job) job.expr
      → HoldsRows ring job true new input monic
  divided_rows new b monic id alone there adds means shown = record {
    ring_is = of;
    graph_ring = adds.ring_is ∙ same;
    small = valid_small job lawful.valid;
    input_in = in_kept _ _ old new monic input adds within;
    monic_in = adds.within;
    input_slots = slots_kept ring job _ _ old new monic input adds has;
    monic_slots = divided_monic ring job of lawful old.formulas input has id there old new monic refl
        (subst (λ (l : List NodeId). MeansMultiplied true old new input l monic) alone means)
        (adds.slots ∙ as_many (length input) (length b) (formal_degree job.expr) has.count (ap length alone));
    shown = (λ _. shown_here ring job of shown, λ _. refl);
  }
    where
      as_many : (n l k : ℕ) → n ≡ suc k → l ≡ 1 → n + l - 1 ≡ suc k
      as_many n l k e e' = omega arith

  pub plain_rows : (monic : List NodeId) → monic ≡ input → HasLead (job_ring job) job.expr 1
      → HoldsRows ring job false old input monic
  plain_rows monic copied known = record {
    ring_is = of;
    graph_ring = same;
    small = valid_small job lawful.valid;
    input_in = within;
    monic_in = subst (AreIn old) (sym copied) within;
    input_slots = has;
    monic_slots = subst (λ (l : List NodeId). HasMonicSlots ring old.formulas job.expr l) (sym copied)
        (same_monic ring job of lawful old.formulas input has known);
    shown = (λ e. absurd (cc), λ shown. absurd (shown (known_here ring job of known)));
  }

  -- the same of the slices and the length that are read
  pub divided_given : (new : GraphValue) (xs ys : List NodeId) (n : ℕ) (monic : List NodeId) → xs ≡ input → ys ≡ input
      → n ≡ length input
      → AddsSlots (length xs + length (take (length ys - (n - 1)) (drop (n - 1) ys)) - 1)
      (length xs + length (take (length ys - (n - 1)) (drop (n - 1) ys)) - 1) old new monic
      → MeansMultiplied true old new xs (take (length ys - (n - 1)) (drop (n - 1) ys)) monic
      → IsLeadShown (job_ring job) job.expr → HoldsRows ring job true new input monic
  divided_given new xs ys n monic same_xs same_ys size adds means shown =
      let last = last_slice input (formal_degree job.expr) has.count in
      let b : List NodeId = take (length ys - (n - 1)) (drop (n - 1) ys) in
      divided_rows new b monic last.0
      ((λ i. take (length (same_ys i) - (size i - 1)) (drop (size i - 1) (same_ys i))) ∙ last.1) last.2
      (subst (λ (l : List NodeId). AddsSlots (length l + length b - 1) (length l + length b - 1) old new monic) same_xs
      adds)
      (subst (λ (l : List NodeId). MeansMultiplied true old new l b monic) same_xs means) shown
