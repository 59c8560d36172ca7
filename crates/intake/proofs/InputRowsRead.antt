-- What is read of an input without a fault: its rows of parts, and its coefficients at the origin.
--     IsOriginTerm ring formulas id c      c is the constant term of the one polynomial that the node means
--     OriginRead ring formulas slots row i      the row has those of the first i slots
use Rattle.std.proofs.Common.{◌≡◌, ℕ, suc, ◌+◌, ◌<◌, ◌≤◌, List, [], ◌∷◌, ◌++◌, length, get_or, Option}
use Rattle.std.proofs.Common.{sym, ◌∙◌, ap, subst, arith, below_more}
use Rattle.std.specs.List.{All}
use Rattle.std.proofs.lemmas.List.{get_or_past, length-append, get_or_append_left, get_or_push}
use Rattle.std.proofs.lemmas.List.Elements.{All-from_get_or}
use Rattle.std.proofs.lemmas.Option.{slice_get-get_or}
use Rattle.ps_model.specs.Bounds.{ExactlyOne}
use Rattle.ps_model.specs.Input.{told_count}
use Rattle.ps_model.specs.Keys.{y_key}
use Rattle.ps_model.specs.Notation.{constant_term, coefficient}
use Rattle.ps_model.specs.SeriesRing.{ring as ring_of, Poly}
use Rattle.ps_model.specs.Tree.{formal_degree}
use Rattle.ps_model.specs.Value.{IsValue}
use Rattle.ps_model.proofs.InputValues.{small_degree}
use Rattle.ps_model.proofs.Origin.{coefficient-zero}
use Rattle.ps_model.proofs.YCoefficients.{constant-y_coefficient}
use Rattle.parts.specs.PartValue.{PartValue}
use Rattle.parts.specs.Rings.{modulus_of}
use Rattle.parts.specs.Series.{series}
use Rattle.parts.specs.declared.rings.Ring.{Ring}
use Rattle.series_graph.specs.Calls.{Keeps}
use Rattle.series_graph.specs.Formula.{place_of, Formula}
use Rattle.series_graph.specs.GraphValue.{GraphValue}
use Rattle.series_graph.specs.Meaning.{Means}
use Rattle.series_graph.specs.declared.node.NodeId.{NodeId}
use Rattle.intake.specs.InputRows.{ArePartsOf}
use Rattle.intake.specs.InputValue.{InputValue, IsInput, IsValueRow}
use Rattle.intake.specs.Jobs.{IsOriginRow}
use Rattle.intake.specs.Slots.{meaning_of}
use Rattle.intake.proofs.NumberRows.{everywhere}
use Rattle.intake.proofs.SlotRows.{slots_parts, slots_row}
use Rattle.intake.proofs.SlotsAdded.{slot_past}

abbrev pub first_node : NodeId
first_node = record { index = 0 }

pub record IsOriginTerm (ring : Ring) (formulas : List Formula) (id : NodeId) (c : ℕ) : Type 0 where
  pub small : c < modulus_of ring
  pub one : ExactlyOne (Means (series ring) 0 formulas (place_of id))
  pub term : (q : Poly (series ring)) → Means (series ring) 0 formulas (place_of id) q → c ≡ constant_term q

pub record OriginRead (ring : Ring) (formulas : List Formula) (slots : List NodeId) (row : List ℕ)
    (i : ℕ) : Type 0 where
  pub inside : i ≤ length slots
  pub long : length row ≡ i
  pub are : (p : ℕ) → p < i → IsOriginTerm ring formulas (get_or slots p first_node) (get_or row p 0)

module _ (ring : Ring) (formulas : List Formula) (slots : List NodeId) where
  pub origin_none : (row : List ℕ) → row ≡ [] → OriginRead ring formulas slots row 0
  origin_none row empty = subst (λ (xs : List ℕ). OriginRead ring formulas slots xs 0) (sym empty) start
    where
      start : OriginRead ring formulas slots [] 0
      start = record { inside = omega arith; long = omega arith; are = λ p lt. absurd (omega arith) }

  pub origin_more : (row new : List ℕ) (i x : ℕ) → i < length slots → new ≡ row ++ x ∷ []
      → IsOriginTerm ring formulas (get_or slots i first_node) x → OriginRead ring formulas slots row i
      → OriginRead ring formulas slots new (i + 1)
  origin_more row new i x lt pushed term h =
      subst (λ (xs : List ℕ). OriginRead ring formulas slots xs (i + 1)) (sym pushed) more
    where
      before : (n p : ℕ) → n ≡ i → p < i → p < n
      before n p e less = omega arith

      more : OriginRead ring formulas slots (row ++ x ∷ []) (i + 1)
      more = record {
        inside = omega arith;
        long = length-append row (x ∷ []) ∙ ap (λ n. n + 1) h.long;
        are = below_more (λ p. IsOriginTerm ring formulas (get_or slots p first_node) (get_or (row ++ x ∷ []) p 0)) i
            (λ p less. subst (IsOriginTerm ring formulas (get_or slots p first_node))
            (sym (get_or_append_left row (x ∷ []) 0 p (before (length row) p h.long less))) (h.are p less))
            (subst (IsOriginTerm ring formulas (get_or slots i first_node)) (sym (get_or_push row x 0 i h.long)) term);
      }

module _ (input : InputValue) (graph : GraphValue) (slots : List NodeId) (lead : Option ℕ)
    (is : IsInput input graph slots lead) where
  -- the parts of the slots are those of the value
  pub input_row : (ids : List NodeId) (r : ℕ) (row : List PartValue) → ids ≡ slots → ArePartsOf graph ids r row
      → IsValueRow input r row
  input_row ids r row same of_ids = record {
    parts = slots_parts graph slots r row are input.ring is.graph_ring (formal_degree input.expr) is.slots_count;
    slices = λ D v value le. slots_row graph slots r row are input.ring is.graph_ring (formal_degree input.expr) D v
        is.slots_count le (is.mean D v value);
  }
    where
      are : ArePartsOf graph slots r row
      are = subst (λ (l : List NodeId). ArePartsOf graph l r row) same of_ids

  -- more known parts leave it what it is
  pub input_kept : (new : GraphValue) → Keeps graph new → IsInput input new slots lead
  input_kept new keeps = subst (λ (g : GraphValue). IsInput input g slots lead) (sym keeps.new_is) (record {
    variables = is.variables;
    tree = is.tree;
    valid = is.valid;
    graph_ring = is.graph_ring;
    few_nodes = is.few_nodes;
    slots_count = is.slots_count;
    within = is.within;
    mean = is.mean;
    lead_is = is.lead_is;
  })

  pub input_small : formal_degree input.expr ≤ 32
  input_small = small_degree (series input.ring) input.expr is.valid

  -- a small degree is told as it is
  pub input_degree : (told : ℕ) → told ≡ told_count (formal_degree input.expr)
      → (told ≡ formal_degree input.expr) × (told ≤ 32)
  input_degree told is_told = (
    told_whole (formal_degree input.expr) told input_small is_told,
    told_few (formal_degree input.expr) told input_small is_told,
  )
    where
      told_whole : (n t : ℕ) → n ≤ 32 → t ≡ told_count n → t ≡ n
      told_whole n t small e = omega arith

      told_few : (n t : ℕ) → n ≤ 32 → t ≡ told_count n → t ≤ 32
      told_few n t small e = omega arith

  module _ (row : List ℕ) (read : OriginRead input.ring graph.formulas slots row (length slots)) where
    -- the constant term of a slot is the coefficient at the origin
    module _ (v : Poly (series input.ring)) (value : IsValue (series input.ring) 0 input.expr v) where
      at_slot : (p : ℕ) → p < length slots
          → get_or row p 0 ≡ coefficient v (y_key (series input.ring).variables p)
      at_slot p lt =
          let t = read.are p lt in
          let means = t.one.meets in
          t.term t.one.one_value means
          ∙ ap constant_term (means.2
          ∙ sym (ap (meaning_of (series input.ring) means.0) (slice_get-get_or slots p first_node lt))
          ∙ is.mean 0 v value means.0 means.1 p)
          ∙ constant-y_coefficient (ring_of (series input.ring)) p v

      past_slots : (p : ℕ) → length slots ≤ p
          → get_or row p 0 ≡ coefficient v (y_key (series input.ring).variables p)
      past_slots p le =
          let means = (read.are 0 (some (length slots) (formal_degree input.expr) is.slots_count)).one.meets in
          get_or_past row p 0 (past (length row) (length slots) read.long le)
          ∙ sym (coefficient-zero (ring_of (series input.ring)) (ring_of (series input.ring)).origin)
          ∙ ap constant_term (sym (slot_past (series input.ring) 0 means.0 slots p le)
          ∙ is.mean 0 v value means.0 means.1 p)
          ∙ constant-y_coefficient (ring_of (series input.ring)) p v
        where
          some : (n d : ℕ) → n ≡ suc d → 0 < n
          some n d e = omega arith

          past : (n m : ℕ) → n ≡ m → m ≤ p → n ≤ p
          past n m e le = omega arith

    origin_whole : IsOriginRow input row
    origin_whole = record {
      tree = is.tree;
      valid = is.valid;
      count = read.long ∙ is.slots_count;
      residues = All-from_get_or (λ c. c < modulus_of input.ring) row 0
          (λ p lt. (read.are p (inside (length row) (length slots) p read.long lt)).small);
      coefficients = λ v value. everywhere
          (λ p. get_or row p 0 ≡ coefficient v (y_key (series input.ring).variables p)) (length slots)
          (at_slot v value) (past_slots v value);
    }
      where
        inside : (n m p : ℕ) → n ≡ m → p < n → p < m
        inside n m p e lt = omega arith

  -- the constant terms of all slots
  pub origin_row : (ids : List NodeId) (row : List ℕ) (i : ℕ) → ids ≡ slots → length ids ≤ i
      → OriginRead graph.ring graph.formulas ids row i → IsOriginRow input row
  origin_row ids row i same all read = origin_whole row
      (subst (λ (R : Ring). OriginRead R graph.formulas slots row (length slots)) is.graph_ring
      (subst (λ (l : List NodeId). OriginRead graph.ring graph.formulas l row (length l)) same
      (subst (λ n. OriginRead graph.ring graph.formulas ids row n) (ends i (length ids) read.inside all) read)))
    where
      ends : (n m : ℕ) → n ≤ m → m ≤ n → n ≡ m
      ends n m a b = omega arith
