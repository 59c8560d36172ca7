-- The loop over the names of a term.
use Rattle.std.proofs.Common.{◌≡◌, ℕ, zero, suc, ◌+◌, ◌^◌, ◌<◌, ◌≤◌, List, [], ◌∷◌, ◌++◌, length, get_or, take, drop}
use Rattle.std.proofs.Common.{set}
use Rattle.std.proofs.Common.{Option, Some, None, slice_get, refl, sym, ◌∙◌, ap, subst, arith, append_assoc, append-nil}
use Rattle.std.proofs.Common.{add-one, drop_of_length-le}
use Rattle.std.specs.Option.{option_map}
use Rattle.std.proofs.lemmas.Option.{get_or_from_slice_get}
use Rattle.std.proofs.lemmas.List.{drop_more, take_more_set, drop-set-lt, get_or-take}
use Rattle.printer.specs.ReadForms.{Gives, power_in, powers_in, IsNamed}
use Rattle.printer.proofs.ReadPowers.{power_sound}

abbrev behind : List ℕ → Option (List ℕ × List ℕ) → Option (List ℕ × List ℕ)
behind done o = option_map (λ (q : List ℕ × List ℕ). (done ++ q.0, q.1)) o

abbrev first_power : ℕ → Option (List ℕ × List ℕ) → Option (List ℕ × List ℕ)
first_power p o = option_map (λ (q : List ℕ × List ℕ). (p ∷ q.0, q.1)) o

abbrev pair : List ℕ → List ℕ → List ℕ × List ℕ
pair a b = (a, b)

-- the powers of the names from i on complete those that were read
abbrev pub PowersGoing : ℕ → List (List ℕ) → List ℕ → ℕ → List ℕ → List ℕ → Type 0
PowersGoing limit names bytes i powers rest =
    behind (take i powers) (powers_in limit (drop i names) rest) ≡ powers_in limit names bytes

same_pairs : (o : Option (List ℕ × List ℕ)) → behind [] o ≡ o
same_pairs None = refl
same_pairs (Some q) = refl

pub powers_start : (limit : ℕ) (names : List (List ℕ)) (bytes powers : List ℕ)
    → PowersGoing limit names bytes 0 powers bytes
powers_start limit names bytes powers = same_pairs (powers_in limit names bytes)

further : (done : List ℕ) (p : ℕ) (o : Option (List ℕ × List ℕ))
    → behind (done ++ p ∷ []) o ≡ behind done (first_power p o)
further done p None = refl
further done p (Some q) = ap (λ (l : List ℕ). Some (pair l q.1)) (append_assoc done (p ∷ []) q.0)

pub gives_none : {A B : Type 0} (view : A → B) (r : Option A) (o : Option B) → r ≡ None → o ≡ None → Gives view r o
gives_none view r o is none = subst (λ r. Gives view r o) (sym is) none

module _ (limit : ℕ) (names : List (List ℕ)) (bytes : List ℕ) where
  first_of : (name : List ℕ) (later : List (List ℕ)) (rest : List ℕ) (p : ℕ) (left : List ℕ)
      → power_in limit name rest ≡ Some (p, left) → powers_in limit (name ∷ later) rest
      ≡ first_power p (powers_in limit later left)
  unfolding powers_in
  first_of name later rest p left is = rw is refl

  none_of : (name : List ℕ) (later : List (List ℕ)) (rest : List ℕ)
      → power_in limit name rest ≡ None → powers_in limit (name ∷ later) rest ≡ None
  unfolding powers_in
  none_of name later rest is = rw is refl

  pub powers_more : (i : ℕ) (powers rest : List ℕ) (p : ℕ) (left : List ℕ) → i < length names
      → i < length powers → power_in limit (get_or names i []) rest ≡ Some (p, left)
      → PowersGoing limit names bytes i powers rest → PowersGoing limit names bytes (i + 1) (set powers i p) left
  powers_more i powers rest p left lt lt' is going =
      ap (λ (l : List ℕ). behind l (powers_in limit (drop (i + 1) names) left)) (take_more_set powers i p lt')
      ∙ further (take i powers) p (powers_in limit (drop (i + 1) names) left)
      ∙ ap (behind (take i powers))
      (sym (ap (λ ns. powers_in limit ns rest) (drop_more names i [] lt)
      ∙ first_of (get_or names i []) (drop (i + 1) names) rest p left is))
      ∙ going

  pub powers_none : (i : ℕ) (powers rest : List ℕ) → i < length names
      → power_in limit (get_or names i []) rest ≡ None → PowersGoing limit names bytes i powers rest
      → powers_in limit names bytes ≡ None
  powers_none i powers rest lt is going =
      sym going
      ∙ ap (behind (take i powers))
      (ap (λ ns. powers_in limit ns rest) (drop_more names i [] lt)
      ∙ none_of (get_or names i []) (drop (i + 1) names) rest is)

  no_more : (rest : List ℕ) → powers_in limit [] rest ≡ Some ([], rest)
  unfolding powers_in
  no_more rest = refl

  pub powers_end : (i : ℕ) (powers rest : List ℕ) → length names ≤ i → PowersGoing limit names bytes i powers rest
      → powers_in limit names bytes ≡ Some (take i powers, rest)
  powers_end i powers rest le going =
      sym going
      ∙ ap (behind (take i powers))
      (ap (λ ns. powers_in limit ns rest) (drop_of_length-le names le) ∙ no_more rest)
      ∙ ap (λ (l : List ℕ). Some (pair l rest)) (append-nil (take i powers))

-- the name at a place among the first
pub first_name : (all : List (List ℕ)) (count i : ℕ) (name : List ℕ) → slice_get all i ≡ Some name → i < count
    → get_or (take count all) i [] ≡ name
first_name all count i name is lt = get_or-take count all i [] lt ∙ get_or_from_slice_get all i name [] is

pub power_fits : (limit : ℕ) (name rest : List ℕ) (p : ℕ) (left : List ℕ) → limit < 2 ^ 15
    → power_in limit name rest ≡ Some (p, left) → p < 2 ^ 16
power_fits limit name rest p left small is =
    omega (arith, (power_sound limit name rest (p, left) (omega arith) is).1)

-- powers past the names
pub past_names : (names : List (List ℕ)) (powers : List ℕ) → IsNamed [] (drop (length names) powers)
    → IsNamed names powers
past_names [] powers h = h
past_names (name ∷ names) [] h = tt
past_names (name ∷ names) (p ∷ powers) h = past_names names powers h

pub past_more : (powers : List ℕ) (i p : ℕ) → i < length powers → IsNamed [] (drop i powers)
    → IsNamed [] (drop (i + 1) (set powers i p))
past_more powers i p lt h =
    subst (IsNamed []) (sym (drop-set-lt (i + 1) powers i p (omega arith)))
    (subst (λ k. IsNamed [] (drop k powers)) (sym (add-one i)) (one_less i powers lt h))
  where
    one_less : (i : ℕ) (powers : List ℕ) → i < length powers → IsNamed [] (drop i powers)
        → IsNamed [] (drop (suc i) powers)
    one_less i [] lt h = absurd (omega arith)
    one_less zero (x ∷ powers) lt h = h.1
    one_less (suc i) (x ∷ powers) lt h = one_less i powers (omega arith) h
