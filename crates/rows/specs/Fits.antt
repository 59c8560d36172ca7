-- Lists whose items fit their places.
--     AllFit fits xs      fits r x, for each item x of xs and its place r
--     values xs      what these hold
use Rattle.std.specs.Prelude.{◌≡◌, ℕ, ◌≤◌, List, length, map, slice_get, Some}
use Rattle.std.specs.Coded.{Π_prop, →_prop}
use Rattle.std.specs.Arc.{arc_value}
use Rattle.std.specs.declared.sync.Arc.{Arc}
use Rattle.std.specs.declared.alloc.Global.{Global}
use Rattle.std.proofs.Common.{sym, subst}
use Rattle.std.proofs.lemmas.List.{length-map}

module _ {T : Type 0} where
  abbrev pub AllFit : (ℕ → T → Type 0) → List T → Type 0
  AllFit fits xs = (r : ℕ) (x : T) → slice_get xs r ≡ Some x → fits r x

  abbrev pub values : List (Arc T Global) → List T
  values xs = map arc_value xs

  -- two proofs that all fit are equal
  pub AllFit-prop :
      (fits : ℕ → T → Type 0) (xs : List T)
      → ((r : ℕ) (x : T) → IsProp (fits r x))
      → IsProp (AllFit fits xs)
  AllFit-prop fits xs prop = Π_prop (λ r. Π_prop (λ x. →_prop (prop r x)))

  -- there are as many values
  pub values-within :
      (xs : List (Arc T Global)) (n : ℕ) → length xs ≤ n → length (values xs) ≤ n
  values-within xs n h = subst (λ k. k ≤ n) (sym (length-map xs arc_value)) h
