-- Blocks that take all that they can hold, the first one first: no cut has fewer blocks within the limit.
use Rattle.std.proofs.Common.{◌≡◌, ℕ, zero, suc, ◌+◌, ◌<◌, ◌≤◌, ◌⊎◌, inl, inr, cond, ltb, List, [], ◌∷◌, ◌++◌, length, get_or, take, drop, sum}
use Rattle.std.proofs.Common.{refl, sym, ap, subst, ◌∙◌, append_assoc, arith, lt-ltb, le-ltb}
use Rattle.std.specs.List.{All}
use Rattle.std.proofs.lemmas.Bool.{cases_lt}
use Rattle.std.proofs.lemmas.List.{at_drop_more, drop_all}
use Rattle.std.proofs.lemmas.List.Sums.{sum_by-cons}
use Rattle.std.proofs.lemmas.List.Elements.{All-nil, All-cons}

-- the ends of such blocks from a place on, where an open block has this load
abbrev pub greedy : (limit load place : ℕ) → List ℕ → List ℕ
greedy limit load place [] = place ∷ []
greedy limit load place (w ∷ ws) = cond (ltb limit (load + w)) (place ∷ greedy limit w (place + 1) ws)
    (greedy limit (load + w) (place + 1) ws)

-- the ends cut these weights, the first of which is at the place `start`, into blocks within the limit
abbrev pub CutsFrom : (limit start : ℕ) → List ℕ → List ℕ → Type 0
CutsFrom limit start ws [] = length ws ≡ 0
CutsFrom limit start ws (end ∷ ends) = (k : ℕ) × CutsFrom limit end (drop (suc k) ws) ends
    × (end ≡ start + suc k) × (suc k ≤ length ws) × (sum (take (suc k) ws) ≤ limit)

-- so they do where the first block is open already, with a load
abbrev pub Closes : (limit load place : ℕ) → List ℕ → List ℕ → Type 0
Closes limit load place ws [] = ⊥
Closes limit load place ws (end ∷ ends) = (k : ℕ) × CutsFrom limit end (drop k ws) ends
    × (end ≡ place + k) × (k ≤ length ws) × (load + sum (take k ws) ≤ limit)

module _ (limit : ℕ) where
  pub greedy_closes : (load place w : ℕ) (ws : List ℕ) → limit < load + w
      → greedy limit load place (w ∷ ws) ≡ place ∷ greedy limit w (place + 1) ws
  greedy_closes load place w ws lt = rw (lt-ltb limit (load + w) lt)

  pub greedy_joins : (load place w : ℕ) (ws : List ℕ) → load + w ≤ limit
      → greedy limit load place (w ∷ ws) ≡ greedy limit (load + w) (place + 1) ws
  greedy_joins load place w ws le = rw (le-ltb limit (load + w) le)

  -- the sum of one weight more
  one_more : (w k : ℕ) (ws : List ℕ) → sum (take (suc k) (w ∷ ws)) ≡ w + sum (take k ws)
  one_more w k ws = sum_by-cons (λ x. x) w (take k ws)

  -- a block begins with its first weight
  pub opened : (start w : ℕ) (ws ends : List ℕ) → CutsFrom limit start (w ∷ ws) ends
      → Closes limit w (start + 1) ws ends
  opened start w ws [] none = absurd (omega arith)
  opened start w ws (end ∷ ends) cut =
      let more = one_more w cut.0 ws in
      (cut.0, cut.1, omega arith, omega arith, omega arith)

  pub unopened : (start w : ℕ) (ws ends : List ℕ) → Closes limit w (start + 1) ws ends
      → CutsFrom limit start (w ∷ ws) ends
  unopened start w ws [] none = absurd none
  unopened start w ws (end ∷ ends) cut =
      let more = one_more w cut.0 ws in
      (cut.0, cut.1, omega arith, omega arith, omega arith)

  -- an open block takes one more weight
  pub taken : (load place w : ℕ) (ws ends : List ℕ) → Closes limit (load + w) (place + 1) ws ends
      → Closes limit load place (w ∷ ws) ends
  taken load place w ws [] none = absurd none
  taken load place w ws (end ∷ ends) cut =
      let more = one_more w cut.0 ws in
      (suc cut.0, cut.1, omega arith, omega arith, omega arith)

  -- at the next weight the open block ends, or it takes the weight
  abbrev Next : (load place w : ℕ) → List ℕ → ℕ → List ℕ → Type 0
  Next load place w ws end ends =
      Closes limit w (end + 1) ws ends ⊎ Closes limit (load + w) (place + 1) ws (end ∷ ends)

  next_by : (load place w : ℕ) (ws : List ℕ) (end : ℕ) (ends : List ℕ) (k : ℕ)
      → CutsFrom limit end (drop k (w ∷ ws)) ends → end ≡ place + k → k ≤ suc (length ws)
      → load + sum (take k (w ∷ ws)) ≤ limit → Next load place w ws end ends
  next_by load place w ws end ends zero cut is within light = inl (opened end w ws ends cut)
  next_by load place w ws end ends (suc k) cut is within light =
      let more = one_more w k ws in
      inr (k, cut, omega arith, omega arith, omega arith)

  next : (load place w : ℕ) (ws : List ℕ) (end : ℕ) (ends : List ℕ) → Closes limit load place (w ∷ ws) (end ∷ ends)
      → Next load place w ws end ends
  next load place w ws end ends cut = next_by load place w ws end ends cut.0 cut.1 cut.2 cut.3 cut.4

  pub load_fits : (load place : ℕ) (ws ends : List ℕ) → Closes limit load place ws ends → load ≤ limit
  load_fits load place ws [] none = absurd none
  load_fits load place ws (end ∷ ends) cut = omega arith

  -- no weight of a cut is above the limit
  pub each_fits : (ws : List ℕ) (load place : ℕ) (ends : List ℕ) → Closes limit load place ws ends
      → All (λ w. w ≤ limit) ws
  each_fits [] load place ends cut = All-nil (λ w. w ≤ limit)
  each_fits (w ∷ ws) load place [] none = absurd none
  each_fits (w ∷ ws) load place (end ∷ ends) cut = elim (next load place w ws end ends cut) [
    | inl closed ↦ All-cons (λ x. x ≤ limit) w ws (load_fits w (end + 1) ws ends closed)
        (each_fits ws w (end + 1) ends closed)
    | inr joined ↦ All-cons (λ x. x ≤ limit) w ws
        (let fits = load_fits (load + w) (place + 1) ws (end ∷ ends) joined in omega arith)
        (each_fits ws (load + w) (place + 1) (end ∷ ends) joined)
  ]

  -- greedy blocks are a cut
  pub greedy_cuts : (ws : List ℕ) (load place : ℕ) → load ≤ limit → All (λ w. w ≤ limit) ws
      → Closes limit load place ws (greedy limit load place ws)
  greedy_cuts [] load place fits each = (0, refl, omega arith, omega arith, omega arith)
  greedy_cuts (w ∷ ws) load place fits each =
      let head : w ≤ limit = each 0 w (omega arith) in
      let tail : All (λ x. x ≤ limit) ws = λ k d lt. each (suc k) d (omega arith) in
      elim (cases_lt limit (load + w)) [
        | inl lt ↦ subst (Closes limit load place (w ∷ ws)) (sym (greedy_closes load place w ws lt)) (
          0,
          unopened place w ws (greedy limit w (place + 1) ws) (greedy_cuts ws w (place + 1) head tail),
          omega arith,
          omega arith,
          omega arith,
        )
        | inr le ↦ subst (Closes limit load place (w ∷ ws)) (sym (greedy_joins load place w ws le))
            (taken load place w ws (greedy limit (load + w) (place + 1) ws)
            (greedy_cuts ws (load + w) (place + 1) le tail))
      ]

  -- greedy blocks are no more than those of another cut whose open block isn't lighter, and one more at most
  -- than those of any
  record AreFew (load other : ℕ) (count others : ℕ) : Type 0 where
    few : load ≤ other → count ≤ others
    one_more_at_most : count ≤ suc others

  fewest : (ws : List ℕ) (load other place there : ℕ) (ends : List ℕ) → Closes limit other there ws ends
      → AreFew load other (length (greedy limit load place ws)) (length ends)
  fewest ws load other place there [] none = absurd none
  fewest [] load other place there (end ∷ ends) cut = record { few = λ _. omega arith; one_more_at_most = omega arith }
  fewest (w ∷ ws) load other place there (end ∷ ends) cut = elim (next other there w ws end ends cut) [
    | inl closed ↦ elim (cases_lt limit (load + w)) [
      | inl lt ↦
          let step = ap length (greedy_closes load place w ws lt) in
          let rest = fewest ws w w (place + 1) (end + 1) ends closed in
          let less = rest.few (omega arith) in
          record { few = λ _. omega arith; one_more_at_most = omega arith }
      | inr le ↦
          let step = ap length (greedy_joins load place w ws le) in
          let rest = fewest ws (load + w) w (place + 1) (end + 1) ends closed in
          let more = rest.one_more_at_most in
          record { few = λ _. omega arith; one_more_at_most = omega arith }
    ]
    | inr joined ↦
        let fits = load_fits (other + w) (there + 1) ws (end ∷ ends) joined in
        elim (cases_lt limit (load + w)) [
          | inl lt ↦
              let step = ap length (greedy_closes load place w ws lt) in
              let rest = fewest ws w (other + w) (place + 1) (there + 1) (end ∷ ends) joined in
              let less = rest.few (omega arith) in
              record { few = λ le. absurd (omega arith); one_more_at_most = omega arith }
          | inr le ↦
              let step = ap length (greedy_joins load place w ws le) in
              let rest = fewest ws (load + w) (other + w) (place + 1) (there + 1) (end ∷ ends) joined in
              record {
                few = λ lighter. let less = rest.few (omega arith) in omega arith;
                one_more_at_most = let more = rest.one_more_at_most in omega arith;
              }
        ]
  ]

  pub greedy_fewest : (load place there : ℕ) (ws ends : List ℕ) → Closes limit load there ws ends
      → length (greedy limit load place ws) ≤ length ends
  greedy_fewest load place there ws ends cut = (fewest ws load load place there ends cut).few (omega arith)

-- a loop over weights comes to the next one
module _ (limit load new place : ℕ) (ws : List ℕ) (within : place < length ws) where
  pub closes_more : limit < load + get_or ws place 0 → new ≡ get_or ws place 0
      → greedy limit load place (drop place ws) ≡ place ∷ greedy limit new (place + 1) (drop (place + 1) ws)
  closes_more above is =
      at_drop_more (greedy limit load place) ws place 0 within
      ∙ greedy_closes limit load place (get_or ws place 0) (drop (place + 1) ws) above
      ∙ ap (λ n. place ∷ greedy limit n (place + 1) (drop (place + 1) ws)) (sym is)

  pub joins_more : load + get_or ws place 0 ≤ limit → new ≡ load + get_or ws place 0
      → greedy limit load place (drop place ws) ≡ greedy limit new (place + 1) (drop (place + 1) ws)
  joins_more below is =
      at_drop_more (greedy limit load place) ws place 0 within
      ∙ greedy_joins limit load place (get_or ws place 0) (drop (place + 1) ws) below
      ∙ ap (λ n. greedy limit n (place + 1) (drop (place + 1) ws)) (sym is)

-- and past the last one the open block ends
pub last_block : (limit load place : ℕ) (ws : List ℕ) → length ws ≤ place
    → greedy limit load place (drop place ws) ≡ place ∷ []
last_block limit load place ws past = ap (greedy limit load place) (drop_all place ws past)

-- the end of a block was put behind the others
pub end_put : (old new front rest all : List ℕ) (place : ℕ) → old ++ front ≡ all → front ≡ place ∷ rest
    → new ≡ old ++ place ∷ [] → new ++ rest ≡ all
end_put old new front rest all place whole is put =
    ap (λ xs. xs ++ rest) put ∙ append_assoc old (place ∷ []) rest ∙ ap (λ xs. old ++ xs) (sym is) ∙ whole
