-- Cuts within a limit, by the cut that greedy blocks make.
use Rattle.std.proofs.Common.{◌≡◌, ℕ, zero, suc, ◌+◌, ◌-◌, ◌<◌, ◌≤◌, List, [], ◌∷◌, length, get_or, take, drop, sum}
use Rattle.std.proofs.Common.{refl, sym, ap, subst, ◌∙◌, arith}
use Rattle.std.specs.List.{All}
use Rattle.std.proofs.lemmas.List.{length-drop, drop-drop}
use Rattle.std.proofs.lemmas.List.Sums.{sum_by-take-le}
use Rattle.pipe.specs.Cuts.{heaviest_from, heaviest, Rises, IsCut, IsCutWithin, HasCut, IsLightest}
use Rattle.pipe.proofs.Greedy.{greedy, CutsFrom, opened, unopened, each_fits, load_fits, greedy_joins, greedy_cuts, greedy_fewest}

rises_up : (start last : ℕ) (ends : List ℕ) → Rises start ends last → start ≤ last
rises_up start last [] is = omega arith
rises_up start last (end ∷ ends) rises = let up = rises_up end last ends rises.1 in omega arith

module _ (limit : ℕ) (ws : List ℕ) where
  cuts_from : (start : ℕ) (ends : List ℕ) → Rises start ends (length ws) → heaviest_from ws start ends ≤ limit
      → CutsFrom limit start (drop start ws) ends
  cuts_from start [] is light = let left = length-drop start ws in omega arith
  cuts_from start (end ∷ ends) rises light =
      let k : ℕ = end - suc start in
      let count : end - start ≡ suc k = omega arith in
      let up = rises_up end (length ws) ends rises.1 in
      let left = length-drop start ws in
      let rest = cuts_from end ends rises.1 (omega arith) in
      let there : drop end ws ≡ drop (suc k) (drop start ws) =
      ap (λ n. drop n ws) (omega arith) ∙ sym (drop-drop (suc k) start ws) in (
        k,
        subst (λ xs. CutsFrom limit end xs ends) there rest,
        omega arith,
        omega arith,
        subst (λ n. sum (take n (drop start ws)) ≤ limit) count (omega arith),
      )

  from_cuts : (start : ℕ) (ends : List ℕ) → start ≤ length ws → CutsFrom limit start (drop start ws) ends
      → (heaviest_from ws start ends ≤ limit) × (Rises start ends (length ws))
  from_cuts start [] within none = let left = length-drop start ws in (omega arith, omega arith)
  from_cuts start (end ∷ ends) within cut =
      let k : ℕ = cut.0 in
      let left = length-drop start ws in
      let there : drop (suc k) (drop start ws) ≡ drop end ws =
      drop-drop (suc k) start ws ∙ ap (λ n. drop n ws) (omega arith) in
      let rest = from_cuts end ends (omega arith) (subst (λ xs. CutsFrom limit end xs ends) there cut.1) in
      let light = subst (λ n. sum (take n (drop start ws)) ≤ limit) {x = suc k} {y = end - start} (omega arith) cut.4 in
      (omega arith, (omega arith, rest.1))

-- more is allowed
pub has_cut_below : (workers limit more : ℕ) (ws : List ℕ) → limit ≤ more → HasCut workers limit ws
    → HasCut workers more ws
has_cut_below workers limit more ws le cut =
    (cut.0, record { cut = cut.1.cut; few = cut.1.few; light = let light = cut.1.light in omega arith })

-- one block holds all
pub one_block : (workers : ℕ) (ws : List ℕ) → 0 < length ws → 1 ≤ workers → HasCut workers (sum ws) ws
one_block workers ws some few = (
  length ws ∷ [],
  record {
    cut = (some, refl);
    few = few;
    light = let part = sum_by-take-le (λ x. x) ws (length ws - 0) in omega arith;
  },
)

-- no weight of a cut is above the limit
pub cut_fits : (workers limit : ℕ) (ws : List ℕ) → HasCut workers limit ws → All (λ w. w ≤ limit) ws
cut_fits workers limit [] cut = λ k d lt. absurd (omega arith)
cut_fits workers limit (w ∷ ws) cut =
    let closes = opened limit 0 w ws cut.0 (cuts_from limit (w ∷ ws) 0 cut.0 cut.1.cut cut.1.light) in
    λ k d lt. at_each k d lt (load_fits limit w 1 ws cut.0 closes) (each_fits limit ws w 1 cut.0 closes)
  where
    at_each : (k d : ℕ) → k < suc (length ws) → w ≤ limit → All (λ x. x ≤ limit) ws → get_or (w ∷ ws) k d ≤ limit
    at_each zero d lt head tail = head
    at_each (suc k) d lt head tail = tail k d (omega arith)

-- the greedy blocks of some weights
abbrev pub blocks : ℕ → List ℕ → List ℕ
blocks limit ws = greedy limit 0 0 ws

-- a first weight begins the first block
begins : (limit w : ℕ) (ws : List ℕ) → w ≤ limit → blocks limit (w ∷ ws) ≡ greedy limit w 1 ws
begins limit w ws fits =
    greedy_joins limit 0 0 w ws (omega arith) ∙ ap (λ n. greedy limit n 1 ws) {x = 0 + w} {y = w} (omega arith)

blocks_cut : (limit w : ℕ) (ws : List ℕ) → w ≤ limit → All (λ x. x ≤ limit) ws
    → (heaviest (w ∷ ws) (blocks limit (w ∷ ws)) ≤ limit) × IsCut (w ∷ ws) (blocks limit (w ∷ ws))
blocks_cut limit w ws fits each =
    subst (λ ends. (heaviest (w ∷ ws) ends ≤ limit) × IsCut (w ∷ ws) ends) (sym (begins limit w ws fits))
    (from_cuts limit (w ∷ ws) 0 (greedy limit w 1 ws) (omega arith)
    (unopened limit 0 w ws (greedy limit w 1 ws) (greedy_cuts limit ws w 1 fits each)))

-- there is a cut exactly where there are few greedy blocks
pub few_blocks : (workers limit : ℕ) (ws : List ℕ) → 0 < length ws → All (λ w. w ≤ limit) ws
    → length (blocks limit ws) ≤ workers → IsCutWithin workers limit ws (blocks limit ws)
few_blocks workers limit [] some each few = absurd (omega arith)
few_blocks workers limit (w ∷ ws) some each few =
    let cut = blocks_cut limit w ws (each 0 w (omega arith)) (λ k d lt. each (suc k) d (omega arith)) in
    record { cut = cut.1; few = few; light = cut.0 }

pub blocks_few : (workers limit : ℕ) (ws : List ℕ) → HasCut workers limit ws → 0 < length ws
    → length (blocks limit ws) ≤ workers
blocks_few workers limit [] cut some = absurd (omega arith)
blocks_few workers limit (w ∷ ws) cut some =
    let closes = opened limit 0 w ws cut.0 (cuts_from limit (w ∷ ws) 0 cut.0 cut.1.cut cut.1.light) in
    let same = ap length (begins limit w ws (load_fits limit w 1 ws cut.0 closes)) in
    let fewest = greedy_fewest limit w 1 1 ws cut.0 closes in
    let few = cut.1.few in
    omega arith

-- a cut within the least limit that has one is lightest
pub lightest : (workers limit : ℕ) (ws ends : List ℕ) → ((other : ℕ) → HasCut workers other ws → limit ≤ other)
    → IsCutWithin workers limit ws ends → IsLightest workers ws ends
lightest workers limit ws ends least within = record {
  cut = within.cut;
  few = within.few;
  least = λ others cut few.
      let more = least (heaviest ws others) (others, record { cut = cut; few = few; light = omega arith }) in
      let light = within.light in
      omega arith;
}
