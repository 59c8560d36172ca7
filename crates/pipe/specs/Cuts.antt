-- A row of weights, cut into blocks of neighbours.
--     A cut is told by the ends of its blocks, each the place behind the last weight of a block.
--     heaviest_from weights start ends      the greatest sum of a block's weights, where the first block begins at
--         the place `start`; 0 of no block
--     heaviest weights ends      the same, where the first block begins at the first weight
--     Rises start ends last      the ends rise strictly from above `start` to `last`; there is none where these
--         are the same
--     IsCut weights ends      no block is empty, and together they cover all weights
--     IsCutWithin workers limit weights ends      a cut into at most so many blocks, none heavier than the limit
--     HasCut workers limit weights      there is one
--     IsLightest workers weights ends      a cut into at most so many blocks, and no such cut has a lighter
--         heaviest block
--     root_weights roots      of each root, its multiplicity times one more than what the later ones add up to
--     stage_weights job      the weights of the stages of a job
use Rattle.std.specs.Prelude.{◌≡◌, ℕ, ◌+◌, ◌*◌, ◌<◌, ◌≤◌, max, List, [], ◌∷◌, length, slice_range, sum}
use Rattle.ps_model.specs.declared.job.JobData.{JobData}
use Rattle.ps_model.specs.declared.job.Root.{Root}
use Rattle.ps_model.specs.Factors.{total_times}

abbrev pub heaviest_from : List ℕ → ℕ → List ℕ → ℕ
heaviest_from weights start [] = 0
heaviest_from weights start (end ∷ ends) = max (sum (slice_range weights start end)) (heaviest_from weights end ends)

abbrev pub heaviest : List ℕ → List ℕ → ℕ
heaviest weights ends = heaviest_from weights 0 ends

abbrev pub Rises : ℕ → List ℕ → ℕ → Type 0
Rises start [] last = start ≡ last
Rises start (end ∷ ends) last = (start < end) × Rises end ends last

abbrev pub IsCut : List ℕ → List ℕ → Type 0
IsCut weights ends = Rises 0 ends (length weights)

pub record IsCutWithin (workers limit : ℕ) (weights ends : List ℕ) : Type 0 where
  pub cut : IsCut weights ends
  pub few : length ends ≤ workers
  pub light : heaviest weights ends ≤ limit

abbrev pub HasCut : ℕ → ℕ → List ℕ → Type 0
HasCut workers limit weights = (ends : List ℕ) × IsCutWithin workers limit weights ends

pub record IsLightest (workers : ℕ) (weights ends : List ℕ) : Type 0 where
  pub cut : IsCut weights ends
  pub few : length ends ≤ workers
  pub least : (others : List ℕ) → IsCut weights others → length others ≤ workers
      → heaviest weights ends ≤ heaviest weights others

abbrev pub root_weights : List Root → List ℕ
root_weights [] = []
root_weights (root ∷ roots) = root.times * (total_times roots + 1) ∷ root_weights roots

abbrev pub stage_weights : JobData → List ℕ
stage_weights job = root_weights job.roots
