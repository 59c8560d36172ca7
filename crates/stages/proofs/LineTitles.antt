-- The stages of a line: their places, their number and their titles.
use Rattle.std.proofs.Common.{◌≡◌, ℕ, zero, suc, ◌+◌, ◌<◌, ◌≤◌, List, [], ◌∷◌, length, map, get_or}
use Rattle.std.proofs.Common.{refl, sym, ◌∙◌, ap, subst, arith}
use Rattle.std.specs.List.{All}
use Rattle.std.proofs.lemmas.List.{get_or-map, length-map}
use Rattle.std.proofs.lemmas.Simd.{map-map}
use Rattle.ps_model.specs.AcceptedJob.{IsAccepted, IsAcceptedRoot}
use Rattle.ps_model.specs.Factors.{total_times}
use Rattle.ps_model.specs.declared.job.JobData.{JobData}
use Rattle.ps_model.specs.declared.job.Root.{Root}
use Rattle.ps_model.proofs.JobRoots.{valid_degree, valid_small}
use Rattle.stages.specs.Titles.{TitleValue}
use Rattle.stages.specs.Lines.{titles_from, titles_of, AreStagesOf}
use Rattle.stages.specs.States.{StageState}

-- as many titles as roots
pub titles-length : (job : JobData) (s : ℕ) (roots : List Root) → length (titles_from job s roots) ≡ length roots
titles-length job s [] = refl
titles-length job s (root ∷ roots) = ap suc (titles-length job (suc s) roots)

-- the title at a place
pub title_at : (job : JobData) (s : ℕ) (roots : List Root) (i : ℕ) (d : TitleValue) → i < length roots
    → get_or (titles_from job s roots) i d ≡ record { job = job; stage = s + i }
title_at job s [] i d lt = absurd (omega arith)
title_at job s (root ∷ roots) zero d lt = ap (λ n. record { job = job; stage = n }) (omega arith)
title_at job s (root ∷ roots) (suc i) d lt =
    title_at job (suc s) roots i d (omega arith) ∙ ap (λ n. record { job = job; stage = n }) (omega arith)

-- each root counts
times_count : (m : ℕ) (roots : List Root) → All (IsAcceptedRoot m) roots → length roots ≤ total_times roots
times_count m [] are = omega arith
times_count m (root ∷ roots) are =
    let some = (are 0 root (omega arith)).some in
    let rest = times_count m roots (λ k d lt. are (suc k) d (omega arith)) in
    omega arith

-- an accepted job has at most 32 roots
pub few_roots : (job : JobData) → IsAccepted job → length job.roots ≤ 32
few_roots job ok =
    let same = valid_degree job ok.valid in
    let small = valid_small job ok.valid in
    let count = times_count job.modulus job.roots ok.roots in
    omega arith

-- what is seen of what stands at a place
pub seen_at : {T S : Type 0} (see : T → S) (xs : List T) (i : ℕ) (x : T) (d : S) → x ≡ get_or xs i x
    → i < length (map see xs) → get_or (map see xs) i d ≡ see x
seen_at see xs i x d is lt = get_or-map see xs i x d (let same = length-map xs see in omega arith) ∙ ap see (sym is)

-- and what holds of the one holds of the other
pub holds_at : {T S : Type 0} (P : S → Type 0) (see : T → S) (xs : List T) (i : ℕ) (x : T) → x ≡ get_or xs i x
    → i < length (map see xs) → ((d : S) → P (get_or (map see xs) i d)) → P (see x)
holds_at P see xs i x is lt h = subst P (seen_at see xs i x (see x) is lt) (h (see x))

pub holds_there : {T S : Type 0} (P : S → Type 0) (see : T → S) (xs : List T) (i : ℕ) (x : T) → x ≡ get_or xs i x
    → i < length (map see xs) → P (see x) → (d : S) → P (get_or (map see xs) i d)
holds_there P see xs i x is lt h d = subst P (sym (seen_at see xs i x d is lt)) h

-- what holds of each stage
pub each_there : {T S : Type 0} (P : ℕ → S → Type 0) (see : T → S) (xs : List T)
    → ((k : ℕ) (d : T) → k < length xs → P k (see (get_or xs k d)))
    → (k : ℕ) (d : S) → k < length (map see xs) → P k (get_or (map see xs) k d)
each_there P see [] h k d lt = absurd (omega arith)
each_there P see (x ∷ xs) h zero d lt = h 0 x (omega arith)
each_there P see (x ∷ xs) h (suc k) d lt =
    each_there (λ n. P (suc n)) see xs (λ j e low. h (suc j) e (omega arith)) k d (omega arith)

module _ {T : Type 0} (title : T → TitleValue) (job : JobData) (xs : List T)
    (of_job : map title xs ≡ titles_of job) where
  -- a line has a stage for each root
  pub line-count : length xs ≡ length job.roots
  line-count = sym (length-map xs title) ∙ ap length of_job ∙ titles-length job 0 job.roots

  -- the title of the stage at a place
  pub place-title : (i : ℕ) (x : T) → i < length xs → title (get_or xs i x) ≡ record { job = job; stage = i }
  place-title i x lt =
      let d : TitleValue = record { job = job; stage = i } in
      sym (get_or-map title xs i x d lt)
      ∙ ap (λ ts. get_or ts i d) of_job
      ∙ title_at job 0 job.roots i d (let count = line-count in omega arith)
      ∙ ap (λ n. record { job = job; stage = n }) (omega arith)

  pub line-title : (i : ℕ) (x : T) → x ≡ get_or xs i x → i < length xs → title x ≡ record { job = job; stage = i }
  line-title i x is lt = ap title is ∙ place-title i x lt

-- the place is within the list itself
pub within : {T S : Type 0} (see : T → S) (xs : List T) (i : ℕ) → i < length (map see xs) → i < length xs
within see xs i lt = let same = length-map xs see in omega arith

pub seen : {T S : Type 0} (see : T → S) (xs : List T) (i : ℕ) → i < length xs → i < length (map see xs)
seen see xs i lt = let same = length-map xs see in omega arith

-- a title by its number
numbered : (job : JobData) (m n : ℕ) → m ≡ n
    → let title : ℕ → TitleValue = λ k. record { job = job; stage = k } in title m ≡ title n
numbered job m n same = ap (λ k. record { job = job; stage = k }) same

-- titles one by one are the titles of the job
titles_back : (job : JobData) (i : ℕ) (roots : List Root) (xs : List StageState) → length xs ≡ length roots
    → ((s : ℕ) (d : StageState) → s < length xs → (get_or xs s d).title ≡ record { job = job; stage = i + s })
    → map (λ s. s.title) xs ≡ titles_from job i roots
titles_back job i [] [] count each = refl
titles_back job i [] (x ∷ xs) count each = absurd (omega arith)
titles_back job i (root ∷ roots) [] count each = absurd (omega arith)
titles_back job i (root ∷ roots) (x ∷ xs) count each = λ k.
    (each 0 x (omega arith) ∙ numbered job (i + 0) i (omega arith)) k
    ∷ titles_back job (suc i) roots xs (omega arith)
    (λ s d lt. each (suc s) d (omega arith) ∙ numbered job (i + suc s) (suc i + s) (omega arith)) k

module _ {T : Type 0} (see : T → StageState) (job : JobData) (xs : List T) where
  -- the stages of a line
  pub stages_of : IsAccepted job → map (λ x. (see x).title) xs ≡ titles_of job → AreStagesOf job (map see xs)
  stages_of ok of_job = record {
    accepted = ok;
    count = length-map xs see ∙ line-count (λ x. (see x).title) job xs of_job;
    title = each_there (λ k s. s.title ≡ record { job = job; stage = k }) see xs
        (λ k d lt. place-title (λ x. (see x).title) job xs of_job k d lt);
  }

  pub of_stages : AreStagesOf job (map see xs) → map (λ x. (see x).title) xs ≡ titles_of job
  of_stages line = sym (map-map (λ s. s.title) see xs)
      ∙ titles_back job 0 job.roots (map see xs) line.count
      (λ s d lt. line.title s d lt ∙ numbered job s (0 + s) (omega arith))

-- a line that has its stages has one for each root
pub line_length : {T : Type 0} (see : T → StageState) (job : JobData) (xs : List T) → AreStagesOf job (map see xs)
    → length xs ≡ length job.roots
line_length see job xs line = sym (length-map xs see) ∙ line.count

-- a list with a place has a member
pub some_there : (i n : ℕ) → i < n → 0 < n
some_there i n lt = omega arith

-- a line has at most 32 stages, also while it has none
pub few_stages : {T : Type 0} (title : T → TitleValue) (job : JobData) (xs : List T) → IsAccepted job
    → (0 < length xs → map title xs ≡ titles_of job) → length xs ≤ 32
few_stages title job [] ok of_job = omega arith
few_stages title job (x ∷ xs) ok of_job =
    let few = few_roots job ok in
    let count = line-count title job (x ∷ xs) (of_job (omega arith)) in
    omega arith
