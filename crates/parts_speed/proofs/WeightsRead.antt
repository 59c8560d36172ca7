-- One more weight after those that were read.
use Rattle.std.proofs.Common.{◌≡◌, ℕ, zero, suc, ◌+◌, ◌<◌, ◌≤◌, List, [], ◌∷◌, take, drop, length, length-drop, get_or}
use Rattle.std.proofs.Common.{sym, ◌∙◌, ap, subst, arith, All}
use Rattle.std.proofs.Math.ListN.{set}
use Rattle.std.proofs.lemmas.List.{length-set, take_more_set, drop-set-lt, get_or-drop}
use Rattle.std.proofs.lemmas.List.Elements.{All-append}
use Rattle.ps_model.specs.AcceptedJob.{AreWeights}

one : (P : ℕ → Type 0) (w : ℕ) → P w → All P (w ∷ [])
one P w h zero x lt = h
one P w h (suc k) x lt = absurd (omega arith)

-- what holds of all from the place n on holds of all past it
past : (P : ℕ → Type 0) (n : ℕ) (ws : List ℕ) → All P (drop n ws) → All P (drop (n + 1) ws)
past P n ws h k x lt = subst P
    (get_or-drop n ws (k + 1) x ∙ ap (λ j. get_or ws j x) same ∙ sym (get_or-drop (n + 1) ws k x))
    (h (k + 1) x (let a = length-drop n ws in let b = length-drop (n + 1) ws in omega arith))
  where
    same : n + (k + 1) ≡ n + 1 + k
    same = omega arith

pub weights_more : (n w : ℕ) (ws : List ℕ) → n < length ws → 1 ≤ w → w ≤ 64 → AreWeights n ws →
    AreWeights (n + 1) (set ws n w)
weights_more n w ws lt low high are = record {
  eight = length-set ws n w ∙ are.eight;
  of_variables = subst (All (λ v. (1 ≤ v) × (v ≤ 64))) (sym (take_more_set ws n w lt))
      (All-append (λ v. (1 ≤ v) × (v ≤ 64)) (take n ws) (w ∷ []) are.of_variables
      (one (λ v. (1 ≤ v) × (v ≤ 64)) w (low, high)));
  others = subst (All (λ v. v ≡ 1)) (sym (drop-set-lt (n + 1) ws n w (omega arith)))
      (past (λ v. v ≡ 1) n ws are.others);
}
