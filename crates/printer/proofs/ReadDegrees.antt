-- The degree of a term, and the order in which terms are printed.
use Rattle.std.proofs.Common.{◌≡◌, ℕ, zero, suc, ◌+◌, ◌*◌, ◌<◌, ◌≤◌, List, [], ◌∷◌, length, get_or, drop, All}
use Rattle.std.proofs.Common.{refl, sym, subst, arith, mul-le-mul_right}
use Rattle.std.specs.Prelude.{max}
use Rattle.std.specs.Ordering.{nat_cmp, ordering_then}
use Rattle.std.specs.Cmp.{IsTotalOrder}
use Rattle.std.proofs.lemmas.Cmp.{then_total, on_total, nat_cmp_total}
use Rattle.std.proofs.lemmas.List.{drop_more}
use Rattle.std.proofs.lemmas.List.Elements.{All-head, All-tail}
use Rattle.ps_model.specs.Keys.{powers_of, weights_from, weighted, key_compare}
use Rattle.ps_model.specs.KeyLaws.{key_compare_total}
use Rattle.ps_model.specs.Plain.{key_of}
use Rattle.ps_model.specs.PlainLists.{plain_degree, key_order}
use Rattle.ps_model.specs.declared.plain.PlainTerm.{PlainTerm}
use Rattle.parts.specs.Places.{dot}
use Rattle.printer.specs.ReadForms.{IsNamed}
use Rattle.printer.specs.ReadBlock.{printed_order}

weighted_dot : (n : ℕ) (ws ps : List ℕ) → length ws ≡ n → length ps ≡ n → All (λ w. 0 < w) ws
    → weighted n (weights_from n ws) (powers_of n ps) ≡ dot ws ps
weighted_dot zero [] ps e e' some = refl
weighted_dot zero (w ∷ ws) ps e e' some = absurd (omega arith)
weighted_dot (suc n) [] ps e e' some = absurd (omega arith)
weighted_dot (suc n) (w ∷ ws) [] e e' some = absurd (omega arith)
weighted_dot (suc n) (w ∷ ws) (p ∷ ps) e e' some =
    let first : max 1 w ≡ w = at_least w (All-head (λ w. 0 < w) w ws some) in
    λ i. first i * p + weighted_dot n ws ps (omega arith) (omega arith) (All-tail (λ w. 0 < w) w ws some) i
  where
    at_least : (w : ℕ) → 0 < w → max 1 w ≡ w
    at_least w h = omega arith

pub degree_is : (ws : List ℕ) (t : PlainTerm) → length ws ≡ 8 → length t.powers ≡ 8 → All (λ w. 0 < w) ws
    → plain_degree ws (key_of t) ≡ dot ws t.powers
unfolding plain_degree
degree_is ws t e e' some = weighted_dot 8 ws t.powers e e' some

dot_none : (ws ps : List ℕ) → IsNamed [] ps → dot ws ps ≡ 0
dot_none [] ps h = refl
dot_none (w ∷ ws) [] h = refl
dot_none (w ∷ ws) (p ∷ ps) h = none w p (dot ws ps) h.0 (dot_none ws ps h.1)
  where
    none : (w p r : ℕ) → p ≡ 0 → r ≡ 0 → w * p + r ≡ 0
    none w p r e e' = subst (λ k. w * k + r ≡ 0) (sym e) (omega arith)

pub product_small : (w p : ℕ) → w ≤ 64 → p < 65536 → w * p ≤ 4194240
product_small w p h h' = omega (arith, mul-le-mul_right {m = w} {n = 64} p h)

-- one more variable, and no more
pub dot_more : (ws ps : List ℕ) (i so_far whole w p : ℕ) → i < length ws → i < length ps → w ≡ get_or ws i 0
    → p ≡ get_or ps i 0 → so_far + dot (drop i ws) (drop i ps) ≡ whole
    → (so_far + w * p) + dot (drop (i + 1) ws) (drop (i + 1) ps) ≡ whole
dot_more ws ps i so_far whole w p lt lt' is is' going =
    let e : dot (drop i ws) (drop i ps) ≡ get_or ws i 0 * get_or ps i 0 + dot (drop (i + 1) ws) (drop (i + 1) ps) =
    λ k. dot (drop_more ws i 0 lt k) (drop_more ps i 0 lt' k) in
    let product : w * p ≡ get_or ws i 0 * get_or ps i 0 = λ k. is k * is' k in
    omega (arith, e, product)

pub dot_end : (ws ps : List ℕ) (i so_far whole : ℕ) → IsNamed [] (drop i ps)
    → so_far + dot (drop i ws) (drop i ps) ≡ whole → so_far ≡ whole
dot_end ws ps i so_far whole past going = omega (arith, dot_none (drop i ws) (drop i ps) past)

-- terms in the order of printing
pub printed_order_total : (ws : List ℕ) → IsTotalOrder (printed_order ws)
unfolding printed_order
printed_order_total ws = then_total (on_total (plain_degree ws) nat_cmp_total) (key_compare_total 8)

-- what the code compares
pub graded_order : (ws : List ℕ) (d d' : ℕ) (t u : PlainTerm) → d ≡ plain_degree ws (key_of t)
    → d' ≡ plain_degree ws (key_of u)
    → ordering_then (nat_cmp d d') (key_order t u) ≡ printed_order ws (key_of t) (key_of u)
unfolding printed_order key_order
graded_order ws d d' t u e e' = λ i. ordering_then (nat_cmp (e i) (e' i)) (key_compare 8 (key_of t) (key_of u))
