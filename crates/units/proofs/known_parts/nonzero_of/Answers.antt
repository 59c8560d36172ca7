use Rattle.std.proofs.Common.{◌≡◌, ℕ, ◌+◌, cond, ltb, inl, inr, sym, ◌∙◌, ap, arith}
use Rattle.std.specs.FinMap.{FinMap, empty, len, len-empty, empty_of_len}
use Rattle.std.proofs.lemmas.Bool.{cases_lt, lt-ltb}
use Rattle.ps_model.specs.Keys.{key_compare}
use Rattle.units.proofs.known_parts.nonzero_of.Goals as goal

pub returns-then-is_zero : goal.returns-then-is_zero
returns-then-is_zero c =
    let none : len c.args.part.now.map ≡ 0 =
    ap (λ (m : FinMap (key_compare 8) ℕ). len m) (c.is_zero.ensures.0 c.if-is_zero.true) ∙ len-empty (key_compare 8) ℕ in
    ap (λ n. 0 + cond (ltb 0 n) 1 0) (sym none)

pub returns : goal.returns
returns c = elim (cases_lt 0 (len c.args.part.now.map)) as
    (λ _. 1 ≡ 0 + cond (ltb 0 (len c.args.part.now.map)) 1 0) [
      | inl some ↦ ap (λ b. 0 + cond b 1 0) (sym (lt-ltb 0 (len c.args.part.now.map) some))
      | inr none ↦
          let is : c.args.part.now.map ≡ empty = empty_of_len c.args.part.now.map (omega arith) in
          let zero = c.is_zero.ensures.1 is in
          absurd (cc (zero, c.if-is_zero.false))
    ]
