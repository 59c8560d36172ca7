use Rattle.std.proofs.Common.{◌≡◌, ℕ, ◌<◌, ◌≤◌, List, [], ◌∙◌, length, get_or, map, ap, subst, sym, arith}
use Rattle.std.proofs.lemmas.List.{get_or-map, length-map}
use Rattle.ps_model.specs.Keys.{Key}
use Rattle.ps_model.specs.Plain.{entry_of}
use Rattle.printer.specs.ReadTermLists.{IsTermList, HasTerms}
use Rattle.printer.proofs.ReadBuilt.{are_built_more, are_built_all}
use Rattle.printer.proofs.read_polynomials.polynomials.Goals as goal

-- the entries of the list at place i
at_place : {V : Type 0} (see : V → List (Key 8 × ℕ)) (xs : List V) (i : ℕ) (x : V) → x ≡ get_or xs i x → i < length xs
    → get_or (map see xs) i [] ≡ see x
at_place see xs i x is lt = get_or-map see xs i x [] lt ∙ ap see (sym is)

inside : {V : Type 0} (see : V → List (Key 8 × ℕ)) (xs : List V) (i : ℕ) → i < length xs → i < length (map see xs)
inside see xs i lt = omega (arith, lt, length-map xs see)

outside : {V : Type 0} (see : V → List (Key 8 × ℕ)) (xs : List V) (i : ℕ) → length xs ≤ i → length (map see xs) ≤ i
outside see xs i le = omega (arith, le, length-map xs see)

pub polynomial-requires : goal.polynomial-requires
polynomial-requires c =
    subst IsTermList
    (at_place (λ f. map entry_of f.items) c.args.lists.now c.loop-i.i c.index-lists-i.result c.index-lists-i.is
    c.loop-i-test.true ∙ ap (map entry_of) (sym c.deref.ensures.value))
    (c.requires c.loop-i.i [] (inside _ c.args.lists.now c.loop-i.i c.loop-i-test.true))

pub loop-i-preserved : goal.loop-i-preserved
loop-i-preserved c = are_built_more _ c.loop-i.polynomials.items c.loop-i.i c.loop-i.invariant
    c.in_ok-polynomial.field-0
    c.push.new.self.items (inside _ c.args.lists.now c.loop-i.i c.loop-i-test.true) c.in_ok-push.ensures.items
    (subst (HasTerms c.in_ok-polynomial.field-0)
    (ap (map entry_of) c.deref.ensures.value
    ∙ sym (at_place (λ f. map entry_of f.items) c.args.lists.now c.loop-i.i c.index-lists-i.result c.index-lists-i.is
    c.loop-i-test.true)) c.in_ok-polynomial.ensures)

pub returns : goal.returns
returns c = are_built_all _ c.loop-i.polynomials.items c.loop-i.i c.loop-i.invariant
    (outside _ c.args.lists.now c.loop-i.i c.loop-i-test.false)
