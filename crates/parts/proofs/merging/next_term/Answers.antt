use Rattle.std.proofs.Common.{◌≡◌, ℕ, ◌%◌, ◌+◌, ◌∙◌, sym, subst, [], List, arith, ◌<◌, length, drop, get_or}
use Rattle.std.proofs.lemmas.List.{get_or_default}
use Rattle.ps_model.specs.Keys.{key_compare}
use Rattle.parts.specs.Rings.{modulus_of}
use Rattle.parts.specs.Terms.{key_of}
use Rattle.parts.specs.TermLists.{IsNext}
use Rattle.parts.specs.declared.terms.Term.{Term}
use Rattle.parts.proofs.Built.{at_left_end, at_right_end, at_less, at_greater, at_equal, left_residue, right_residue}
use Rattle.parts.proofs.merging.next_term.Goals as goal

abbrev none : Term
none = record { monomial = record { powers = [] }; coefficient = 0 }

item_is : (ts : List Term) (i : ℕ) (t : Term) → t ≡ get_or ts i t → i < length ts → t ≡ get_or ts i none
item_is ts i t is lt = is ∙ get_or_default ts i t none lt

pub returns-then-left-a-clause-next : goal.returns-then-left-a-clause-next
returns-then-left-a-clause-next c = subst
    (λ t. IsNext c.args.ring c.args.degree (drop c.args.left c.args.a.now) (drop c.args.right c.args.b.now) t
    (drop c.args.left c.args.a.now) (drop (c.args.right + 1) c.args.b.now)) (sym c.index-b-right.is)
    (at_left_end c.args.ring c.args.degree c.args.a.now c.args.b.now c.args.left c.args.right c.index-b-right.result
    c.requires.a_terms c.requires.b_terms (omega arith) (omega arith))

pub returns-then-right-b-clause-next : goal.returns-then-right-b-clause-next
returns-then-right-b-clause-next c = subst
    (λ t. IsNext c.args.ring c.args.degree (drop c.args.left c.args.a.now) (drop c.args.right c.args.b.now) t
    (drop (c.args.left + 1) c.args.a.now) (drop c.args.right c.args.b.now)) (sym c.index-a-left.is)
    (at_right_end c.args.ring c.args.degree c.args.a.now c.args.b.now c.args.left c.args.right c.index-a-left.result
    c.requires.a_terms c.requires.b_terms (omega arith) (omega arith))

pub add-requires-clause-a_residue : goal.add-requires-clause-a_residue
add-requires-clause-a_residue c =
    subst (λ m. c.index-a-left-2.result.coefficient < m) (sym c.modulus.ensures)
    (subst (λ (t : Term). t.coefficient < modulus_of c.args.ring) (sym c.index-a-left-2.is)
    (left_residue c.args.ring c.args.degree c.args.a.now c.args.b.now c.args.left c.args.right
    c.index-a-left-2.result c.requires.a_terms c.requires.b_terms (omega arith)))

pub add-requires-clause-b_residue : goal.add-requires-clause-b_residue
add-requires-clause-b_residue c =
    subst (λ m. c.index-b-right-2.result.coefficient < m) (sym c.modulus.ensures)
    (subst (λ (t : Term). t.coefficient < modulus_of c.args.ring) (sym c.index-b-right-2.is)
    (right_residue c.args.ring c.args.degree c.args.a.now c.args.b.now c.args.left c.args.right
    c.index-b-right-2.result c.requires.a_terms c.requires.b_terms (omega arith)))

pub returns-in-Less-clause-next : goal.returns-in-Less-clause-next
returns-in-Less-clause-next c =
    let x_is = item_is c.args.a.now c.args.left c.index-a-left-2.result c.index-a-left-2.is (omega arith) in
    let y_is = item_is c.args.b.now c.args.right c.index-b-right-2.result c.index-b-right-2.is (omega arith) in
    subst (λ t. IsNext c.args.ring c.args.degree (drop c.args.left c.args.a.now) (drop c.args.right c.args.b.now) t
    (drop (c.args.left + 1) c.args.a.now) (drop c.args.right c.args.b.now)) (sym x_is)
    (at_less c.args.ring c.args.degree c.args.a.now c.args.b.now c.args.left c.args.right none c.requires.a_terms
    c.requires.b_terms (omega arith) (omega arith)
    (sym (c.in-Less.ensures ∙ (λ i. key_compare 8 (key_of (x_is i).monomial) (key_of (y_is i).monomial)))))

pub returns-in-Greater-clause-next : goal.returns-in-Greater-clause-next
returns-in-Greater-clause-next c =
    let x_is = item_is c.args.a.now c.args.left c.index-a-left-2.result c.index-a-left-2.is (omega arith) in
    let y_is = item_is c.args.b.now c.args.right c.index-b-right-2.result c.index-b-right-2.is (omega arith) in
    subst (λ t. IsNext c.args.ring c.args.degree (drop c.args.left c.args.a.now) (drop c.args.right c.args.b.now) t
    (drop c.args.left c.args.a.now) (drop (c.args.right + 1) c.args.b.now)) (sym y_is)
    (at_greater c.args.ring c.args.degree c.args.a.now c.args.b.now c.args.left c.args.right none c.requires.a_terms
    c.requires.b_terms (omega arith) (omega arith)
    (sym (c.in-Greater.ensures ∙ (λ i. key_compare 8 (key_of (x_is i).monomial) (key_of (y_is i).monomial)))))

pub returns-in-Equal-clause-next : goal.returns-in-Equal-clause-next
returns-in-Equal-clause-next c =
    let x_is = item_is c.args.a.now c.args.left c.index-a-left-2.result c.index-a-left-2.is (omega arith) in
    let y_is = item_is c.args.b.now c.args.right c.index-b-right-2.result c.index-b-right-2.is (omega arith) in
    subst (λ (t : Term). IsNext c.args.ring c.args.degree (drop c.args.left c.args.a.now)
    (drop c.args.right c.args.b.now) (record { monomial = t.monomial; coefficient = c.add.result })
    (drop (c.args.left + 1) c.args.a.now) (drop (c.args.right + 1) c.args.b.now)) (sym x_is)
    (at_equal c.args.ring c.args.degree c.args.a.now c.args.b.now c.args.left c.args.right none c.requires.a_terms
    c.requires.b_terms c.add.result (omega arith) (omega arith)
    (sym (c.in-Equal.ensures ∙ (λ i. key_compare 8 (key_of (x_is i).monomial) (key_of (y_is i).monomial))))
    (c.add.ensures ∙ (λ i. ((x_is i).coefficient + (y_is i).coefficient) % c.modulus.ensures i)))
