use Rattle.std.proofs.Common.{map, sym, subst, [], refl, arith}
use Rattle.std.specs.String.{string_bytes}
use Rattle.expr_reader.specs.NameLists.{AreVariables, AreNames-from_test}
use Rattle.expr_reader.proofs.names.Names.new.Goals as goal

pub invariant_of-result : goal.invariant_of-result
invariant_of-result c =
    subst (λ ks. AreVariables (map string_bytes ks)) (sym c.new.ensures.empty)
    record { valid = AreNames-from_test [] refl; few = omega arith }
