use Rattle.std.proofs.Common.{◌∙◌, ap, subst, is_lt}
use Rattle.std.specs.List.Sorted.{IsPermutation}
use Rattle.std.proofs.lemmas.List.Sorted.{answers_always, ranks_by}
use Rattle.ps_model.specs.KeyLaws.{key_compare_total}
use Rattle.ps_model.specs.Plain.{key_of}
use Rattle.printer.proofs.ReadBuilt.{key_order_is, sorting_of}
use Rattle.printer.proofs.read_polynomials.sorted.Goals as goal

pub returns : goal.returns
returns c = sorting_of c.args.terms.now c.sort_by.new.self.items c.requires
    (subst (λ xs. IsPermutation xs c.sort_by.new.self.items) c.in_ok-sorted.ensures.items c.sort_by.ensures.permutation)
    (c.in_ok-sort_by.ensures.sorted _ (ranks_by (key_compare_total 8) key_of)
    (answers_always _ _ _ (λ f a r f' k. ap is_lt (k.met ∙ key_order_is _ _))))
