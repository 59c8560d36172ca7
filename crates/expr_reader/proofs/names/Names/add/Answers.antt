use Rattle.std.proofs.Common.{◌≡◌, ◌≢◌, ◌∙◌, [], ◌∷◌, ◌++◌, sym, subst, ap, map, None, true, length}
use Rattle.std.specs.String.{string_bytes}
use Rattle.ps_model.specs.Names.{is_name}
use Rattle.expr_reader.specs.NameLists.{AreVariables, index_of}
use Rattle.expr_reader.proofs.NameLemmas.{AreVariables-push, texts-insert_key}
use Rattle.expr_reader.proofs.names.Names.add.Goals as goal

none : (c : goal.In_ok-insert) → index_of c.args.self.now c.args.name.now ≡ None
none c = sym c.find.ensures.index ∙ c.in_default.is

pushed : (c : goal.In_ok-insert) → map string_bytes c.insert.new.self.keys ≡ c.args.self.now ++ c.args.name.now ∷ []
pushed c =
    let text : string_bytes c.in_ok-text.text ≡ c.args.name.now = c.in_ok-text.ensures.ok in
    let absent : index_of (map string_bytes c.self.inside.texts.keys) (string_bytes c.in_ok-text.text) ≡ None =
    (λ j. index_of (c.self.view_is j) (text j)) ∙ none c in
    ap (map string_bytes) c.in_ok-insert.ensures.keys
    ∙ texts-insert_key c.in_ok-text.text c.self.inside.texts.keys absent
    ∙ (λ j. c.self.view_is j ++ text j ∷ [])

pub invariant_of-self-2 : goal.invariant_of-self-2
invariant_of-self-2 c =
    let room : length c.args.self.now ≢ 8 = λ e. c.if-count-eq-MOST_NAMES.false (c.len-count.ensures.count ∙ e) in
    let named : is_name c.args.name.now ≡ true = sym c.is_name.ensures ∙ c.if-not-is_name.false in
    subst AreVariables (sym (pushed c))
    (AreVariables-push c.args.name.now c.args.self.now c.len-count.ensures.variables room named (none c))

pub returns-clause-ok : goal.returns-clause-ok
returns-clause-ok c = pushed c
