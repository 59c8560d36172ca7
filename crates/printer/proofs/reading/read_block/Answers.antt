use Rattle.std.proofs.Common.{map, subst, sym, All, IfSome}
use Rattle.ps_model.specs.Plain.{entry_of}
use Rattle.parts.specs.Rings.{variables_of}
use Rattle.printer.specs.ReadBlock.{variable_names}
use Rattle.printer.specs.ReadTermLists.{IsTermList, HaveTerms, HasTerms}
use Rattle.printer.proofs.ReadBlocks.{lead_list, factor_lists, block_is, refused_is, one_block_is, refused_none}
use Rattle.printer.proofs.ReadLawful.{apart_taken}
use Rattle.printer.proofs.ReadNames.{names_apart}
use Rattle.printer.proofs.reading.read_block.Goals as goal

pub returns-in-Err-clause-only : goal.returns-in-Err-clause-only
returns-in-Err-clause-only g c = refused_none c.args.ring
    (variable_names c.args.ring (g.N.NameView.names c.args.names.now)) c.args.roots.now c.args.lead c.args.text.now
    (apart_taken (variables_of c.args.ring) (g.N.NameView.names c.args.names.now)
    (names_apart (g.N.NameView.names c.args.names.now) (g.N.NameView.are_names c.args.names.now)))
    c.in-Err.refusal c.in-Err.ensures.refused

pub returns-in-Err-clause-refused : goal.returns-in-Err-clause-refused
returns-in-Err-clause-refused g c = refused_is c.args.ring
    (variable_names c.args.ring (g.N.NameView.names c.args.names.now)) c.args.roots.now c.args.lead c.args.text.now
    (apart_taken (variables_of c.args.ring) (g.N.NameView.names c.args.names.now)
    (names_apart (g.N.NameView.names c.args.names.now) (g.N.NameView.are_names c.args.names.now)))
    c.in-Err.refusal c.in-Err.ensures.refused

pub shown_lead-requires : goal.shown_lead-requires
shown_lead-requires g c =
    let read = c.in-Ok.ensures.read in
    subst (λ ts. IsTermList (map entry_of ts)) (sym c.deref.ensures.value)
    (lead_list c.args.ring (variable_names c.args.ring (g.N.NameView.names c.args.names.now)) c.args.roots.now
    c.args.lead c.args.text.now c.in-Ok.lines.precision read.behind (map entry_of c.in-Ok.lines.lead.items) read.rest
    read.lead_is)

pub polynomials-requires : goal.polynomials-requires
polynomials-requires g c =
    subst (λ fs. All IsTermList (map (λ f. map entry_of f.items) fs)) (sym c.deref-2.ensures.value)
    (factor_lists c.args.ring (variable_names c.args.ring (g.N.NameView.names c.args.names.now)) c.args.roots.now
    c.args.lead c.args.text.now c.in-Ok.lines.precision (map entry_of c.in-Ok.lines.lead.items)
    (map (λ f. map entry_of f.items) c.in-Ok.lines.factors.items) c.in-Ok.ensures.read)

pub returns-clause-block : goal.returns-clause-block
returns-clause-block g c = block_is c.args.ring
    (variable_names c.args.ring (g.N.NameView.names c.args.names.now)) c.args.roots.now c.args.lead c.args.text.now
    c.in-Ok.lines.precision (map entry_of c.in-Ok.lines.lead.items)
    (map (λ f. map entry_of f.items) c.in-Ok.lines.factors.items) c.in_ok-shown.shown c.in_ok-factors.factors.items
    c.in-Ok.ensures.read c.in_ok-shown.ensures.shown
    (subst (λ ts. IfSome c.in_ok-shown.shown (λ p. HasTerms p (map entry_of ts))) c.deref.ensures.value
    c.in_ok-shown.ensures.terms)
    (subst (λ fs. HaveTerms c.in_ok-factors.factors.items (map (λ f. map entry_of f.items) fs))
    c.deref-2.ensures.value c.in_ok-factors.ensures)

pub returns-clause-only : goal.returns-clause-only
returns-clause-only g c = λ D l fs is. one_block_is c.args.ring
    (variable_names c.args.ring (g.N.NameView.names c.args.names.now)) c.args.roots.now c.args.lead c.args.text.now
    (apart_taken (variables_of c.args.ring) (g.N.NameView.names c.args.names.now)
    (names_apart (g.N.NameView.names c.args.names.now) (g.N.NameView.are_names c.args.names.now)))
    c.in-Ok.lines.precision D c.in_ok-shown.shown l c.in_ok-factors.factors.items fs
    (block_is c.args.ring
    (variable_names c.args.ring (g.N.NameView.names c.args.names.now)) c.args.roots.now c.args.lead c.args.text.now
    c.in-Ok.lines.precision (map entry_of c.in-Ok.lines.lead.items)
    (map (λ f. map entry_of f.items) c.in-Ok.lines.factors.items) c.in_ok-shown.shown c.in_ok-factors.factors.items
    c.in-Ok.ensures.read c.in_ok-shown.ensures.shown
    (subst (λ ts. IfSome c.in_ok-shown.shown (λ p. HasTerms p (map entry_of ts))) c.deref.ensures.value
    c.in_ok-shown.ensures.terms)
    (subst (λ fs. HaveTerms c.in_ok-factors.factors.items (map (λ f. map entry_of f.items) fs))
    c.deref-2.ensures.value c.in_ok-factors.ensures)) is
