use Rattle.std.proofs.Common.{◌≡◌, ◌-◌, ◌%◌, sym, ◌∙◌, ap, subst, arith}
use Rattle.parts.specs.RowsOfParts.{parts_of}
use Rattle.stages.specs.Items.{IsItem}
use Rattle.stages.proofs.Splits.{item_is, few}
use Rattle.stages.proofs.Splitting.{shares}
use Rattle.stages.proofs.Tables.{begun_some, degrees_some}
use Rattle.stages.proofs.splitter.Splitter.item.Goals as goal

pub shifted-requires-2-clause-few : goal.shifted-requires-2-clause-few
shifted-requires-2-clause-few c =
    let begun = begun_some _ _ _ _ c.in-Some.is c.self.invariant.begun in
    let small = few c.self.inside.title c.self.invariant.accepted c.self.invariant.stage c.self.inside.ring
    c.self.invariant.ring_is in
    let places = c.row_u.ensures.parts.places in
    let same = shares c.row_u.result.now in
    let q_is = begun.q_is in
    omega arith

pub returns : goal.returns
returns c =
    let begun = begun_some _ _ _ _ c.in-Some.is c.self.invariant.begun in
    let title_is : c.self.inside.title ≡ c.args.self.now.title = ap (λ v. v.title) c.self.view_is in
    let number = c.modulus.ensures ∙ c.self.invariant.ring_is.0 in
    let back = c.neg-back.ensures ∙ (λ i. (number i - (c.root.ensures i).value) % number i) in
    let item : IsItem c.self.inside.title c.args.r (record {
      factor = parts_of c.in_ok-factor.factor.items;
      left = parts_of c.in_ok-left.left.items;
    }) =
    item_is c.self.inside.title c.self.invariant.accepted c.self.invariant.stage c.self.inside.ring
    c.self.invariant.ring_is c.args.r c.neg-back.result c.in-Some.prep (parts_of c.row_p.result.now)
    (parts_of c.row_u.result.now) (parts_of c.in_ok-factor.factor.items) (parts_of c.in_ok-left.left.items) begun
    (degrees_some _ _ _ _ (ap (λ v. v.preparation) c.self.view_is) c.in-Some.is c.requires.prepared)
    c.row_p.ensures.row c.row_u.ensures.row back c.in_ok-factor.ensures c.in_ok-left.ensures in
    subst (λ t. IsItem t c.args.r c.new.result) title_is
    (subst (IsItem c.self.inside.title c.args.r) (sym c.new.ensures) item)
