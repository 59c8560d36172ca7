use Rattle.std.proofs.Common.{◌≡◌, ℕ, ◌∙◌, ap, sym, refl, [], length, List, ◌∷◌, arith, replicate}
use Rattle.std.specs.Prelude.{Result, Ok, Err, IfOk, OnErr, ◌==◌, true}
use Rattle.std.proofs.lemmas.Bool.{eqb-true}
use Rattle.parts.specs.Places.{size}
use Rattle.parts.specs.Terms.{finished, key_at}
use Rattle.parts.proofs.Gained.{made_empty}
use Rattle.parts.proofs.dense.ready_cells.Goals as goal

nothing : (xs : List ℕ) → (length xs == 0) ≡ true → xs ≡ []
nothing [] e = refl
nothing (x ∷ xs) e = let h = eqb-true (length (x ∷ xs)) 0 e in absurd (omega arith)

either : {A E : Type 0} (r : Result A E) (m d n : ℕ) (ws new old : List ℕ) → old ≡ [] →
    IfOk r (λ _. new ≡ replicate n 0) → OnErr r (new ≡ []) →
    finished m (key_at d ws) 0 new ≡ finished m (key_at d ws) 0 old
either (Ok x) m d n ws new old e ok err = ap (finished m (key_at d ws) 0) ok ∙ made_empty m (key_at d ws) n old e
either (Err x) m d n ws new old e ok err = ap (finished m (key_at d ws) 0) (err ∙ sym e)

pub returns-then-is_empty-clause-same : goal.returns-then-is_empty-clause-same
returns-then-is_empty-clause-same c =
    λ m. either c.make_cells.result m c.args.degree (size c.args.degree c.args.weights.now) c.args.weights.now
    c.make_cells.new.cells.items c.args.cells.now.items
    (nothing c.args.cells.now.items (ap (λ n. n == 0) (sym c.args.cells.now.ok.0) ∙ sym c.is_empty.ensures ∙
    c.if-is_empty.true)) c.make_cells.ensures.cells c.make_cells.ensures.err
