-- A fault behind some steps is the fault of the whole.
use Rattle.std.proofs.Common.{◌≡◌, ◌∙◌, ◌<◌, List, ◌∷◌, length, arith, sym, ap, Err}
use Rattle.expr_reader.specs.declared.read_error.ReadError.{ReadError}
use Rattle.expr_reader.specs.declared.read_error.ReadError.TheVariants as err
use Rattle.ps_model.specs.Tokens.{Placed}
use Rattle.ps_model.specs.Tokens as tok
use Rattle.grammar.specs.Machine.{Frame, State, start, operand, run}
use Rattle.grammar.specs.Ahead.{Ahead, all}
use Rattle.expr_reader.specs.Reading.{Stops, Runs}

pub stops_along : (s t : State) (a b : Ahead) (f : ReadError) → run s (all a) ≡ run t (all b) → Stops t f b →
    Stops s f a
stops_along s t a b (err.BadCharacter p) e h = e ∙ h
stops_along s t a b (err.Expected p) e h = e ∙ h
stops_along s t a b (err.UnknownName p) e h = e ∙ h
stops_along s t a b (err.NumberTooLarge p) e h = e ∙ h
stops_along s t a b (err.ExponentTooLarge p) e h = e ∙ h
stops_along s t a b (err.TooDeep p) e h = e ∙ h
stops_along s t a b err.OutOfMemory e h = tt

pub opened : (fr : Frame) (outer : List Frame) (a b : Ahead) → a.token ≡ tok.Open → all b ≡ a.rest →
    length outer < 64 → run (operand fr outer) (all a) ≡ run (start (fr ∷ outer)) (all b)
opened fr outer a b is behind shallow = grind arith

pub stops_runs : (s : State) (a : Ahead) (ps : List Placed) (f : ReadError) → all a ≡ ps → Stops s f a →
    Runs (Err f) (run s ps)
stops_runs s a ps (err.BadCharacter p) e h = sym (ap (run s) e) ∙ h
stops_runs s a ps (err.Expected p) e h = sym (ap (run s) e) ∙ h
stops_runs s a ps (err.UnknownName p) e h = sym (ap (run s) e) ∙ h
stops_runs s a ps (err.NumberTooLarge p) e h = sym (ap (run s) e) ∙ h
stops_runs s a ps (err.ExponentTooLarge p) e h = sym (ap (run s) e) ∙ h
stops_runs s a ps (err.TooDeep p) e h = sym (ap (run s) e) ∙ h
stops_runs s a ps err.OutOfMemory e h = tt
