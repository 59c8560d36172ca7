use Rattle.std.proofs.Common.{◌≡◌, ◌++◌, ◌∷◌, [], ◌+◌, ◌<◌, length, arith}
use Rattle.std.proofs.lemmas.Grind.{common_steps}
use Rattle.ps_model.specs.AcceptedJob.{IsAcceptedRoot}
use Rattle.residue.specs.Residues.{number_of}
use Rattle.script.specs.Header.{roots_from}
use Rattle.script.specs.Words.{words}
use Rattle.script.proofs.RootLemmas.{one_more, All-push}
use Rattle.script.proofs.roots.roots_of.Goals as goal

pub loop-word-preserved : goal.loop-word-preserved
loop-word-preserved c =
    let m = number_of c.args.modulus in
    let pushed : c.push.new.self.items ≡ c.loop-word.roots.items ++ c.in-Some-root_of.root ∷ [] =
    grind (arith, common_steps) in
    let fewer : length c.in-Some.behind.now < length c.loop-word.rest.now = c.in-Some.ensures.fewer in
    record {
      few = omega (arith, c.loop-word.invariant.few, fewer);
      count = grind (arith, common_steps);
      accepted = All-push (IsAcceptedRoot m) c.loop-word.roots.items c.push.new.self.items c.in-Some-root_of.root
          pushed c.loop-word.invariant.accepted c.in-Some-root_of.ensures.accepted;
      same = one_more m (roots_from m 1 (words c.args.text.now)) c.loop-word.roots.items (c.loop-word.place + 1)
          (words c.loop-word.rest.now) c.loop-word.invariant.same c.in-Some.word.now (words c.in-Some.behind.now)
          c.in-Some.ensures.words c.in-Some-root_of.root c.in-Some-root_of.ensures.read (c.loop-word.place + 1 + 1)
          (omega arith) c.push.new.self.items pushed;
    }
