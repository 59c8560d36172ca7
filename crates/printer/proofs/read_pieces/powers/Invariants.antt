use Rattle.std.proofs.Common.{◌≡◌, [], take, drop, length}
use Rattle.printer.specs.ReadForms.{IsNamed}
use Rattle.printer.proofs.ReadLoops.{PowersGoing}
use Rattle.printer.proofs.read_pieces.powers.Given as goal

abbrev pub invariant-loop-i : goal.invariant-loop-i
invariant-loop-i g l = record {
  going : PowersGoing l.limit (take l.count (g.N.NameView.names l.names)) l.fn.bytes l.i l.powers l.rest;
  past : IsNamed [] (drop l.i l.powers);
  size : length l.powers ≡ 8;
}
