use Rattle.std.proofs.Common.{◌≤◌}
use Rattle.list.specs.Lists.{Puts}
use Rattle.model.specs.Model.{joint}
use Rattle.file.specs.File.{out_bytes, upto}
use Rattle.file.proofs.put.put_outs.Given as goal

abbrev pub invariant-loop-j : goal.invariant-loop-j
invariant-loop-j g l =
    let M = g.G.Game.model l.at.game.now in
    (l.j ≤ joint M l.at.state) × Puts l.initial.bytes l.bytes (upto (out_bytes M l.at.state) l.j)
