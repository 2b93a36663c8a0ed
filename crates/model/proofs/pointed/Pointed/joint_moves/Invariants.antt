use Rattle.std.proofs.Common.{◌≡◌}
use Rattle.model.specs.Model.{everyone, moves}
use Rattle.model.proofs.pointed.Pointed.joint_moves.Given as goal

abbrev pub invariant-loop-a : goal.invariant-loop-a
invariant-loop-a g l = l.joint ≡ moves everyone ((g.G.Game.model l.self.game.now).d l.self.state) l.a
