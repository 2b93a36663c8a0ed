use Rattle.std.proofs.Common.{suc, arith}
use Rattle.model.specs.Model.{everyone}
use Rattle.model.proofs.Moving.{moves_fit}
use Rattle.model.proofs.pointed.Pointed.joint_moves.Goals as goal

pub overflow_mul-joint : goal.overflow_mul-joint
overflow_mul-joint g c =
    let p = c.args.self.now in
    let M = g.G.Game.model p.game.now in
    grind (arith, moves_fit M (g.met.G.Game.ranged p.game.now) p.state p.exists everyone (suc c.loop-a.a))
