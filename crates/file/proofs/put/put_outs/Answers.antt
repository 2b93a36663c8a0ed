use Rattle.std.proofs.Common.{◌≡◌, ◌∷◌, [], arith}
use Rattle.list.proofs.Joins.{puts_same}
use Rattle.model.specs.Model.{joint}
use Rattle.file.specs.File.{out_bytes}
use Rattle.file.proofs.Putting.{puts_upto, room_upto}
use Rattle.file.proofs.put.put_outs.Goals as goal

pub put-requires : goal.put-requires
put-requires g c =
    let at = c.args.at.now in
    let M = g.G.Game.model at.game.now in
    room_upto (out_bytes M at.state) (joint M at.state) c.loop-j.j c.requires c.loop-j.invariant.1 (omega (arith, c.in-Some.ensures.0))

pub loop-j-preserved : goal.loop-j-preserved
loop-j-preserved g c =
    let at = c.args.at.now in
    let M = g.G.Game.model at.game.now in
    let part : c.code.result ∷ c.in-Some.t ∷ [] ≡ out_bytes M at.state c.loop-j.j = grind arith in
    (omega (arith, c.in-Some.ensures.0), puts_upto (out_bytes M at.state) c.loop-j.j c.loop-j.invariant.1 (puts_same part c.put.ensures))
