use Rattle.list.proofs.Joins.{puts_more, puts_same}
use Rattle.model.specs.Model.{joint}
use Rattle.file.specs.File.{out_bytes, upto}
use Rattle.file.proofs.Putting.{puts_number}
use Rattle.file.proofs.put.put_state.Goals as goal

pub returns : goal.returns
returns g c =
    let at = c.args.at.now in
    let M = g.G.Game.model at.game.now in
    let head = puts_number {n = M.marks at.state} c.put.ensures c.code.ensures c.put-2.ensures c.marks.ensures c.marks.type_inv c.to_be_bytes.ensures in
    puts_more {ys = upto (out_bytes M at.state) (joint M at.state)} (puts_more head (puts_same c.counts.ensures c.put-3.ensures)) c.put_outs.ensures
