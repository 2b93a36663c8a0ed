use Rattle.std.proofs.Common.{◌≡◌, ◌<◌, length, ap, arith}
use Rattle.std.proofs.lemmas.Option.{MatchOption-at_some}
use Rattle.model.specs.Model.{Marks}
use Rattle.file.specs.File.{state_bytes}
use Rattle.file.proofs.Putting.{puts_upto, room_upto}
use Rattle.file.proofs.put.put_states.Goals as goal

pub put_state-requires : goal.put_state-requires
put_state-requires g c =
    let M = g.G.Game.model c.args.g.now in
    let s = c.loop-s.s in
    let tied = ap (λ (m : Marks). m.n) (g.met.G.Game.tied c.args.g.now) in
    let there : s < M.n = omega (arith, tied, c.loop-s-test.true, c.states-s-end.ensures) in
    let (game, state) = MatchOption-at_some _ _ c.unwrap.result c.unwrap.ensures c.new.ensures in
    let p = c.unwrap.result in
    let same : state_bytes (g.G.Game.model p.game.now) p.state ≡ state_bytes M s = rw (game, state) in
    omega (arith, ap length same, room_upto (state_bytes M) M.n s c.requires c.loop-s.invariant there)

pub loop-s-preserved : goal.loop-s-preserved
loop-s-preserved g c =
    let M = g.G.Game.model c.args.g.now in
    let (game, state) = MatchOption-at_some _ _ c.unwrap.result c.unwrap.ensures c.new.ensures in
    puts_upto (state_bytes M) c.loop-s.s c.loop-s.invariant (rw (game, state) at c.put_state.ensures)
