use Rattle.std.proofs.Common.{◌≡◌, ℕ, ◌<◌, Bool, sym, subst, arith, rules}
use Rattle.sets.specs.Sets.{bit, who}
use Rattle.ability.specs.Ability.{Extends, Small}
use Rattle.ability.proofs.Repeating.{parts_more, parts_small}
use Rattle.ability.proofs.own.own_parts.Goals as goal

pub extend-requires : goal.extend-requires
extend-requires g c =
    let at = c.args.at.now in
    let M = g.G.Game.model at.game.now in
    let agent : c.loop-i.i < M.k = omega (arith, c.loop-i-test.true, c.agents-i-end.ensures) in
    let told : c.unwrap.result ≡ M.d at.state c.loop-i.i = search rules in
    subst (λ (d : ℕ). Small c.loop-i.parts d) (sym told)
    (parts_small M (g.met.G.Game.ranged at.game.now) at.state at.exists (bit (who c.args.a)) c.loop-i.i c.loop-i.parts agent c.loop-i.invariant)

pub loop-i-preserved : goal.loop-i-preserved
loop-i-preserved g c =
    let at = c.args.at.now in
    let M = g.G.Game.model at.game.now in
    let A = bit (who c.args.a) in
    let i = c.loop-i.i in
    let agent : i < M.k = omega (arith, c.loop-i-test.true, c.agents-i-end.ensures) in
    let told : c.unwrap.result ≡ M.d at.state i = search rules in
    parts_more A (M.d at.state) i c.loop-i.parts c.extend.new.self
    (λ b l. ((g.met.G.Game.ranged at.game.now).choices at.state b at.exists (omega (arith, agent))).0) c.loop-i.invariant
    (subst (λ (d : ℕ). Extends c.loop-i.parts c.extend.new.self d (A i)) told
    (subst (λ (b : Bool). Extends c.loop-i.parts c.extend.new.self c.unwrap.result b) c.contains.ensures c.extend.ensures))
