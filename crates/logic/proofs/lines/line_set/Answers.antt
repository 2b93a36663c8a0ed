use Rattle.sets.specs.Sets.{who}
use Rattle.logic.specs.Questions.{Tells}
use Rattle.logic.proofs.Telling.{until_tells}
use Rattle.logic.proofs.lines.line_set.Goals as goal

pub returns-in-Until : goal.returns-in-Until
returns-in-Until g c at tell =
    let M = g.G.Game.model c.args.g.now in
    let rule = simp c.in-Until.is at c.requires in
    let x = c.set_at-in-Until in
    let y = c.set_at-in-Until-2 in
    let fst : Tells M x.result (at c.in-Until.a) = rw x.ensures (tell c.in-Until.a rule.1) in
    let snd : Tells M y.result (at c.in-Until.b) = rw y.ensures (tell c.in-Until.b rule.2) in
    simp c.in-Until.is
    (until_tells M (who c.in-Until.c) (at c.in-Until.a) (at c.in-Until.b) x.result y.result c.until.result fst snd c.until.ensures)
