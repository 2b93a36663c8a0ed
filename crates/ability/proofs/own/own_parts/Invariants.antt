use Rattle.sets.specs.Sets.{bit, who}
use Rattle.ability.specs.Ability.{PartsOf}
use Rattle.ability.proofs.own.own_parts.Given as goal

abbrev pub invariant-loop-i : goal.invariant-loop-i
invariant-loop-i g l = PartsOf (bit (who l.a)) ((g.G.Game.model l.at.game.now).d l.at.state) l.i l.parts
