use Rattle.sets.specs.Sets.{who}
use Rattle.model.proofs.Numbers.{numbering}
use Rattle.ability.proofs.own.own_choice.Goals as goal

pub returns-in_err-at-clause-numbering : goal.returns-in_err-at-clause-numbering
returns-in_err-at-clause-numbering g c = numbering _ (g.met.G.Game.ranged c.args.g.now) (who c.args.a) c.args.s

pub returns-in_err-out-clause-numbering : goal.returns-in_err-out-clause-numbering
returns-in_err-out-clause-numbering g c = numbering _ (g.met.G.Game.ranged c.args.g.now) (who c.args.a) c.args.s

pub returns-clause-numbering : goal.returns-clause-numbering
returns-clause-numbering g c = numbering _ (g.met.G.Game.ranged c.args.g.now) (who c.args.a) c.args.s
